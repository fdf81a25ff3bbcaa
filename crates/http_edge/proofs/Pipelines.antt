-- Messages that stand one behind the other, and that the bytes of a connection hold one list of them, with one end.
use Rattle.std.proofs.Common.{◌≡◌, ℕ, ◌+◌, ◌<◌, ◌≤◌, List, [], ◌∷◌, ◌++◌, length, length-append, true, false, Bool, inl, inr, refl, sym, ap, ◌∙◌, subst, arith, true≢false}
use Rattle.spec_http.specs.Messages.{Message, Beginning, whole, refused, partial, nothing, BeginsWith, IsUndecided}
use Rattle.spec_http.specs.Pipeline.{AllOpen, Ending, EndsAs, Reads, bad_head, close_asked, quota_spent, undecided}
use Rattle.http_edge.proofs.Once.{once}
use Rattle.http_edge.proofs.Stays.{whole_more}

-- ---- one more message, and more bytes

pub reads_more : (bytes : List ℕ) (ms : List Message) (left more : List ℕ) → Reads bytes ms left → Reads (bytes ++ more) ms (left ++ more)
reads_more bytes [] left more h = ap (λ (l : List ℕ). l ++ more) h
reads_more bytes (m ∷ ms) left more h = (h.0 ++ more, whole_more bytes more m h.0 h.1, reads_more h.0 ms left more h.2)

pub reads_snoc : (bytes : List ℕ) (ms : List Message) (left : List ℕ) (m : Message) (new : List ℕ) → Reads bytes ms left → BeginsWith left (whole m new) → Reads bytes (ms ++ m ∷ []) new
reads_snoc bytes [] left m new h e = (new, subst (λ (l : List ℕ). BeginsWith l (whole m new)) (sym h) e, refl)
reads_snoc bytes (x ∷ xs) left m new h e = (h.0, h.1, reads_snoc h.0 xs left m new h.2 e)

pub open_snoc : (ms : List Message) (m : Message) → AllOpen ms → m.close ≡ false → AllOpen (ms ++ m ∷ [])
open_snoc [] m h e = (e, tt)
open_snoc (x ∷ xs) m h e = (h.0, open_snoc xs m h.1 e)

-- ---- one list, and one end

abbrev message_in : Beginning → Message → Message
message_in (whole m rest) d = m
message_in _ d = d

abbrev rest_in : Beginning → List ℕ → List ℕ
rest_in (whole m rest) d = rest
rest_in _ d = d

abbrev is_whole : Beginning → Bool
is_whole (whole m rest) = true
is_whole _ = false

abbrev is_refused : Beginning → Bool
is_refused (refused status) = true
is_refused _ = false

abbrev status_in : Beginning → ℕ → ℕ
status_in (refused status) d = status
status_in _ d = d

abbrev tail_of : List Message → List Message
tail_of [] = []
tail_of (m ∷ ms) = ms

abbrev head_of : Message → List Message → Message
head_of d [] = d
head_of d (m ∷ ms) = m

stop_room : (q j : ℕ) (ms : List Message) (l : List ℕ) (s : Ending) → EndsAs q j ms l s → j ≤ q
stop_room q j ms l undecided h = let e = h.0 in omega arith
stop_room q j ms l (bad_head status) h = let e = h.0 in omega arith
stop_room q j ms l quota_spent h = let e = h.0 in omega arith
stop_room q j ms l close_asked h = h.0

not_both : (b : List ℕ) (m : Message) (mid : List ℕ) (f : Beginning) → BeginsWith b (whole m mid) → BeginsWith b f → is_whole f ≡ false → ⊥
not_both b m mid f e g h = true≢false (ap is_whole (once b (whole m mid) f e g) ∙ h)

not_undecided : (b : List ℕ) (m : Message) (mid : List ℕ) → BeginsWith b (whole m mid) → IsUndecided b → ⊥
not_undecided b m mid e (inl n) = not_both b m mid nothing e n refl
not_undecided b m mid e (inr p) = not_both b m mid partial e p refl

not_also_refused : (b : List ℕ) (status : ℕ) (f : Beginning) → BeginsWith b (refused status) → BeginsWith b f → is_refused f ≡ false → ⊥
not_also_refused b status f e g h = true≢false (ap is_refused (once b (refused status) f e g) ∙ h)

not_refused : (b : List ℕ) (status : ℕ) → BeginsWith b (refused status) → IsUndecided b → ⊥
not_refused b status e (inl n) = not_also_refused b status nothing e n refl
not_refused b status e (inr p) = not_also_refused b status partial e p refl

-- behind no message there is none
none_more : (q i j k : ℕ) (b l : List ℕ) (m : Message) (mid : List ℕ) (s : Ending) → b ≡ l → j ≡ i → EndsAs q j [] l s → BeginsWith b (whole m mid) → i < k → k ≤ q → ⊥
none_more q i j k b l m mid undecided is at h e less room = not_undecided b m mid e (subst IsUndecided (sym is) h.2)
none_more q i j k b l m mid (bad_head status) is at h e less room = not_both b m mid (refused status) e (subst (λ (x : List ℕ). BeginsWith x (refused status)) (sym is) h.2) refl
none_more q i j k b l m mid quota_spent is at h e less room = let x = h.0 in absurd (omega arith)
none_more q i j k b l m mid close_asked is at h e less room = let x = ap length h.3 ∙ length-append h.1 (h.2 ∷ []) in absurd (omega arith)

closing_last : (m x : Message) (ms before : List Message) → m ∷ ms ≡ before ++ x ∷ [] → AllOpen before → m.close ≡ true → ms ≡ []
closing_last m x ms [] e o c = ap tail_of e
closing_last m x ms (y ∷ ys) e o c = absurd (true≢false (sym c ∙ (ap (λ (l : List Message). (head_of y l).close) e ∙ o.0)))

last_one : (q j : ℕ) (m : Message) (ms : List Message) (l : List ℕ) (s : Ending) → EndsAs q j (m ∷ ms) l s → m.close ≡ true → ms ≡ []
last_one q j m ms l undecided h c = absurd (true≢false (sym c ∙ h.1.0))
last_one q j m ms l (bad_head status) h c = absurd (true≢false (sym c ∙ h.1.0))
last_one q j m ms l quota_spent h c = absurd (true≢false (sym c ∙ h.1.0))
last_one q j m ms l close_asked h c = closing_last m h.2 ms h.1 h.3 h.4 c

asked_next : (q j : ℕ) (m x : Message) (ms before : List Message) (l : List ℕ) → j ≤ q → m ∷ ms ≡ before ++ x ∷ [] → AllOpen before → x.close ≡ true → m.close ≡ false → EndsAs q j ms l close_asked
asked_next q j m x ms [] l room e o c d = absurd (true≢false (sym c ∙ (ap (λ (k : List Message). (head_of m k).close) (sym e) ∙ d)))
asked_next q j m x ms (y ∷ ys) l room e o c d = (room, ys, x, ap tail_of e, o.1, c)

next_one : (q j : ℕ) (m : Message) (ms : List Message) (l : List ℕ) (s : Ending) → EndsAs q j (m ∷ ms) l s → m.close ≡ false → EndsAs q j ms l s
next_one q j m ms l undecided h d = (h.0, h.1.1, h.2)
next_one q j m ms l (bad_head status) h d = (h.0, h.1.1, h.2)
next_one q j m ms l quota_spent h d = (h.0, h.1.1)
next_one q j m ms l close_asked h d = asked_next q j m h.2 ms h.1 l h.0 h.3 h.4 h.5 d

both : (m n : Message) (ms ns : List Message) (c : Bool) → m.close ≡ c → m ≡ n → (m.close ≡ true → ms ≡ ns) → (m.close ≡ false → ms ≡ ns) → m ∷ ms ≡ n ∷ ns
both m n ms ns true c is one more = let e = one c in λ x. is x ∷ e x
both m n ms ns false c is one more = let e = more c in λ x. is x ∷ e x

same_messages : (q i j k : ℕ) (b l r : List ℕ) (ms ns : List Message) (s t : Ending) → Reads b ms l → j ≡ i + length ms → EndsAs q j ms l s → Reads b ns r → k ≡ i + length ns → EndsAs q k ns r t → ms ≡ ns
same_messages q i j k b l r [] [] s t h at p g at2 p2 = refl
same_messages q i j k b l r [] (n ∷ ns) s t h at p g at2 p2 = absurd (none_more q i j k b l n g.0 s h (omega (arith, at)) p g.1 (omega (arith, at2)) (stop_room q k (n ∷ ns) r t p2))
same_messages q i j k b l r (m ∷ ms) [] s t h at p g at2 p2 = absurd (none_more q i k j b r m h.0 t g (omega (arith, at2)) p2 h.1 (omega (arith, at)) (stop_room q j (m ∷ ms) l s p))
same_messages q i j k b l r (m ∷ ms) (n ∷ ns) s t h at p g at2 p2 =
    let same : whole m h.0 ≡ whole n g.0 = once b (whole m h.0) (whole n g.0) h.1 g.1 in
    let is : m ≡ n = ap (λ (f : Beginning). message_in f m) same in
    let rest : h.0 ≡ g.0 = ap (λ (f : Beginning). rest_in f h.0) same in
    both m n ms ns m.close refl is (λ c. last_one q j m ms l s p c ∙ sym (last_one q k n ns r t p2 (ap (λ (x : Message). x.close) (sym is) ∙ c)))
    (λ c. same_messages q (i + 1) j k h.0 l r ms ns s t h.2 (omega (arith, at)) (next_one q j m ms l s p c) (subst (λ (x : List ℕ). Reads x ns r) (sym rest) g.2) (omega (arith, at2))
    (next_one q k n ns r t p2 (ap (λ (x : Message). x.close) (sym is) ∙ c)))

reads_one : (b l r : List ℕ) (ms : List Message) → Reads b ms l → Reads b ms r → l ≡ r
reads_one b l r [] h g = sym h ∙ g
reads_one b l r (m ∷ ms) h g =
    let same : whole m h.0 ≡ whole m g.0 = once b (whole m h.0) (whole m g.0) h.1 g.1 in
    reads_one h.0 l r ms h.2 (subst (λ (x : List ℕ). Reads x ms r) (sym (ap (λ (f : Beginning). rest_in f h.0) same)) g.2)

open_last : (before : List Message) (m : Message) → AllOpen (before ++ m ∷ []) → m.close ≡ false
open_last [] m h = h.0
open_last (x ∷ xs) m h = open_last xs m h.1

not_closing : (ms before : List Message) (m : Message) → ms ≡ before ++ m ∷ [] → AllOpen ms → m.close ≡ true → ⊥
not_closing ms before m e o c = true≢false (sym c ∙ open_last before m (subst AllOpen e o))

one_end : (q j : ℕ) (ms : List Message) (l : List ℕ) (s t : Ending) → EndsAs q j ms l s → EndsAs q j ms l t → s ≡ t
one_end q j ms l undecided undecided h g = refl
one_end q j ms l undecided (bad_head status) h g = absurd (not_refused l status g.2 h.2)
one_end q j ms l undecided quota_spent h g = let a = h.0 in let b = g.0 in absurd (omega arith)
one_end q j ms l undecided close_asked h g = absurd (not_closing ms g.1 g.2 g.3 h.1 g.5)
one_end q j ms l (bad_head status) undecided h g = absurd (not_refused l status h.2 g.2)
one_end q j ms l (bad_head status) (bad_head other) h g = ap (λ (f : Beginning). bad_head (status_in f status)) (once l (refused status) (refused other) h.2 g.2)
one_end q j ms l (bad_head status) quota_spent h g = let a = h.0 in let b = g.0 in absurd (omega arith)
one_end q j ms l (bad_head status) close_asked h g = absurd (not_closing ms g.1 g.2 g.3 h.1 g.5)
one_end q j ms l quota_spent undecided h g = let a = h.0 in let b = g.0 in absurd (omega arith)
one_end q j ms l quota_spent (bad_head status) h g = let a = h.0 in let b = g.0 in absurd (omega arith)
one_end q j ms l quota_spent quota_spent h g = refl
one_end q j ms l quota_spent close_asked h g = absurd (not_closing ms g.1 g.2 g.3 h.1 g.5)
one_end q j ms l close_asked undecided h g = absurd (not_closing ms h.1 h.2 h.3 g.1 h.5)
one_end q j ms l close_asked (bad_head status) h g = absurd (not_closing ms h.1 h.2 h.3 g.1 h.5)
one_end q j ms l close_asked quota_spent h g = absurd (not_closing ms h.1 h.2 h.3 g.1 h.5)
one_end q j ms l close_asked close_asked h g = refl

pub determined : (q : ℕ) (b : List ℕ) (ms ns : List Message) (l r : List ℕ) (s t : Ending) → Reads b ms l → EndsAs q (length ms) ms l s → Reads b ns r → EndsAs q (length ns) ns r t → (ms ≡ ns) × (l ≡ r) × (s ≡ t)
determined q b ms ns l r s t h p g p2 =
    let is : ms ≡ ns = same_messages q 0 (length ms) (length ns) b l r ms ns s t h (omega arith) p g (omega arith) p2 in
    let there : Reads b ms r = subst (λ (x : List Message). Reads b x r) (sym is) g in
    let left : l ≡ r = reads_one b l r ms h there in
    let ends : EndsAs q (length ms) ms l t = subst (λ (y : List Message × List ℕ). EndsAs q (length y.0) y.0 y.1 t) (λ i. (sym is i, sym left i)) p2 in
    (is, left, one_end q (length ms) ms l s t p ends)
