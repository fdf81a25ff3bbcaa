-- Sessions follow one another.
use Rattle.std.proofs.Common.{◌≡◌, ℕ, ℤ, ◌+◌, ◌<◌, ◌≤◌, ◌==◌, List, [], ◌∷◌, ◌++◌, Option, None, IfSome, length, take, drop, flat_map, sym, refl, ap, ◌∙◌, subst, arith, length-append, length-drop, inl, inr, append_assoc, append-nil, eq-eqb, ne_eqb}
use Rattle.std.proofs.lemmas.List.{take-append-le, drop-append-le}
use Rattle.std.proofs.lemmas.Grind.{flat_map-append}
use Rattle.std.proofs.lemmas.List.Elements.{filter-append}
use Rattle.std.proofs.Math.Seq.{drop-append_seam, take-append_seam}
use mathlib.Core.Logic.{dite}
use native.Mathlib.Decide.{ℕ_discrete}
use Rattle.spec_books.proofs.ActLemmas.{acts_kept, came_signed}
use Rattle.spec_books.specs.Acting.{Acts}
use Rattle.spec_history.specs.Base.{Base}
use Rattle.spec_batch.specs.Chain.{Rules, Shown, Made, on, stamp_of, Stands, Stand, SummaryOn, Summary, IsStep, Chain, Answered, Missed, Stops}
use Rattle.spec_history.specs.MostTurns.{most_turns}
use Rattle.spec_history.specs.Signed.{AreSigned, written_by}
use Rattle.spec_calls.specs.declared.call.Call.{Call}
use Rattle.spec_batch.specs.declared.desk.DeskError.{DeskError}
use Rattle.spec_batch.specs.declared.desk.DeskError.TheVariants.{PassSpent, NoMemory}
use Rattle.spec_calls.specs.declared.call.Reply.{Reply}
use Rattle.spec_history.specs.declared.entry.Entry.{Entry}

-- entries that an author signed are all by that author
pub all_written_by : (author turn : ℕ) (es : List Entry) → AreSigned author turn es → written_by author es ≡ es
all_written_by author turn [] signed = refl
all_written_by author turn (e ∷ es) signed = rw (eq-eqb e.author author signed.0) (ap (λ (l : List Entry). e ∷ l) (all_written_by author turn es signed.2))

module _ (rules : Rules) (base : Base) (author : ℕ) where
  abbrev acts_at : List Entry → Made → Type 0
  acts_at h m = Acts rules.answer rules.added rules.unkept base h m.call (stamp_of rules base author m) m.reply m.came

  -- where all is kept a reply is the answer, and what the call adds came
  pub stands_kept : rules.unkept ≡ None → (h : List Entry) (from late : ℕ) (m : Made) → Stands rules base author h from late m
      → (m.reply ≡ rules.answer base (take m.reply.place h) m.call m.moment) × (m.came ≡ rules.added base (take m.reply.place h) m.call (stamp_of rules base author m))
  stands_kept kept h from late m s = acts_kept rules.answer rules.added rules.unkept base (take m.reply.place h) m.call (stamp_of rules base author m) m.reply kept m.came s.acts

  -- a reply says how many entries went before, whether it is the answer or tells what could not be kept
  acts_placed : (h : List Entry) (m : Made) → acts_at h m → m.reply.place ≡ length h
  acts_placed h m (inl p) = ap (λ (r : Reply). r.place) p.0 ∙ rules.placed base h m.call m.moment
  acts_placed h m (inr p) =
      let told = p.0 in
      let law : (g : List Entry) → (told.0 g).place ≡ length g = subst (λ (u : Option (List Entry → Reply)). IfSome u (λ f. (g : List Entry) → (f g).place ≡ length g)) told.1 rules.unkept_placed in
      ap (λ (r : Reply). r.place) told.2 ∙ law h

  pub ends_within : (h : List Entry) (from late : ℕ) (m : Made) → Stands rules base author h from late m → m.reply.place + length m.came ≤ length h
  ends_within h from late m s =
      let f = s.follows in
      let e = ap length f.1 ∙ length-append m.came f.0 in
      let d = length-drop m.reply.place h in
      let w = s.within in
      omega arith

  stands_longer : (h more : List Entry) (from late : ℕ) (m : Made) → Stands rules base author h from late m → Stands rules base author (h ++ more) from late m
  stands_longer h more from late m s =
      let within = s.within in
      let f = s.follows in
      record {
        low = s.low;
        within = omega (arith, length-append h more);
        acts = subst (λ (l : List Entry). acts_at l m) (sym (take-append-le m.reply.place h more within)) s.acts;
        follows = (f.0 ++ more, drop-append-le m.reply.place h more within ∙ (ap (λ (l : List Entry). l ++ more) f.1 ∙ append_assoc m.came f.0 more));
        later = s.later;
      }

  stand_lower : (h : List Entry) (from from' late late' upto : ℕ) (ms : List Made) → from' ≤ from → late' ≤ late → Stand rules base author h from late upto ms → Stand rules base author h from' late' upto ms
  stand_lower h from from' late late' upto [] p q s = omega arith
  stand_lower h from from' late late' upto (m ∷ ms) p q s =
      let one = s.0 in
      let l = one.low in
      let t = one.later in
      (record { low = omega arith; within = one.within; acts = one.acts; follows = one.follows; later = omega arith }, s.1)

  stand_join : (h more : List Entry) (from late mid upto : ℕ) (xs ys : List Made) → from ≤ length h → Stand rules base author h from late mid xs → Stand rules base author (h ++ more) (length h) mid upto ys → Stand rules base author (h ++ more) from late upto (xs ++ ys)
  stand_join h more from late mid upto [] ys p s t = stand_lower (h ++ more) (length h) from mid late upto ys p s t
  stand_join h more from late mid upto (x ∷ xs) ys p s t =
      (stands_longer h more from late x s.0, stand_join h more (x.reply.place + length x.came) x.turn mid upto xs ys (ends_within h from late x s.0) s.1 t)

  join_on : (b m a : List Entry) (late mid upto : ℕ) (xs ys : List Made) → SummaryOn rules base author b m late mid xs → SummaryOn rules base author m a mid upto ys → SummaryOn rules base author b a late upto (xs ++ ys)
  join_on b m a late mid upto xs ys s t =
      let u = s.grows.0 in
      let r = t.grows.0 in
      let is : a ≡ m ++ r = t.grows.1 in
      let m_is : m ≡ b ++ u = s.grows.1 in
      let short : length b ≤ length m = (let e = ap length m_is ∙ length-append b u in omega arith) in
      let stand : Stand rules base author (m ++ r) (length m) mid upto ys = subst (λ (h : List Entry). Stand rules base author h (length m) mid upto ys) is t.stand in
      let own2 : written_by author r ≡ flat_map (λ (x : Made). x.came) ys = ap (written_by author) (sym (ap (drop (length m)) is ∙ drop-append_seam m r)) ∙ t.own in
      let own : written_by author (drop (length b) (m ++ r)) ≡ flat_map (λ (x : Made). x.came) (xs ++ ys) =
      ap (written_by author) (drop-append-le (length b) m r short)
      ∙ (filter-append (λ (e : Entry). e.author == author) (drop (length b) m) r ∙ ((λ k. s.own k ++ own2 k) ∙ sym (flat_map-append (λ (x : Made). x.came) xs ys))) in
      subst (λ (h : List Entry). SummaryOn rules base author b h late upto (xs ++ ys)) (sym is) (record {
        grows = (u ++ r, ap (λ (h : List Entry). h ++ r) m_is ∙ append_assoc b u r);
        stand = stand_join m r (length b) late mid upto xs ys short s.stand stand;
        own = own;
      })

  -- no call was made, and others may have added
  none_on : (b between : List Entry) (late upto : ℕ) → written_by author between ≡ [] → late ≤ upto → SummaryOn rules base author b (b ++ between) late upto []
  none_on b between late upto others le = record {
    grows = (between, refl);
    stand = le;
    own = ap (written_by author) (drop-append_seam b between) ∙ others;
  }

  one_on : (b between : List Entry) (late : ℕ) (m : Made) → written_by author between ≡ [] → acts_at (b ++ between) m → late < m.turn → SummaryOn rules base author b ((b ++ between) ++ m.came) late m.turn (m ∷ [])
  one_on b between late m others acts less =
      let h : List Entry = b ++ between in
      let a : List Entry = h ++ m.came in
      let place : m.reply.place ≡ length h = acts_placed h m acts in
      let before : take m.reply.place a ≡ h = ap (λ (n : ℕ). take n a) place ∙ take-append_seam h m.came in
      let after : drop m.reply.place a ≡ m.came = ap (λ (n : ℕ). drop n a) place ∙ drop-append_seam h m.came in
      let signed : AreSigned author m.turn m.came =
      came_signed rules.answer rules.added rules.unkept base h m.call (stamp_of rules base author m) m.reply m.came (rules.signed base h m.call (stamp_of rules base author m)) acts in
      record {
        grows = (between ++ m.came, append_assoc b between m.came);
        stand = (
          record {
            low = (let e = length-append b between in omega arith);
            within = (let e = length-append h m.came in omega arith);
            acts = subst (λ (l : List Entry). acts_at l m) (sym before) acts;
            follows = ([], after ∙ sym (append-nil m.came));
            later = less;
          },
          omega arith,
        );
        own = ap (λ (l : List Entry). written_by author (drop (length b) l)) (append_assoc b between m.came)
            ∙ (ap (written_by author) (drop-append_seam b (between ++ m.came)) ∙ (filter-append (λ (e : Entry). e.author == author) between m.came
            ∙ (ap (λ (l : List Entry). l ++ written_by author m.came) others ∙ (all_written_by author m.turn m.came signed ∙ sym (append-nil m.came)))));
      }

-- ---- states

-- a chain and then another are a chain
pub join : (s t u : Shown) (xs ys : List Made) → Chain s t xs → Chain t u ys → Chain s u (xs ++ ys)
join s t u [] ys p q = subst (λ (x : Shown). Chain x u ys) p q
join s t u (x ∷ xs) ys p q = (p.0, p.1, join p.0 t u xs ys p.2 q)

-- nothing was done
pub still : (s : Shown) → Chain s s []
still s = refl

pub accounts_stay : (s t : Shown) (ms : List Made) → Chain s t ms → t.accounts ≡ s.accounts
accounts_stay s t [] p = ap (λ (x : Shown). x.accounts) p
accounts_stay s t (m ∷ ms) p = accounts_stay p.0 t ms p.2 ∙ p.1.0.1.beside.accounts

-- each call is one turn
pub turns_counted : (s t : Shown) (ms : List Made) → Chain s t ms → t.turns ≡ s.turns + length ms
turns_counted s t [] p = (let e = ap (λ (x : Shown). x.turns) p in omega arith)
turns_counted s t (m ∷ ms) p = (let e = turns_counted p.0 t ms p.2 in let one = p.1.0.1.beside.turns in omega arith)

-- a desk that makes no more calls was asked for one
pub spent_stop : (these : ℕ → Call → Type 0) (moment : ℤ) (s t : Shown) → Stops these moment PassSpent s t → (s.turns ≡ most_turns) × (t ≡ s)
spent_stop these moment s t (inl p) = absurd (let e : PassSpent ≡ NoMemory = p.0 in cc)
spent_stop these moment s t (inr p) = p.3

-- what was asked for one of these calls was asked for one of those
pub stop_of : (these those : ℕ → Call → Type 0) (moment : ℤ) (e : DeskError) (s t : Shown) → ((account : ℕ) (call : Call) → these account call → those account call) → Stops these moment e s t → Stops those moment e s t
stop_of these those moment e s t also (inl p) = inl p
stop_of these those moment e s t also (inr p) = inr (p.0, p.1, also p.0 p.1 p.2, p.3)

-- the call that was answered and left this state
abbrev pub made_of : Shown → ℕ → Call → ℤ → Reply → Made
made_of t k call moment reply = record { account = k; turn = t.last k; call = call; moment = moment; reply = reply; came = drop reply.place (t.seen k) }

-- ---- what follows of a chain

none_same : (rules : Rules) (base : Base) (author : ℕ) (b a : List Entry) (late upto : ℕ) → a ≡ b → late ≤ upto → SummaryOn rules base author b a late upto []
none_same rules base author b a late upto is later = subst (λ (l : List Entry). SummaryOn rules base author b l late upto []) (append-nil b ∙ sym is) (none_on rules base author b [] late upto refl later)

-- no call, and nothing of others
pub nothing_done : (s : Shown) → Summary s s []
nothing_done s = record { accounts = refl; rules = refl; base = λ k. refl; author = λ k. refl; each = λ k. none_same s.rules (s.base k) (s.author k) (s.seen k) (s.seen k) (s.last k) (s.last k) refl (omega arith) }

pub summaries_join : (s t u : Shown) (xs ys : List Made) → Summary s t xs → Summary t u ys → Summary s u (xs ++ ys)
summaries_join s t u xs ys p q = record {
  accounts = q.accounts ∙ p.accounts;
  rules = q.rules ∙ p.rules;
  base = λ k. q.base k ∙ p.base k;
  author = λ k. q.author k ∙ p.author k;
  each = λ k.
      let second = subst (λ (y : (Base × ℕ) × Rules). SummaryOn y.1 y.0.0 y.0.1 (t.seen k) (u.seen k) (t.last k) (u.last k) (on k ys)) (λ i. ((p.base k i, p.author k i), p.rules i)) (q.each k) in
      subst (SummaryOn s.rules (s.base k) (s.author k) (s.seen k) (u.seen k) (s.last k) (u.last k)) (sym (filter-append (λ (m : Made). m.account == k) xs ys))
      (join_on s.rules (s.base k) (s.author k) (s.seen k) (t.seen k) (u.seen k) (s.last k) (t.last k) (u.last k) (on k xs) (on k ys) (p.each k) second);
}

one_call : (s t : Shown) (k : ℕ) (call : Call) (moment : ℤ) (reply : Reply) → Answered s t k call moment reply → Summary s t (made_of t k call moment reply ∷ [])
one_call s t k call moment reply g =
    let m : Made = made_of t k call moment reply in
    let of_came : List Entry → Made = λ (es : List Entry). record { account = k; turn = t.last k; call = call; moment = moment; reply = reply; came = es } in
    let between = g.begins.0 in
    let h_is : g.history ≡ s.seen k ++ between = g.begins.1 in
    let placed : reply.place ≡ length g.history = acts_placed s.rules (s.base k) (s.author k) g.history (of_came g.came) g.acts in
    let came_is : m.came ≡ g.came = (λ i. drop (placed i) (g.seen i)) ∙ drop-append_seam g.history g.came in
    let acts : acts_at s.rules (s.base k) (s.author k) (s.seen k ++ between) m = subst (λ (y : List Entry × List Entry). acts_at s.rules (s.base k) (s.author k) y.0 (of_came y.1)) (λ i. (h_is i, sym came_is i)) g.acts in
    let seen_is : t.seen k ≡ (s.seen k ++ between) ++ m.came = g.seen ∙ (λ i. h_is i ++ sym came_is i) in
    let one = one_on s.rules (s.base k) (s.author k) (s.seen k) between (s.last k) m g.begins.2 acts g.later in
    record {
      accounts = g.beside.accounts;
      rules = g.beside.rules;
      base = g.beside.base;
      author = g.beside.author;
      each = λ j. dite (ℕ_discrete k j)
          (λ e. rw (eq-eqb k j e) (subst (λ (i : ℕ). SummaryOn s.rules (s.base i) (s.author i) (s.seen i) (t.seen i) (s.last i) (t.last i) (m ∷ [])) e
          (subst (λ (l : List Entry). SummaryOn s.rules (s.base k) (s.author k) (s.seen k) l (s.last k) (t.last k) (m ∷ [])) (sym seen_is) one)))
          (λ ne. rw (ne_eqb k j ne) (none_same s.rules (s.base j) (s.author j) (s.seen j) (t.seen j) (s.last j) (t.last j) (g.beside.seen j (λ e. ne (sym e))) (g.beside.last j (λ e. ne (sym e)))));
    }

one_step : (s t : Shown) (m : Made) → IsStep s t m → Summary s t (m ∷ [])
one_step s t m p =
    let is : made_of t m.account m.call m.moment m.reply ≡ m = λ i. record { account = m.account; turn = p.1 i; call = m.call; moment = m.moment; reply = m.reply; came = p.2 i } in
    subst (λ (x : Made). Summary s t (x ∷ [])) is (one_call s t m.account m.call m.moment m.reply p.0.1)

pub summary : (s t : Shown) (ms : List Made) → Chain s t ms → Summary s t ms
summary s t [] p = subst (λ (x : Shown). Summary s x []) (sym p) (nothing_done s)
summary s t (m ∷ ms) p = summaries_join s p.0 t (m ∷ []) ms (one_step s p.0 m p.1) (summary p.0 t ms p.2)

-- ---- what follows where a desk answers no more

-- a call that found no memory added nothing, and others may have
missed_call : (s t : Shown) (k : ℕ) → Missed s t k → Summary s t []
missed_call s t k g = record {
  accounts = g.beside.accounts;
  rules = g.beside.rules;
  base = g.beside.base;
  author = g.beside.author;
  each = λ j. dite (ℕ_discrete k j)
      (λ e. subst (λ (i : ℕ). SummaryOn s.rules (s.base i) (s.author i) (s.seen i) (t.seen i) (s.last i) (t.last i) []) e
      (subst (λ (l : List Entry). SummaryOn s.rules (s.base k) (s.author k) (s.seen k) l (s.last k) (t.last k) []) (sym g.begins.1)
      (none_on s.rules (s.base k) (s.author k) (s.seen k) g.begins.0 (s.last k) (t.last k) g.begins.2 g.later)))
      (λ ne. none_same s.rules (s.base j) (s.author j) (s.seen j) (t.seen j) (s.last j) (t.last j) (g.beside.seen j (λ e. ne (sym e))) (g.beside.last j (λ e. ne (sym e))));
}

-- a desk that answered no more added nothing
pub stop_adds_nothing : (these : ℕ → Call → Type 0) (moment : ℤ) (e : DeskError) (s t : Shown) → Stops these moment e s t → Summary s t []
stop_adds_nothing these moment e s t (inl p) = subst (λ (x : Shown). Summary s x []) (sym p.1) (nothing_done s)
stop_adds_nothing these moment NoMemory s t (inr p) = missed_call s t p.0 p.3.1
stop_adds_nothing these moment PassSpent s t (inr p) = subst (λ (x : Shown). Summary s x []) (sym p.3.1) (nothing_done s)
