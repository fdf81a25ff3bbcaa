-- A head that is printed, and what follows it, are a message.
use Rattle.std.proofs.Common.{◌≡◌, ℕ, suc, ◌+◌, ◌-◌, ◌<◌, ◌≤◌, List, [], ◌∷◌, ◌++◌, length, take, drop, cond, Bool, true, false, Some, None, refl, sym, ap, ap₂, ◌∙◌, subst, append_assoc, append-nil, arith, length-append, All}
use Rattle.std.specs.Prelude.{◌==◌, ⊤}
use Rattle.std.specs.List.{flat_map}
use Rattle.std.proofs.Math.Seq.{take-append_seam, drop-append_seam, take-append-add}
use Rattle.std.proofs.lemmas.Bool.Decides.{nat_tests}
use Rattle.std.proofs.lemmas.List.Elements.{All-tail}
use Rattle.std.proofs.lemmas.List.Sums.{sum_by-append, sum_by-cons}
use Rattle.std.proofs.lemmas.Bool.{or_parts}
use Rattle.httparse.specs.Grammar.{RequestHead, IsRequestHead, print_request, print_blank, print_version, LineEnd, lf, crlf, print_end, Field, IsField, print_field, print_section, is_token_byte, is_uri_byte, is_value_byte, AllPass}
use Rattle.httparse.proofs.GrammarLemmas.{print_request-append, cons-append}
use Rattle.httparse.proofs.PieceLemmas.{token_is_no_newline}
use Rattle.spec_http.specs.Heads.{head_length, head_end, end_at, ended, line_end_length, line_feeds, ReadsHead, fields_of, framing, body}
use Rattle.spec_http.specs.Messages.{message_of, whole, BeginsWith}

-- ---- bytes without a line feed

abbrev pub NoFeed : List ℕ → Type 0
NoFeed [] = ⊤
NoFeed (b ∷ bytes) = ((b == 10) ≡ false) × NoFeed bytes

no_feed : (test : ℕ → Bool) → ((b : ℕ) → test b ≡ true → (b == 10) ≡ false) → (bytes : List ℕ) → AllPass test bytes → NoFeed bytes
no_feed test f [] h = tt
no_feed test f (b ∷ bytes) h = (f b (h 0 0 (omega arith)), no_feed test f bytes (All-tail (λ c. test c ≡ true) b bytes h))

no_feed-append : (a b : List ℕ) → NoFeed a → NoFeed b → NoFeed (a ++ b)
no_feed-append [] b h k = k
no_feed-append (x ∷ a) b h k = (h.0, no_feed-append a b h.1 k)

token_byte : (b : ℕ) → is_token_byte b ≡ true → ((b == 13) ≡ false) × ((b == 10) ≡ false)
token_byte b h = or_parts (b == 13) (b == 10) (token_is_no_newline b h)

uri_byte : (b : ℕ) → is_uri_byte b ≡ true → (b == 10) ≡ false
uri_byte b h = grind (arith, nat_tests)

value_byte : (b : ℕ) → is_value_byte b ≡ true → (b == 10) ≡ false
value_byte b h = grind (arith, nat_tests)

version_byte : (minor : ℕ) → ((48 + minor) == 10) ≡ false
version_byte minor = grind (arith, nat_tests)

version : (minor : ℕ) → NoFeed (print_version minor)
version minor = (refl, (refl, (refl, (refl, (refl, (refl, (refl, (version_byte minor, tt))))))))

-- ---- where a head ends, line by line

head-cons : (b : ℕ) (bytes : List ℕ) (n : ℕ) → (b == 10) ≡ false → head_length bytes ≡ Some n → head_length (b ∷ bytes) ≡ Some (suc n)
unfolding head_length
head-cons b bytes n other e = rw (other, e) refl

past : (line bytes : List ℕ) (n : ℕ) → NoFeed line → head_length bytes ≡ Some n → head_length (line ++ bytes) ≡ Some (length line + n)
past [] bytes n h e = e ∙ ap Some (omega arith)
past (b ∷ line) bytes n h e = head-cons b (line ++ bytes) (length line + n) h.0 (past line bytes n h.1 e) ∙ ap Some (omega arith)

past_end : (e : LineEnd) (bytes : List ℕ) (n : ℕ) → head_length (10 ∷ bytes) ≡ Some (suc n) → head_length (print_end e ++ bytes) ≡ Some (length (print_end e) + n)
past_end lf bytes n h = h ∙ ap Some (omega arith)
past_end crlf bytes n h = head-cons 13 (10 ∷ bytes) (suc n) refl h ∙ ap Some (omega arith)

last_end : (e : LineEnd) (more : List ℕ) → head_length (10 ∷ (print_end e ++ more)) ≡ Some (suc (length (print_end e)))
unfolding head_length
last_end lf more = refl
last_end crlf more = refl

behind_feed : (bytes : List ℕ) (n : ℕ) → line_end_length bytes ≡ None → head_length bytes ≡ Some n → head_length (10 ∷ bytes) ≡ Some (suc n)
unfolding head_length
behind_feed bytes n none e = rw (none, e) refl

begins_line : (name bytes : List ℕ) → 0 < length name → AllPass is_token_byte name → line_end_length (name ++ bytes) ≡ None
begins_line [] bytes some h = absurd (omega arith)
begins_line (b ∷ name) bytes some h = let t = token_byte b (h 0 0 (omega arith)) in rw (t.1, t.0) refl

abbrev line_of : Field → List ℕ
line_of f = f.name ++ 58 ∷ f.raw

field_line : (f : Field) → IsField f → NoFeed (line_of f)
field_line f h = no_feed-append f.name (58 ∷ f.raw) (no_feed is_token_byte (λ b t. (token_byte b t).1) f.name h.name.1) (refl, no_feed is_value_byte value_byte f.raw h.raw)

section_parts : (f : Field) (fs : List Field) (last : LineEnd) → print_section (f ∷ fs) last ≡ f.name ++ (58 ∷ f.raw ++ (print_end f.end ++ print_section fs last))
section_parts f fs last = simp (append_assoc, cons-append)

section_length : (f : Field) (fs : List Field) (last : LineEnd) → length (print_section (f ∷ fs) last) ≡ length (line_of f) + (length (print_end f.end) + length (print_section fs last))
section_length f fs last =
    let a = length-append (line_of f ++ print_end f.end ++ flat_map print_field fs) (print_end last) in
    let b = length-append (line_of f ++ print_end f.end) (flat_map print_field fs) in
    let c = length-append (line_of f) (print_end f.end) in
    let d = length-append (flat_map print_field fs) (print_end last) in
    omega (arith, a, b, c, d)

section_bytes : (f : Field) (fs : List Field) (last : LineEnd) (more : List ℕ) → print_section (f ∷ fs) last ++ more ≡ line_of f ++ (print_end f.end ++ (print_section fs last ++ more))
section_bytes f fs last more = simp (append_assoc, cons-append)

section_ends : (fs : List Field) (last : LineEnd) (more : List ℕ) → All IsField fs → head_length (10 ∷ (print_section fs last ++ more)) ≡ Some (suc (length (print_section fs last)))
section_ends [] last more h = last_end last more
section_ends (f ∷ fs) last more h =
    let g : IsField f = h 0 f (omega arith) in
    let behind = print_end f.end ++ (print_section fs last ++ more) in
    let ending = past_end f.end (print_section fs last ++ more) (length (print_section fs last)) (section_ends fs last more (All-tail IsField f fs h)) in
    let line = past (line_of f) behind (length (print_end f.end) + length (print_section fs last)) (field_line f g) ending in
    let none : line_end_length (line_of f ++ behind) ≡ None = ap line_end_length (append_assoc f.name (58 ∷ f.raw) behind) ∙ begins_line f.name ((58 ∷ f.raw) ++ behind) g.name.0 g.name.1 in
    ap (λ l. head_length (10 ∷ l)) (section_bytes f fs last more)
    ∙ behind_feed (line_of f ++ behind) (length (print_section (f ∷ fs) last)) none (line ∙ ap Some (sym (section_length f fs last)))

-- ---- a whole head

abbrev request_line : RequestHead → List ℕ
request_line h = h.method ++ 32 ∷ (h.target ++ 32 ∷ print_version h.minor)

request_line_fits : (h : RequestHead) → IsRequestHead h → NoFeed (request_line h)
request_line_fits h k =
    no_feed-append h.method (32 ∷ (h.target ++ 32 ∷ print_version h.minor)) (no_feed is_token_byte (λ b t. (token_byte b t).1) h.method k.method.1)
    (refl, no_feed-append h.target (32 ∷ print_version h.minor) (no_feed is_uri_byte uri_byte h.target k.target.1) (refl, version h.minor))

regroup : (m t v e s : List ℕ) → m ++ 32 ∷ (t ++ 32 ∷ (v ++ (e ++ s))) ≡ (m ++ 32 ∷ (t ++ 32 ∷ v)) ++ (e ++ s)
regroup m t v e s = simp (append_assoc, cons-append)

request_bytes : (h : RequestHead) (more : List ℕ) → h.blank ≡ [] → print_request h ++ more ≡ request_line h ++ (print_end h.line_end ++ (print_section h.fields h.last ++ more))
request_bytes h more none =
    print_request-append h more
    ∙ ap (λ b. print_blank b ++ (h.method ++ 32 ∷ (h.target ++ 32 ∷ (print_version h.minor ++ (print_end h.line_end ++ (print_section h.fields h.last ++ more)))))) none
    ∙ regroup h.method h.target (print_version h.minor) (print_end h.line_end) (print_section h.fields h.last ++ more)

request_alone : (h : RequestHead) → h.blank ≡ [] → print_request h ≡ request_line h ++ (print_end h.line_end ++ print_section h.fields h.last)
request_alone h none =
    sym (append-nil (print_request h)) ∙ request_bytes h [] none ∙ ap (λ l. request_line h ++ (print_end h.line_end ++ l)) (append-nil (print_section h.fields h.last))

request_length : (h : RequestHead) → h.blank ≡ [] → length (print_request h) ≡ length (request_line h) + (length (print_end h.line_end) + length (print_section h.fields h.last))
request_length h none =
    let a = ap length (request_alone h none) in
    let b = length-append (request_line h) (print_end h.line_end ++ print_section h.fields h.last) in
    let c = length-append (print_end h.line_end) (print_section h.fields h.last) in
    omega (arith, a, b, c)

request_ends : (h : RequestHead) (more : List ℕ) → IsRequestHead h → h.blank ≡ [] → head_length (print_request h ++ more) ≡ Some (length (print_request h))
request_ends h more k none =
    let ending = past_end h.line_end (print_section h.fields h.last ++ more) (length (print_section h.fields h.last)) (section_ends h.fields h.last more k.fields) in
    ap head_length (request_bytes h more none)
    ∙ past (request_line h) (print_end h.line_end ++ (print_section h.fields h.last ++ more)) (length (print_end h.line_end) + length (print_section h.fields h.last)) (request_line_fits h k) ending
    ∙ ap Some (sym (request_length h none))

printed_end : (h : RequestHead) (more : List ℕ) → IsRequestHead h → h.blank ≡ [] → length (print_request h) ≤ 16384 → head_end (print_request h ++ more) ≡ ended (length (print_request h))
printed_end h more k none short =
    let room : 16384 ≡ length (print_request h) + (16384 - length (print_request h)) = omega (arith, short) in
    let front : take 16384 (print_request h ++ more) ≡ print_request h ++ take (16384 - length (print_request h)) more =
    ap (λ n. take n (print_request h ++ more)) room ∙ take-append-add (print_request h) more (16384 - length (print_request h)) in
    ap (λ o. end_at o (print_request h ++ more)) (ap head_length front ∙ request_ends h (take (16384 - length (print_request h)) more) k none)

-- ---- its line feeds

feeds-append : (a b : List ℕ) → line_feeds (a ++ b) ≡ line_feeds a + line_feeds b
feeds-append a b = sum_by-append (λ c. cond (c == 10) 1 0) a b

no_feeds : (line : List ℕ) → NoFeed line → line_feeds line ≡ 0
no_feeds [] h = refl
no_feeds (b ∷ line) h = sum_by-cons (λ c. cond (c == 10) 1 0) b line ∙ ap₂ (λ t n. cond t 1 0 + n) h.0 (no_feeds line h.1)

end_feeds : (e : LineEnd) → line_feeds (print_end e) ≡ 1
end_feeds lf = refl
end_feeds crlf = refl

section_feeds : (fs : List Field) (last : LineEnd) → All IsField fs → line_feeds (print_section fs last) ≡ length fs + 1
section_feeds [] last h = end_feeds last ∙ omega arith
section_feeds (f ∷ fs) last h =
    let g : IsField f = h 0 f (omega arith) in
    let bytes : print_section (f ∷ fs) last ≡ line_of f ++ (print_end f.end ++ print_section fs last) = simp (append_assoc, cons-append) in
    let a = ap line_feeds bytes ∙ feeds-append (line_of f) (print_end f.end ++ print_section fs last) in
    let b = feeds-append (print_end f.end) (print_section fs last) in
    let c = no_feeds (line_of f) (field_line f g) in
    let d = end_feeds f.end in
    let e = section_feeds fs last (All-tail IsField f fs h) in
    omega (arith, a, b, c, d, e)

request_feeds : (h : RequestHead) → IsRequestHead h → h.blank ≡ [] → line_feeds (print_request h) ≡ length h.fields + 2
request_feeds h k none =
    let a = ap line_feeds (request_alone h none) ∙ feeds-append (request_line h) (print_end h.line_end ++ print_section h.fields h.last) in
    let b = feeds-append (print_end h.line_end) (print_section h.fields h.last) in
    let c = no_feeds (request_line h) (request_line_fits h k) in
    let d = end_feeds h.line_end in
    let e = section_feeds h.fields h.last k.fields in
    omega (arith, a, b, c, d, e)

-- ---- the message

pub printed_begins : (head : RequestHead) (content rest : List ℕ) → IsRequestHead head → head.blank ≡ [] → length head.fields ≤ 64 → length (print_request head) ≤ 16384
    → framing head.method (fields_of head) ≡ body (length content) → BeginsWith (print_request head ++ content ++ rest) (whole (message_of head content) rest)
printed_begins head content rest k none room short asks =
    let together = append_assoc (print_request head) content rest in
    let front : take (length (print_request head)) (print_request head ++ content ++ rest) ≡ print_request head =
    ap (take (length (print_request head))) together ∙ take-append_seam (print_request head) (content ++ rest) in
    let feeds = request_feeds head k none in (record {
      size = length (print_request head);
      head = head;
      has_head = record {
        end = ap head_end together ∙ printed_end head (content ++ rest) k none short;
        reads = subst (λ l. ReadsHead l head) (sym front) (record { few_lines = omega (arith, feeds, room); is_head = ((k, sym (append-nil (print_request head))), room) });
        asks = asks;
      };
      parts = ap (drop (length (print_request head))) together ∙ drop-append_seam (print_request head) (content ++ rest);
      is = refl;
    })
