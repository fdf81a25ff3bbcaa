-- What the call for the next message answers, exit by exit.
use Rattle.std.proofs.Common.{◌≡◌, ℕ, ◌+◌, ◌<◌, ◌≤◌, List, [], ◌∷◌, ◌++◌, length, take, drop, cond, Bool, true, false, inl, inr, refl, sym, ap, ap₂, ◌∙◌, subst, append_assoc, arith, codes}
use Rattle.std.specs.Prelude.{nat_lt, is_some}
use Rattle.std.specs.Str.{bytes_eq}
use Rattle.std.proofs.lemmas.Bool.Decides.{nat_tests}
use Rattle.std.proofs.lemmas.List.{length-drop, length-take-le, take-append-drop}
use Rattle.httparse.specs.Grammar.{RequestHead}
use Rattle.spec_http.specs.Fields.{Length, absent, known, unusable, NamedValue, first_value, length_said, values_of}
use Rattle.spec_http.specs.Heads.{head_end, ended, unended, ReadsHead, RefusesHead, fields_of, Framing, body, refuse, framing, framing_by_length}
use Rattle.spec_http.specs.Messages.{message_of, partial, refused, HasHead, BeginsWith, IsUndecided}
use Rattle.io_edge.specs.Outside.{SourceShown}
use Rattle.http_edge.specs.Reading.{AskedWhile, IsHeadRefusal, Says, Took, StopCause, NextIs, GivesNext, ended_with, message_shown}
use Rattle.http_edge.specs.declared.head.Head.{Head}
use Rattle.http_edge.specs.declared.head.HeadError.{HeadError}
use Rattle.http_edge.specs.declared.head.HeadError.TheVariants as head_error
use Rattle.http_edge.specs.declared.held.Stop.{Stop}
use Rattle.http_edge.specs.declared.held.Stop.TheVariants as stop
use Rattle.http_edge.specs.declared.message.Message.{Message}
use Rattle.http_edge.specs.declared.next.Next.{Next}
use Rattle.http_edge.specs.declared.next.Next.TheVariants as next
use Rattle.spec_http.specs.declared.limits.TheConstants.{PIECE}
use Rattle.http_edge.proofs.Ends.{ended_within, nothing_unended}
use Rattle.http_edge.proofs.Stays.{has_head_more}
use Rattle.http_edge.proofs.Taking.{took_more, stop_earlier}

-- what holds of the bytes that are kept holds of those that were there and came
pub gives : {s t : SourceShown} {old kept new : List ℕ} {r : Next} → Took s t old kept → AskedWhile IsUndecided PIECE s t old kept → NextIs s t kept new r → GivesNext s t old new r
gives {s} {t} {old} {kept} {new} {r} took asked how = record {
  taken = took.taken;
  consumed = took.consumed;
  later = took.later;
  asked = subst (AskedWhile IsUndecided PIECE s t old) took.grown asked;
  how = subst (λ l. NextIs s t l new r) took.grown how;
}

-- ---- before the end of the head

undecided : (kept : List ℕ) → head_end kept ≡ unended → IsUndecided kept
undecided [] e = inl refl
undecided (b ∷ kept) e = inr (omega arith, inl e)

abbrev AskedForHead : SourceShown → SourceShown → List ℕ → List ℕ → Type 0
AskedForHead s t old kept = AskedWhile (λ bytes. head_end bytes ≡ unended) PIECE s t old kept

asked_before : {s t : SourceShown} {old kept : List ℕ} → AskedForHead s t old kept → AskedWhile IsUndecided PIECE s t old kept
asked_before (inl h) = inl h
asked_before {old = old} (inr h) = inr (h.0, h.1, h.2, h.3, undecided (old ++ h.0) h.4)

ended_is : (s t : SourceShown) (kept : List ℕ) → head_end kept ≡ unended → StopCause s t stop.Ended → NextIs s t kept kept (ended_with kept)
ended_is s t [] e h = (refl, refl, h)
ended_is s t (b ∷ kept) e h = ((omega arith, inl e), refl, h)

pub head_ended : {s t : SourceShown} {old kept : List ℕ} {cause : Stop} {r : Next} → Took s t old kept → AskedForHead s t old kept → (head_end kept ≡ unended) × StopCause s t cause → cause ≡ stop.Ended → r ≡ ended_with kept
    → GivesNext s t old kept r
head_ended {s} {t} {old} {kept} {cause} {r} took asked h e is =
    gives took (asked_before asked) (subst (NextIs s t kept kept) (sym is) (ended_is s t kept h.0 (subst (StopCause s t) e h.1)))

pub head_failed : {s t : SourceShown} {old kept : List ℕ} {cause : Stop} → Took s t old kept → AskedForHead s t old kept → (head_end kept ≡ unended) × StopCause s t cause → cause ≡ stop.Failed
    → GivesNext s t old kept next.ReadFault
head_failed {s} {t} {old} {kept} {cause} took asked h e = gives took (asked_before asked) (undecided kept h.0, refl, subst (StopCause s t) e h.1)

pub head_wanting : {s t : SourceShown} {old kept : List ℕ} → Took s t old kept → AskedForHead s t old kept → GivesNext s t old kept next.NoMemory
head_wanting took asked = gives took (asked_before asked) refl

pub head_refused : {s t : SourceShown} {old kept : List ℕ} (status : ℕ) → Took s t old kept → AskedForHead s t old kept → BeginsWith kept (refused status) → GivesNext s t old kept (next.BadHead status)
head_refused status took asked h = gives took (asked_before asked) (h, refl)

pub head_refused_so : {s t : SourceShown} {old kept : List ℕ} {error : HeadError} (slice : List ℕ) (size status : ℕ) → Took s t old kept → AskedForHead s t old kept → head_end kept ≡ ended size → slice ≡ take size kept → IsHeadRefusal slice error
    → error ≡ head_error.Refused status → GivesNext s t old kept (next.BadHead status)
head_refused_so slice size status took asked e is h error_is =
    head_refused status took asked (inr (size, e, subst (λ (l : List ℕ). RefusesHead l status) is (subst (IsHeadRefusal slice) error_is h)))

-- ---- behind the head

not_coded : (t : Bool) (f : Framing) (n : ℕ) → cond t (refuse 501) f ≡ body n → f ≡ body n
not_coded false f n e = e
not_coded true f n e = let bad : ⊥ = cc in absurd bad

no_length : (t : Bool) (n : ℕ) → cond t (refuse 411) (body 0) ≡ body n → n ≤ 10000000
no_length true n e = let bad : ⊥ = cc in absurd bad
no_length false n e = let z : 0 ≡ n = cc in omega (arith, z)

some_length : (k n : ℕ) (t : Bool) → nat_lt 10000000 k ≡ t → cond t (refuse 413) (body k) ≡ body n → n ≤ 10000000
some_length k n true h e = let bad : ⊥ = cc in absurd bad
some_length k n false h e = let same : k ≡ n = cc in let le : k ≤ 10000000 = grind (arith, nat_tests) in omega (arith, same, le)

by_length : (method : List ℕ) (l : Length) (n : ℕ) → framing_by_length method l ≡ body n → n ≤ 10000000
by_length method unusable n e = let bad : ⊥ = cc in absurd bad
by_length method absent n e = no_length (bytes_eq method _) n e
by_length method (known k) n e = some_length k n (nat_lt 10000000 k) refl e

pub body_bound : (method : List ℕ) (fields : List NamedValue) (n : ℕ) → framing method fields ≡ body n → n ≤ 10000000
body_bound method fields n e =
    let said = length_said (values_of (codes "content-length") fields) in
    by_length method said n (not_coded (is_some (first_value (values_of (codes "transfer-encoding") fields))) (framing_by_length method said) n e)

pub sum_bound : (bytes : List ℕ) (size : ℕ) (head : RequestHead) (slice : List ℕ) (said : Head) → head_end bytes ≡ ended size → Says slice head said → size + said.body ≤ 10016384
sum_bound bytes size head slice said e s =
    let small = (ended_within bytes size e).1 in
    let few = body_bound head.method (fields_of head) said.body s.asks in
    omega (arith, small, few)

-- the head is that of the bytes that have come since, too
has_head_now : (kept slice new more : List ℕ) (size : ℕ) (head : RequestHead) (said : Head) → head_end kept ≡ ended size → slice ≡ take size kept → Says slice head said → new ≡ kept ++ more → HasHead new size head said.body
has_head_now kept slice new more size head said e is says grown =
    subst (λ l. HasHead l size head said.body) (sym grown) (has_head_more kept more size head said.body (record { end = e; reads = subst (λ l. ReadsHead l head) is says.reads; asks = says.asks }))

not_nothing : (bytes : List ℕ) (size : ℕ) → head_end bytes ≡ ended size → 0 < length bytes
not_nothing [] size e = let z = nothing_unended in let bad : ⊥ = cc in absurd bad
not_nothing (b ∷ bytes) size e = omega arith

short_partial : (bytes : List ℕ) (size : ℕ) (head : RequestHead) (content : ℕ) → HasHead bytes size head content → length bytes < size + content → BeginsWith bytes partial
short_partial bytes size head content h less =
    let within = (ended_within bytes size h.end).0 in
    let l = length-drop size bytes in
    let short : length (drop size bytes) < content = omega (arith, within, l, less) in
    (not_nothing bytes size h.end, inr (record { size = size; head = head; content = content; has_head = h; short = short }))

-- which bytes were read for the head, and those that came behind them
pub record Read (s t u : SourceShown) (old kept new slice : List ℕ) (size : ℕ) (head : RequestHead) (said : Head) : Type 0 where
  pub first : Took s t old kept
  pub asked : AskedForHead s t old kept
  pub end : head_end kept ≡ ended size
  pub slice_is : slice ≡ take size kept
  pub says : Says slice head said
  pub second : Took t u kept new
  pub asked_behind : AskedWhile (λ bytes. length bytes < size + said.body) PIECE t u kept new

module _ {s t u : SourceShown} {old kept new slice : List ℕ} {size : ℕ} {head : RequestHead} {said : Head} (r : Read s t u old kept new slice size head said) where
  both_parts : Took s u old new
  both_parts = took_more r.first r.second

  whole_head : HasHead new size head said.body
  whole_head = has_head_now kept slice new r.second.taken size head said r.end r.slice_is r.says r.second.grown

  asked_both : AskedWhile IsUndecided PIECE s u old new
  asked_both = by_second r.asked_behind
    where
      by_second : AskedWhile (λ bytes. length bytes < size + said.body) PIECE t u kept new → AskedWhile IsUndecided PIECE s u old new
      by_second (inl h) = subst (λ (y : List ℕ × SourceShown). AskedWhile IsUndecided PIECE s y.1 old y.0) (λ i. (sym h.0 i, sym h.1 i)) (asked_before r.asked)
      by_second (inr h) =
          let there : HasHead (kept ++ h.0) size head said.body = has_head_now kept slice (kept ++ h.0) h.0 size head said r.end r.slice_is r.says refl in
          let short : BeginsWith (kept ++ h.0) partial = short_partial (kept ++ h.0) size head said.body there h.4 in
          let same : kept ++ h.0 ≡ old ++ (r.first.taken ++ h.0) = ap (λ l. l ++ h.0) r.first.grown ∙ append_assoc old r.first.taken h.0 in
          inr (r.first.taken ++ h.0, h.1, h.2 ∙ ap (λ l. l ++ h.1) same, h.3, subst IsUndecided same (inr short))

  pub body_ended : {cause : Stop} → (length new < size + said.body) × StopCause t u cause → cause ≡ stop.Ended → GivesNext s u old new next.Truncated
  body_ended h e = gives both_parts asked_both (short_partial new size head said.body whole_head h.0, refl, subst (StopCause t u) e h.1)

  pub body_failed : {cause : Stop} → (length new < size + said.body) × StopCause t u cause → cause ≡ stop.Failed → GivesNext s u old new next.ReadFault
  body_failed h e = gives both_parts asked_both (inr (short_partial new size head said.body whole_head h.0), refl, stop_earlier s t u stop.Failed r.first.later (subst (StopCause t u) e h.1))

  pub body_wanting : {last : List ℕ} → last ≡ new → GivesNext s u old last next.NoMemory
  body_wanting e = gives both_parts asked_both e

message_is : (m : Message) (head : RequestHead) (said : Head) (slice : List ℕ) → Says slice head said → (m.method ≡ said.method) × (m.path ≡ said.path) × (m.token ≡ said.token) × (m.close ≡ said.close)
    → message_shown m ≡ message_of head m.body
message_is m head said slice s e =
    let method = e.0 ∙ s.method in let path = e.1 ∙ s.path in let token = e.2 ∙ s.token in let close = e.3 ∙ s.close in
    λ i. record { method = method i; path = path i; token = token i; close = close i; body = m.body }

pub body_whole : {s t u : SourceShown} {old kept new slice : List ℕ} {size : ℕ} {head : RequestHead} {said : Head} → Read s t u old kept new slice size head said → (message : Message) (last : List ℕ)
    → size + said.body ≤ length new → message.body ≡ take said.body (drop size new) → last ≡ drop said.body (drop size new)
    → (message.method ≡ said.method) × (message.path ≡ said.path) × (message.token ≡ said.token) × (message.close ≡ said.close) → GivesNext s u old last (next.Message message)
body_whole {new = new} {slice = slice} {size = size} {head = head} {said = said} r message last there content rest same =
    let h = whole_head r in
    let l = length-drop size new in
    let room : said.body ≤ length (drop size new) = omega (arith, l, there) in
    let len : length message.body ≡ said.body = ap length content ∙ length-take-le said.body (drop size new) room in
    gives (both_parts r) (asked_both r) (record {
      size = size;
      head = head;
      has_head = subst (λ n. HasHead new size head n) (sym len) h;
      parts = sym (take-append-drop said.body (drop size new)) ∙ ap₂ (λ x y. x ++ y) (sym content) (sym rest);
      is = message_is message head said slice r.says same;
    })
