-- Bytes begin with one thing alone.
use Rattle.std.proofs.Common.{◌≡◌, ℕ, ◌+◌, ◌<◌, ◌≤◌, List, [], ◌++◌, length, take, drop, inl, inr, refl, sym, ap, ap₂, ◌∙◌, subst, arith, length-append}
use Rattle.std.specs.Prelude.{◌⊎◌}
use Rattle.std.proofs.Math.Seq.{take-append_seam, drop-append_seam}
use Rattle.httparse.specs.Grammar.{RequestHead}
use Rattle.httparse.proofs.GrammarLemmas.{request_unique}
use Rattle.spec_http.specs.Heads.{HeadEnd, head_end, ended, too_long, unended, line_feeds, IsHead, ReadsHead, fields_of, Framing, body, refuse, framing, RefusesHead}
use Rattle.spec_http.specs.Messages.{Message, message_of, Beginning, whole, refused, partial, nothing, HasHead, HasMessage, IsShort, BeginsWith}
use Rattle.http_edge.proofs.Ends.{nothing_unended}

-- ---- ends and framings are told apart

same_end : (e : HeadEnd) (n k : ℕ) → e ≡ ended n → e ≡ ended k → n ≡ k
same_end e n k p q = cc

not_long : (e : HeadEnd) (n : ℕ) → e ≡ ended n → e ≡ too_long → ⊥
not_long e n p q = cc

not_open : (e : HeadEnd) (n : ℕ) → e ≡ ended n → e ≡ unended → ⊥
not_open e n p q = cc

not_both : (e : HeadEnd) → e ≡ too_long → e ≡ unended → ⊥
not_both e p q = cc

same_body : (f : Framing) (n k : ℕ) → f ≡ body n → f ≡ body k → n ≡ k
same_body f n k p q = cc

same_refusal : (f : Framing) (n k : ℕ) → f ≡ refuse n → f ≡ refuse k → n ≡ k
same_refusal f n k p q = cc

not_refused : (f : Framing) (n k : ℕ) → f ≡ body n → f ≡ refuse k → ⊥
not_refused f n k p q = cc

abbrev asks : RequestHead → Framing
asks head = framing head.method (fields_of head)

-- ---- the bytes of a head

same_head : (bytes : List ℕ) (h j : RequestHead) → IsHead bytes h → IsHead bytes j → h ≡ j
same_head bytes h j a b = (request_unique bytes h j [] [] a.0 b.0).0

many_few : (bytes : List ℕ) → 66 < line_feeds bytes → line_feeds bytes ≤ 66 → ⊥
many_few bytes many few = let bad : ⊥ = omega (arith, many, few) in bad

read_not_refused : (bytes : List ℕ) (h : RequestHead) (n status : ℕ) → ReadsHead bytes h → asks h ≡ body n → RefusesHead bytes status → ⊥
read_not_refused bytes h n status a e (inl r) = many_few bytes r.1 a.few_lines
read_not_refused bytes h n status a e (inr (inl r)) = r.2 h a.is_head
read_not_refused bytes h n status a e (inr (inr r)) = not_refused (asks h) n status e (ap asks (same_head bytes h r.0 a.is_head r.1.is_head) ∙ r.2)

refused_once : (bytes : List ℕ) (s t : ℕ) → RefusesHead bytes s → RefusesHead bytes t → s ≡ t
refused_once bytes s t (inl a) (inl b) = a.0 ∙ sym b.0
refused_once bytes s t (inl a) (inr (inl b)) = absurd (many_few bytes a.1 b.1)
refused_once bytes s t (inl a) (inr (inr b)) = absurd (many_few bytes a.1 b.1.few_lines)
refused_once bytes s t (inr (inl a)) (inl b) = absurd (many_few bytes b.1 a.1)
refused_once bytes s t (inr (inl a)) (inr (inl b)) = a.0 ∙ sym b.0
refused_once bytes s t (inr (inl a)) (inr (inr b)) = absurd (a.2 b.0 b.1.is_head)
refused_once bytes s t (inr (inr a)) (inl b) = absurd (many_few bytes b.1 a.1.few_lines)
refused_once bytes s t (inr (inr a)) (inr (inl b)) = absurd (b.2 a.0 a.1.is_head)
refused_once bytes s t (inr (inr a)) (inr (inr b)) = same_refusal (asks a.0) s t a.2 (ap asks (same_head bytes a.0 b.0 a.1.is_head b.1.is_head) ∙ b.2)

-- ---- heads with their bodies

head_once : (bytes : List ℕ) (n k : ℕ) (h j : RequestHead) (c d : ℕ) → HasHead bytes n h c → HasHead bytes k j d → (n ≡ k) × (h ≡ j) × (c ≡ d)
head_once bytes n k h j c d a b =
    let size : n ≡ k = same_end (head_end bytes) n k a.end b.end in
    let head : h ≡ j = same_head (take n bytes) h j a.reads.is_head (subst (λ x. IsHead (take x bytes) j) (sym size) b.reads.is_head) in
    (size, head, same_body (asks h) c d a.asks (ap asks head ∙ b.asks))

same_parts : (a b c d : List ℕ) → length a ≡ length c → a ++ b ≡ c ++ d → (a ≡ c) × (b ≡ d)
same_parts a b c d len e = (
  sym (take-append_seam a b) ∙ ap₂ take len e ∙ take-append_seam c d,
  sym (drop-append_seam a b) ∙ ap₂ drop len e ∙ drop-append_seam c d,
)

whole_whole : (bytes : List ℕ) (m n : Message) (r q : List ℕ) → HasMessage bytes m r → HasMessage bytes n q → whole m r ≡ whole n q
whole_whole bytes m n r q a b =
    let same = head_once bytes a.size b.size a.head b.head (length m.body) (length n.body) a.has_head b.has_head in
    let parts = same_parts m.body r n.body q same.2 (sym a.parts ∙ ap (λ k. drop k bytes) same.0 ∙ b.parts) in
    ap₂ whole (a.is ∙ ap₂ message_of same.1 parts.0 ∙ sym b.is) parts.1

whole_short : (bytes : List ℕ) (m : Message) (r : List ℕ) → HasMessage bytes m r → IsShort bytes → ⊥
whole_short bytes m r a b =
    let same = head_once bytes a.size b.size a.head b.head (length m.body) b.content a.has_head b.has_head in
    let len : length (drop b.size bytes) ≡ length m.body + length r = ap (λ k. length (drop k bytes)) (sym same.0) ∙ ap length a.parts ∙ length-append m.body r in
    let c = same.2 in let short = b.short in
    let bad : ⊥ = omega (arith, len, c, short) in bad

head_refused : (bytes : List ℕ) (size : ℕ) (h : RequestHead) (c status : ℕ) → HasHead bytes size h c → BeginsWith bytes (refused status) → ⊥
head_refused bytes size h c status a (inl b) = not_long (head_end bytes) size a.end b.1
head_refused bytes size h c status a (inr b) =
    read_not_refused (take size bytes) h c status a.reads a.asks (subst (λ n. RefusesHead (take n bytes) status) (sym (same_end (head_end bytes) size b.0 a.end b.1)) b.2)

refused_refused : (bytes : List ℕ) (s t : ℕ) → BeginsWith bytes (refused s) → BeginsWith bytes (refused t) → s ≡ t
refused_refused bytes s t (inl a) (inl b) = a.0 ∙ sym b.0
refused_refused bytes s t (inl a) (inr b) = absurd (not_long (head_end bytes) b.0 b.1 a.1)
refused_refused bytes s t (inr a) (inl b) = absurd (not_long (head_end bytes) a.0 a.1 b.1)
refused_refused bytes s t (inr a) (inr b) =
    refused_once (take a.0 bytes) s t a.2 (subst (λ n. RefusesHead (take n bytes) t) (sym (same_end (head_end bytes) a.0 b.0 a.1 b.1)) b.2)

whole_partial : (bytes : List ℕ) (m : Message) (r : List ℕ) → HasMessage bytes m r → (head_end bytes ≡ unended) ⊎ IsShort bytes → ⊥
whole_partial bytes m r a (inl e) = not_open (head_end bytes) a.size a.has_head.end e
whole_partial bytes m r a (inr b) = whole_short bytes m r a b

open_refused : (bytes : List ℕ) (s : ℕ) → head_end bytes ≡ unended → BeginsWith bytes (refused s) → ⊥
open_refused bytes s e (inl a) = not_both (head_end bytes) a.1 e
open_refused bytes s e (inr a) = not_open (head_end bytes) a.0 a.1 e

refused_partial : (bytes : List ℕ) (s : ℕ) → BeginsWith bytes (refused s) → (head_end bytes ≡ unended) ⊎ IsShort bytes → ⊥
refused_partial bytes s a (inl e) = open_refused bytes s e a
refused_partial bytes s a (inr b) = head_refused bytes b.size b.head b.content s b.has_head a

none_open : (bytes : List ℕ) → bytes ≡ [] → head_end bytes ≡ unended
none_open bytes e = ap head_end e ∙ nothing_unended

none_whole : (bytes : List ℕ) (m : Message) (r : List ℕ) → bytes ≡ [] → HasMessage bytes m r → ⊥
none_whole bytes m r e a = not_open (head_end bytes) a.size a.has_head.end (none_open bytes e)

none_some : (bytes : List ℕ) → bytes ≡ [] → 0 < length bytes → ⊥
none_some bytes e h = let l = ap length e in let bad : ⊥ = omega (arith, l, h) in bad

pub once : (bytes : List ℕ) (one other : Beginning) → BeginsWith bytes one → BeginsWith bytes other → one ≡ other
once bytes (whole m r) (whole n q) a b = whole_whole bytes m n r q a b
once bytes (whole m r) (refused s) a b = absurd (head_refused bytes a.size a.head (length m.body) s a.has_head b)
once bytes (whole m r) partial a b = absurd (whole_partial bytes m r a b.1)
once bytes (whole m r) nothing a b = absurd (none_whole bytes m r b a)
once bytes (refused s) (whole n q) a b = absurd (head_refused bytes b.size b.head (length n.body) s b.has_head a)
once bytes (refused s) (refused t) a b = ap refused (refused_refused bytes s t a b)
once bytes (refused s) partial a b = absurd (refused_partial bytes s a b.1)
once bytes (refused s) nothing a b = absurd (open_refused bytes s (none_open bytes b) a)
once bytes partial (whole n q) a b = absurd (whole_partial bytes n q b a.1)
once bytes partial (refused t) a b = absurd (refused_partial bytes t b a.1)
once bytes partial partial a b = refl
once bytes partial nothing a b = absurd (none_some bytes b a.0)
once bytes nothing (whole n q) a b = absurd (none_whole bytes n q a b)
once bytes nothing (refused t) a b = absurd (open_refused bytes t (none_open bytes a) b)
once bytes nothing partial a b = absurd (none_some bytes a b.0)
once bytes nothing nothing a b = refl
