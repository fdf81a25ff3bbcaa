-- Which statuses refuse a head.
use Rattle.std.proofs.Common.{◌≡◌, ℕ, List, cond, Bool, true, false, inl, inr, refl, sym, subst, codes}
use Rattle.std.specs.Prelude.{nat_lt, is_some}
use Rattle.std.specs.Str.{bytes_eq}
use Rattle.spec_http.specs.Fields.{Length, absent, known, unusable, NamedValue, first_value, length_said, values_of}
use Rattle.spec_http.specs.Heads.{fields_of, Framing, body, refuse, framing, framing_by_length, RefusesHead}
use Rattle.spec_http.specs.Messages.{refused, BeginsWith}
use Rattle.spec_http.specs.Responses.{IsStatus}

is : (one status : ℕ) → one ≡ status → IsStatus one → IsStatus status
is one status e h = subst IsStatus e h

coded : (t : Bool) (f : Framing) (status : ℕ) → (f ≡ refuse status → IsStatus status) → cond t (refuse 501) f ≡ refuse status → IsStatus status
coded true f status h e = is 501 status (cc) refl
coded false f status h e = h e

no_length : (t : Bool) (status : ℕ) → cond t (refuse 411) (body 0) ≡ refuse status → IsStatus status
no_length true status e = is 411 status (cc) refl
no_length false status e = let bad : ⊥ = cc in absurd bad

some_length : (t : Bool) (k status : ℕ) → cond t (refuse 413) (body k) ≡ refuse status → IsStatus status
some_length true k status e = is 413 status (cc) refl
some_length false k status e = let bad : ⊥ = cc in absurd bad

by_length : (method : List ℕ) (said : Length) (status : ℕ) → framing_by_length method said ≡ refuse status → IsStatus status
by_length method unusable status e = is 400 status (cc) refl
by_length method absent status e = no_length (bytes_eq method (codes "POST")) status e
by_length method (known k) status e = some_length (nat_lt 10000000 k) k status e

framed : (method : List ℕ) (fields : List NamedValue) (status : ℕ) → framing method fields ≡ refuse status → IsStatus status
framed method fields status e =
    let said = length_said (values_of (codes "content-length") fields) in
    coded (is_some (first_value (values_of (codes "transfer-encoding") fields))) (framing_by_length method said) status (by_length method said status) e

head_status : (bytes : List ℕ) (status : ℕ) → RefusesHead bytes status → IsStatus status
head_status bytes status (inl r) = is 431 status (sym r.0) refl
head_status bytes status (inr (inl r)) = is 400 status (sym r.0) refl
head_status bytes status (inr (inr r)) = framed r.0.method (fields_of r.0) status r.2

pub refused_status : (bytes : List ℕ) (status : ℕ) → BeginsWith bytes (refused status) → IsStatus status
refused_status bytes status (inl r) = is 431 status (sym r.0) refl
refused_status bytes status (inr r) = head_status _ status r.2
