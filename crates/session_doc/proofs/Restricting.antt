-- The grant of an id made one for reading alone.
use Rattle.std.proofs.Common.{◌≡◌, ◌∙◌, ℕ, zero, suc, ◌<◌, List, [], ◌∷◌, Bool, true, false, cond, ltb, Option, Some, None, option_map, length, get_or, set, if◌then◌else◌, position, refl, sym, arith}
use Rattle.std.proofs.lemmas.Bool.Decides.{nat_tests}
use Rattle.std.proofs.lemmas.List.Sums.{fails_before_first}
use Rattle.std.proofs.lemmas.List.Quantifiers.{position-Some}
use Rattle.std.specs.List.{position_or_len}
use Rattle.std.specs.Str.{bytes_eq}
use Rattle.spec_site.specs.Configuration.{restrict}
use Rattle.spec_core.specs.declared.user.Grant.{Grant}

abbrev has_id : List ℕ → Grant → Bool
has_id id g = bytes_eq g.id id

abbrev for_reading : Grant → Grant
for_reading g = record { account = g.account; id = g.id; read_only = true }

all_fail : (p : Grant → Bool) (gs : List Grant) (k : ℕ) (d : Grant) → position p gs ≡ None → k < length gs → p (get_or gs k d) ≡ false
all_fail p gs k d e l = by_test (ltb (position_or_len p gs) (length gs)) refl e
  where
    by_test : (b : Bool) → ltb (position_or_len p gs) (length gs) ≡ b → cond b (Some (position_or_len p gs)) None ≡ None → p (get_or gs k d) ≡ false
    by_test true t e = cc
    by_test false t e = fails_before_first p gs k d (grind (arith, nat_tests))

absent : (id : List ℕ) (gs : List Grant) → ((k : ℕ) (d : Grant) → k < length gs → has_id id (get_or gs k d) ≡ false) → restrict id gs ≡ None
absent id [] h = refl
absent id (g ∷ gs) h = rw (h 0 g (omega arith), absent id gs (λ k d l. h (suc k) d (omega arith))) refl

-- where no grant has the id
pub restrict_absent : (id : List ℕ) (gs : List Grant) → position (λ g. bytes_eq g.id id) gs ≡ None → None ≡ restrict id gs
restrict_absent id gs e = sym (absent id gs (λ k d l. all_fail (has_id id) gs k d e l))

abbrev restricted : List Grant → ℕ → Grant → Bool → Option (List Grant)
restricted gs n g true = None
restricted gs n g false = Some (set gs n (for_reading g))

behind : (g h : Grant) (gs : List Grant) (n : ℕ) (b : Bool) → option_map (λ hs. g ∷ hs) (restricted gs n h b) ≡ restricted (g ∷ gs) (suc n) h b
behind g h gs n true = refl
behind g h gs n false = refl

here : (g : Grant) (gs : List Grant) (b : Bool) → (if b then None else Some (for_reading g ∷ gs)) ≡ restricted (g ∷ gs) zero g b
here g gs true = refl
here g gs false = refl

at : (id : List ℕ) (gs : List Grant) (n : ℕ) (d : Grant) → n < length gs → has_id id (get_or gs n d) ≡ true → ((k : ℕ) → k < n → has_id id (get_or gs k d) ≡ false)
    → restrict id gs ≡ restricted gs n (get_or gs n d) (get_or gs n d).read_only
at id [] n d l h e = absurd (omega arith)
at id (g ∷ gs) zero d l h e = rw h (here g gs g.read_only)
at id (g ∷ gs) (suc n) d l h e =
    rw (e 0 (omega arith), at id gs n d (omega arith) h (λ k m. e (suc k) (omega arith))) (behind g (get_or gs n d) gs n (get_or gs n d).read_only)

first : (id : List ℕ) (gs : List Grant) (n : ℕ) (d : Grant) → position (λ g. bytes_eq g.id id) gs ≡ Some n → restrict id gs ≡ restricted gs n (get_or gs n d) (get_or gs n d).read_only
first id gs n d e =
    let it = position-Some (has_id id) gs n d e in
    at id gs n d it.0 it.1 it.2

-- where the first of them is for reading alone already
pub restrict_again : (id : List ℕ) (gs : List Grant) (n : ℕ) (d : Grant) → position (λ g. bytes_eq g.id id) gs ≡ Some n → (get_or gs n d).read_only ≡ true → None ≡ restrict id gs
restrict_again id gs n d e r = sym (first id gs n d e ∙ rw r refl)

-- where it isn't
pub restrict_first : (id : List ℕ) (gs : List Grant) (n : ℕ) (d : Grant) → position (λ g. bytes_eq g.id id) gs ≡ Some n → (get_or gs n d).read_only ≡ false → Some (set gs n (for_reading (get_or gs n d))) ≡ restrict id gs
restrict_first id gs n d e r = sym (first id gs n d e ∙ rw r refl)
