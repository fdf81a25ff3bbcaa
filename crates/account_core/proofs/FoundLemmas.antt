-- What a get lists grows in size with each object.
use Rattle.std.proofs.Common.{◌≡◌, ℕ, List, [], ◌∷◌, ◌++◌, Bool, true, false, filter, flat_map, length, map, append_assoc, refl, sym, ap, ◌∙◌, subst, arith}
use Rattle.std.proofs.lemmas.Bool.{lt-ltb, ltb-true}
use Rattle.std.proofs.lemmas.List.{map-append}
use Rattle.std.proofs.lemmas.List.Concat.{flat_map-cons}
use Rattle.std.proofs.lemmas.List.Sums.{sum_by-append}
use Rattle.cal_model.specs.Gets.{are_too_large, size_of_objects}
use Rattle.cal_model.specs.declared.limits.TheConstants.{MAX_GET_BYTES}
use Rattle.spec_history.specs.declared.entry.Kind.{Kind}
use Rattle.spec_history.specs.declared.entry.Kind.TheVariants.{Calendar, Event}
use Rattle.spec_json.specs.Data.{Data}
use Rattle.spec_json.specs.Json.{text_of}

-- what is too large stays so with more objects
pub larger : (kind : Kind) (xs ys : List Data) → are_too_large kind xs ≡ true → are_too_large kind (xs ++ ys) ≡ true
larger Calendar xs ys h = cc
larger Event xs ys h =
    lt-ltb MAX_GET_BYTES (size_of_objects (xs ++ ys)) (omega (arith, ltb-true MAX_GET_BYTES (size_of_objects xs) h, sum_by-append (λ (d : Data). length (text_of d)) xs ys))

module _ {X : Type 0} (f : List ℕ → List X) (sel : X → Data) (before after all : List Data) (id : List ℕ) (rest ids : List (List ℕ)) where
  -- the objects of one id more
  pub found_step : ids ≡ id ∷ rest → before ++ map sel (flat_map f ids) ≡ all → after ≡ before ++ map sel (f id) → after ++ map sel (flat_map f rest) ≡ all
  found_step is whole put =
      ap (λ ds. ds ++ map sel (flat_map f rest)) put
      ∙ (append_assoc before (map sel (f id)) (map sel (flat_map f rest))
      ∙ (ap (λ ds. before ++ ds) (sym (map-append sel (f id) (flat_map f rest)) ∙ ap (map sel) (sym (ap (flat_map f) is ∙ flat_map-cons f id rest)))
      ∙ whole))

missed : (p : List ℕ → Bool) (id : List ℕ) (rest : List (List ℕ)) (b : Bool) → p id ≡ b → filter p (id ∷ []) ++ filter p rest ≡ filter p (id ∷ rest)
missed p id rest true h = rw h refl
missed p id rest false h = rw h refl

-- the id that is missing, or isn't
pub missing_step : (p : List ℕ → Bool) (before after all : List (List ℕ)) (id : List ℕ) (rest ids : List (List ℕ)) → ids ≡ id ∷ rest → before ++ filter p ids ≡ all → after ≡ before ++ filter p (id ∷ []) → after ++ filter p rest ≡ all
missing_step p before after all id rest ids is whole put =
    ap (λ ms. ms ++ filter p rest) put
    ∙ (append_assoc before (filter p (id ∷ [])) (filter p rest)
    ∙ (ap (λ ms. before ++ ms) (missed p id rest (p id) refl ∙ ap (filter p) (sym is)) ∙ whole))

-- what is too large makes all that it begins so
pub whole_larger : (kind : Kind) (xs ys all : List Data) → xs ++ ys ≡ all → are_too_large kind xs ≡ true → are_too_large kind all ≡ true
whole_larger kind xs ys all is h = subst (λ ds. are_too_large kind ds ≡ true) is (larger kind xs ys h)
