-- A set of texts keeps the different ones.
use Rattle.std.proofs.Common.{◌≡◌, ℕ, List, [], ◌∷◌, ◌++◌, Bool, true, false, Bor, ◌||◌, if◌then◌else◌, map, ap, refl, ◌∙◌}
use Rattle.std.proofs.lemmas.Cmp.{nat_list_eq_equiv}
use Rattle.std.proofs.lemmas.List.{map-append}
use Rattle.std.specs.List.{list_any}
use Rattle.std.specs.Str.{bytes_eq}
use Rattle.cal_model.specs.CreatedIds.{with_text}

is_there : (t : Bor (List ℕ)) (ts : List (Bor (List ℕ))) → list_any (λ u. bytes_eq t.now u.now) ts ≡ list_any (λ u. bytes_eq u t.now) (map (λ u. u.now) ts)
is_there t [] = refl
is_there t (u ∷ us) = ap (λ b. b || list_any (λ w. bytes_eq t.now w.now) us) (nat_list_eq_equiv.symm t.now u.now) ∙ ap (λ b. bytes_eq u.now t.now || b) (is_there t us)

chosen_now : (t : Bor (List ℕ)) (ts : List (Bor (List ℕ))) (b : Bool) → map (λ u. u.now) (if b then ts else ts ++ t ∷ []) ≡ (if b then map (λ u. u.now) ts else map (λ u. u.now) ts ++ t.now ∷ [])
chosen_now t ts true = refl
chosen_now t ts false = map-append (λ u. u.now) ts (t ∷ [])

-- the texts of a set that is given one more are those that it had, with this one
pub insert_notes : (t : Bor (List ℕ)) (ts : List (Bor (List ℕ))) → map (λ u. u.now) (if list_any (λ u. bytes_eq t.now u.now) ts then ts else ts ++ t ∷ []) ≡ with_text (map (λ u. u.now) ts) t.now
insert_notes t ts = chosen_now t ts (list_any (λ u. bytes_eq t.now u.now) ts) ∙ ap (λ b. if b then map (λ u. u.now) ts else map (λ u. u.now) ts ++ t.now ∷ []) (is_there t ts)
