-- Texts behind a sign.
use Rattle.std.proofs.Common.{◌≡◌, ◌≢◌, ℕ, List, [], ◌∷◌, ◌==◌, true, false, Option, Some, None, MatchOption, Bor, option_map, refl, sym, ap, ◌∙◌}
use Rattle.std.proofs.lemmas.Bool.{eq-eqb, ne_eqb}
use Rattle.result_refs.specs.Behind.{behind}

nothing_behind : (c : ℕ) (s : List ℕ) → ((rest : List ℕ) → s ≢ c ∷ rest) → None ≡ behind c s
nothing_behind c [] h = refl
nothing_behind c (b ∷ bs) h = let unlike : (b == c) ≡ false = ne_eqb b c (λ e. h bs (ap (λ x. x ∷ bs) e)) in rw unlike refl

rest_behind : (c : ℕ) (s rest : List ℕ) → s ≡ c ∷ rest → Some rest ≡ behind c s
rest_behind c s rest h = let same : (c == c) ≡ true = eq-eqb c c refl in sym (ap (λ t. behind c t) h ∙ rw same refl)

pub stripped : (c : ℕ) (s : List ℕ) (r : Option (Bor (List ℕ))) → MatchOption r ((rest : List ℕ) → s ≢ c ∷ rest) (λ x. s ≡ c ∷ x.now) → option_map (λ x. x.now) r ≡ behind c s
stripped c s None h = nothing_behind c s h
stripped c s (Some x) h = rest_behind c s x.now h
