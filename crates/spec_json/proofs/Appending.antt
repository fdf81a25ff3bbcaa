-- One more item of a list that may come to nothing.
use Rattle.std.proofs.Common.{◌≡◌, List, [], ◌∷◌, ◌++◌, Option, Some, None, option_map, refl, sym, ap, append_assoc}

pub push_option : {X : Type 0} (done : List X) (e : X) (r : Option (List X)) → option_map (λ es. done ++ es) (option_map (λ es. e ∷ es) r) ≡ option_map (λ es. (done ++ e ∷ []) ++ es) r
push_option done e None = refl
push_option done e (Some es) = ap Some (sym (append_assoc done (e ∷ []) es))
