-- One event more in a list of live ones.
use Rattle.std.proofs.Common.{◌≡◌, ◌+◌, ◌<◌, ℕ, List, [], ◌∷◌, ◌++◌, All, IfSome, Option, None, Some, append-nil, flat_map, length, map, option_map, take, get_or, refl, sym, ap, ◌∙◌}
use Rattle.std.proofs.lemmas.Grind.{flat_map-append}
use Rattle.std.proofs.lemmas.List.{map-append, take_more}
use Rattle.std.proofs.lemmas.List.Elements.{All-append, All-cons, All-nil}
use Rattle.spec_history.specs.History.{some_object}
use Rattle.spec_json.specs.Parts.{some_of}
use Rattle.spec_json.specs.declared.tree.Tree.{Tree}

module _ {X : Type 0} (object : X → Tree) where
  told : (e : Option X) → map object (some_of e) ≡ some_object (option_map object e)
  told None = refl
  told (Some x) = refl

  -- the objects of the numbers up to the next one
  pub objects_more : (o : ℕ → Option Tree) (ids : List ℕ) (i : ℕ) (items more : List X) (e : Option X) → i < length ids → map object items ≡ flat_map (λ id. some_object (o id)) (take i ids)
      → option_map object e ≡ o (get_or ids i 0) → more ≡ items ++ some_of e → map object more ≡ flat_map (λ id. some_object (o id)) (take (i + 1) ids)
  objects_more o ids i items more e lt before there is =
      ap (map object) is ∙ map-append object items (some_of e) ∙ ap (λ l. l ++ map object (some_of e)) before
      ∙ ap (λ l. flat_map (λ id. some_object (o id)) (take i ids) ++ l) (told e ∙ ap some_object there ∙ sym (append-nil (some_object (o (get_or ids i 0)))))
      ∙ sym (flat_map-append (λ id. some_object (o id)) (take i ids) (get_or ids i 0 ∷ [])) ∙ ap (flat_map (λ id. some_object (o id))) (sym (take_more ids i 0 lt))

pub all_more : {X : Type 0} (P : X → Type 0) (items : List X) (e : Option X) → All P items → IfSome e P → All P (items ++ some_of e)
all_more P items None all h = All-append P items [] all (All-nil P)
all_more P items (Some x) all h = All-append P items (x ∷ []) all (All-cons P x [] h (All-nil P))
