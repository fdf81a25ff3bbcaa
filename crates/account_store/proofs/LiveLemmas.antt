-- Looking at the live objects alone.
use Rattle.std.proofs.Common.{◌≡◌, ℕ, Bool, true, false, true≢false, cond, List, [], ◌∷◌, ◌++◌, Option, Some, None, filter, flat_map, is_some, refl, sym, ap, ◌∙◌}
use Rattle.account_store.specs.Earlier.{live_ids}
use Rattle.spec_history.specs.History.{ids_at, live_at, live_object, some_object}
use Rattle.spec_history.specs.declared.entry.Change.{Change}
use Rattle.spec_history.specs.declared.entry.Kind.{Kind}
use Rattle.spec_json.specs.declared.tree.Tree.{Tree}

-- leaving out what gives nothing
pub some_given : {X : Type 0} (f : ℕ → List X) (p : ℕ → Bool) → ((id : ℕ) → p id ≡ false → f id ≡ []) → (ids : List ℕ) → flat_map f (filter p ids) ≡ flat_map f ids
some_given f p none [] = refl
some_given f p none (id ∷ ids) = by_test (p id) refl (some_given f p none ids)
  where
    by_test : (b : Bool) → p id ≡ b → flat_map f (filter p ids) ≡ flat_map f ids → flat_map f (cond b (id ∷ filter p ids) (filter p ids)) ≡ f id ++ flat_map f ids
    by_test true is rest = ap (λ l. f id ++ l) rest
    by_test false is rest = rest ∙ ap (λ l. l ++ flat_map f ids) (sym (none id is))

no_object : (o : Option Tree) → is_some o ≡ false → some_object o ≡ []
no_object None h = refl
no_object (Some t) h = absurd (true≢false h)

-- the objects of the live numbers are the live objects
pub objects_of_live : (cs : List Change) (kind : Kind) → flat_map (λ id. some_object (live_object cs kind id)) (live_ids cs kind) ≡ live_at cs kind
objects_of_live cs kind = some_given (λ id. some_object (live_object cs kind id)) (λ id. is_some (live_object cs kind id)) (λ id. no_object (live_object cs kind id)) (ids_at cs kind)
