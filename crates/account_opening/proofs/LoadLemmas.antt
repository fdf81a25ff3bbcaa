-- What live objects take, one after the other.
use Rattle.std.proofs.Common.{◌≡◌, ◌∙◌, ◌+◌, ◌<◌, ◌≤◌, ◌++◌, drop, flat_map, get_or, ℕ, suc, List, [], ◌∷◌, Some, drop-cons, length, sum_by, arith, ap}
use Rattle.std.proofs.lemmas.List.Sums.{sum_by-cons}
use Rattle.std.proofs.lemmas.List.{drop_all}
use Rattle.account_store.proofs.LiveLemmas.{objects_of_live}
use Rattle.account_store.specs.Earlier.{live_ids}
use Rattle.spec_history.specs.History.{live_at, live_object, some_object}
use Rattle.spec_history.specs.declared.entry.Change.{Change}
use Rattle.spec_history.specs.declared.entry.Kind.{Kind}
use Rattle.spec_json.specs.declared.tree.Tree.{Tree}

module _ (cs : List Change) (kind : Kind) (w : Tree → ℕ) where
  -- the live objects of these numbers
  abbrev pub objects_of : List ℕ → List Tree
  objects_of ns = flat_map (λ n. some_object (live_object cs kind n)) ns

  module _ (ids : List ℕ) (k : ℕ) (lt : k < length ids) where
    first : objects_of (drop k ids) ≡ some_object (live_object cs kind (get_or ids k 0)) ++ objects_of (drop (k + 1) ids)
    first = ap objects_of (drop-cons ids k 0 lt) ∙ ap (λ i. some_object (live_object cs kind (get_or ids k 0)) ++ objects_of (drop i ids)) same
      where
        same : suc k ≡ k + 1
        same = omega arith

    one_there : (t : Tree) → live_object cs kind (get_or ids k 0) ≡ Some t → objects_of (drop k ids) ≡ t ∷ objects_of (drop (k + 1) ids)
    one_there t live = first ∙ ap (λ o. some_object o ++ objects_of (drop (k + 1) ids)) live

    pub one_counted : (t : Tree) → live_object cs kind (get_or ids k 0) ≡ Some t → length (objects_of (drop k ids)) ≡ length (objects_of (drop (k + 1) ids)) + 1
    one_counted t live = let l = ap (λ (os : List Tree). length os) (one_there t live) in omega (arith, l)

    pub one_weighed : (t : Tree) → live_object cs kind (get_or ids k 0) ≡ Some t → sum_by w (objects_of (drop k ids)) ≡ w t + sum_by w (objects_of (drop (k + 1) ids))
    one_weighed t live = ap (sum_by w) (one_there t live) ∙ sum_by-cons w t (objects_of (drop (k + 1) ids))

  -- those of the live numbers are all, and behind the last there is none
  pub all_of : (ids : List ℕ) → ids ≡ live_ids cs kind → objects_of ids ≡ live_at cs kind
  all_of ids are = ap objects_of are ∙ objects_of_live cs kind

  pub none_left : (ids : List ℕ) (k : ℕ) → length ids ≤ k → objects_of (drop k ids) ≡ []
  none_left ids k done = ap objects_of (drop_all k ids done)
