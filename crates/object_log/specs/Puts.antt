-- What the changes of one kind put, and what they say of its objects.
use Rattle.std.specs.Prelude.{ℕ, suc, List, [], ◌∷◌, ◌==◌, ◌&&◌, ◌||◌, Bool, Option, None, drop, filter, fold, if◌then◌else◌, is_some, length, map, nat_le, sum_by, take}
use Rattle.spec_history.specs.History.{with_id}
use Rattle.spec_history.specs.Pages.{Mention, is_retained}
use Rattle.spec_sizes.specs.Sizes.{window_bytes}
use Rattle.object_log.specs.declared.put.Put.{Put}

module _ {T : Type 0} where
  -- the object of an id after some changes: that of the last that names it, or what it was before them
  abbrev pub latest_from : Option T → List (Put T) → ℕ → Option T
  latest_from before [] id = before
  latest_from before (p ∷ ps) id = latest_from (if p.id == id then p.object else before) ps id

  -- the object of an id after all of them
  abbrev pub latest : List (Put T) → ℕ → Option T
  latest ps id = latest_from None ps id

  -- the object of an id at state k, which is that after k changes (RFC 8620 section 5.1)
  abbrev pub latest_at : List (Put T) → ℕ → ℕ → Option T
  latest_at ps k id = latest (take k ps) id

  -- the different ids, in the order in which they were first named, which is that of creation
  abbrev pub ids_put : List (Put T) → List ℕ
  ids_put ps = fold (λ ids p. with_id ids p.id) [] ps

  -- the ids that have an object, in order of creation
  abbrev pub ids_with_object : List (Put T) → List ℕ
  ids_with_object ps = filter (λ id. is_some (latest ps id)) (ids_put ps)

  -- a change may come next: it is of the next id, or of one that has an object
  abbrev pub may_come : List (Put T) → Put T → Bool
  may_come ps p = (p.id == suc (length (ids_put ps))) || is_some (latest ps p.id)

  -- what the changes say of ids alone
  abbrev pub mention_in : Put T → Mention
  mention_in p = record { id = p.id; puts = is_some p.object }

  abbrev pub said : List (Put T) → List Mention
  said ps = map mention_in ps

  -- how many bytes some changes put together
  abbrev pub bytes_put : List (Put T) → ℕ
  bytes_put ps = sum_by (λ p. p.size) ps

  -- a state is answered from: it was reached, at most the window back, and the changes behind it put no more bytes than may be
  abbrev pub is_known : List (Put T) → ℕ → Bool
  is_known ps k = is_retained (length ps) k && nat_le (bytes_put (drop k ps)) window_bytes
