-- What an account held at an earlier state of a kind.
use Rattle.std.specs.Prelude.{ℕ, List, filter, is_some, take}
use Rattle.spec_history.specs.History.{changes_of, count_of_kind, ids_at, live_object}
use Rattle.spec_history.specs.Pages.{is_touched, mentions}
use Rattle.spec_history.specs.declared.entry.Change.{Change}
use Rattle.spec_history.specs.declared.entry.Entry.{Entry}
use Rattle.spec_history.specs.declared.entry.Kind.{Kind}
use Rattle.spec_sizes.specs.Sizes.{of_kind}

-- the changes that led to state k of a kind (RFC 8620 section 5.1)
abbrev pub changes_up_to : List Entry → Kind → ℕ → List Change
changes_up_to es kind k = take k (of_kind kind (changes_of es))

-- the numbers of the live objects of a kind, in order of creation
abbrev pub live_ids : List Change → Kind → List ℕ
live_ids cs kind = filter (λ id. is_some (live_object cs kind id)) (ids_at cs kind)

-- the numbers of a kind that changes behind its state k name, in order of creation
abbrev pub touched_ids : List Change → Kind → ℕ → List ℕ
touched_ids cs kind k = filter (is_touched (mentions kind cs) k (count_of_kind cs kind)) (ids_at cs kind)
