use Rattle.std.proofs.Common.{◌≡◌, ◌++◌, drop, flat_map}
use Rattle.account_store.specs.Store.{entries}
use Rattle.expanded_query.specs.Founds.{given_by}
use Rattle.expanded_query.specs.Sights.{filter_window, given_among}
use Rattle.spec_history.specs.History.{changes_of}
use Rattle.expanded_query.proofs.sources.sources_among.Given as goal

abbrev pub invariant-loop-number : goal.invariant-loop-number
invariant-loop-number l = flat_map (given_by (filter_window l.sight)) l.sources.items ++ given_among l.sight (changes_of (entries l.events.store.now)) (drop l.number-index l.numbers)
    ≡ given_among l.sight (changes_of (entries l.events.store.now)) l.numbers
