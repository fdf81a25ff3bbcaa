use Rattle.std.proofs.Common.{◌≡◌, ◌++◌, drop, length, map}
use Rattle.account_store.specs.Earlier.{changes_up_to}
use Rattle.account_store.specs.Store.{entries}
use Rattle.spec_history.specs.declared.entry.Kind.TheVariants.{Event}
use Rattle.query_methods.proofs.result.matches_among.Given as goal
use Rattle.query_methods.specs.Among.{matches_among}
use Rattle.query_methods.specs.Compared.{seen_in}
use Rattle.query_methods.specs.Sights.{seen_by}

abbrev pub invariant-loop-number : goal.invariant-loop-number
invariant-loop-number l = record {
  numbers : l.found.items ++ map (λ p. p.0) (matches_among (seen_in l.order (seen_by l.sight)) (changes_up_to (entries l.events.store.now) Event l.state) (drop l.number-index l.numbers))
      ≡ map (λ p. p.0) (matches_among (seen_in l.order (seen_by l.sight)) (changes_up_to (entries l.events.store.now) Event l.state) l.numbers);
  items : l.items.items ++ map (λ p. p.1) (matches_among (seen_in l.order (seen_by l.sight)) (changes_up_to (entries l.events.store.now) Event l.state) (drop l.number-index l.numbers))
      ≡ map (λ p. p.1) (matches_among (seen_in l.order (seen_by l.sight)) (changes_up_to (entries l.events.store.now) Event l.state) l.numbers);
  paired : length l.found.items ≡ length l.items.items;
}
