use Rattle.std.proofs.Common.{◌≡◌, ℕ, List, [], Option, Some, None, false, true≢false, ap, is_some, refl, ◌∙◌}
use Rattle.std.proofs.lemmas.Result.{IfOk-weaker}
use Rattle.account_store.proofs.LiveLemmas.{some_given}
use Rattle.account_store.specs.Store.{entries}
use Rattle.expanded_query.specs.Sights.{given_among}
use Rattle.expanded_query.specs.declared.sight.OccurrenceSight.{OccurrenceSight}
use Rattle.spec_history.specs.History.{changes_of, ids_at, live_object}
use Rattle.spec_history.specs.declared.entry.Kind.TheVariants.{Event}
use Rattle.spec_json.specs.declared.tree.Tree.{Tree}
use Rattle.spec_queries.specs.Expanded.{results_of_live}
use Rattle.spec_queries.specs.declared.item.Item.{Item}
use Rattle.expanded_query.proofs.sources.sources.Goals as goal

none_given : (s : OccurrenceSight) (n : ℕ) (o : Option Tree) → is_some o ≡ false → results_of_live s.zones.now s.floating.now s.filter.filter n o ≡ []
none_given s n None h = refl
none_given s n (Some t) h = absurd (true≢false h)

pub returns : goal.returns
returns c =
    let s = c.args.sight.now in
    let cs = changes_of (entries c.args.events.now.store.now) in
    let given : ℕ → List (List ℕ × Item) = λ n. results_of_live s.zones.now s.floating.now s.filter.filter n (live_object cs Event n) in
    let listed = c.deref.ensures.value ∙ c.in_ok-numbers.ensures in
    IfOk-weaker c.sources_among.result _ _
    (λ v is. is ∙ ap (given_among s cs) listed ∙ some_given given (λ id. is_some (live_object cs Event id)) (λ id. none_given s id (live_object cs Event id)) (ids_at cs Event))
    c.sources_among.ensures
