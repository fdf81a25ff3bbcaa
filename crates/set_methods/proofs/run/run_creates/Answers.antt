use Rattle.std.proofs.Common.{rules, ◌≡◌, ◌++◌, ◌∷◌, ◌∙◌, ◌+◌, [], ap, append-nil, append_assoc, drop, flat_map, map, sym}
use Rattle.std.proofs.lemmas.List.{at_drop_more}
use Rattle.std.proofs.lemmas.List.Concat.{flat_map-append}
use Rattle.cal_model.specs.Operations.{changes_in, create_outcome, created_id, outcomes_of_creates}
use Rattle.cal_model.specs.Sets.{of_each}
use Rattle.spec_json.specs.TreeData.{data_of, pair_of}
use Rattle.spec_json.specs.declared.tree.Member.{Member}
use Rattle.object_outcomes.specs.Judging.{ground_in}
use Rattle.set_methods.proofs.PlanLemmas.{next_create}
use Rattle.set_methods.proofs.run.run_creates.Goals as goal

pub loop-member-preserved : goal.loop-member-preserved
loop-member-preserved g c =
    let G = ground_in c.args.setting.now in
    let kind = c.args.setting.now.kind in
    let creates = c.args.creates.now in
    let i = c.loop-member.member-index in
    let inv = c.loop-member.invariant in
    let p = pair_of c.member-item.result in
    let behind = map pair_of (drop (i + 1) creates) in
    let o = c.in_ok-outcome.outcome in
    let done = c.loop-member.outcomes.items in
    let C0 = g.V.CalendarsView.changes c.args.view.now in
    let C = g.V.CalendarsView.changes c.loop-member.view in
    let C' = g.V.CalendarsView.changes c.staged.new.view in
    let ids = c.loop-member.ids in
    let ids' = c.in_ok-ids.ids in
    let here : map pair_of (drop i creates) ≡ p ∷ behind =
    at_drop_more (map pair_of) creates i c.member-item.result c.loop-member-test.true ∙ ap (λ (n : Member). pair_of n ∷ behind) (sym c.member-item.is) in
    let is_o : o ≡ create_outcome G kind ids C p = c.in_ok-outcome.ensures.outcome ∙ c.in_ok-judged.ensures.exact in
    let more : ids' ≡ ids ++ created_id p o = c.in_ok-ids.ensures (data_of c.member-item.result.value) in
    let next : outcomes_of_creates G kind ids C (p ∷ behind) ≡ o ∷ outcomes_of_creates G kind ids' C' behind =
    next_create G kind ids ids' C C' p behind o is_o c.in_ok-outcome.ensures.changes more in
    record {
      count = search rules;
      entries = c.staged.ensures.entries ∙ inv.entries;
      base = c.staged.ensures.base ∙ inv.base;
      changes = c.in_ok-outcome.ensures.changes ∙ ap (λ t. t ++ changes_in o) inv.changes ∙ append_assoc C0 (flat_map changes_in done) (changes_in o)
          ∙ ap (λ t. C0 ++ t) (sym (ap (flat_map changes_in) c.in_ok-push.ensures.items ∙ flat_map-append changes_in done (o ∷ []) ∙ ap (λ t. flat_map changes_in done ++ t) (append-nil (changes_in o))));
      rest = ap (λ os. os ++ outcomes_of_creates G kind ids' C' behind) c.in_ok-push.ensures.items
          ∙ append_assoc done (o ∷ []) (outcomes_of_creates G kind ids' C' behind) ∙ ap (λ os. done ++ os) (sym next)
          ∙ ap (λ ms. done ++ outcomes_of_creates G kind ids C ms) (sym here) ∙ inv.rest;
      added = ap (λ t. t ++ of_each created_id behind (outcomes_of_creates G kind ids' C' behind)) more
          ∙ append_assoc ids (created_id p o) (of_each created_id behind (outcomes_of_creates G kind ids' C' behind))
          ∙ ap (λ os. ids ++ of_each created_id (p ∷ behind) os) (sym next)
          ∙ ap (λ ms. ids ++ of_each created_id ms (outcomes_of_creates G kind ids C ms)) (sym here) ∙ inv.added;
    }
