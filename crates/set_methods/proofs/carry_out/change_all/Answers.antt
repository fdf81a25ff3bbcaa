use Rattle.std.proofs.Common.{◌≡◌, ◌∙◌, [], arith, map, refl, ap}
use Rattle.std.proofs.lemmas.Grind.{common_steps}
use Rattle.cal_model.specs.Operations.{destroy, outcomes}
use Rattle.cal_model.specs.Sets.{ids_named, objects_of, updates_after}
use Rattle.spec_history.specs.States.{state_of}
use Rattle.spec_json.specs.TreeData.{pair_of}
use Rattle.object_outcomes.specs.Judging.{ground_in, operation_in}
use Rattle.set_methods.proofs.PlanLemmas.{as_many, length-updates_after, set_is}
use Rattle.set_methods.proofs.carry_out.change_all.Goals as goal

pub response_arguments-requires-clause-updates : goal.response_arguments-requires-clause-updates
response_arguments-requires-clause-updates g c =
    let many = as_many operation_in c.in_ok-to_update.to_update.items _ c.in_ok-to_update.ensures in
    grind (arith, common_steps, many, length-updates_after, c.deref-2.ensures.value, c.deref-6.ensures.value, c.updates.ensures, c.updates-2.ensures, c.in_ok-changed.ensures.lengths)

pub returns : goal.returns
returns g c =
    let G = ground_in c.args.setting.now in
    let kind = c.args.setting.now.kind in
    let s = objects_of c.args.arguments.now in
    let ids = c.args.made.now.ids in
    let named = c.in_ok-named.named.items in
    let same_generation = ap (λ b. b.generation) (c.run-2.ensures.base ∙ c.run.ensures.base) ∙ c.requires.generation in
    let c1 = g.V.CalendarsView.changes c.args.view.now in
    let c2 = g.V.CalendarsView.changes c.run.new.view in
    let c3 = g.V.CalendarsView.changes c.run-2.new.view in
    let is_named : named ≡ ids_named ids s.destroys = c.in_ok-named.ensures ∙ ap (ids_named ids) c.destroys.ensures in
    let asked : map operation_in c.in_ok-to_update.to_update.items ≡ updates_after ids named [] s.updates =
    c.in_ok-to_update.ensures ∙ ap (λ ns. updates_after ids ns [] (map pair_of c.updates.result.now)) c.deref.ensures.value ∙ ap (updates_after ids named []) c.updates.ensures in
    let is_changed : c.in_ok-changed.changed.items ≡ outcomes G kind ids c1 (updates_after ids named [] s.updates) =
    c.in_ok-changed.ensures.outcomes ∙ ap (outcomes G kind ids c1) (ap (map operation_in) c.deref-2.ensures.value ∙ asked) in
    let is_removed : c.in_ok-removed.removed.items ≡ outcomes G kind ids c2 (map (λ q. destroy q.1) named) =
    c.in_ok-removed.ensures.outcomes
    ∙ ap (outcomes G kind ids c2) (ap (map operation_in) c.deref-4.ensures.value ∙ c.in_ok-to_destroy.ensures ∙ ap (map (λ q. destroy q.1)) c.deref-3.ensures.value) in
    record {
      arguments = λ created cs made is_made is_state.
          let came = set_is G kind created cs s c.args.made.now.outcomes.items c.in_ok-changed.changed.items c.in_ok-removed.removed.items ids named c1 c2 c3 made.outcomes made.ids is_made is_named
          is_changed c.in_ok-changed.ensures.changes is_removed c.in_ok-removed.ensures.changes in
          c.in_ok-response_arguments.ensures G kind created cs s record {
            account = refl;
            old_state = is_state;
            new_state = c.state.ensures ∙ (λ i. state_of (same_generation i) kind (came.all i));
            creates = c.creates.ensures;
            create_outcomes = c.deref-5.ensures.value ∙ made.outcomes;
            updates = c.updates-2.ensures;
            update_outcomes = c.deref-6.ensures.value ∙ came.updates;
            destroys = c.deref-7.ensures.value ∙ came.gone;
            destroy_outcomes = c.deref-8.ensures.value ∙ came.destroys;
          };
      changes = λ created cs made is_made.
          (set_is G kind created cs s c.args.made.now.outcomes.items c.in_ok-changed.changed.items c.in_ok-removed.removed.items ids named c1 c2 c3 made.outcomes made.ids is_made is_named
          is_changed c.in_ok-changed.ensures.changes is_removed c.in_ok-removed.ensures.changes).all;
      entries = c.run-2.ensures.entries ∙ c.run.ensures.entries;
      base = c.run-2.ensures.base ∙ c.run.ensures.base;
    }
