use Rattle.std.proofs.Common.{◌≡◌, ◌++◌, drop, flat_map, map, vec_len}
use Rattle.cal_model.specs.Operations.{changes_in, created_id, outcomes_of_creates}
use Rattle.cal_model.specs.Sets.{of_each}
use Rattle.spec_json.specs.TreeData.{pair_of}
use Rattle.object_outcomes.specs.Judging.{ground_in}
use Rattle.set_methods.proofs.run.run_creates.Given as goal

abbrev pub invariant-loop-member : goal.invariant-loop-member
invariant-loop-member g l = record {
  count : vec_len l.outcomes ≡ l.member-index;
  entries : g.V.AccountView.entries l.view ≡ g.V.AccountView.entries l.initial.view;
  base : g.V.CalendarsView.base l.view ≡ g.V.CalendarsView.base l.initial.view;
  changes : g.V.CalendarsView.changes l.view ≡ g.V.CalendarsView.changes l.initial.view ++ flat_map changes_in l.outcomes.items;
  rest : l.outcomes.items ++ outcomes_of_creates (ground_in l.setting) l.setting.kind l.ids (g.V.CalendarsView.changes l.view) (map pair_of (drop l.member-index l.creates))
      ≡ outcomes_of_creates (ground_in l.setting) l.setting.kind l.initial.ids (g.V.CalendarsView.changes l.initial.view) (map pair_of l.creates);
  added : l.ids ++ of_each created_id (map pair_of (drop l.member-index l.creates))
      (outcomes_of_creates (ground_in l.setting) l.setting.kind l.ids (g.V.CalendarsView.changes l.view) (map pair_of (drop l.member-index l.creates)))
      ≡ l.initial.ids ++ of_each created_id (map pair_of l.creates)
      (outcomes_of_creates (ground_in l.setting) l.setting.kind l.initial.ids (g.V.CalendarsView.changes l.initial.view) (map pair_of l.creates));
}
