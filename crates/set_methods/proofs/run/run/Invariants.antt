use Rattle.std.proofs.Common.{◌≡◌, ◌++◌, drop, flat_map, map, vec_len}
use Rattle.cal_model.specs.Operations.{changes_in, outcomes}
use Rattle.object_outcomes.specs.Judging.{ground_in, operation_in}
use Rattle.set_methods.proofs.run.run.Given as goal

abbrev pub invariant-loop-operation : goal.invariant-loop-operation
invariant-loop-operation g l = record {
  count : vec_len l.outcomes ≡ l.operation-index;
  entries : g.V.AccountView.entries l.view ≡ g.V.AccountView.entries l.initial.view;
  base : g.V.CalendarsView.base l.view ≡ g.V.CalendarsView.base l.initial.view;
  changes : g.V.CalendarsView.changes l.view ≡ g.V.CalendarsView.changes l.initial.view ++ flat_map changes_in l.outcomes.items;
  rest : l.outcomes.items ++ outcomes (ground_in l.setting) l.setting.kind l.created (g.V.CalendarsView.changes l.view) (map operation_in (drop l.operation-index l.operations))
      ≡ outcomes (ground_in l.setting) l.setting.kind l.created (g.V.CalendarsView.changes l.initial.view) (map operation_in l.operations);
}
