use Rattle.std.proofs.Common.{◌≡◌}
use Rattle.kept_run.proofs.StartLemmas.{AreFirst}
use Rattle.kept_run.specs.Steps.{IsLoad}
use Rattle.kept_run.proofs.accounts.open_accounts.Given as goal

abbrev pub invariant-loop-n : goal.invariant-loop-n
invariant-loop-n g l = record {
  loads : IsLoad (g.J.Keeper.shown l.initial.keeper) (g.J.Keeper.shown l.keeper);
  undamaged : (g.J.Keeper.shown l.keeper).damages ≡ (g.J.Keeper.shown l.initial.keeper).damages;
  first : AreFirst l.site (g.J.Keeper.shown l.initial.keeper).told l.n l.accounts.items;
}
