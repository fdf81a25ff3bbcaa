use Rattle.std.proofs.Common.{◌∙◌, ◌++◌, [], ◌∷◌, ap, sym}
use Rattle.spec_windows.specs.BusyPeriods.{is_busy}
use Rattle.availability.proofs.Runs.{marks_busy, marks_nothing}
use Rattle.availability.proofs.busy.Busy.mark.Goals as goal

pub returns-then-is_empty-clause-busy : goal.returns-then-is_empty-clause-busy
returns-then-is_empty-clause-busy c =
    let e = rw c.common_of-cut.ensures at (sym c.is_empty.ensures ∙ c.if-is_empty.true) in
    marks_nothing c.args.p c.args.self.now.window c.args.self.now.spans.items e

pub returns-clause-busy : goal.returns-clause-busy
returns-clause-busy c u =
    let s = c.args.self.now in
    ap (λ x. is_busy x u) (c.in_ok-push.ensures.items ∙ ap (λ p. s.spans.items ++ p ∷ []) c.common_of-cut.ensures) ∙ marks_busy c.args.p s.window s.spans.items u
