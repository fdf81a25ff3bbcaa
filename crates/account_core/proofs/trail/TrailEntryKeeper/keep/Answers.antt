use Rattle.std.proofs.Common.{◌++◌, ap, ◌∙◌}
use Rattle.std.proofs.lemmas.Result.{err_from_is_err_and}
use Rattle.account_core.proofs.Committing.{changes_back}
use Rattle.account_core.proofs.Trails.{has_more, has_nothing, has_same}
use Rattle.cal_model.specs.Answer.{entries_from}
use Rattle.cal_model.specs.Sound.{first_unsound}
use Rattle.spec_history.specs.History.{changes_of}
use Rattle.account_core.proofs.trail.TrailEntryKeeper.keep.Goals as goal

pub returns-in_err-add-in-Some-clause-not_kept : goal.returns-in_err-add-in-Some-clause-not_kept
returns-in_err-add-in-Some-clause-not_kept c =
    let passed = err_from_is_err_and c.from_residual.result c.from_residual.ensures.1 in
    rw passed.1 (λ base h may has. has_same base.zones c.args.self.now c.add.new.self h c.in_err-add-in-Some.ensures.first c.in_err-add-in-Some.ensures.err has)

pub returns-in_err-add-in-Some-clause-told : goal.returns-in_err-add-in-Some-clause-told
returns-in_err-add-in-Some-clause-told c =
    let passed = err_from_is_err_and c.from_residual.result c.from_residual.ensures.1 in
    rw (passed.1, passed.2) (λ e. absurd (cc e))

pub returns-in_ok-add-in-Some-clause-kept : goal.returns-in_ok-add-in-Some-clause-kept
returns-in_ok-add-in-Some-clause-kept c = λ base h may has.
    has_more base.zones c.args.self.now c.add.new.self h (entries_from c.args.stamp.now 0 c.args.changes.now) c.in_ok-add-in-Some.ensures.first c.in_ok-add-in-Some.ensures.ok
    (ap (first_unsound base.zones (changes_of h)) (changes_back c.args.stamp.now c.args.changes.now 0) ∙ may.sound) has

pub returns-in-None-clause-kept : goal.returns-in-None-clause-kept
returns-in-None-clause-kept c = λ base h may has. has_nothing base.zones c.args.self.now (h ++ entries_from c.args.stamp.now 0 c.args.changes.now) c.in-None.is
