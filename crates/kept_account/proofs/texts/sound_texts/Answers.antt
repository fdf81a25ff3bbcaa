use Rattle.std.proofs.Common.{◌<◌, ◌^◌, rules}
use Rattle.kept_account.proofs.CallTexts.{keepable_call, still_ok}
use Rattle.spec_time.specs.Moments.{IsMoment}
use Rattle.kept_account.proofs.texts.sound_texts.Goals as goal

pub returns-clause-read_back : goal.returns-clause-read_back
returns-clause-read_back c =
    let author : c.args.stamp.now.author < 2 ^ 32 = search rules in
    let moment : IsMoment c.args.stamp.now.moment = search rules in
    still_ok c.call_texts.result (λ all zones h may. all (keepable_call zones h c.args.stamp.now c.args.changes.now may author moment c.requires.turn c.requires.parts c.are_change_values.ensures)) c.call_texts.ensures.read_back
