use Rattle.std.proofs.Common.{◌≡◌, rules}
use Rattle.account_desk.specs.SoleDesk.{shown_of}
use Rattle.account_desk.specs.FreshDesk.{fresh_desk}
use Rattle.jmapd_run.proofs.Answering.{answer_is, spent_never}
use Rattle.jmapd_run.proofs.batch.answer_to.Goals as goal

pub unreachable-requires : goal.unreachable-requires
unreachable-requires c =
    let fresh : shown_of c.in_ok-desk.desk ≡ fresh_desk c.args.site.now = search rules in
    spent_never c.args.site.now c.args.user c.args.bytes.now c.in-Err-PassSpent.field-0-is fresh c.in-Err-PassSpent.ensures

pub returns-in-Ok : goal.returns-in-Ok
returns-in-Ok c =
    let fresh : shown_of c.in_ok-desk.desk ≡ fresh_desk c.args.site.now = search rules in
    answer_is c.args.site.now c.args.user c.args.bytes.now c.in-Ok.reply c.answer_of.result c.user.ensures.value fresh c.all_entries_are_its_own.ensures c.in-Ok.ensures c.answer_of.ensures.text c.answer_of.ensures.refusal
