use Rattle.std.proofs.Common.{◌∙◌, ap, rules, subst, sym}
use Rattle.spec_batch.specs.Asked.{Asked}
use Rattle.spec_batch.specs.Reply.{asked_by_reading}
use Rattle.request_reply.proofs.Replying.{as_read, no_reply, over_limit, refused_reply}
use Rattle.request_reply.specs.Outcomes.{IsOutcome}
use Rattle.request_reply.proofs.reply.reply_to.Goals as goal

pub returns-then-bytes-gt-MAX_SIZE_REQUEST : goal.returns-then-bytes-gt-MAX_SIZE_REQUEST
returns-then-bytes-gt-MAX_SIZE_REQUEST g c = refused_reply c.refusal.result (over_limit c.args.bytes.now (search rules)) c.refusal.ensures

pub returns-in-Ok : goal.returns-in-Ok
returns-in-Ok g c =
    let is = as_read c.args.bytes.now (search rules) ∙ ap asked_by_reading c.in-Ok.ensures.ok in
    subst (λ (what : Asked). IsOutcome c.args.user.now c.args.moment what c.args.fronts.now.items c.reply_to_tree.new.fronts.items
    (g.D.Desk.shown c.args.desk.now) (g.D.Desk.shown c.reply_to_tree.new.desk) c.reply_to_tree.result) (sym is) c.reply_to_tree.ensures

pub returns-in-Err-NotJson : goal.returns-in-Err-NotJson
returns-in-Err-NotJson g c = refused_reply c.refusal-in-Err-NotJson.result (as_read c.args.bytes.now (search rules) ∙ ap asked_by_reading (c.in-Err-NotJson.ensures.not_json (search rules))) c.refusal-in-Err-NotJson.ensures

pub returns-in-Err-NotWhole : goal.returns-in-Err-NotWhole
returns-in-Err-NotWhole g c = refused_reply c.refusal-in-Err-NotWhole.result (as_read c.args.bytes.now (search rules) ∙ ap asked_by_reading (c.in-Err-NotWhole.ensures.not_whole (search rules))) c.refusal-in-Err-NotWhole.ensures

pub returns-in-Err-NoMemory : goal.returns-in-Err-NoMemory
returns-in-Err-NoMemory g c = no_reply
