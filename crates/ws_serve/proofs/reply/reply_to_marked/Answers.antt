use Rattle.std.proofs.Common.{◌≡◌, false, true, refl, rules, sym}
use Rattle.spec_batch.specs.Asked.{asked_by, refused}
use Rattle.spec_batch.specs.declared.request.RequestError.TheVariants.{NotRequest}
use Rattle.spec_json.specs.TreeData.{data_of}
use Rattle.spec_sockets.specs.Texts.{is_marked}
use Rattle.ws_serve.proofs.Replying.{as_asked, as_marked, is_unmarked, no_answer, not_said, refused_answer, said, stopped}
use Rattle.ws_serve.proofs.reply.reply_to_marked.Goals as goal

pub returns-in_default : goal.returns-in_default
returns-in_default g c = no_answer

pub returns-then-not-is_marked : goal.returns-then-not-is_marked
returns-then-not-is_marked g c =
    let off : is_marked (data_of c.args.tree) ≡ false = search rules in
    as_asked c.refuse.result (refused NotRequest) c.in-Ok.id _ _ (is_unmarked (data_of c.args.tree) off) (sym c.in-Ok.ensures) (refused_answer c.refuse.result refl c.refuse.ensures)

pub returns-in-Err : goal.returns-in-Err
returns-in-Err g c =
    let on : is_marked (data_of c.args.tree) ≡ true = search rules in
    as_asked _ (asked_by (data_of c.args.tree)) _ _ _ (as_marked (data_of c.args.tree) on) refl (stopped c.in-Err.error c.in-Err.ensures)

pub returns-in-Ok-reply_text : goal.returns-in-Ok-reply_text
returns-in-Ok-reply_text g c =
    let on : is_marked (data_of c.args.tree) ≡ true = search rules in
    as_asked _ (asked_by (data_of c.args.tree)) c.in-Ok.id _ _ (as_marked (data_of c.args.tree) on) (sym c.in-Ok.ensures)
    (said c.in-Ok-reply_to_tree.outcome c.in-Ok-reply_text.bytes c.in-Ok-reply_to_tree.ensures c.in-Ok-reply_text.ensures)

pub returns-in-Err-reply_text : goal.returns-in-Err-reply_text
returns-in-Err-reply_text g c =
    let on : is_marked (data_of c.args.tree) ≡ true = search rules in
    as_asked _ (asked_by (data_of c.args.tree)) _ _ _ (as_marked (data_of c.args.tree) on) refl (not_said c.in-Ok-reply_to_tree.outcome c.in-Ok-reply_to_tree.ensures)
