use Rattle.std.proofs.Common.{None, refl, rules}
use Rattle.spec_batch.specs.Asked.{refused}
use Rattle.spec_batch.specs.declared.request.Limit.TheVariants.{SizeRequest}
use Rattle.spec_batch.specs.declared.request.RequestError.TheVariants.{Limit, NotJson, NotRequest}
use Rattle.ws_serve.proofs.Replying.{answer_as, as_asked, as_read, no_answer, over_limit, refused_answer, replied_answer}
use Rattle.ws_serve.proofs.reply.ws_reply.Goals as goal

pub returns-then-text-gt-MAX_SIZE_REQUEST : goal.returns-then-text-gt-MAX_SIZE_REQUEST
returns-then-text-gt-MAX_SIZE_REQUEST g c =
    let h = over_limit c.args.text.now (search rules) in
    replied_answer c.refuse.result c.replied.result _ _ _ c.replied.ensures h.2 (as_asked c.refuse.result (refused (Limit SizeRequest)) None _ _ h.0 h.1 (refused_answer c.refuse.result refl c.refuse.ensures))

pub returns-in-Ok : goal.returns-in-Ok
returns-in-Ok g c =
    let h = as_read c.args.text.now _ (search rules) c.in-Ok.ensures.ok in
    answer_as c.args.user.now c.args.moment c.args.fronts.now.items c.answer_tree.new.fronts.items (g.D.Desk.shown c.args.desk.now) (g.D.Desk.shown c.answer_tree.new.desk) c.answer_tree.result
    _ _ _ _ _ _ h.2 h.0 h.1 c.answer_tree.ensures

pub returns-in-Err-NotJson : goal.returns-in-Err-NotJson
returns-in-Err-NotJson g c =
    let h = as_read c.args.text.now _ (search rules) (c.in-Err-NotJson.ensures.not_json (search rules)) in
    replied_answer c.refuse-in-Err-NotJson.result c.replied-in-Err-NotJson.result _ _ _ c.replied-in-Err-NotJson.ensures h.2
    (as_asked c.refuse-in-Err-NotJson.result (refused NotJson) None _ _ h.0 h.1 (refused_answer c.refuse-in-Err-NotJson.result refl c.refuse-in-Err-NotJson.ensures))

pub returns-in-Err-NotWhole : goal.returns-in-Err-NotWhole
returns-in-Err-NotWhole g c =
    let h = as_read c.args.text.now _ (search rules) (c.in-Err-NotWhole.ensures.not_whole (search rules)) in
    replied_answer c.refuse-in-Err-NotWhole.result c.replied-in-Err-NotWhole.result _ _ _ c.replied-in-Err-NotWhole.ensures h.2
    (as_asked c.refuse-in-Err-NotWhole.result (refused NotRequest) None _ _ h.0 h.1 (refused_answer c.refuse-in-Err-NotWhole.result refl c.refuse-in-Err-NotWhole.ensures))

pub returns-in-Err-NoMemory : goal.returns-in-Err-NoMemory
returns-in-Err-NoMemory g c = no_answer
