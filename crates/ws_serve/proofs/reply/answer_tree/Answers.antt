use Rattle.std.proofs.Common.{refl, rules}
use Rattle.ws_serve.proofs.Replying.{replied_answer}
use Rattle.ws_serve.proofs.reply.answer_tree.Goals as goal

pub returns-in-None : goal.returns-in-None
returns-in-None g c = replied_answer c.reply_to_marked.result c.replied.result _ _ _ c.replied.ensures (search rules) c.reply_to_marked.ensures
