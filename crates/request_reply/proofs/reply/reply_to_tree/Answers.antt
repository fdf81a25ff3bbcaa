use Rattle.spec_json.specs.TreeData.{data_of}
use Rattle.request_reply.proofs.Replying.{batch_reply, memory_of_batch, refused_of_batch, spent_of_batch}
use Rattle.request_reply.proofs.reply.reply_to_tree.Goals as goal

pub returns-in-Ok : goal.returns-in-Ok
returns-in-Ok g c = batch_reply (data_of c.args.request) c.in-Ok.tree c.in-Ok.ensures

pub returns-in-Err-PassSpent : goal.returns-in-Err-PassSpent
returns-in-Err-PassSpent g c = spent_of_batch (data_of c.args.request) c.in-Err-PassSpent.ensures c.in-Err-PassSpent.field-0-is

pub returns-in-Err-Refused : goal.returns-in-Err-Refused
returns-in-Err-Refused g c = refused_of_batch (data_of c.args.request) c.in-Err-Refused.error c.refusal.result c.in-Err-Refused.ensures c.in-Err-Refused.field-0-is c.refusal.ensures

pub returns-in-Err-NoMemory : goal.returns-in-Err-NoMemory
returns-in-Err-NoMemory g c = memory_of_batch (data_of c.args.request) c.in-Err-NoMemory.ensures c.in-Err-NoMemory.field-0-is
