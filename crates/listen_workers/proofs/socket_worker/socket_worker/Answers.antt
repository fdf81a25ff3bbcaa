use Rattle.std.proofs.Common.{◌∙◌}
use Rattle.ws_serve.proofs.HostLemmas.{each_accounts, granted, hosted}
use Rattle.listen_workers.proofs.socket_worker.socket_worker.Goals as goal

pub serve_socket-served-requires : goal.serve_socket-served-requires
serve_socket-served-requires g c = granted c.user.result.now _ _ (each_accounts c.args.site.now _ _ _ c.loop-looked.invariant.serves ∙ c.requires) c.user.ensures.granted

pub loop-looked-preserved : goal.loop-looked-preserved
loop-looked-preserved g c =
    let out = rw c.in-Ok-Some.field-0-is at c.in-Ok-Some.ensures.handed in
    let there = rw c.in-Ok-Some.field-0-is at c.in-Ok-Some.ensures.user in
    hosted c.loop-looked.invariant out there c.in-Ok-Some.ensures.asked c.in-Ok-Some.ensures.ports c.in-Ok-Some.ensures.later c.user.result.now c.user.ensures.value c.serve_socket-served.ensures
    c.ended.ensures.sockets c.ended.ensures.ports c.ended.ensures.asked c.ended.ensures.faults
