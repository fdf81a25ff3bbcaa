use Rattle.std.proofs.Common.{◌≡◌, rules}
use Rattle.spec_time.specs.Moments.{clamped}
use Rattle.conn_serve.proofs.Messaging.{answered, stopped, unwritten}
use Rattle.http_edge.specs.Reading.{message_shown}
use Rattle.conn_serve.proofs.answer.answer_api.Goals as goal

pub returns-in-Err : goal.returns-in-Err
returns-in-Err g c =
    let clamps : c.clamped-moment.result ≡ clamped c.now.result = search rules in
    stopped c.args.site.now c.args.close (message_shown c.args.message.now) c.args.user c.now.result c.requires.routed
    c.now.ensures c.user.ensures.value clamps c.as_slice-body.ensures c.in-Err.error c.in-Err.ensures

pub returns-in-Ok-reply_bytes : goal.returns-in-Ok-reply_bytes
returns-in-Ok-reply_bytes g c =
    let clamps : c.clamped-moment.result ≡ clamped c.now.result = search rules in
    answered c.args.site.now c.args.close (message_shown c.args.message.now) c.args.user c.now.result c.requires.routed
    c.now.ensures c.user.ensures.value clamps c.as_slice-body.ensures c.in-Ok.reply c.in-Ok-reply_bytes.bytes c.in-Ok.ensures c.in-Ok-reply_bytes.ensures

pub returns : goal.returns
returns g c =
    let clamps : c.clamped-moment.result ≡ clamped c.now.result = search rules in
    unwritten c.args.site.now c.args.close (message_shown c.args.message.now) c.args.user c.now.result c.requires.routed
    c.now.ensures c.user.ensures.value clamps c.as_slice-body.ensures c.in-Ok.reply c.in-Ok.ensures
