use Rattle.std.proofs.Common.{◌≡◌, None, Some, ap, arith, refl, rules, sym}
use Rattle.state_watch.specs.Looking.{texts_in}
use Rattle.ws_serve.proofs.Turning.{look_calls, look_told}
use Rattle.ws_serve.specs.declared.turn.Said.TheVariants.{Change, Nothing}
use Rattle.ws_serve.proofs.turn.look.Goals as goal

pub overflow_add-push : goal.overflow_add-push
overflow_add-push g c = (let few = look_calls c.in-Ok.field-0 c.in-Ok.ensures in let room = c.requires.calls in omega (arith, few, room))

pub returns-in-Some : goal.returns-in-Some
returns-in-Some g c =
    let told : c.in-Ok.field-0.told ≡ Some c.in-Some.text = search rules in
    look_told c.args.moment c.args.push.now _ (g.D.Desk.shown c.args.desk.now) (g.D.Desk.shown c.look.new.desk) c.in-Ok.field-0 (Change c.in-Some.text) c.in-Ok.ensures refl (ap texts_in (sym told)) refl

pub returns-in-None : goal.returns-in-None
returns-in-None g c =
    let told : c.in-Ok.field-0.told ≡ None = search rules in
    look_told c.args.moment c.args.push.now _ (g.D.Desk.shown c.args.desk.now) (g.D.Desk.shown c.look.new.desk) c.in-Ok.field-0 Nothing c.in-Ok.ensures refl (ap texts_in (sym told)) refl
