use Rattle.std.proofs.Common.{◌≡◌, ℕ, List, None, Option, Some, rules, subst, sym}
use Rattle.spec_time.specs.Moments.{clamped}
use Rattle.ws_serve.proofs.Turning.{look_had, text_had}
use Rattle.ws_serve.specs.Turning.{TakesTurn}
use Rattle.ws_serve.proofs.turn.have_turn.Goals as goal

pub returns-in-Some : goal.returns-in-Some
returns-in-Some g c =
    let clamps : c.clamped-moment.result ≡ clamped c.now.result = search rules in
    let is : c.args.text ≡ Some c.in-Some.text = search rules in
    subst (λ (t : Option (List ℕ)). TakesTurn c.args.user.now t c.args.push.now c.answer.new.push (g.C.Clock.moments c.args.clock.now) (g.C.Clock.moments c.now.new.self) c.args.fronts.now.items
    c.answer.new.fronts.items (g.D.Desk.shown c.args.desk.now) (g.D.Desk.shown c.answer.new.desk) c.answer.result) (sym is)
    (text_had c.args.user.now c.in-Some.text c.args.push.now c.answer.new.push (g.C.Clock.moments c.args.clock.now) (g.C.Clock.moments c.now.new.self) c.args.fronts.now.items c.answer.new.fronts.items
    (g.D.Desk.shown c.args.desk.now) (g.D.Desk.shown c.answer.new.desk) c.now.result c.clamped-moment.result c.answer.result c.now.ensures clamps c.answer.ensures)

pub returns-in-None : goal.returns-in-None
returns-in-None g c =
    let clamps : c.clamped-moment.result ≡ clamped c.now.result = search rules in
    let is : c.args.text ≡ None = search rules in
    subst (λ (t : Option (List ℕ)). TakesTurn c.args.user.now t c.args.push.now c.look.new.push (g.C.Clock.moments c.args.clock.now) (g.C.Clock.moments c.now.new.self) c.args.fronts.now.items
    c.args.fronts.now.items (g.D.Desk.shown c.args.desk.now) (g.D.Desk.shown c.look.new.desk) c.look.result) (sym is)
    (look_had c.args.user.now c.args.push.now c.look.new.push (g.C.Clock.moments c.args.clock.now) (g.C.Clock.moments c.now.new.self) c.args.fronts.now.items
    (g.D.Desk.shown c.args.desk.now) (g.D.Desk.shown c.look.new.desk) c.now.result c.clamped-moment.result c.look.result c.now.ensures clamps c.look.ensures)
