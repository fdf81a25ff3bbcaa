use Rattle.std.proofs.Common.{◌<◌, ◌∙◌, arith, rules}
use Rattle.std.proofs.lemmas.Bool.{false≢true}
use Rattle.ws_serve.proofs.Standing.{given_up, goes_on, looks_spent, over_of, serving_start, still_granted, still_watched, stopped, texts_spent, turns_spent, unsent, within_of}
use Rattle.ws_serve.proofs.serve.serve_at_most.Goals.{then-replies-most-via-then-replies-most, then-replies-most-via-else-replies-most+then-is_spent}
use Rattle.ws_serve.proofs.serve.serve_at_most.Goals as goal

pub loop-turn-init : goal.loop-turn-init
loop-turn-init g c = serving_start _ _ c.new-fronts.ensures.items c.off-push.ensures

pub returns-then-replies-most : goal.returns-then-replies-most
returns-then-replies-most g c = elim c.then-replies-most.branch [
  | then-replies-most-via-then-replies-most w ↦ texts_spent c.loop-turn.invariant w.if-replies-most.true _ c.served.ensures.fronts c.served.ensures.replies c.served.ensures.end
  | then-replies-most-via-else-replies-most+then-is_spent w ↦ looks_spent c.loop-turn.invariant (over_of w.is_spent.result _ _ w.is_spent.ensures w.if-is_spent.true) _ c.served.ensures.fronts c.served.ensures.replies c.served.ensures.end
]

pub have_turn-requires-clause-accounts : goal.have_turn-requires-clause-accounts
have_turn-requires-clause-accounts g c = still_granted c.loop-turn.invariant c.requires

pub have_turn-requires-clause-watched : goal.have_turn-requires-clause-watched
have_turn-requires-clause-watched g c = still_watched c.loop-turn.invariant c.requires

pub returns-in-Err : goal.returns-in-Err
returns-in-Err g c = given_up c.loop-turn.invariant c.in-Err.end c.in-Err.ensures.next c.in-Err.ensures.sent c.in-Err.ensures.later
    _ c.served-in-Err.ensures.fronts c.served-in-Err.ensures.replies c.served-in-Err.ensures.end

pub returns-in-Err-have_turn : goal.returns-in-Err-have_turn
returns-in-Err-have_turn g c =
    let less : c.loop-turn.replies < c.args.most = omega (arith, c.if-replies-most.false) in
    let few = within_of c.is_spent.result _ _ c.is_spent.ensures c.if-is_spent.false in
    stopped c.loop-turn.invariant c.in-Ok.text less few c.in-Ok.ensures.next c.in-Ok.ensures.sent c.in-Ok.ensures.later c.in-Err-have_turn.error c.in-Err-have_turn.ensures
    _ c.served-in-Err-have_turn.ensures.fronts c.served-in-Err-have_turn.ensures.replies (c.served-in-Err-have_turn.ensures.end ∙ c.end_of_desk.ensures)

pub returns-in-Err-send : goal.returns-in-Err-send
returns-in-Err-send g c =
    let less : c.loop-turn.replies < c.args.most = omega (arith, c.if-replies-most.false) in
    let few = within_of c.is_spent.result _ _ c.is_spent.ensures c.if-is_spent.false in
    unsent c.loop-turn.invariant c.in-Ok.text less few c.in-Ok.ensures.next c.in-Ok.ensures.sent c.in-Ok.ensures.later c.in-Ok-have_turn.said c.in-Ok-have_turn.ensures
    c.in-Err-send.error c.in-Err-send.ensures.left c.in-Err-send.ensures.err c.in-Err-send.ensures.later (λ is. c.in-Err-send.ensures.failed (search (rules, is))) (λ none. false≢true (c.in-Err-send.ensures.silent none))
    _ c.served-in-Err-send.ensures.fronts c.served-in-Err-send.ensures.replies (c.served-in-Err-send.ensures.end ∙ c.end_of_link.ensures)

pub loop-turn-preserved : goal.loop-turn-preserved
loop-turn-preserved g c =
    let less : c.loop-turn.replies < c.args.most = omega (arith, c.if-replies-most.false) in
    let few = within_of c.is_spent.result _ _ c.is_spent.ensures c.if-is_spent.false in
    goes_on c.loop-turn.invariant c.in-Ok.text less few c.in-Ok.ensures.next c.in-Ok.ensures.sent c.in-Ok.ensures.later c.in-Ok-have_turn.said c.in-Ok-have_turn.ensures
    c.replies_of-replies.result c.in-Ok-send.ensures.left c.in-Ok-send.ensures.ok c.in-Ok-send.ensures.later c.replies_of-replies.ensures

pub returns : goal.returns
returns g c = turns_spent c.loop-turn.invariant (omega (arith, c.loop-turn-test.false)) (let within = c.loop-turn.auto._turn-end in omega (arith, within, c.loop-turn-test.false))
    _ c.served-2.ensures.fronts c.served-2.ensures.replies c.served-2.ensures.end
