-- Where nothing fails, a socket ends as its texts do.
use Rattle.std.proofs.Common.{◌≡◌, ℕ, List, [], ◌++◌, inl, inr, sym, ap, ◌∙◌, subst, append-nil, arith}
use Rattle.spec_batch.proofs.Chains.{spent_stop}
use Rattle.spec_batch.specs.Batch.{NextMeans}
use Rattle.spec_batch.specs.Chain.{Shown}
use Rattle.spec_batch.specs.declared.desk.DeskError.TheVariants as reason
use Rattle.spec_core.specs.declared.user.User.{User}
use Rattle.spec_history.specs.MostTurns.{most_turns}
use Rattle.spec_time.specs.Moments.{clamped}
use Rattle.ws_serve.specs.Complete.{AllTurnsHad, EndsWithTexts, FaultlessSocketsAreAnswered, IsSocketUnharmed}
use Rattle.spec_push.specs.Looks.{AsksForNext}
use Rattle.spec_push.specs.declared.watched.Watched.{Watched}
use Rattle.spec_sockets.specs.Exchanges.{TextBegun, TextExchange}
use Rattle.spec_sockets.specs.Serving.{AreAllHad, IsSpent, SocketEndHow, SocketRests, ServesSocket, SocketSetting}
use Rattle.spec_sockets.specs.Turns.{Turn, TurnBegun, TurnsTold, looked, replied, switched, watched_behind_all}
use Rattle.spec_sockets.specs.declared.served.WsEnd.{WsEnd}
use Rattle.spec_sockets.specs.declared.served.WsEnd.TheVariants as end
use Rattle.spec_sockets.specs.declared.served.WsServed.{WsServed}
use Rattle.spec_sockets.specs.Links.{TakesMessages}
use Rattle.spec_sockets.specs.declared.message.WsMessage.{WsMessage}

text_spent : (user : User) (t : TextExchange) (u v : Shown) → TextBegun user reason.PassSpent u v t → v.turns ≡ most_turns
text_spent user t u v (inl h) = absurd (let is = h.0 in cc)
text_spent user t u v (inr r) =
    let s = spent_stop (NextMeans user r.request (clamped t.moment) r.steps r.rest) (clamped t.moment) u v r.stops in
    ap (λ (d : Shown). d.turns) s.1 ∙ s.0

pub spent : (user : User) (watch : List Watched) (t : Turn) (u v : Shown) → TurnBegun user watch reason.PassSpent u v t → v.turns ≡ most_turns
spent user watch (replied t) u v begun = text_spent user t u v begun
spent user watch (switched asking moment) u v begun = absurd begun
spent user watch (looked l moment) u v begun =
    let s = spent_stop (AsksForNext l.rest) (clamped moment) u v begun.1 in
    ap (λ (d : Shown). d.turns) s.1 ∙ s.0

module _ {user : User} {most : ℕ} {x x' : SocketSetting} {served : WsServed} (s : ServesSocket user most x x' served) where
  all_had : (behind : List WsMessage) → AreAllHad user most s.taken s.turns s.unfinished behind → x'.desk ≡ s.desk → AllTurnsHad user most x x' served behind
  all_had behind w same = record {
    turns = s.turns;
    count = s.count;
    took = subst (TakesMessages x.link.left x'.link.left) w.1 s.took;
    fit = s.fit;
    told = subst (λ (y : Shown × List Turn). TurnsTold x.clock x'.clock [] served.fronts.items x.desk y.0 y.1) (λ j. (sym same j, (ap (λ (l : List Turn). s.turns ++ l) w.0 ∙ append-nil s.turns) j)) s.told;
    sent = s.sent;
  }

  abbrev pub How : WsEnd → Type 0
  How e = SocketEndHow user most s.taken s.turns s.unfinished x x' s.desk e

  ends : IsSocketUnharmed x x' → (e : WsEnd) → How e → SocketRests e s.desk x'.desk → EndsWithTexts user most x x' served e
  unfolding all_had
  ends unharmed end.Closed how rests = (all_had [] how.0 rests, how.1)
  ends unharmed end.Binary how rests = all_had _ how rests
  ends unharmed end.Quota how rests = (all_had [] how.0 rests, how.1)
  ends unharmed end.LinkFault how rests = unharmed.worked how.2
  ends unharmed end.PassSpent how rests = (let all = spent user (watched_behind_all user s.turns) how.0.0 s.desk x'.desk how.0.2 in let may = unharmed.may_call in let bad : ⊥ = omega (arith, all, may) in bad)
  ends unharmed end.NoMemory how rests = tt

pub faultless : FaultlessSocketsAreAnswered
faultless user most x x' served s unharmed = ends s unharmed served.end s.how s.rests
