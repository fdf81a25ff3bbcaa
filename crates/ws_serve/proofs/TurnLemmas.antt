-- Turns follow one another.
use Rattle.std.proofs.Common.{◌≡◌, ℕ, ℤ, ◌+◌, ◌≤◌, List, [], ◌∷◌, ◌++◌, length, length-append, map, flat_map, sym, refl, ap, ◌∙◌, subst, append-nil, append_assoc, Option, Some, None, arith}
use Rattle.std.proofs.lemmas.List.{map-append}
use Rattle.std.proofs.lemmas.Grind.{flat_map-append}
use Rattle.std.specs.Prelude.{All}
use Rattle.io_edge.specs.Outside.{Ticks}
use Rattle.spec_batch.proofs.Chains.{join, still}
use Rattle.spec_batch.specs.Chain.{Chain, Made, Shown, front_of}
use Rattle.spec_batch.specs.declared.desk.Front.{Front}
use Rattle.spec_connection.proofs.InOrder.{ticked_join, ticked_none, ticked_one}
use Rattle.spec_connection.specs.Answered.{Ticked}
use Rattle.spec_core.specs.declared.user.User.{User}
use Rattle.state_watch.proofs.Seeing.{made_for_few}
use Rattle.spec_push.specs.declared.watched.Watched.{Watched}
use Rattle.spec_sockets.specs.Links.{SendsTexts, TakesMessages}
use Rattle.spec_sockets.specs.Turns.{AllTurnsFit, Turn, TurnFits, TurnsTold, look_size, looked, made_by, made_for_text, made_for_texts, made_in_turns, made_in_look, moment_of, moments_in, replied, reply_of, switched, watched_after}
use Rattle.spec_sockets.specs.declared.message.WsMessage.{WsMessage}
use Rattle.std.specs.Prelude.{fold}

pub told_none : (c : Option (ℕ → ℤ)) (f : List Front) (d : Shown) → TurnsTold c c f f d d []
told_none c f d = record { ticked = ticked_none c; added = sym (append-nil f); chain = still d }

pub told_join : (c0 c1 c2 : Option (ℕ → ℤ)) (f0 f1 f2 : List Front) (d0 d1 d2 : Shown) (ts us : List Turn) → TurnsTold c0 c1 f0 f1 d0 d1 ts → TurnsTold c1 c2 f1 f2 d1 d2 us → TurnsTold c0 c2 f0 f2 d0 d2 (ts ++ us)
told_join c0 c1 c2 f0 f1 f2 d0 d1 d2 ts us h g = record {
  ticked = subst (Ticked c0 c2) (sym (map-append moment_of ts us)) (ticked_join c0 c1 c2 (moments_in ts) (moments_in us) h.ticked g.ticked);
  added = g.added ∙ (ap (λ (l : List Front). l ++ map front_of (made_for_texts us)) h.added ∙ (append_assoc f0 (map front_of (made_for_texts ts)) (map front_of (made_for_texts us))
      ∙ ap (λ (l : List Front). f0 ++ l) (sym (ap (map front_of) (flat_map-append made_for_text ts us) ∙ map-append front_of (made_for_texts ts) (made_for_texts us)))));
  chain = subst (Chain d0 d2) (sym (flat_map-append made_by ts us)) (join d0 d1 d2 (made_in_turns ts) (made_in_turns us) h.chain g.chain);
}

-- one turn, at one moment
pub told_one : {c0 c1 : Option (ℕ → ℤ)} {f0 f1 : List Front} {d0 d1 : Shown} (t : Turn)
    → Ticks c0 c1 (moment_of t) → f1 ≡ f0 ++ map front_of (made_for_text t) → Chain d0 d1 (made_by t) → TurnsTold c0 c1 f0 f1 d0 d1 (t ∷ [])
told_one {c0} {c1} {f0} {f1} {d0} {d1} t ticks fronts chain = record {
  ticked = ticked_one c0 c1 (moment_of t) ticks;
  added = fronts ∙ ap (λ (l : List Made). f0 ++ map front_of l) (sym (append-nil (made_for_text t)));
  chain = subst (Chain d0 d1) (sym (append-nil (made_by t))) chain;
}

pub fit_more : (user : User) (watch : List Watched) (ts : List Turn) (t : Turn) → AllTurnsFit user watch ts → TurnFits user (fold (watched_after user) watch ts) t → AllTurnsFit user watch (ts ++ t ∷ [])
fit_more user watch [] t h f = (f, tt)
fit_more user watch (x ∷ xs) t h f = (h.0, fit_more user (watched_after user watch x) xs t h.1 f)

pub few_replies : (t : Turn) → length (reply_of t) ≤ 1
few_replies (replied t) = omega arith
few_replies (switched asking moment) = omega arith
few_replies (looked l moment) = omega arith

-- a look makes no more calls than its size
pub looks_few : (t : Turn) → length (made_in_look t) ≤ look_size t
looks_few (replied t) = omega arith
looks_few (switched asking moment) = omega arith
looks_few (looked l moment) = (let few = made_for_few l.sights in omega (arith, few))

-- ---- a link

pub Takes-nil : (a : Option (List WsMessage)) → TakesMessages a a []
Takes-nil None = tt
Takes-nil (Some x) = refl

pub Takes-trans : (a b c : Option (List WsMessage)) (ms ns : List WsMessage) → TakesMessages a b ms → TakesMessages b c ns → TakesMessages a c (ms ++ ns)
Takes-trans None b c ms ns h k = tt
Takes-trans (Some x) None c ms ns h k = absurd h
Takes-trans (Some x) (Some y) None ms ns h k = absurd k
Takes-trans (Some x) (Some y) (Some z) ms ns h k = h ∙ (ap (λ (l : List WsMessage). ms ++ l) k ∙ sym (append_assoc ms ns z))

pub Sends-nil : (a : Option (List (List ℕ))) → SendsTexts a a []
Sends-nil None = tt
Sends-nil (Some x) = sym (append-nil x)

pub Sends-trans : (a b c : Option (List (List ℕ))) (ts us : List (List ℕ)) → SendsTexts a b ts → SendsTexts b c us → SendsTexts a c (ts ++ us)
Sends-trans a b None ts us h k = tt
Sends-trans (Some x) (Some y) (Some z) ts us h k = k ∙ (ap (λ (l : List (List ℕ)). l ++ us) h ∙ append_assoc x ts us)
Sends-trans None (Some y) (Some z) ts us h k = absurd h
Sends-trans a None (Some z) ts us h k = absurd k
