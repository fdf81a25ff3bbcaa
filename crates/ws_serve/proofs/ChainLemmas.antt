-- What the calls of sockets come to, one after the other.
use Rattle.std.specs.Prelude.{◌≢◌}
use Rattle.std.proofs.Common.{◌≡◌, ◌+◌, ◌*◌, ◌<◌, ◌≤◌, List, [], ◌∷◌, ◌++◌, flat_map, length, map, refl, ap, subst, sym, arith, ◌∙◌}
use Rattle.std.proofs.lemmas.Grind.{flat_map-append}
use Rattle.std.proofs.lemmas.List.{map-append}
use Rattle.spec_batch.proofs.Chains.{nothing_done, summaries_join}
use Rattle.spec_batch.specs.Chain.{Summary, front_of}
use Rattle.spec_site.specs.Configuration.{Site, user_at}
use Rattle.spec_history.specs.MostTurns.{most_turns}
use Rattle.spec_core.specs.declared.user.User.{User}
use Rattle.spec_sockets.specs.Serving.{ServesSocket, SocketSetting}
use Rattle.spec_sockets.specs.Turns.{Turn, made_by, made_for_text, made_for_texts, made_in_turns, watched_behind_all}
use Rattle.spec_sockets.specs.declared.served.TheConstants.{MAX_TEXTS}
use Rattle.spec_sockets.specs.declared.served.WsEnd.TheVariants as end
use Rattle.spec_sockets.specs.declared.served.WsServed.{WsServed}
use Rattle.ws_serve.specs.Chained.{HostsStandInHistories, MAX_SOCKET_CALLS, NoneIsSpent, SocketsAreNeverSpent}
use Rattle.ws_serve.specs.Hosting.{ServesEachSocket, SocketTools, SocketVisit, socket_setting}
use Rattle.ws_serve.proofs.Completeness.{How, spent}
use Rattle.ws_serve.proofs.HistoryLemmas.{sockets_stand}

each_stands : (site : Site) (t u : SocketTools) (vs : List SocketVisit) → ServesEachSocket site t u vs
    → (turns : List Turn) × Summary t.desk u.desk (made_in_turns turns) × (map front_of (made_for_texts turns) ≡ flat_map (λ (v : SocketVisit). v.back.served.fronts.items) vs) × (u.desk.turns ≤ t.desk.turns + MAX_SOCKET_CALLS * length vs)
each_stands site t u [] e = (
  [],
  subst (λ (y : SocketTools). Summary t.desk y.desk []) (sym e) (nothing_done t.desk),
  refl,
  (let same = ap (λ (y : SocketTools). y.desk.turns) e in omega (arith, same)),
)
each_stands site t u (v ∷ vs) e =
    let s = e.0 in
    let first = sockets_stand (user_at site v.handed.user) MAX_TEXTS (socket_setting t v.handed.link) (socket_setting s v.back.link) v.back.served e.2 in
    let rest = each_stands site s u vs e.3 in
    let all = e.2.turns ++ e.2.unfinished in (
      all ++ rest.0,
      subst (Summary t.desk u.desk) (sym (flat_map-append made_by all rest.0)) (summaries_join t.desk s.desk u.desk (made_in_turns all) (made_in_turns rest.0) first.0 rest.1),
      ap (map front_of) (flat_map-append made_for_text all rest.0) ∙ (map-append front_of (made_for_texts all) (made_for_texts rest.0) ∙ (λ k. first.1 k ++ rest.2 k)),
      (let one = first.2 in let more = rest.3 in omega (arith, one, more)),
    )

pub hosts_stand : HostsStandInHistories
hosts_stand site handshakes a a' t u e h = each_stands site t u h.visits h.serves

-- ---- calls are left

module _ {user : User} {x x' : SocketSetting} {served : WsServed} (s : ServesSocket user MAX_TEXTS x x' served) where
  few_calls : x'.desk.turns ≤ x.desk.turns + MAX_SOCKET_CALLS
  few_calls = (sockets_stand user MAX_TEXTS x x' served s).2

  not_spent : x.desk.turns + MAX_SOCKET_CALLS < most_turns → served.end ≢ end.PassSpent
  not_spent left is = (
      let how : How s end.PassSpent = subst (How s) is s.how in
      let all = spent user (watched_behind_all user s.turns) how.0.0 s.desk x'.desk how.0.2 in
      let few = few_calls in
      let bad : ⊥ = omega (arith, left, all, few) in
      bad
      )

each_unspent : (site : Site) (t u : SocketTools) (vs : List SocketVisit) → ServesEachSocket site t u vs → t.desk.turns + MAX_SOCKET_CALLS * length vs < most_turns → NoneIsSpent vs
each_unspent site t u [] e left = tt
each_unspent site t u (v ∷ vs) e left = (
  not_spent e.2 (omega (arith, left)),
  each_unspent site e.0 u vs e.3 (let one = few_calls e.2 in omega (arith, left, one)),
)

pub never_spent : SocketsAreNeverSpent
never_spent site handshakes a a' t u e h left = each_unspent site t u h.visits h.serves (let within = h.few in omega (arith, left, within))
