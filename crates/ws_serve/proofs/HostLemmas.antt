-- Sockets, one after the other.
use Rattle.std.proofs.Common.{◌≡◌, ℕ, ◌+◌, ◌<◌, ◌≤◌, List, [], ◌∷◌, ◌++◌, Option, Some, None, length, map, option_map, refl, sym, ap, ◌∙◌, subst, arith, append_assoc, append-nil}
use Rattle.std.proofs.lemmas.List.{length-append, map-append}
use Rattle.std.specs.Prelude.{All, ◌-◌}
use Rattle.io_edge.specs.Outside.{CountsOne, Rose}
use Rattle.spec_core.specs.declared.user.Grant.{Grant}
use Rattle.spec_core.specs.declared.user.User.{User}
use Rattle.spec_site.specs.Configuration.{Site, user_at}
use Rattle.spec_sockets.specs.Links.{LinkShown}
use Rattle.spec_sockets.specs.Serving.{ServesSocket}
use Rattle.spec_sockets.specs.declared.served.TheConstants.{MAX_TEXTS}
use Rattle.spec_sockets.specs.declared.served.WsServed.{WsServed}
use Rattle.ws_edge.specs.Accepting.{AcceptShown, SocketHanded, SocketBack, Sockets, handing_socket_out, taking_socket_back}
use Rattle.ws_serve.specs.Hosting.{HostHow, HostsSockets, RoseBy, ServesEachSocket, SocketTools, SocketVisit, socket_setting, with_sockets}
use Rattle.ws_serve.specs.declared.host.HostEnd.{HostEnd}
use Rattle.ws_serve.specs.declared.host.HostEnd.TheVariants as end
use Rattle.ws_serve.proofs.HistoryLemmas.{sockets_stand}

-- ---- sockets that were served

each_more : (site : Site) (t s u : SocketTools) (vs : List SocketVisit) (v : SocketVisit) → ServesEachSocket site t s vs → v.handed.user < length site.users
    → ServesSocket (user_at site v.handed.user) MAX_TEXTS (socket_setting s v.handed.link) (socket_setting u v.back.link) v.back.served → ServesEachSocket site t u (vs ++ v ∷ [])
each_more site t s u [] v before there serves =
    (u, there, subst (λ (y : SocketTools). ServesSocket (user_at site v.handed.user) MAX_TEXTS (socket_setting y v.handed.link) (socket_setting u v.back.link) v.back.served) before serves, refl)
each_more site t s u (w ∷ vs) v before there serves = (before.0, before.1, before.2, each_more site before.0 s u vs v before.3 there serves)

pub each_accounts : (site : Site) (t u : SocketTools) (vs : List SocketVisit) → ServesEachSocket site t u vs → u.desk.accounts ≡ t.desk.accounts
each_accounts site t u [] e = ap (λ (y : SocketTools). y.desk.accounts) e
each_accounts site t u (v ∷ vs) e =
    let stands = sockets_stand (user_at site v.handed.user) MAX_TEXTS (socket_setting t v.handed.link) (socket_setting e.0 v.back.link) v.back.served e.2 in
    each_accounts site e.0 u vs e.3 ∙ stands.0.accounts

-- a user of the site has grants on accounts of the desk
pub granted : (user : User) (accounts all : ℕ) → accounts ≡ all → All (λ (g : Grant). g.account < all) user.grants → All (λ (g : Grant). g.account < accounts) user.grants
granted user accounts all is h = subst (λ (k : ℕ). All (λ (g : Grant). g.account < k) user.grants) (sym is) h

-- ---- what accepts them

module _ (user : ℕ) (i i' : LinkShown) (served : WsServed) where
  abbrev visit : SocketVisit
  visit = record { handed = record { user = user; link = i }; back = record { link = i'; served = served } }

  told_more : (vs : List SocketVisit) (c : Option Sockets) → option_map (taking_socket_back i' served) (option_map (handing_socket_out user i) (option_map (with_sockets vs) c)) ≡ option_map (with_sockets (vs ++ visit ∷ [])) c
  told_more vs None = refl
  told_more vs (Some c) = ap Some (λ k. record {
    handed = (append_assoc c.handed (map (λ (v : SocketVisit). v.handed) vs) (visit.handed ∷ []) ∙ ap (λ (l : List SocketHanded). c.handed ++ l) (sym (map-append (λ (v : SocketVisit). v.handed) vs (visit ∷ [])))) k;
    back = (append_assoc c.back (map (λ (v : SocketVisit). v.back) vs) (visit.back ∷ []) ∙ ap (λ (l : List SocketBack). c.back ++ l) (sym (map-append (λ (v : SocketVisit). v.back) vs (visit ∷ [])))) k;
  })

told_none : (c : Option Sockets) → c ≡ option_map (with_sockets []) c
told_none None = refl
told_none (Some c) = ap Some (λ k. record { handed = sym (append-nil c.handed) k; back = sym (append-nil c.back) k })

-- so many handshakes were looked at, and it goes on
pub record Hosting (site : Site) (a a' : AcceptShown) (t u : SocketTools) (n : ℕ) : Type 0 where
  pub visits : List SocketVisit
  pub few : length visits ≤ n
  pub told : a'.sockets ≡ option_map (with_sockets visits) a.sockets
  pub ports : a'.ports ≡ a.ports
  pub serves : ServesEachSocket site t u visits
  pub later : a.faults ≤ a'.faults
  pub asked : RoseBy n a.asked a'.asked

pub hosting_start : (site : Site) (a : AcceptShown) (t : SocketTools) → Hosting site a a t t 0
hosting_start site a t = record { visits = []; few = omega arith; told = told_none a.sockets; ports = refl; serves = refl; later = omega arith; asked = omega arith }

module _ {site : Site} {a a0 a1 : AcceptShown} {t s : SocketTools} {n : ℕ} (h : Hosting site a a0 t s n) where
  -- a handshake came to nothing
  pub passed : a1.sockets ≡ a0.sockets → CountsOne a0.asked a1.asked → a1.ports ≡ a0.ports → a0.faults ≤ a1.faults → Hosting site a a1 t s (n + 1)
  passed same counts ports later = record {
    visits = h.visits;
    few = (let few = h.few in omega (arith, few));
    told = same ∙ h.told;
    ports = ports ∙ h.ports;
    serves = h.serves;
    later = (let before = h.later in omega (arith, before, later));
    asked = (let before = h.asked in omega (arith, before, counts));
  }

  -- nothing was looked at
  pub hosts_stopped : {handshakes : ℕ} (e : HostEnd) → n ≤ handshakes → a1.sockets ≡ a0.sockets → a1.ports ≡ a0.ports → a0.faults ≤ a1.faults → HostHow handshakes a a1 e → HostsSockets site handshakes a a1 t s e
  hosts_stopped e within same ports later how = record {
    visits = h.visits;
    few = (let few = h.few in omega (arith, few, within));
    told = same ∙ h.told;
    ports = ports ∙ h.ports;
    serves = h.serves;
    later = (let before = h.later in omega (arith, before, later));
    how = how;
  }

  -- a socket was served
  pub hosted : {a2 : AcceptShown} {u : SocketTools} {user : ℕ} {i i' : LinkShown} {served : WsServed} → a1.sockets ≡ option_map (handing_socket_out user i) a0.sockets → user < length site.users
      → CountsOne a0.asked a1.asked → a1.ports ≡ a0.ports → a0.faults ≤ a1.faults → (who : User) → who ≡ user_at site user → ServesSocket who MAX_TEXTS (socket_setting s i) (socket_setting u i') served
      → a2.sockets ≡ option_map (taking_socket_back i' served) a1.sockets → a2.ports ≡ a1.ports → a2.asked ≡ a1.asked → a2.faults ≡ a1.faults → Hosting site a a2 t u (n + 1)
  hosted {a2} {u} {user} {i} {i'} {served} out there counts ports later who is serves back ports' asked' same =
      let v : SocketVisit = visit user i i' served in
      record {
        visits = h.visits ++ v ∷ [];
        few = (let e = length-append h.visits (v ∷ []) in let few = h.few in omega (arith, e, few));
        told = back ∙ (ap (option_map (taking_socket_back i' served)) (out ∙ ap (option_map (handing_socket_out user i)) h.told) ∙ told_more user i i' served h.visits a.sockets);
        ports = ports' ∙ (ports ∙ h.ports);
        serves = each_more site t s u h.visits v h.serves there (subst (λ (y : User). ServesSocket y MAX_TEXTS (socket_setting s i) (socket_setting u i') served) is serves);
        later = (let before = h.later in omega (arith, before, later, same));
        asked = (let before = h.asked in omega (arith, before, counts, asked'));
      }

-- all were looked at
pub hosts_all : {site : Site} {a a0 : AcceptShown} {t s : SocketTools} {n handshakes : ℕ} → Hosting site a a0 t s n → n ≤ handshakes → handshakes ≤ n → HostsSockets site handshakes a a0 t s end.All
hosts_all {site} {a} {a0} {t} {s} {n} {handshakes} h within all = record {
  visits = h.visits;
  few = (let few = h.few in omega (arith, few, within));
  told = h.told;
  ports = h.ports;
  serves = h.serves;
  later = h.later;
  how = (let asked = h.asked in omega (arith, asked, within, all));
}
