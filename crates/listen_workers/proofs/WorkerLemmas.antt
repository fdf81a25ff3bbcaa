-- A worker's connections, one after the other.
use Rattle.std.proofs.Common.{◌≡◌, ℕ, ◌+◌, ◌*◌, ◌<◌, ◌≤◌, List, [], ◌∷◌, ◌++◌, Option, Some, None, length, map, option_map, refl, sym, ap, ◌∙◌, subst, arith, append_assoc, append-nil}
use Rattle.std.proofs.lemmas.List.{length-append, map-append}
use Rattle.conn_serve.proofs.Completeness.{How, spent_turns}
use Rattle.conn_serve.proofs.HistoryLemmas.{connections_stand}
use Rattle.io_edge.specs.Outside.{Rose, SinkShown, SourceShown}
use Rattle.listen_edge.specs.Listening.{Connection, Connections, ListenerShown, Returned, handing_out, taking_back}
use Rattle.listen_edge.specs.declared.job.WorkerEnd.{WorkerEnd}
use Rattle.listen_edge.specs.declared.job.WorkerEnd.TheVariants.{AcceptFault}
use Rattle.spec_batch.specs.Chain.{Made, Summary, front_of}
use Rattle.spec_connection.specs.Serving.{Serves, Setting}
use Rattle.spec_connection.specs.declared.served.ConnEnd.TheVariants as end
use Rattle.spec_connection.specs.declared.served.Served.{Served}
use Rattle.spec_connection.specs.declared.served.TheConstants.{MAX_MESSAGES}
use Rattle.spec_history.specs.MostTurns.{most_turns}
use Rattle.spec_site.specs.Configuration.{Site}
use Rattle.listen_workers.specs.Working.{WorkerHow, MAX_CALLS, ServesEach, Tools, Visit, Works, setting_of, with_visits}

-- ---- what one connection makes of the desk

module _ {site : Site} {x x' : Setting} {served : Served} (s : Serves site MAX_MESSAGES x x' served) where
  abbrev stands : (made : List Made) × Summary x.desk x'.desk made × (map front_of made ≡ served.fronts.items) × (x'.desk.turns ≤ x.desk.turns + MAX_CALLS)
  stands = connections_stand site MAX_MESSAGES x x' served s

  pub same_accounts : x'.desk.accounts ≡ x.desk.accounts
  same_accounts = stands.1.accounts

  pub few_calls : x'.desk.turns ≤ x.desk.turns + MAX_CALLS
  few_calls = stands.3

  pub spent_end : served.end ≡ end.PassSpent → x'.desk.turns ≡ most_turns
  spent_end is = (let how : How s end.PassSpent = subst (How s) is s.how in spent_turns how.0.begun)

-- ---- connections, one after the other

each_more : (site : Site) (t s u : Tools) (vs : List Visit) (v : Visit) → ServesEach site t s vs
    → Serves site MAX_MESSAGES (setting_of s v.handed.input v.handed.output) (setting_of u v.back.input v.back.output) v.back.served → ServesEach site t u (vs ++ v ∷ [])
each_more site t s u [] v before serves =
    (u, subst (λ (y : Tools). Serves site MAX_MESSAGES (setting_of y v.handed.input v.handed.output) (setting_of u v.back.input v.back.output) v.back.served) before serves, refl)
each_more site t s u (w ∷ vs) v before serves = (before.0, before.1, each_more site before.0 s u vs v before.2 serves)

pub each_accounts : (site : Site) (t u : Tools) (vs : List Visit) → ServesEach site t u vs → u.desk.accounts ≡ t.desk.accounts
each_accounts site t u [] e = ap (λ (y : Tools). y.desk.accounts) e
each_accounts site t u (v ∷ vs) e = each_accounts site e.0 u vs e.2 ∙ same_accounts e.1

pub each_turns : (site : Site) (t u : Tools) (vs : List Visit) → ServesEach site t u vs → u.desk.turns ≤ t.desk.turns + MAX_CALLS * length vs
each_turns site t u [] e = (let same = ap (λ (y : Tools). y.desk.turns) e in omega (arith, same))
each_turns site t u (v ∷ vs) e = (let rest = each_turns site e.0 u vs e.2 in let one = few_calls e.1 in omega (arith, rest, one))

-- ---- the listener's connections

module _ (i i' : SourceShown) (o o' : SinkShown) (served : Served) where
  abbrev visit : Visit
  visit = record { handed = record { input = i; output = o }; back = record { input = i'; output = o'; served = served } }

  told_more : (vs : List Visit) (c : Option Connections) → option_map (taking_back i' o' served) (option_map (handing_out i o) (option_map (with_visits vs) c)) ≡ option_map (with_visits (vs ++ visit ∷ [])) c
  told_more vs None = refl
  told_more vs (Some c) = ap Some (λ k. record {
    handed = (append_assoc c.handed (map (λ (v : Visit). v.handed) vs) (visit.handed ∷ []) ∙ ap (λ (l : List Connection). c.handed ++ l) (sym (map-append (λ (v : Visit). v.handed) vs (visit ∷ [])))) k;
    back = (append_assoc c.back (map (λ (v : Visit). v.back) vs) (visit.back ∷ []) ∙ ap (λ (l : List Returned). c.back ++ l) (sym (map-append (λ (v : Visit). v.back) vs (visit ∷ [])))) k;
  })

told_none : (c : Option Connections) → c ≡ option_map (with_visits []) c
told_none None = refl
told_none (Some c) = ap Some (λ k. record { handed = sym (append-nil c.handed) k; back = sym (append-nil c.back) k })

-- so many connections were served, and the worker goes on
pub record Working (site : Site) (l l' : ListenerShown) (t u : Tools) (n : ℕ) : Type 0 where
  pub visits : List Visit
  pub count : length visits ≡ n
  pub told : l'.connections ≡ option_map (with_visits visits) l.connections
  pub serves : ServesEach site t u visits
  pub later : l.faults ≤ l'.faults

pub working_start : (site : Site) (l : ListenerShown) (t : Tools) → Working site l l t t 0
working_start site l t = record { visits = []; count = refl; told = told_none l.connections; serves = refl; later = omega arith }

pub working_on : {site : Site} {l l0 l1 l2 : ListenerShown} {t s u : Tools} {n : ℕ} {i i' : SourceShown} {o o' : SinkShown} {served : Served} → Working site l l0 t s n
    → l1.connections ≡ option_map (handing_out i o) l0.connections → l0.faults ≤ l1.faults → Serves site MAX_MESSAGES (setting_of s i o) (setting_of u i' o') served
    → l2.connections ≡ option_map (taking_back i' o' served) l1.connections → l2.faults ≡ l1.faults → Working site l l2 t u (n + 1)
working_on {site} {l} {l0} {l1} {l2} {t} {s} {u} {n} {i} {i'} {o} {o'} {served} w out later serves back same =
    let v : Visit = visit i i' o o' served in
    record {
      visits = w.visits ++ v ∷ [];
      count = (let e = length-append w.visits (v ∷ []) in let c = w.count in omega (arith, e, c));
      told = back ∙ (ap (option_map (taking_back i' o' served)) (out ∙ ap (option_map (handing_out i o)) w.told) ∙ told_more i i' o o' served w.visits l.connections);
      serves = each_more site t s u w.visits v w.serves serves;
      later = (let before = w.later in omega (arith, before, later, same));
    }

pub works_of : {site : Site} {l l' : ListenerShown} {t u : Tools} {n connections : ℕ} {e : WorkerEnd} → Working site l l' t u n → WorkerHow connections l l' u n e
    → Works site connections l l' t u (record { served = n; end = e })
works_of w how = record { visits = w.visits; count = w.count; told = w.told; serves = w.serves; later = w.later; how = how }

-- the listener failed
pub accept_failed : {site : Site} {l l0 l1 : ListenerShown} {t u : Tools} {n connections : ℕ} → Working site l l0 t u n → n < connections → l1.connections ≡ l0.connections → l0.faults ≤ l1.faults → Rose l0.faults l1.faults
    → Works site connections l l1 t u (record { served = n; end = AcceptFault })
accept_failed {site} {l} {l0} {l1} w few same later rose = record {
  visits = w.visits;
  count = w.count;
  told = same ∙ w.told;
  serves = w.serves;
  later = (let before = w.later in omega (arith, before, later));
  how = (few, (let before = w.later in omega (arith, before, rose)));
}
