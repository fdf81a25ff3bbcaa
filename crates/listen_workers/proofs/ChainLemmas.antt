-- Chains of connections, one after the other.
use Rattle.std.proofs.Common.{◌≡◌, ℕ, suc, ◌+◌, ◌*◌, ◌≤◌, length, List, [], ◌∷◌, ◌++◌, flat_map, map, refl, sym, ap, ◌∙◌, subst, arith}
use Rattle.std.proofs.lemmas.List.{map-append}
use Rattle.std.specs.Prelude.{◌≢◌}
use Rattle.listen_workers.specs.Chained.{NoneIsCutShort, CallsAreAChain, WorkersStandInHistories}
use Rattle.listen_workers.specs.Working.{MAX_CALLS, ServesEach, Tools, Visit, setting_of}
use Rattle.conn_serve.proofs.HistoryLemmas.{connections_stand}
use Rattle.spec_batch.proofs.Chains.{join, nothing_done, summaries_join}
use Rattle.spec_batch.specs.Chain.{Chain, Made, Shown, Summary, front_of}
use Rattle.spec_connection.specs.Exchanges.{all_made}
use Rattle.spec_connection.specs.Serving.{Rests}
use Rattle.spec_connection.specs.declared.served.TheConstants.{MAX_MESSAGES}
use Rattle.spec_connection.specs.declared.served.ConnEnd.{ConnEnd}
use Rattle.spec_connection.specs.declared.served.ConnEnd.TheVariants as end
use Rattle.spec_site.specs.Configuration.{Site}

rests_there : (e : ConnEnd) (u v : Shown) → Rests e u v → e ≢ end.NoMemory → e ≢ end.PassSpent → v ≡ u
rests_there end.Closed u v r memory calls = r
rests_there end.CloseAsked u v r memory calls = r
rests_there (end.BadHead status) u v r memory calls = r
rests_there end.Truncated u v r memory calls = r
rests_there end.Quota u v r memory calls = r
rests_there end.ReadFault u v r memory calls = r
rests_there end.WriteFault u v r memory calls = r
rests_there end.PassSpent u v r memory calls = absurd (calls refl)
rests_there end.NoMemory u v r memory calls = absurd (memory refl)

each_chain : (site : Site) (t u : Tools) (vs : List Visit) → ServesEach site t u vs → NoneIsCutShort vs → (made : List Made) × Chain t.desk u.desk made × (map front_of made ≡ flat_map (λ (v : Visit). v.back.served.fronts.items) vs)
each_chain site t u [] e answered = ([], ap (λ (y : Tools). y.desk) e, refl)
each_chain site t u (v ∷ vs) e answered =
    let s = e.1 in
    let these = all_made (s.exchanges ++ s.unwritten) in
    let ended = answered 0 v (omega arith) in
    let there : e.0.desk ≡ s.desk = rests_there v.back.served.end s.desk e.0.desk s.rests ended.0 ended.1 in
    let chain : Chain t.desk e.0.desk these = subst (λ (d : Shown). Chain t.desk d these) (sym there) s.told.chain in
    let rest = each_chain site e.0 u vs e.2 (λ n d within. answered (suc n) d (omega (arith, within))) in
    let fronts = s.told.added in
    (these ++ rest.0, join t.desk e.0.desk u.desk these rest.0 chain rest.1, map-append front_of these rest.0 ∙ (λ k. sym fronts k ++ rest.2 k))

pub calls_are_a_chain : CallsAreAChain
calls_are_a_chain site connections l l' t u done w answered = each_chain site t u w.visits w.serves answered

-- ---- at each end

each_stands : (site : Site) (t u : Tools) (vs : List Visit) → ServesEach site t u vs
    → (made : List Made) × Summary t.desk u.desk made × (map front_of made ≡ flat_map (λ (v : Visit). v.back.served.fronts.items) vs) × (u.desk.turns ≤ t.desk.turns + MAX_CALLS * length vs)
each_stands site t u [] e = (
  [],
  subst (λ (y : Tools). Summary t.desk y.desk []) (sym e) (nothing_done t.desk),
  refl,
  (let same = ap (λ (y : Tools). y.desk.turns) e in omega (arith, same)),
)
each_stands site t u (v ∷ vs) e =
    let s = e.0 in
    let first = connections_stand site MAX_MESSAGES (setting_of t v.handed.input v.handed.output) (setting_of s v.back.input v.back.output) v.back.served e.1 in
    let rest = each_stands site s u vs e.2 in (
      first.0 ++ rest.0,
      summaries_join t.desk s.desk u.desk first.0 rest.0 first.1 rest.1,
      map-append front_of first.0 rest.0 ∙ (λ k. first.2 k ++ rest.2 k),
      (let one = first.3 in let more = rest.3 in omega (arith, one, more)),
    )

pub workers_stand : WorkersStandInHistories
workers_stand site connections l l' t u done w =
    let all = each_stands site t u w.visits w.serves in
    (all.0, all.1, all.2, subst (λ (n : ℕ). u.desk.turns ≤ t.desk.turns + MAX_CALLS * n) w.count all.3)
