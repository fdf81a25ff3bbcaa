-- What accounts' histories come to that workers share.
use Rattle.std.proofs.Common.{◌≡◌, ℕ, ◌<◌, ◌==◌, List, [], ◌∷◌, ◌++◌, Some, if◌then◌else◌, length, map, slice_get, sym, refl, ap, ◌∙◌, subst, arith, append_assoc, append-nil, eq-eqb, ne_eqb}
use Rattle.std.proofs.lemmas.List.{append_cancel_left, length-map}
use Rattle.std.proofs.lemmas.List.Elements.{filter-append}
use Rattle.std.proofs.lemmas.Option.{same_Some, slice_get-map, slice_get_within}
use Rattle.std.proofs.Math.Seq.{drop-append_seam}
use Rattle.std.specs.List.{AllZip}
use Rattle.std.specs.Prelude.{All, option_map}
use mathlib.Core.Logic.{dite}
use native.Mathlib.Decide.{ℕ_discrete}
use Rattle.account_lock.specs.Lock.{IsTicketLock, PassView, TicketLock}
use Rattle.listen_edge.specs.declared.job.WorkerDone.{WorkerDone}
use Rattle.listen_workers.proofs.ChainLemmas.{workers_stand}
use Rattle.listen_workers.proofs.HandLemmas.{some_at}
use Rattle.listen_workers.specs.Joined.{ArePassesOf, HistoriesAreOfCalls, IsOfCalls, ShareAccount}
use Rattle.listen_workers.specs.Posts.{AreCallsAt, AreCallsOf, EndedWorker, PostShown, WorksAt, connections, fronts_at, sockets}
use Rattle.listen_workers.specs.SocketWork.{socket_tools}
use Rattle.listen_workers.specs.Working.{Tools}
use Rattle.spec_batch.proofs.Chains.{summaries_join}
use Rattle.spec_batch.specs.Chain.{Made, Rules, Shown, Summary, SummaryOn, on}
use Rattle.spec_history.specs.Base.{Base}
use Rattle.spec_history.specs.Signed.{written_by}
use Rattle.spec_history.specs.declared.entry.Entry.{Entry}
use Rattle.spec_site.specs.Configuration.{Site}
use Rattle.spec_sockets.specs.Turns.{made_in_turns}
use Rattle.ws_serve.proofs.ChainLemmas.{hosts_stand}
use Rattle.ws_serve.specs.declared.host.HostEnd.TheVariants as end

-- ---- what others added behind what a desk knows

abbrev with_more : Shown → (ℕ → List Entry) → Shown
with_more t more = record t { seen = λ j. t.seen j ++ more j }

others_added : (t : Shown) (more : ℕ → List Entry) → ((j : ℕ) → written_by (t.author j) (more j) ≡ []) → Summary t (with_more t more) []
others_added t more others = record {
  accounts = refl;
  rules = refl;
  base = λ j. refl;
  author = λ j. refl;
  each = λ j. record { grows = (more j, refl); stand = omega arith; own = ap (written_by (t.author j)) (drop-append_seam (t.seen j) (more j)) ∙ others j };
}

abbrev only_at : ℕ → List Entry → ℕ → List Entry
only_at k rest j = if j == k then rest else []

there_only : (k : ℕ) (rest : List Entry) → only_at k rest k ≡ rest
there_only k rest = rw (eq-eqb k k refl) refl

by_others : (t : Shown) (k : ℕ) (rest : List Entry) → written_by (t.author k) rest ≡ [] → (j : ℕ) → written_by (t.author j) (only_at k rest j) ≡ []
by_others t k rest others j = dite (ℕ_discrete j k)
    (λ e. rw (eq-eqb j k e) (subst (λ (i : ℕ). written_by (t.author i) rest ≡ []) (sym e) others))
    (λ ne. rw (ne_eqb j k ne) refl)

-- the calls on account k, in the history that goes on from what the desk knows with entries of others
in_history : (s t : Shown) (made : List Made) → Summary s t made → (k : ℕ) (rest : List Entry) → written_by (t.author k) rest ≡ []
    → SummaryOn s.rules (s.base k) (s.author k) (s.seen k) (t.seen k ++ rest) (s.last k) (t.last k) (on k made)
in_history s t made m k rest others =
    let more = only_at k rest in
    let on_k = (summaries_join s t (with_more t more) made [] m (others_added t more (by_others t k rest others))).each k in
    coe 0 1 (i. SummaryOn s.rules (s.base k) (s.author k) (s.seen k) (t.seen k ++ there_only k rest i) (s.last k) (t.last k) (on k (append-nil made i))) on_k

-- ---- the calls of a worker

module _ (site : Site) (most : ℕ) where
  stand_at : (p p' : PostShown) (t u : Tools) (done : WorkerDone) (w : WorksAt site most p p' t u done) → (made : List Made) × Summary t.desk u.desk made × AreCallsAt p (fronts_at site most p p' t u done w) made
  stand_at (connections l) (connections l') t u done w = (let s = workers_stand site most l l' t u done w in (s.0, s.1, s.2))
  stand_at (sockets a) (sockets a') t u done w = (let s = hosts_stand site done.served a a' (socket_tools t) (socket_tools u) end.All w.hosts in (made_in_turns s.0, s.1, (s.0, refl, s.2)))
  stand_at (connections l) (sockets a') t u done w = absurd w
  stand_at (sockets a) (connections l') t u done w = absurd w

module _ {site : Site} {most : ℕ} where
  abbrev stand : (w : EndedWorker site most) → (made : List Made) × Summary w.tools.desk w.tools'.desk made × AreCallsOf w made
  stand w = stand_at site most w.post w.post' w.tools w.tools' w.done w.works

  abbrev calls_of : EndedWorker site most → List Made
  calls_of w = (stand w).0

  calls_stand : (w : EndedWorker site most) → Summary w.tools.desk w.tools'.desk (calls_of w)
  calls_stand w = (stand w).1

  calls_are : (ws : List (EndedWorker site most)) → AllZip (λ (w : EndedWorker site most) (made : List Made). AreCallsOf w made) ws (map calls_of ws)
  calls_are [] = tt
  calls_are (w ∷ ws) = ((stand w).2, calls_are ws)

-- ---- one lock

no_more : (xs ys : List Entry) → xs ≡ xs ++ ys → ys ≡ []
no_more xs ys e = append_cancel_left xs ys [] (sym e ∙ sym (append-nil xs))

module _ {site : Site} {most : ℕ} (workers : List (EndedWorker site most)) (k : ℕ) (rules : Rules) (base : Base) (opened : List Entry) {B : Type 0} (entries : B → List Entry) (base_of : B → Base)
    (l : TicketLock B) (lock : IsTicketLock entries base_of opened base l) (share : ShareAccount workers k rules base opened) (passes : ArePassesOf workers k l.views) where
  -- behind what a pass has seen come entries of others
  pass_missed : (v : PassView) (n : ℕ) → slice_get l.views n ≡ Some v → (rest : List Entry) × (lock.history ≡ v.seen ++ rest) × (written_by v.number rest ≡ [])
  pass_missed v n at =
      let s = lock.seen n v at in
      let rest = s.3.0 in
      let all : opened ++ lock.added ≡ opened ++ (s.0 ++ rest) = sym lock.begins ∙ (s.3.1 ∙ (ap (λ (es : List Entry). es ++ rest) s.1 ∙ append_assoc opened s.0 rest)) in
      let added : lock.added ≡ s.0 ++ rest = append_cancel_left opened lock.added (s.0 ++ rest) all in
      let own : written_by v.number s.0 ≡ written_by v.number s.0 ++ written_by v.number rest =
      s.2 ∙ (sym (lock.mine n v at) ∙ (ap (written_by v.number) added ∙ filter-append (λ (e : Entry). e.author == v.number) s.0 rest)) in
      (rest, s.3.1, no_more (written_by v.number s.0) (written_by v.number rest) own)

  of_worker : (n : ℕ) (w : EndedWorker site most) → slice_get workers n ≡ Some w → (last : ℕ) × SummaryOn rules base n opened lock.history 0 last (on k (calls_of w))
  of_worker n w at =
      let s = w.tools.desk in
      let t = w.tools'.desk in
      let start = share n w at in
      let count = passes.0 in
      let within = slice_get_within workers n w at in
      let view = some_at l.views n (omega (arith, within, count)) in
      let same = passes.1 n view.0 w view.1 at in
      let missed = pass_missed view.0 n view.1 in
      let m = calls_stand w in
      let signs : t.author k ≡ view.0.number = m.author k ∙ (start.3 ∙ sym same.0) in
      let others : written_by (t.author k) missed.0 ≡ [] = subst (λ (a : ℕ). written_by a missed.0 ≡ []) (sym signs) missed.2 in
      let whole : t.seen k ++ missed.0 ≡ lock.history = ap (λ (es : List Entry). es ++ missed.0) (sym same.1) ∙ sym missed.1 in
      (t.last k, coe 0 1 (i. SummaryOn (start.0 i) (start.1 i) (start.3 i) (start.2 i) (whole i) (start.4 i) (t.last k) (on k (calls_of w))) (in_history s t (calls_of w) m k missed.0 others))

  abbrev calls : List (List Made)
  calls = map calls_of workers

  of_calls : IsOfCalls rules base opened lock.history (map (on k) calls)
  of_calls = record {
    added = lock.added;
    begins = lock.begins;
    signed = signed;
    each = each;
  }
    where
      many : length (map (on k) calls) ≡ length workers
      many = length-map calls (on k) ∙ length-map workers calls_of

      signed : All (λ (e : Entry). e.author < length (map (on k) calls)) lock.added
      signed i d within =
          let by = lock.signed i d within in
          let there = slice_get_within l.views by.0 by.1 by.2 in
          let count = passes.0 in
          let long = many in
          let w = some_at workers by.0 (omega (arith, there, count)) in
          let number = (passes.1 by.0 by.1 w.0 by.2 w.1).0 in
          let author = by.3 in
          omega (arith, there, count, long, number, author)

      each : (n : ℕ) (made : List Made) → slice_get (map (on k) calls) n ≡ Some made → (last : ℕ) × SummaryOn rules base n opened lock.history 0 last made
      each n made at =
          let within = slice_get_within (map (on k) calls) n made at in
          let long = many in
          let w = some_at workers n (omega (arith, within, long)) in
          let here : Some made ≡ Some (on k (calls_of w.0)) =
          sym at ∙ (slice_get-map (on k) calls n ∙ (ap (option_map (on k)) (slice_get-map calls_of workers n) ∙ ap (λ o. option_map (on k) (option_map calls_of o)) w.1)) in
          subst (λ (ms : List Made). (last : ℕ) × SummaryOn rules base n opened lock.history 0 last ms) (sym (same_Some made (on k (calls_of w.0)) here)) (of_worker n w.0 w.1)

pub histories_are_of_calls : {B : Type 0} (entries : B → List Entry) (base_of : B → Base) → HistoriesAreOfCalls entries base_of
histories_are_of_calls entries base_of site most workers =
    (map calls_of workers, calls_are workers, λ k rules base opened l lock share passes. of_calls workers k rules base opened entries base_of l lock share passes)
