-- A run in which nothing fails does its work.
use Rattle.std.proofs.Common.{◌≡◌, ◌+◌, ◌≤◌, ℕ, List, [], ◌∷◌, Bool, true, false, Option, Some, None, Ok, inl, inr, length, take, refl, sym, ap, ◌∙◌, subst, arith}
use Rattle.std.proofs.lemmas.Option.{same_Some}
use Rattle.std.specs.Io.KnownBytes.{Consumes, IsAtEnd}
use Rattle.std.specs.Prelude.{◌⊎◌, IfSome, if◌then◌else◌, option_and_then}
use Rattle.account_desk.specs.FreshDesk.{fresh_desk}
use Rattle.conn_serve.proofs.Completeness.{EndsSo, all_end, end_of, taken_end}
use Rattle.conn_serve.specs.Complete.{IsUnharmed}
use Rattle.spec_batch.specs.Chain.{Shown}
use Rattle.spec_connection.specs.declared.served.ConnEnd.TheVariants as end
use Rattle.spec_connection.specs.declared.served.TheConstants.{MAX_MESSAGES}
use Rattle.spec_core.specs.declared.limits.TheConstants.{MAX_SIZE_REQUEST}
use Rattle.spec_http.specs.Messages.{Message}
use Rattle.spec_http.specs.Pipeline.{Ending, undecided, bad_head, close_asked, quota_spent}
use Rattle.spec_site.specs.Configuration.{Site}
use Rattle.io_edge.specs.Outside.{OpenerShown}
use Rattle.jmapd_run.specs.declared.status.Status.{Status}
use Rattle.jmapd_run.specs.declared.status.Status.TheVariants.{Config, Cut, Done, NoMemory, OpenFault, ReadFault, Refused, Usage, WriteFault}
use Rattle.command_line.specs.Commands.{Command, batch, listen, stdio, workload}
use Rattle.jmapd_run.proofs.Connecting.{few_calls, same_desk}
use Rattle.jmapd_run.proofs.Reading.{all_read}
use Rattle.jmapd_run.proofs.StartLemmas.{batch_start, listen_start, site_of, start_is, start_of_command, stdio_start, user_is}
use Rattle.jmapd_run.specs.Completes.{FaultlessRunsWork, GivesStatus, HasUser, IsAccepted, NothingFailed, connection_status}
use Rattle.jmapd_run.specs.Headline.{AnswersInput, Surroundings}
use Rattle.jmapd_run.specs.Runs.{BatchEnds, RunsFrom, RunsStdio, WorkloadEnds, status_of, with_desk}
use Rattle.jmapd_run.specs.Starts.{HasConfiguration, Start, batch_for, configuration_named, configuration_of, stdio_of, workers_for, workload_by}

-- ---- batch

-- what was read is all of the input, or its first bytes where a request has no more
read_of : (left left' : Option (List ℕ)) (bytes : List ℕ) → Consumes left left' bytes → length bytes ≤ MAX_SIZE_REQUEST + 1 → (length bytes ≤ MAX_SIZE_REQUEST → IsAtEnd left') → IfSome left (λ told. bytes ≡ take (MAX_SIZE_REQUEST + 1) told)
read_of None left' bytes c few whole = tt
read_of (Some told) left' bytes c few whole = all_read MAX_SIZE_REQUEST told bytes left' c few whole

module _ {x x' : Surroundings} where
  answered : {site : Site} {user : ℕ} {text : List ℕ} (config who : Option (List ℕ)) (is_refusal : Bool) (status : Status) → AnswersInput site user x x' is_refusal text → status ≡ (if is_refusal then Refused else Done)
      → GivesStatus (batch config who) x.input.left status
  answered config who is_refusal status a is =
      (a.bytes, read_of x.input.left x'.input.left a.bytes a.consumed a.most a.whole, is ∙ ap (λ (r : Bool). if r then Refused else Done) (sym a.answer.refusal))

module _ {x x' : Surroundings} {o o' : OpenerShown} (fine : NothingFailed x x' o o') where
  batch_works : (site : Site) (user : ℕ) (config who : Option (List ℕ)) (status : Status) → BatchEnds x x' site user status → (status ≡ NoMemory) ⊎ GivesStatus (batch config who) x.input.left status
  batch_works site user config who Done h = inr (answered config who false Done h.1 refl)
  batch_works site user config who Refused h = inr (answered config who true Refused h.1 refl)
  batch_works site user config who NoMemory h = inl refl
  batch_works site user config who ReadFault h = absurd (fine.read h.0)
  batch_works site user config who WriteFault h = absurd (fine.wrote h.0)
  batch_works site user config who Cut h = absurd h
  batch_works site user config who Usage h = absurd h
  batch_works site user config who (Config f i) h = absurd h
  batch_works site user config who OpenFault h = absurd h

-- ---- workload

module _ {x x' : Surroundings} {o o' : OpenerShown} (fine : NothingFailed x x' o o') where
  pub workload_works : (number size : ℕ) (status : Status) → WorkloadEnds x.output x'.output number size status → (status ≡ NoMemory) ⊎ (status ≡ Done)
  workload_works number size Done h = inr refl
  workload_works number size NoMemory h = inl refl
  workload_works number size WriteFault h = absurd (fine.wrote h.0)
  workload_works number size Refused h = absurd h
  workload_works number size ReadFault h = absurd h
  workload_works number size Cut h = absurd h
  workload_works number size Usage h = absurd h
  workload_works number size (Config f i) h = absurd h
  workload_works number size OpenFault h = absurd h

-- ---- stdio

pub status_by : (ending : Ending) (left : List ℕ) → status_of (end_of ending left) ≡ Some (connection_status ending left)
status_by undecided [] = refl
status_by undecided (b ∷ left) = refl
status_by (bad_head status) left = refl
status_by close_asked left = refl
status_by quota_spent left = refl

module _ {x x' : Surroundings} {o o' : OpenerShown} (fine : NothingFailed x x' o o') {site : Site} {status : Status} (r : RunsStdio x x' site status) where
  pub unharmed : r.desk ≡ r.serves.desk → IsUnharmed (with_desk x (fresh_desk site)) (with_desk x' r.desk)
  unharmed same =
      let few : r.serves.desk.turns ≤ 160000 = few_calls r.serves in
      let e = ap (λ (d : Shown). d.turns) same in
      record { read = fine.read; wrote = fine.wrote; may_call = omega (arith, few, e) }

  pub wants_memory : r.served.end ≡ end.NoMemory → status ≡ NoMemory
  wants_memory e = same_Some status NoMemory (sym r.ended ∙ ap status_of e)

  status_is : {bytes : List ℕ} {ms : List Message} (e : EndsSo MAX_MESSAGES bytes ms r.served.end) → status ≡ connection_status e.ending e.left
  status_is e = same_Some status (connection_status e.ending e.left) (sym r.ended ∙ (ap status_of e.is ∙ status_by e.ending e.left))

  by_bytes : (config : List ℕ) (input : Option (List ℕ)) {bytes : List ℕ} {ms : List Message} → IfSome input (λ told. bytes ≡ told) → (r.served.end ≡ end.NoMemory) ⊎ EndsSo MAX_MESSAGES bytes ms r.served.end
      → (status ≡ NoMemory) ⊎ GivesStatus (stdio config) input status
  by_bytes config input told (inl e) = inl (wants_memory e)
  by_bytes config input {bytes} {ms} told (inr e) = inr (bytes, told, ms, e.left, e.ending, e.holds, status_is e)

  by_input : (config : List ℕ) → IsUnharmed (with_desk x (fresh_desk site)) (with_desk x' r.desk) → (input : Option (List ℕ)) → x.input.left ≡ input → (status ≡ NoMemory) ⊎ GivesStatus (stdio config) input status
  by_input config safe None is = by_bytes config None tt (taken_end r.serves safe)
  by_input config safe (Some told) is = by_bytes config (Some told) refl (all_end r.serves safe is)

  stdio_works : (config : List ℕ) → (status ≡ NoMemory) ⊎ GivesStatus (stdio config) x.input.left status
  stdio_works config = by_desk (same_desk r.serves r.ended)
    where
      by_desk : (r.served.end ≡ end.NoMemory) ⊎ (r.desk ≡ r.serves.desk) → (status ≡ NoMemory) ⊎ GivesStatus (stdio config) x.input.left status
      by_desk (inl e) = inl (wants_memory e)
      by_desk (inr same) = by_input config (unharmed same) x.input.left refl

-- ---- from the start on

-- the bytes of a configuration that is accepted, if one is named
accepted_bytes : (config : Option (List ℕ)) (o : OpenerShown) (site : Site) → IsAccepted config o site → (bytes : Option (List ℕ)) × HasConfiguration config o bytes × (site_of config bytes ≡ Some (Ok site))
accepted_bytes None o site a = (None, refl, ap (λ (x : Site). Some (Ok x)) (sym a))
accepted_bytes (Some name) o site a = (Some a.0, a.1, ap (λ r. Some r) a.2)

module _ (x x' : Surroundings) (o o' : OpenerShown) (fine : NothingFailed x x' o o') (bytes : Option (List ℕ)) (site : Site) (start : Start) (status : Status) (runs : RunsFrom x x' start status) where
  runs_from : (other : Start) → start ≡ other → RunsFrom x x' other status
  runs_from other is = subst (λ (s : Start). RunsFrom x x' s status) is runs

  works : (command : Command) → site_of (configuration_of command) bytes ≡ Some (Ok site) → HasUser site command → start_of_command bytes (Some command) ≡ start → (status ≡ NoMemory) ⊎ GivesStatus command x.input.left status
  works (batch config who) accepted has is =
      let comes : start ≡ batch_for site has.0 = sym is ∙ (ap (λ s. batch_start s who) accepted ∙ user_is site who has.0 has.1) in
      batch_works fine site has.0 config who status (runs_from (batch_for site has.0) comes).how
  works (stdio config) accepted has is =
      let comes : start ≡ stdio_of site = sym is ∙ ap stdio_start accepted in
      stdio_works fine (runs_from (stdio_of site) comes) config
  works (workload number size) accepted has is =
      let comes : start ≡ workload_by number size = sym is in
      workload_works fine number size status (runs_from (workload_by number size) comes).how
  works (listen l) accepted has is =
      let comes : start ≡ workers_for l site = sym is ∙ ap (listen_start l) accepted in
      absurd (runs_from (workers_for l site) comes)

pub faultless_runs_work : FaultlessRunsWork
faultless_runs_work x x' o o' asked status (inr h) fine command site is accepted has = inl h.0
faultless_runs_work x x' o o' asked status (inl h) fine command site is accepted has =
    let a = accepted_bytes (configuration_of command) o site accepted in
    let named : HasConfiguration (configuration_named asked) o a.0 = subst (λ (c : Option Command). HasConfiguration (option_and_then configuration_of c) o a.0) (sym is) a.1 in
    works x x' o o' fine a.0 site h.0 status h.2 command a.2 has (ap (start_of_command a.0) (sym is) ∙ start_is asked o o' a.0 named fine.opened h.0 h.1)
