-- Runs that are given the same write the same.
use Rattle.std.proofs.Common.{◌≡◌, ◌≢◌, ◌+◌, ◌++◌, ◌∷◌, [], ℕ, ℤ, List, Option, Some, Bool, true, false, inl, inr, take, refl, sym, ap, ◌∙◌, subst}
use Rattle.std.proofs.lemmas.Option.{same_Some}
use Rattle.std.specs.Io.KnownBytes.{Consumes}
use Rattle.std.specs.Prelude.{◌⊎◌, if◌then◌else◌}
use Rattle.account_desk.proofs.FreshLaws.{fresh_connections_determined, fresh_replies_determined}
use Rattle.account_desk.specs.Determined.{RepliesAlone, ServesAlone}
use Rattle.spec_time.specs.Moments.{clamped}
use Rattle.spec_batch.specs.Reply.{asked_in}
use Rattle.spec_core.specs.declared.limits.TheConstants.{MAX_SIZE_REQUEST}
use Rattle.spec_json.specs.Data.{Data}
use Rattle.account_desk.specs.FreshDesk.{IsSole, fresh_desk}
use Rattle.account_desk.specs.SoleDesk.{fresh_account}
use Rattle.cal_model.specs.Answer.{added, answer}
use Rattle.command_line.specs.Commands.{Command}
use Rattle.jmapd_run.specs.Headline.{AnswersInput, IsAnswer, IsWorkText, Surroundings}
use Rattle.spec_connection.specs.Serving.{refusal_text}
use Rattle.spec_connection.specs.Answered.{Ticked}
use Rattle.spec_connection.specs.Exchanges.{all_bytes, all_moments, messages_of}
use Rattle.spec_json.specs.Json.{text_of}
use Rattle.io_edge.specs.Outside.{Grows, OpenerShown, Ticks}
use Rattle.spec_site.specs.Configuration.{Site, built_in, user_at}
use Rattle.workload.proofs.Outputs.{one_output}
use Rattle.spec_connection.specs.declared.served.ConnEnd.{ConnEnd}
use Rattle.spec_connection.specs.declared.served.ConnEnd.TheVariants as end
use Rattle.spec_connection.specs.declared.served.TheConstants.{MAX_MESSAGES}
use Rattle.spec_site.specs.declared.field.Field.{Field}
use Rattle.jmapd_run.specs.declared.status.Status.{Status}
use Rattle.jmapd_run.specs.declared.status.Status.TheVariants.{Config, Cut, Done, NoMemory, OpenFault, ReadFault, Refused, Usage, WriteFault}
use Rattle.conn_serve.proofs.Completeness.{How, faultless_determined, never_spent}
use Rattle.conn_serve.specs.Complete.{IsFaultless, IsUnharmed}
use Rattle.jmapd_run.proofs.Completing.{unharmed, wants_memory, workload_works}
use Rattle.jmapd_run.proofs.Connecting.{same_desk}
use Rattle.jmapd_run.proofs.Reading.{all_read, first_told}
use Rattle.jmapd_run.proofs.StartLemmas.{start_is}
use Rattle.jmapd_run.specs.Completes.{NothingFailed}
use Rattle.jmapd_run.specs.Determined.{IsFinished, OutputsAreDetermined}
use Rattle.jmapd_run.specs.Runs.{BatchEnds, Runs, RunsFrom, RunsStdio, WorkloadEnds, status_of, with_desk}
use Rattle.jmapd_run.specs.Starts.{Start, batch_for, misconfigured, not_opened, stdio_of, usage, workers_for, workload_by}

-- a sink that was empty and tells this text got just that
wrote_all : (held held' : Option (List ℕ)) (text piece : List ℕ) → held ≡ Some [] → held' ≡ Some text → Grows held held' piece → text ≡ piece
wrote_all held held' text piece empty written g = subst (λ (y : Option (List ℕ) × Option (List ℕ)). Grows y.0 y.1 piece) (λ i. (empty i, written i)) g

-- the input has these bytes, the output is empty and then has this text, and the clock is to give these moments
record Known (x x' : Surroundings) (input : List ℕ) (clock : ℕ → ℤ) (text : List ℕ) : Type 0 where
  pub given : x.input.left ≡ Some input
  pub empty : x.output.holds ≡ Some []
  pub told : x.clock ≡ Some clock
  pub written : x'.output.holds ≡ Some text

-- ---- batch

abbrev ended : Bool → Status
ended is_refusal = if is_refusal then Refused else Done

record IsBatchEnd (site : Site) (user : ℕ) (input : List ℕ) (clock : ℕ → ℤ) (status : Status) (text : List ℕ) : Type 0 where
  pub before : Surroundings
  pub after : Surroundings
  pub known : Known before after input clock text
  pub is_refusal : Bool
  pub answers : AnswersInput site user before after is_refusal text
  pub is : status ≡ ended is_refusal

module _ (site : Site) (user : ℕ) (input : List ℕ) (clock : ℕ → ℤ) where
  answer_end : (x x' : Surroundings) (text : List ℕ) → Known x x' input clock text → (is_refusal : Bool) (piece : List ℕ) → AnswersInput site user x x' is_refusal piece → Grows x.output.holds x'.output.holds piece
      → IsBatchEnd site user input clock (ended is_refusal) text
  answer_end x x' text k is_refusal piece a grows =
      let all = wrote_all x.output.holds x'.output.holds text piece k.empty k.written grows in
      record { before = x; after = x'; known = k; is_refusal = is_refusal; answers = subst (AnswersInput site user x x' is_refusal) (sym all) a; is = refl }

  batch_end : (x x' : Surroundings) (o o' : OpenerShown) (status : Status) (text : List ℕ) → Known x x' input clock text → NothingFailed x x' o o' → BatchEnds x x' site user status → status ≢ NoMemory → IsBatchEnd site user input clock status text
  batch_end x x' o o' Done text k fine r m = answer_end x x' text k false r.0 r.1 r.2
  batch_end x x' o o' Refused text k fine r m = answer_end x x' text k true r.0 r.1 r.2
  batch_end x x' o o' ReadFault text k fine r m = absurd (fine.read r.0)
  batch_end x x' o o' WriteFault text k fine r m = absurd (fine.wrote r.0)
  batch_end x x' o o' NoMemory text k fine r m = absurd (m refl)
  batch_end x x' o o' Usage text k fine r m = absurd r
  batch_end x x' o o' (Config f i) text k fine r m = absurd r
  batch_end x x' o o' OpenFault text k fine r m = absurd r
  batch_end x x' o o' Cut text k fine r m = absurd r

  abbrev bytes_read : List ℕ
  bytes_read = take (MAX_SIZE_REQUEST + 1) input

  alone : {moment : ℤ} {bytes text : List ℕ} {is_refusal : Bool} (a : IsAnswer site user moment bytes is_refusal text) → RepliesAlone (fresh_desk site) (user_at site user) moment (asked_in bytes) a.reply
  alone a = record { made = a.made; desk = a.desk; chain = a.chain; sole = a.sole; replied = a.replied }

  same_answers : {moment : ℤ} {bytes text other : List ℕ} {p q : Bool} → IsAnswer site user moment bytes p text → IsAnswer site user moment bytes q other → (p ≡ q) × (text ≡ other)
  same_answers {moment} {bytes} a b =
      let reply : a.reply ≡ b.reply = fresh_replies_determined site (user_at site user) moment (asked_in bytes) a.reply b.reply (alone a) (alone b) in
      (sym a.refusal ∙ b.refusal, a.written ∙ (ap (λ (d : Data). text_of d ++ 10 ∷ []) reply ∙ sym b.written))

  settled : {status : Status} {text : List ℕ} (e : IsBatchEnd site user input clock status text) → IsAnswer site user (clamped (clock 0)) bytes_read e.is_refusal text
  settled {status} {text} e =
      let a = e.answers in
      let consumed : Consumes (Some input) e.after.input.left a.bytes = subst (λ (o : Option (List ℕ)). Consumes o e.after.input.left a.bytes) e.known.given a.consumed in
      let ticked : Ticks (Some clock) e.after.clock a.moment = subst (λ (c : Option (ℕ → ℤ)). Ticks c e.after.clock a.moment) e.known.told a.ticked in
      let bytes_are = all_read MAX_SIZE_REQUEST input a.bytes e.after.input.left consumed a.most a.whole in
      let moment_is = first_told clock e.after.clock a.moment ticked in
      subst (λ (y : ℤ × List ℕ). IsAnswer site user (clamped y.0) y.1 e.is_refusal text) (λ i. (moment_is i, bytes_are i)) a.answer

  same_batches : (s t : Status) (text other : List ℕ) → IsBatchEnd site user input clock s text → IsBatchEnd site user input clock t other → (s ≡ t) × (text ≡ other)
  same_batches s t text other a b =
      let same = same_answers (settled a) (settled b) in
      (a.is ∙ (ap ended same.0 ∙ sym b.is), same.1)

-- ---- stdio

-- what stands behind the responses
abbrev closing : ConnEnd → List ℕ
closing (end.BadHead status) = refusal_text status
closing _ = []

module _ (site : Site) (input : List ℕ) (clock : ℕ → ℤ) {x x' : Surroundings} {o o' : OpenerShown} {text : List ℕ} {status : Status}
    (k : Known x x' input clock text) (fine : NothingFailed x x' o o') (r : RunsStdio x x' site status) (m : status ≢ NoMemory) where
  had_memory : r.served.end ≢ end.NoMemory
  had_memory e = m (wants_memory fine r e)

  same : r.desk ≡ r.serves.desk
  same = by_desk (same_desk r.serves r.ended)
    where
      by_desk : (r.served.end ≡ end.NoMemory) ⊎ (r.desk ≡ r.serves.desk) → r.desk ≡ r.serves.desk
      by_desk (inl e) = absurd (had_memory e)
      by_desk (inr is) = is

  safe : IsUnharmed (with_desk x (fresh_desk site)) (with_desk x' r.desk)
  safe = unharmed fine r same

  faultless : IsFaultless MAX_MESSAGES input (messages_of r.serves.exchanges) r.served.end
  faultless = record {
    site = site;
    before = with_desk x (fresh_desk site);
    after = with_desk x' r.desk;
    served = r.served;
    given = k.given;
    serves = r.serves;
    answered = refl;
    ended = refl;
    unharmed = safe;
    had_memory = had_memory;
  }

  serves_alone : ServesAlone (fresh_desk site) site MAX_MESSAGES clock r.serves.exchanges
  serves_alone = record {
    fit = r.serves.fit;
    unwritten = r.serves.unwritten;
    moments = x'.clock;
    ticked = subst (λ (c : Option (ℕ → ℤ)). Ticked c x'.clock (all_moments (r.serves.exchanges ++ r.serves.unwritten))) k.told r.serves.told.ticked;
    desk = r.serves.desk;
    chain = r.serves.told.chain;
    sole = subst IsSole same r.sole;
  }

  tail_is : (e : ConnEnd) → How r.serves e → e ≢ end.NoMemory → r.serves.tail ≡ closing e
  tail_is end.Closed how h = how.0.closing
  tail_is end.Truncated how h = how.0.closing
  tail_is end.CloseAsked how h = how.closing
  tail_is (end.BadHead status) how h = how.closing
  tail_is end.Quota how h = how.closing
  tail_is end.ReadFault how h = absurd (fine.read how.1)
  tail_is end.WriteFault how h = absurd (fine.wrote how.2)
  tail_is end.PassSpent how h = absurd (never_spent safe how.0)
  tail_is end.NoMemory how h = absurd (h refl)

  text_is : text ≡ all_bytes r.serves.exchanges ++ closing r.served.end
  text_is = wrote_all x.output.holds x'.output.holds text _ k.empty k.written r.serves.written ∙ ap (λ (l : List ℕ). all_bytes r.serves.exchanges ++ l) (tail_is r.served.end r.serves.how had_memory)

module _ (site : Site) (input : List ℕ) (clock : ℕ → ℤ) where
  same_connections : {x x' y y' : Surroundings} {o o' p p' : OpenerShown} {text other : List ℕ} {s t : Status} → Known x x' input clock text → Known y y' input clock other → NothingFailed x x' o o' → NothingFailed y y' p p'
      → RunsStdio x x' site s → RunsStdio y y' site t → s ≢ NoMemory → t ≢ NoMemory → (s ≡ t) × (text ≡ other)
  same_connections {s = s} {t = t} k l fine well a b m n =
      let same = faultless_determined MAX_MESSAGES input _ _ a.served.end b.served.end (faultless site input clock k fine a m) (faultless site input clock l well b n) in
      let bytes = fresh_connections_determined site MAX_MESSAGES clock a.serves.exchanges b.serves.exchanges (serves_alone site input clock k fine a m) (serves_alone site input clock l well b n) same.0 in (
        same_Some s t (sym a.ended ∙ (ap status_of same.1 ∙ b.ended)),
        text_is site input clock k fine a m ∙ ((λ i. bytes i ++ closing (same.1 i)) ∙ sym (text_is site input clock l well b n)),
      )

-- ---- workload

module _ (number size : ℕ) where
  work_text : {x x' : Surroundings} {o o' : OpenerShown} {input : List ℕ} {clock : ℕ → ℤ} {text : List ℕ} → Known x x' input clock text → NothingFailed x x' o o' → (status : Status) → status ≡ Done → WorkloadEnds x.output x'.output number size status → IsWorkText number size text
  work_text {x} {x'} {text = text} k fine status is h =
      let done : WorkloadEnds x.output x'.output number size Done = subst (WorkloadEnds x.output x'.output number size) is h in
      subst (IsWorkText number size) (sym (wrote_all x.output.holds x'.output.holds text done.0 k.empty k.written done.2)) done.1

  done_by : {x x' : Surroundings} {o o' : OpenerShown} → NothingFailed x x' o o' → (status : Status) → WorkloadEnds x.output x'.output number size status → status ≢ NoMemory → status ≡ Done
  done_by fine status h m = either_way (workload_works fine number size status h)
    where
      either_way : (status ≡ NoMemory) ⊎ (status ≡ Done) → status ≡ Done
      either_way (inl e) = absurd (m e)
      either_way (inr e) = e

  same_workloads : {x x' y y' : Surroundings} {o o' p p' : OpenerShown} {input : List ℕ} {clock : ℕ → ℤ} {text other : List ℕ} {s t : Status} → Known x x' input clock text → Known y y' input clock other → NothingFailed x x' o o' → NothingFailed y y' p p'
      → WorkloadEnds x.output x'.output number size s → WorkloadEnds y.output y'.output number size t → s ≢ NoMemory → t ≢ NoMemory → (s ≡ t) × (text ≡ other)
  same_workloads {text = text} {other = other} {s = s} {t = t} k l fine well a b m n =
      let one = done_by fine s a m in
      let two = done_by well t b n in (
        one ∙ sym two,
        one_output answer added (fresh_account built_in 0).0 (fresh_account built_in 0).1 number size text other (work_text k fine s one a) (work_text l well t two b),
      )

-- ---- the whole

module _ (x x' : Surroundings) where
  no_usage : (status : Status) → RunsFrom x x' usage status → (status ≡ Usage) × (x' ≡ x)
  no_usage Usage h = (refl, h)
  no_usage Done h = absurd h
  no_usage Refused h = absurd h
  no_usage (Config f i) h = absurd h
  no_usage ReadFault h = absurd h
  no_usage WriteFault h = absurd h
  no_usage OpenFault h = absurd h
  no_usage NoMemory h = absurd h
  no_usage Cut h = absurd h

  no_opening : (status : Status) → RunsFrom x x' not_opened status → (status ≡ OpenFault) × (x' ≡ x)
  no_opening OpenFault h = (refl, h)
  no_opening Done h = absurd h
  no_opening Refused h = absurd h
  no_opening (Config f i) h = absurd h
  no_opening ReadFault h = absurd h
  no_opening WriteFault h = absurd h
  no_opening Usage h = absurd h
  no_opening NoMemory h = absurd h
  no_opening Cut h = absurd h

  no_configuration : (field : Field) (index : ℕ) (status : Status) → RunsFrom x x' (misconfigured field index) status → (status ≡ Config field index) × (x' ≡ x)
  no_configuration field index (Config f i) h = ((λ k. Config (h.0 k) (h.1 k)), h.2)
  no_configuration field index Done h = absurd h
  no_configuration field index Refused h = absurd h
  no_configuration field index OpenFault h = absurd h
  no_configuration field index ReadFault h = absurd h
  no_configuration field index WriteFault h = absurd h
  no_configuration field index Usage h = absurd h
  no_configuration field index NoMemory h = absurd h
  no_configuration field index Cut h = absurd h

nothing_written : {x x' : Surroundings} {input : List ℕ} {clock : ℕ → ℤ} {text : List ℕ} → Known x x' input clock text → x' ≡ x → text ≡ []
nothing_written {text = text} k same = same_Some text [] (sym k.written ∙ (ap (λ (y : Surroundings). y.output.holds) same ∙ k.empty))

unbegun : {x x' y y' : Surroundings} {input : List ℕ} {clock : ℕ → ℤ} {text other : List ℕ} {s t u : Status} → Known x x' input clock text → Known y y' input clock other
    → (s ≡ u) × (x' ≡ x) → (t ≡ u) × (y' ≡ y) → (s ≡ t) × (text ≡ other)
unbegun k l a b = (a.0 ∙ sym b.0, nothing_written k a.1 ∙ sym (nothing_written l b.1))

known : {asked : Option Command} {configuration : Option (List ℕ)} {input : List ℕ} {clock : ℕ → ℤ} {status : Status} {text : List ℕ} (a : IsFinished asked configuration input clock status text) → Known a.before a.after input clock text
known a = record { given = a.given; empty = a.empty; told = a.told; written = a.written }

module _ {asked : Option Command} {configuration : Option (List ℕ)} {input : List ℕ} {clock : ℕ → ℤ} {s t : Status} {text other : List ℕ} (a : IsFinished asked configuration input clock s text) (b : IsFinished asked configuration input clock t other) where
  same_from : (start : Start) → RunsFrom a.before a.after start s → RunsFrom b.before b.after start t → (s ≡ t) × (text ≡ other)
  same_from usage h g = unbegun (known a) (known b) (no_usage a.before a.after s h) (no_usage b.before b.after t g)
  same_from not_opened h g = unbegun (known a) (known b) (no_opening a.before a.after s h) (no_opening b.before b.after t g)
  same_from (misconfigured field index) h g = unbegun (known a) (known b) (no_configuration a.before a.after field index s h) (no_configuration b.before b.after field index t g)
  same_from (batch_for site user) h g = same_batches site user input clock s t text other
      (batch_end site user input clock a.before a.after a.opener a.opener' s text (known a) a.nothing_failed h.how a.had_memory) (batch_end site user input clock b.before b.after b.opener b.opener' t other (known b) b.nothing_failed g.how b.had_memory)
  same_from (stdio_of site) h g = same_connections site input clock (known a) (known b) a.nothing_failed b.nothing_failed h g a.had_memory b.had_memory
  same_from (workload_by number size) h g = same_workloads number size (known a) (known b) a.nothing_failed b.nothing_failed h.how g.how a.had_memory b.had_memory
  same_from (workers_for l site) h g = absurd h

  pub outputs_same : (s ≡ t) × (text ≡ other)
  outputs_same = by_runs a.runs b.runs
    where
      by_runs : Runs a.before a.after a.opener a.opener' asked s → Runs b.before b.after b.opener b.opener' asked t → (s ≡ t) × (text ≡ other)
      by_runs (inr h) g = absurd (a.had_memory h.0)
      by_runs (inl h) (inr g) = absurd (b.had_memory g.0)
      by_runs (inl h) (inl g) =
          let one = start_is asked a.opener a.opener' configuration a.has a.nothing_failed.opened h.0 h.1 in
          let other_one = start_is asked b.opener b.opener' configuration b.has b.nothing_failed.opened g.0 g.1 in
          let same : g.0 ≡ h.0 = sym other_one ∙ one in
          same_from h.0 h.2 (subst (λ (start : Start). RunsFrom b.before b.after start t) same g.2)

pub outputs_determined : OutputsAreDetermined
outputs_determined asked configuration input clock s t text other a b = outputs_same a b
