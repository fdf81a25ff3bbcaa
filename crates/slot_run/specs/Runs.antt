-- What a look for a slot does, whatever bytes come and whichever calls of the opener, the input, the output and the keeper fail.
use Rattle.std.specs.Prelude.{◌≡◌, ◌⊎◌, ◌≤◌, ◌+◌, ℕ, List, Bool, true, false, length}
use Rattle.std.specs.Io.KnownBytes.{Consumes, IsAtEnd}
use Rattle.command_line.specs.KeptWords.{KeptCommand}
use Rattle.io_edge.specs.Outside.{ConsumesAtMost, Grows, GrowsByPrefix, OpenerShown, Rose, SinkShown, SourceShown}
use Rattle.jmapd_run.specs.declared.kept_status.KeptStatus.{KeptStatus}
use Rattle.jmapd_run.specs.declared.kept_status.KeptStatus.TheVariants.{Plain}
use Rattle.jmapd_run.specs.declared.status.Status.{Status}
use Rattle.jmapd_run.specs.declared.status.Status.TheVariants.{Done, NoMemory, ReadFault, Refused, WriteFault}
use Rattle.kept_run.specs.Runs.{KeptSetting, KeptStart, NotBegun}
use Rattle.slot_run.specs.Answers.{look_answer}
use Rattle.slot_run.specs.Errors.{is_refusal}
use Rattle.slot_run.specs.Texts.{answer_text}
use Rattle.spec_core.specs.declared.limits.TheConstants.{MAX_SIZE_REQUEST}
use Rattle.spec_core.specs.declared.user.Grant.{Grant}
use Rattle.spec_history.specs.Base.{Base}
use Rattle.spec_history.specs.declared.entry.Entry.{Entry}
use Rattle.spec_site.specs.Configuration.{user_at}

-- the input was read to its end, or to one byte past the most of a request
pub record TakesInput (s s' : SourceShown) (bytes : List ℕ) : Type 0 where
  pub consumed : Consumes s.left s'.left bytes
  pub most : length bytes ≤ MAX_SIZE_REQUEST + 1
  pub whole : length bytes ≤ MAX_SIZE_REQUEST → IsAtEnd s'.left

module _ (grants : List Grant) (accounts : List (Base × List Entry)) (s s' : SourceShown) (k k' : SinkShown) where
  -- these bytes were read, and their answer is a refusal or isn't
  abbrev pub Answers : Bool → List ℕ → Type 0
  Answers refused bytes = TakesInput s s' bytes × (is_refusal (look_answer grants accounts bytes) ≡ refused)

  -- At `Done` and `Refused` the output grew by the whole text of the answer, at `WriteFault` by a prefix of it, and else it is untouched.
  abbrev pub SlotEnds : Status → Type 0
  SlotEnds Done = (bytes : List ℕ) × Answers false bytes × Grows k.holds k'.holds (answer_text (look_answer grants accounts bytes))
  SlotEnds Refused = (bytes : List ℕ) × Answers true bytes × Grows k.holds k'.holds (answer_text (look_answer grants accounts bytes))
  SlotEnds ReadFault = Rose s.faults s'.faults × ConsumesAtMost s.left s'.left (MAX_SIZE_REQUEST + 1) × (k' ≡ k)
  SlotEnds WriteFault = Rose k.faults k'.faults × (bytes : List ℕ) × TakesInput s s' bytes × GrowsByPrefix k.holds k'.holds (answer_text (look_answer grants accounts bytes))
  SlotEnds NoMemory = ConsumesAtMost s.left s'.left (MAX_SIZE_REQUEST + 1) × (k' ≡ k)
  SlotEnds _ = ⊥

  -- what is asked for was read and answered
  pub record AnswersSlot (status : Status) : Type 0 where
    pub input_later : s.faults ≤ s'.faults
    pub output_later : k.faults ≤ k'.faults
    pub how : SlotEnds status

-- neither the input nor the output was touched, and the texts of the keeper are those that it had
pub record NotAnswered (x x' : KeptSetting) : Type 0 where
  pub source : x'.source ≡ x.source
  pub sink : x'.sink ≡ x.sink
  pub told : x'.keeper.told ≡ x.keeper.told
  pub keeper_later : x.keeper.faults ≤ x'.keeper.faults
  pub damages_later : x.keeper.damages ≤ x'.keeper.damages

-- The look began: the user's grants are those of the configuration, and the accounts go on from what the keeper had. The keeper is left so.
pub record LooksFor (asked : KeptCommand) (o o' : OpenerShown) (x x' : KeptSetting) (status : KeptStatus) : Type 0 where
  pub setting : KeptSetting
  pub start : KeptStart asked o o' x setting
  pub keeper : x'.keeper ≡ setting.keeper
  pub plain : Status
  pub is : status ≡ Plain plain
  pub answers : AnswersSlot (user_at start.site start.user).grants start.accounts x.source x'.source x.sink x'.sink plain

-- A look for a slot didn't begin, by the causes of a kept run; or it began, and what is asked for was answered.
abbrev pub RunsSlot : KeptCommand → OpenerShown → OpenerShown → KeptSetting → KeptSetting → KeptStatus → Type 0
RunsSlot asked o o' x x' status = (NotAnswered x x' × NotBegun asked o o' x x' status) ⊎ LooksFor asked o o' x x' status
