-- Looks for a slot in which nothing fails.
use Rattle.std.proofs.Common.{◌≡◌, ◌⊎◌, ℕ, List, Some, None, Ok, Err, inl, inr, refl, sym, subst}
use Rattle.command_line.specs.KeptWords.{KeptCommand}
use Rattle.io_edge.specs.Outside.{OpenerShown, Rose, SinkShown, SourceShown}
use Rattle.jmapd_run.specs.Completes.{IsAccepted}
use Rattle.jmapd_run.specs.Starts.{IsLoaded, IsUser}
use Rattle.jmapd_run.specs.declared.kept_status.KeptStatus.{KeptStatus}
use Rattle.jmapd_run.specs.declared.kept_status.KeptStatus.TheVariants.{BadJournal, Damaged, ForeignJournal, KeepFault, Plain}
use Rattle.jmapd_run.specs.declared.status.Status.{Status}
use Rattle.jmapd_run.specs.declared.status.Status.TheVariants.{Config, Cut, Done, NoMemory, OpenFault, ReadFault, Refused, Usage, WriteFault}
use Rattle.kept_run.proofs.Faultless.{is_opened, loaded_is, loaded_site, named_user, never_bad, never_foreign, never_damaged}
use Rattle.kept_run.specs.Completes.{IsFaultFree, TellsGoodLists}
use Rattle.kept_run.specs.Runs.{KeptSetting, NotBegun}
use Rattle.slot_run.specs.Completes.{FaultlessLooksAnswer}
use Rattle.slot_run.specs.Runs.{SlotEnds}
use Rattle.spec_core.specs.declared.user.Grant.{Grant}
use Rattle.spec_history.specs.Base.{Base}
use Rattle.spec_history.specs.declared.entry.Entry.{Entry}
use Rattle.spec_site.specs.Configuration.{Site, user_named}

abbrev Answered : KeptStatus → Type 0
Answered status = (status ≡ Plain Done) ⊎ (status ≡ Plain Refused) ⊎ (status ≡ Plain NoMemory)

wanted : (status : KeptStatus) → status ≡ Plain NoMemory → Answered status
wanted status e = inr (inr e)

module _ (asked : KeptCommand) (o o' : OpenerShown) (x x' : KeptSetting) (fine : IsFaultFree o o' x x') (site : Site) (user : ℕ) (accepted : IsAccepted (Some asked.config) o site) (is_user : IsUser site asked.user user)
    (good : TellsGoodLists site x.keeper.told) where
  good_for : (other : Site) → IsLoaded o o' asked.config (Ok other) → TellsGoodLists other x.keeper.told
  good_for other l = subst (λ (s : Site). TellsGoodLists s x.keeper.told) (sym (loaded_site o o' asked.config site accepted other l)) good

  begins : (s : KeptStatus) → NotBegun asked o o' x x' s → s ≡ Plain NoMemory
  begins (Plain Usage) how =
      let other = how.1 in
      absurd (named_user site asked.user user how.0 is_user how.2 (subst (λ (s : Site). user_named s how.0 ≡ None) (loaded_site o o' asked.config site accepted other how.3) how.4))
  begins (Plain (Config f i)) how = absurd (let e : Err (record { field = f; index = i }) ≡ Ok site = loaded_is o o' asked.config site accepted (Err (record { field = f; index = i })) how in cc)
  begins (Plain OpenFault) how = absurd (is_opened o o' asked.config site accepted fine.opened how)
  begins (Plain NoMemory) how = refl
  begins (Plain Done) how = absurd how
  begins (Plain Cut) how = absurd how
  begins (Plain Refused) how = absurd how
  begins (Plain ReadFault) how = absurd how
  begins (Plain WriteFault) how = absurd how
  begins KeepFault how = absurd (fine.kept how)
  begins (Damaged account place text) how = absurd (never_damaged how.0 x.keeper.told (good_for how.0 how.1) account how.2 place text.items how.4)
  begins (ForeignJournal account place) how = absurd (never_foreign how.0 x.keeper.told (good_for how.0 how.1) account place how.2)
  begins (BadJournal account kind number) how = absurd (never_bad how.0 x.keeper.told (good_for how.0 how.1) account how.2)

ends : (grants : List Grant) (accounts : List (Base × List Entry)) (s s' : SourceShown) (k k' : SinkShown) → (Rose s.faults s'.faults → ⊥) → (Rose k.faults k'.faults → ⊥) → (status : Status)
    → SlotEnds grants accounts s s' k k' status → Answered (Plain status)
ends grants accounts s s' k k' read wrote Done how = inl refl
ends grants accounts s s' k k' read wrote Refused how = inr (inl refl)
ends grants accounts s s' k k' read wrote NoMemory how = inr (inr refl)
ends grants accounts s s' k k' read wrote ReadFault how = absurd (read how.0)
ends grants accounts s s' k k' read wrote WriteFault how = absurd (wrote how.0)
ends grants accounts s s' k k' read wrote Usage how = absurd how
ends grants accounts s s' k k' read wrote (Config f i) how = absurd how
ends grants accounts s s' k k' read wrote OpenFault how = absurd how
ends grants accounts s s' k k' read wrote Cut how = absurd how

pub faultless_looks_answer : FaultlessLooksAnswer
faultless_looks_answer asked o o' x x' status (inl h) fine site user accepted is_user good = wanted status (begins asked o o' x x' fine site user accepted is_user good status h.1)
faultless_looks_answer asked o o' x x' status (inr h) fine site user accepted is_user good =
    subst Answered (sym h.is) (ends _ h.start.accounts x.source x'.source x.sink x'.sink fine.read fine.wrote h.plain h.answers.how)
