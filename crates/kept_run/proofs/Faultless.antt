-- Runs in which nothing fails.
use Rattle.std.proofs.Common.{◌≡◌, ◌+◌, ◌≤◌, ◌<◌, ◌++◌, ◌∷◌, [], ℕ, ℤ, zero, suc, List, Option, Some, None, Result, Ok, Err, inl, inr, length, length-append, map, refl, sym, ap, ◌∙◌, subst, arith, append-nil, option_map, take}
use Rattle.std.proofs.lemmas.List.{length-map}
use Rattle.std.proofs.lemmas.List.Elements.{All-map}
use Rattle.std.proofs.lemmas.Option.{same_Some}
use Rattle.std.specs.Io.KnownBytes.{Consumes, IsAtEnd}
use Rattle.std.specs.Prelude.{◌⊎◌, All, IfSome}
use Rattle.command_line.specs.KeptWords.{KeptCommand}
use Rattle.io_edge.specs.Outside.{OpenerShown, Rose, file_named}
use Rattle.jmapd_run.proofs.StartLemmas.{configured_taken}
use Rattle.jmapd_run.specs.Completes.{IsAccepted}
use Rattle.jmapd_run.specs.Starts.{IsLoaded, IsNotOpened, IsUser}
use Rattle.jmapd_run.specs.declared.status.Status.{Status}
use Rattle.jmapd_run.specs.declared.status.Status.TheVariants.{Config, Cut, Done, NoMemory, OpenFault, ReadFault, Refused, Usage, WriteFault}
use Rattle.journal_keeper.proofs.OneEntry.{one_list}
use Rattle.journal_keeper.specs.Journals.{AreEntriesOf, HasDamage, IsFirstDamaged, Kept, texts_of}
use Rattle.kept_run.proofs.EndLemmas.{rose_later}
use Rattle.kept_run.proofs.InputLines.{all_lines, lines_held, status_done, status_too_long, status_too_many}
use Rattle.kept_run.specs.Completes.{FaultlessKeptRunsWork, GivesLinesStatus, GoodListsAreTaken, IsFaultFree, TellsGoodLists, lines_status}
use Rattle.kept_run.specs.Lines.{Accounts, Line}
use Rattle.kept_run.specs.Opened.{RunGoesOn}
use Rattle.jmapd_run.specs.SiteIds.{HasId}
use Rattle.kept_run.specs.Runs.{HoldsLines, IsAnswerable, IsBadJournal, IsForeignJournal, KeptEnds, KeptSetting, NotBegun, RunsLines}
use Rattle.kept_run.specs.declared.lines.TheConstants.{MAX_LINES}
use Rattle.kept_run.specs.declared.status.KeptDone.{KeptDone}
use Rattle.jmapd_run.specs.declared.kept_status.KeptStatus.{KeptStatus}
use Rattle.jmapd_run.specs.declared.kept_status.KeptStatus.TheVariants.{BadJournal, Damaged, ForeignJournal, KeepFault, Plain}
use Rattle.line_edge.specs.Lines.{IsTooLong, lines_of}
use Rattle.spec_core.specs.declared.limits.TheConstants.{MAX_SIZE_REQUEST}
use Rattle.spec_history.specs.declared.entry.Entry.{Entry}
use Rattle.spec_site.specs.Configuration.{Fault, Site, SiteAccount, configured, user_named}
use Rattle.spec_site.specs.declared.limits.TheConstants.{MAX_CONFIGURATION_BYTES}

-- ---- good lists

no_damage : (es : List Entry) (ts : List (List ℕ)) (place : ℕ) (text : List ℕ) → AreEntriesOf es ts → IsFirstDamaged ts place text → ⊥
no_damage [] [] place text are first = absurd first
no_damage [] (t ∷ ts) place text are first = absurd are
no_damage (e ∷ es) [] place text are first = absurd are
no_damage (e ∷ es) (t ∷ ts) zero text are first = first.1 e are.0
no_damage (e ∷ es) (t ∷ ts) (suc n) text are first = no_damage es ts n text are.1 first.1

abbrev nameless_account : SiteAccount
nameless_account = record { id = []; name = [] }

module _ (site : Site) where
  pub never_damaged : (told : Option Kept) → TellsGoodLists site told → (id : List ℕ) → HasId site id → (place : ℕ) (text : List ℕ) → HasDamage told id place text → ⊥
  never_damaged None good id has place text first = good
  never_damaged (Some k) good id has place text first =
      let g = good has.0 has.1 nameless_account in
      no_damage g.0 (texts_of id k.texts) place text (subst (λ (i : List ℕ). AreEntriesOf g.0 (texts_of i k.texts)) (sym (has.2 nameless_account)) g.1) first

  -- a list of the account is the good one
  the_list : (k : Kept) → TellsGoodLists site (Some k) → (id : List ℕ) → HasId site id → (list : List Entry) → AreEntriesOf list (texts_of id k.texts) → RunGoesOn site.zones list
  the_list k good id has list are =
      let g = good has.0 has.1 nameless_account in
      let same : list ≡ g.0 = one_list list g.0 (texts_of id k.texts) are (subst (λ (i : List ℕ). AreEntriesOf g.0 (texts_of i k.texts)) (sym (has.2 nameless_account)) g.1) in
      subst (RunGoesOn site.zones) (sym same) g.2

  pub never_foreign : (told : Option Kept) → TellsGoodLists site told → (id : List ℕ) (place : ℕ) → IsForeignJournal site told id place → ⊥
  never_foreign None good id place bad = good
  never_foreign (Some k) good id place bad = let wrong : Some place ≡ None = sym bad.3 ∙ (the_list k good id bad.0 bad.1 bad.2).own in cc

  pub never_bad : (told : Option Kept) → TellsGoodLists site told → (id : List ℕ) → IsBadJournal site told id → ⊥
  never_bad None good id bad = good
  never_bad (Some k) good id bad = bad.3 (the_list k good id bad.0 bad.1 bad.2).goes_on

module _ (asked : KeptCommand) (o o' : OpenerShown) (x x' : KeptSetting) (calm : Rose x.keeper.faults x'.keeper.faults → ⊥) where
  not_begun_plainly : ((site : Site) → IsLoaded o o' asked.config (Ok site) → TellsGoodLists site x.keeper.told) → (s : KeptStatus) → NotBegun asked o o' x x' s → (status : Status) × (s ≡ Plain status)
  not_begun_plainly good (Plain status) how = (status, refl)
  not_begun_plainly good KeepFault how = absurd (calm how)
  not_begun_plainly good (Damaged account place text) how = absurd (never_damaged how.0 x.keeper.told (good how.0 how.1) account how.2 place text.items how.4)
  not_begun_plainly good (ForeignJournal account place) how = absurd (never_foreign how.0 x.keeper.told (good how.0 how.1) account place how.2)
  not_begun_plainly good (BadJournal account kind number) how = absurd (never_bad how.0 x.keeper.told (good how.0 how.1) account how.2)

  ended_plainly : (y : KeptSetting) (site : Site) (user : ℕ) (before : Accounts) (written unwritten : List Line) (tail behind : List ℕ) (more : List ℤ) → x.keeper.faults ≤ y.keeper.faults
      → (s : KeptStatus) → KeptEnds site user before y x' written unwritten tail behind more s → (status : Status) × (s ≡ Plain status)
  ended_plainly y site user before written unwritten tail behind more later (Plain status) how = (status, refl)
  ended_plainly y site user before written unwritten tail behind more later KeepFault how = absurd (calm (rose_later x.keeper.faults y.keeper.faults x'.keeper.faults later how.1))
  ended_plainly y site user before written unwritten tail behind more later (Damaged account place text) how = absurd how
  ended_plainly y site user before written unwritten tail behind more later (ForeignJournal account place) how = absurd how
  ended_plainly y site user before written unwritten tail behind more later (BadJournal account kind number) how = absurd how

pub good_lists_are_taken : GoodListsAreTaken
good_lists_are_taken asked o o' x x' done (inl h) calm good = not_begun_plainly asked o o' x x' calm good done.status h.1
good_lists_are_taken asked o o' x x' done (inr h) calm good =
    let r = h.2 in
    ended_plainly asked o o' x x' calm h.0 h.1.site h.1.user (h.1.accounts, 0) r.written r.unwritten r.tail r.behind r.more h.1.keeper_later done.status r.how

-- ---- the configuration

prefix_is : (whole : Option (List ℕ)) (all some : List ℕ) (what : Result Site Fault) → whole ≡ Some all → option_map (take (MAX_CONFIGURATION_BYTES + 1)) whole ≡ Some some → configured some ≡ what → configured all ≡ what
prefix_is whole all some what is first e =
    let taken : take (MAX_CONFIGURATION_BYTES + 1) all ≡ some = same_Some (take (MAX_CONFIGURATION_BYTES + 1) all) some (ap (option_map (take (MAX_CONFIGURATION_BYTES + 1))) (sym is) ∙ first) in
    sym (configured_taken all) ∙ (ap configured taken ∙ e)

module _ (o o' : OpenerShown) (name : List ℕ) (site : Site) (accepted : IsAccepted (Some name) o site) where
  pub loaded_is : (what : Result Site Fault) → IsLoaded o o' name what → what ≡ Ok site
  loaded_is what l =
      let has = accepted.1 in
      let told : option_map (take (MAX_CONFIGURATION_BYTES + 1)) (file_named has.0 name) ≡ Some l.0 =
      subst (λ (f : Option (List (List ℕ × List ℕ))). IfSome f (λ files. option_map (take (MAX_CONFIGURATION_BYTES + 1)) (file_named files name) ≡ Some l.0)) has.1 l.1 in
      sym (prefix_is (file_named has.0 name) accepted.0 l.0 what has.2 told l.2) ∙ accepted.2

  pub loaded_site : (other : Site) → IsLoaded o o' name (Ok other) → other ≡ site
  loaded_site other l = let e = loaded_is (Ok other) l in cc

  pub is_opened : (Rose o.faults o'.faults → ⊥) → IsNotOpened o o' name → ⊥
  is_opened calm (inr rose) = calm rose
  is_opened calm (inl missing) =
      let has = accepted.1 in
      let none : file_named has.0 name ≡ None = subst (λ (f : Option (List (List ℕ × List ℕ))). IfSome f (λ files. file_named files name ≡ None)) has.1 missing in
      let wrong : Some accepted.0 ≡ None = sym has.2 ∙ none in
      cc

pub named_user : (site : Site) (who : Option (List ℕ)) (user : ℕ) (name : List ℕ) → IsUser site who user → who ≡ Some name → user_named site name ≡ None → ⊥
named_user site None user name is named none = cc
named_user site (Some other) user name is named none =
    let wrong : Some user ≡ None = sym is ∙ (ap (user_named site) (same_Some other name named) ∙ none) in
    cc

-- ---- the status that the bytes give

-- what is left of an input, none where it isn't told
abbrev left_told : Option (List ℕ) → List ℕ
left_told None = []
left_told (Some left) = left

all_told : (left left' : Option (List ℕ)) (taken : List ℕ) → Consumes left left' taken → IfSome left (λ told. taken ++ left_told left' ≡ told)
all_told None left' taken c = tt
all_told (Some told) None taken c = absurd c
all_told (Some told) (Some rest) taken c = sym c

none_left : (left : Option (List ℕ)) → IsAtEnd left → left_told left ≡ []
none_left None at_end = refl
none_left (Some left) at_end = at_end

module _ {site : Site} {user : ℕ} {before : Accounts} {x x' : KeptSetting} {done : KeptDone} (r : RunsLines site user before x x' done) where
  abbrev lines : List (List ℕ)
  lines = map (λ (l : Line). l.bytes) (r.written ++ r.unwritten)

  abbrev all : List ℕ
  all = r.taken ++ left_told x'.source.left

  answerable : All IsAnswerable lines
  answerable = All-map IsAnswerable (λ (l : Line). l.bytes) (r.written ++ r.unwritten) r.answerable

  few_lines : length lines ≤ MAX_LINES
  few_lines = let same = length-map (r.written ++ r.unwritten) (λ (l : Line). l.bytes) in let count = r.count_kept in let most = r.most in omega (arith, same, count, most)

  done_gives : r.behind ≡ [] → IsAtEnd x'.source.left → Plain Done ≡ Plain (lines_status (lines_of all))
  done_gives empty at_end =
      let whole : all ≡ r.taken = ap (λ (b : List ℕ). r.taken ++ b) (none_left x'.source.left at_end) ∙ append-nil r.taken in
      let are : lines_of all ≡ lines = ap lines_of whole ∙ all_lines x'.source.left r.taken r.behind lines answerable r.holds empty in
      ap Plain (status_done lines few_lines answerable ∙ ap lines_status (sym are))

  cut_gives : IsTooLong MAX_SIZE_REQUEST r.behind ⊎ ((length r.written ≡ MAX_LINES) × (0 < length r.behind)) → r.unwritten ≡ [] → HoldsLines x'.source.left r.taken lines r.behind → Plain Cut ≡ Plain (lines_status (lines_of all))
  cut_gives (inl long) none (inl is) =
      ap Plain (status_too_long lines r.behind (left_told x'.source.left) long ∙ ap lines_status (sym (lines_held r.taken r.behind (left_told x'.source.left) lines answerable is)))
  cut_gives (inr many) none (inl is) =
      let same = length-map (r.written ++ r.unwritten) (λ (l : Line). l.bytes) in
      let alone = ap (λ (ls : List Line). length (r.written ++ ls)) none ∙ ap length (append-nil r.written) in
      let count : length lines ≡ MAX_LINES = omega (arith, same, alone, many.0) in
      ap Plain (status_too_many lines r.behind (left_told x'.source.left) count many.1 ∙ ap lines_status (sym (lines_held r.taken r.behind (left_told x'.source.left) lines answerable is)))
  cut_gives (inl long) none (inr h) = absurd (let e = ap length (sym long.parts ∙ h.5) in let both = length-append long.start long.rest in let more = long.long in omega (arith, e, both, more))
  cut_gives (inr many) none (inr h) = absurd (let e = ap length h.5 in let some = many.1 in omega (arith, e, some))

  module _ (calm_source : Rose x.source.faults x'.source.faults → ⊥) (calm_sink : Rose x.sink.faults x'.sink.faults → ⊥) (calm_keeper : Rose x.keeper.faults x'.keeper.faults → ⊥) where
    abbrev Works : KeptStatus → Type 0
    Works s = (s ≡ Plain NoMemory) ⊎ GivesLinesStatus x.source.left s

    told : IfSome x.source.left (λ t. all ≡ t)
    told = all_told x.source.left x'.source.left r.taken r.consumed

    works : (s : KeptStatus) → KeptEnds site user before x x' r.written r.unwritten r.tail r.behind r.more s → Works s
    works (Plain Done) how = inr (all, told, done_gives how.1 how.2)
    works (Plain Cut) how = inr (all, told, cut_gives how.1 how.0.0.0 r.holds)
    works (Plain NoMemory) how = inl refl
    works (Plain ReadFault) how = absurd (calm_source how.2)
    works (Plain WriteFault) how = absurd (calm_sink how.2)
    works (Plain Usage) how = absurd how
    works (Plain Refused) how = absurd how
    works (Plain OpenFault) how = absurd how
    works (Plain (Config f i)) how = absurd how
    works KeepFault how = absurd (calm_keeper how.1)
    works (Damaged account place text) how = absurd how
    works (ForeignJournal account place) how = absurd how
    works (BadJournal account kind number) how = absurd how

-- ---- from the words on

module _ (asked : KeptCommand) (o o' : OpenerShown) (x x' : KeptSetting) (fine : IsFaultFree o o' x x') (site : Site) (user : ℕ) (accepted : IsAccepted (Some asked.config) o site) (is_user : IsUser site asked.user user)
    (good : TellsGoodLists site x.keeper.told) where
  good_for : (other : Site) → IsLoaded o o' asked.config (Ok other) → TellsGoodLists other x.keeper.told
  good_for other l = subst (λ (s : Site). TellsGoodLists s x.keeper.told) (sym (loaded_site o o' asked.config site accepted other l)) good

  begins : (s : KeptStatus) → NotBegun asked o o' x x' s → (s ≡ Plain NoMemory) ⊎ GivesLinesStatus x.source.left s
  begins (Plain Usage) how =
      let other = how.1 in
      absurd (named_user site asked.user user how.0 is_user how.2 (subst (λ (s : Site). user_named s how.0 ≡ None) (loaded_site o o' asked.config site accepted other how.3) how.4))
  begins (Plain (Config f i)) how = absurd (let e : Err (record { field = f; index = i }) ≡ Ok site = loaded_is o o' asked.config site accepted (Err (record { field = f; index = i })) how in cc)
  begins (Plain OpenFault) how = absurd (is_opened o o' asked.config site accepted fine.opened how)
  begins (Plain NoMemory) how = inl refl
  begins (Plain Done) how = absurd how
  begins (Plain Cut) how = absurd how
  begins (Plain Refused) how = absurd how
  begins (Plain ReadFault) how = absurd how
  begins (Plain WriteFault) how = absurd how
  begins KeepFault how = absurd (fine.kept how)
  begins (Damaged account place text) how = absurd (never_damaged how.0 x.keeper.told (good_for how.0 how.1) account how.2 place text.items how.4)
  begins (ForeignJournal account place) how = absurd (never_foreign how.0 x.keeper.told (good_for how.0 how.1) account place how.2)
  begins (BadJournal account kind number) how = absurd (never_bad how.0 x.keeper.told (good_for how.0 how.1) account how.2)

pub faultless_kept_runs_work : FaultlessKeptRunsWork
faultless_kept_runs_work asked o o' x x' done (inl h) fine site user accepted is_user good = begins asked o o' x x' fine site user accepted is_user good done.status h.1
faultless_kept_runs_work asked o o' x x' done (inr h) fine site user accepted is_user good =
    let y = h.0 in
    let b = h.1 in
    let r = h.2 in
    let source = ap (λ s. s.faults) b.source in
    let sink = ap (λ s. s.faults) b.sink in
    let later = b.keeper_later in
    subst (λ (left : Option (List ℕ)). (done.status ≡ Plain NoMemory) ⊎ GivesLinesStatus left done.status) (ap (λ s. s.left) b.source)
    (works r (λ rose. fine.read (omega (arith, rose, source))) (λ rose. fine.wrote (omega (arith, rose, sink))) (λ rose. fine.kept (rose_later x.keeper.faults y.keeper.faults x'.keeper.faults later rose)) done.status r.how)
