-- What the steps of a kept run do.
use Rattle.std.specs.Prelude.{◌≡◌, ◌+◌, ◌<◌, ◌≤◌, ℕ, ℤ, List, [], ◌∷◌, ◌++◌, All, Option, Result, Ok, Err, Some, None, drop, length, ⊤}
use Rattle.io_edge.specs.Outside.{Grows, GrowsByPrefix, Rose, SinkShown, SourceShown, Ticks}
use Rattle.std.specs.Io.KnownBytes.{IsAtEnd}
use Rattle.jmapd_run.specs.declared.status.Status.{Status}
use Rattle.kept_run.specs.declared.status.KeptDone.{KeptDone}
use Rattle.journal_keeper.specs.EntryText.{IsNoEntryText}
use Rattle.journal_keeper.specs.Journals.{FailsToKeep, HasDamage, KeeperShown, Lists}
use Rattle.kept_run.specs.Lines.{Accounts, HasMore, IsAnsweredLine, Line, line_texts, response}
use Rattle.kept_run.specs.declared.line.LineEnd.{LineEnd}
use Rattle.kept_run.specs.declared.line.LineEnd.TheVariants.{Written, WriteFault, KeepFault, NoMemory}
use Rattle.account_desk.specs.SoleDesk.{shown_of}
use Rattle.kept_run.specs.Opened.{RunGoesOn, foreign_place}
use Rattle.cal_model.specs.GoesOn.{GoesOn}
use Rattle.jmapd_run.specs.SiteIds.{HasId}
use Rattle.kept_run.specs.Runs.{IsBadJournal, IsForeignJournal}
use Rattle.jmapd_run.specs.declared.kept_status.KeptStatus.{KeptStatus}
use Rattle.jmapd_run.specs.declared.kept_status.KeptStatus.TheVariants as status
use Rattle.jmapd_run.specs.declared.status.Status.TheVariants as plain
use Rattle.spec_batch.specs.Chain.{Chain, Made}
use Rattle.spec_batch.specs.Reply.{Replies, asked_in}
use Rattle.spec_json.specs.Data.{Data}
use Rattle.spec_json.specs.Json.{text_of}
use Rattle.spec_history.specs.Base.{Base}
use Rattle.spec_history.specs.History.{changes_of}
use Rattle.spec_history.specs.MostTurns.{most_turns}
use Rattle.spec_history.specs.declared.entry.Entry.{Entry}
use Rattle.spec_site.specs.Configuration.{Site, user_at}

-- each account has at least so many entries
abbrev pub AreWithin : List ℕ → List (Base × List Entry) → Type 0
AreWithin [] accounts = ⊤
AreWithin (p ∷ places) [] = ⊤
AreWithin (p ∷ places) (a ∷ accounts) = (p ≤ length a.1) × AreWithin places accounts

-- each entry of the accounts behind the first so many has a turn that a call may have
abbrev pub HaveTurns : List ℕ → List (Base × List Entry) → Type 0
HaveTurns [] accounts = ⊤
HaveTurns (p ∷ places) [] = ⊤
HaveTurns (p ∷ places) (a ∷ accounts) = All (λ e. e.turn ≤ most_turns) (drop p a.1) × HaveTurns places accounts

-- this is the text that answers a line, and the calls that were made for it left the accounts so
pub record IsLineText (site : Site) (user : ℕ) (bytes : List ℕ) (moment : ℤ) (before after : Accounts) (text : List ℕ) : Type 0 where
  pub made : List Made
  pub reply : Data
  pub chain : Chain (shown_of before) (shown_of after) made
  pub few : length made ≤ 16
  pub replied : Replies (user_at site user) moment (asked_in bytes) made reply
  pub written : text ≡ text_of reply ++ 10 ∷ []

-- this line was answered at the moment that the clock gave, and left the accounts so
pub record IsRun (site : Site) (user : ℕ) (bytes : List ℕ) (before after : Accounts) (moment : ℤ) : Type 0 where
  pub line : Line
  pub is : line.bytes ≡ bytes
  pub at : line.moment ≡ moment
  pub left : line.accounts ≡ after
  pub answered : IsAnsweredLine site user before line

module _ (site : Site) (user : ℕ) (bytes : List ℕ) (before after : Accounts) (k k' : SinkShown) (j j' : KeeperShown) (moment : ℤ) where
  -- what came of a line
  abbrev pub LineHow : LineEnd → Type 0
  LineHow Written = (r : IsRun site user bytes before after moment) × HasMore j.told j'.told (line_texts site before r.line) × Grows k.holds k'.holds (response r.line)
  LineHow WriteFault = (r : IsRun site user bytes before after moment) × HasMore j.told j'.told (line_texts site before r.line) × GrowsByPrefix k.holds k'.holds (response r.line) × Rose k.faults k'.faults
  LineHow KeepFault = (r : IsRun site user bytes before after moment) × FailsToKeep j.told j'.told (line_texts site before r.line) × Rose j.faults j'.faults × (k' ≡ k)
  LineHow NoMemory = (j'.told ≡ j.told) × (k' ≡ k)

-- The clock was read once.
pub record RunsLine (site : Site) (user : ℕ) (bytes : List ℕ) (before after : Accounts) (clock clock' : Option (ℕ → ℤ)) (k k' : SinkShown) (j j' : KeeperShown) (end : LineEnd) : Type 0 where
  pub moment : ℤ
  pub ticked : Ticks clock clock' moment
  pub sink_later : k.faults ≤ k'.faults
  pub keeper_later : j.faults ≤ j'.faults
  pub undamaged : j'.damages ≡ j.damages
  pub how : LineHow site user bytes before after k k' j j' moment end

-- ---- accounts

abbrev pub account_base : Site → List ℕ → Base
account_base site id = record { account_id = id; zones = site.zones; generation = site.generation }

-- what comes of opening an account at a list
abbrev pub OpenHow : Site → List ℕ → List Entry → Result (Base × List Entry) KeptStatus → Type 0
OpenHow site id list (Ok a) = (a ≡ (account_base site id, list)) × RunGoesOn site.zones list
OpenHow site id list (Err (status.ForeignJournal account place)) = (account ≡ id) × (foreign_place list ≡ Some place)
OpenHow site id list (Err (status.BadJournal account kind n)) = (account ≡ id) × (GoesOn site.zones (changes_of list) → ⊥)
OpenHow site id list (Err (status.Plain plain.NoMemory)) = ⊤
OpenHow site id list (Err _) = ⊥

-- what comes of loading an account
module _ (site : Site) (id : List ℕ) (j j' : KeeperShown) where
  abbrev pub AccountLoadHow : Result (Base × List Entry) KeptStatus → Type 0
  AccountLoadHow (Ok a) = (a.0 ≡ account_base site id) × Lists j.told id a.1 × RunGoesOn site.zones a.1 × (j'.damages ≡ j.damages)
  AccountLoadHow (Err status.KeepFault) = Rose j.faults j'.faults
  AccountLoadHow (Err (status.Damaged account place text)) = (account ≡ id) × IsNoEntryText text.items × HasDamage j.told id place text.items × Rose j.damages j'.damages
  AccountLoadHow (Err (status.ForeignJournal account place)) = (account ≡ id) × (list : List Entry) × Lists j.told id list × (foreign_place list ≡ Some place)
  AccountLoadHow (Err (status.BadJournal account kind n)) = (account ≡ id) × (list : List Entry) × Lists j.told id list × (GoesOn site.zones (changes_of list) → ⊥)
  AccountLoadHow (Err (status.Plain plain.NoMemory)) = ⊤
  AccountLoadHow (Err _) = ⊥

-- no load changes what the keeper tells
pub record IsLoad (j j' : KeeperShown) : Type 0 where
  pub told : j'.told ≡ j.told
  pub faults : j.faults ≤ j'.faults
  pub damages : j.damages ≤ j'.damages

-- a status that tells of an entry of another author, or of want of memory
abbrev pub TellsOf : List ℕ → ℕ → KeptStatus → Type 0
TellsOf id place (status.ForeignJournal account at) = (account ≡ id) × (at ≡ place)
TellsOf id place (status.Plain plain.NoMemory) = ⊤
TellsOf id place _ = ⊥

-- why the accounts of a site don't open
module _ (site : Site) (j j' : KeeperShown) where
  abbrev pub NotOpened : KeptStatus → Type 0
  NotOpened status.KeepFault = Rose j.faults j'.faults
  NotOpened (status.Damaged account place text) = HasId site account × IsNoEntryText text.items × HasDamage j.told account place text.items × Rose j.damages j'.damages
  NotOpened (status.ForeignJournal account place) = IsForeignJournal site j.told account place
  NotOpened (status.BadJournal account kind n) = IsBadJournal site j.told account
  NotOpened (status.Plain plain.NoMemory) = ⊤
  NotOpened _ = ⊥

-- ---- ends

pub record IsDone (end : KeptStatus) (m w : ℕ) (done : KeptDone) : Type 0 where
  pub status : done.status ≡ end
  pub kept : done.kept ≡ m
  pub written : done.written ≡ w

-- how a run ends by a line that wasn't answered
abbrev pub StoppedWith : LineEnd → ℕ → KeptDone → Type 0
StoppedWith Written count done = ⊥
StoppedWith WriteFault count done = IsDone (status.Plain plain.WriteFault) (count + 1) count done
StoppedWith KeepFault count done = IsDone status.KeepFault count count done
StoppedWith NoMemory count done = IsDone (status.Plain plain.NoMemory) count count done

-- how a run ends behind the last line that may be answered, where these bytes are left
abbrev pub BehindHow : SourceShown → SourceShown → List ℕ → Status → Type 0
BehindHow s s' rest plain.Cut = 0 < length rest
BehindHow s s' rest plain.Done = (rest ≡ []) × IsAtEnd s'.left
BehindHow s s' rest plain.ReadFault = (rest ≡ []) × Rose s.faults s'.faults
BehindHow s s' rest plain.NoMemory = rest ≡ []
BehindHow s s' rest _ = ⊥
