-- What a kept run does, whatever bytes come and whichever calls of the keeper and of the output fail.
use Rattle.std.specs.Prelude.{◌≡◌, ◌⊎◌, ◌<◌, ◌≤◌, ℕ, ℤ, List, [], ◌∷◌, ◌++◌, All, Option, Some, None, Ok, Err, length, map, ⊤}
use Rattle.std.specs.Io.KnownBytes.{Consumes, IsAtEnd}
use Rattle.cal_model.specs.GoesOn.{GoesOn}
use Rattle.command_line.specs.KeptWords.{KeptCommand}
use Rattle.io_edge.specs.Outside.{Grows, OpenerShown, Rose, SinkShown, SourceShown}
use Rattle.jmapd_run.specs.SiteIds.{HasId}
use Rattle.jmapd_run.specs.Starts.{IsLoaded, IsNotOpened, IsUser}
use Rattle.jmapd_run.specs.declared.status.Status.TheVariants.{Config, Cut, Done, NoMemory, OpenFault, ReadFault, Usage, WriteFault}
use Rattle.journal_keeper.specs.EntryText.{IsNoEntryText}
use Rattle.journal_keeper.specs.Journals.{FailsToKeep, HasDamage, KeeperShown, Kept, Lists}
use Rattle.kept_run.specs.Lines.{Accounts, AreAnsweredLines, HasMore, IsAnsweredLine, Line, all_texts, left_by, line_texts, response, responses}
use Rattle.kept_run.specs.Opened.{AreOpened, foreign_place}
use Rattle.kept_run.specs.declared.lines.TheConstants.{MAX_LINES}
use Rattle.kept_run.specs.declared.status.KeptDone.{KeptDone}
use Rattle.jmapd_run.specs.declared.kept_status.KeptStatus.{KeptStatus}
use Rattle.jmapd_run.specs.declared.kept_status.KeptStatus.TheVariants.{Plain, KeepFault, Damaged, ForeignJournal, BadJournal}
use Rattle.line_edge.specs.Lines.{HasNoFeed, IsTooLong, with_feeds}
use Rattle.spec_connection.specs.Answered.{Ticked}
use Rattle.spec_connection.specs.Serving.{IsPrefixOf}
use Rattle.spec_core.specs.declared.limits.TheConstants.{MAX_SIZE_REQUEST}
use Rattle.spec_history.specs.Base.{Base}
use Rattle.spec_history.specs.History.{changes_of}
use Rattle.spec_history.specs.declared.entry.Entry.{Entry}
use Rattle.spec_site.specs.Configuration.{Site, user_named}

-- what is shown of all that a kept run touches besides the files
pub record KeptSetting : Type 0 where
  pub source : SourceShown
  pub sink : SinkShown
  pub clock : Option (ℕ → ℤ)
  pub keeper : KeeperShown

-- The bytes are these lines with a line feed behind each, and then others. Behind the last line the line feed may be missing, where the input ends.
abbrev pub HoldsLines : Option (List ℕ) → List ℕ → List (List ℕ) → List ℕ → Type 0
HoldsLines left bytes ls behind = (bytes ≡ with_feeds ls ++ behind)
    ⊎ ((earlier : List (List ℕ)) × (last : List ℕ) × (ls ≡ earlier ++ last ∷ []) × (bytes ≡ with_feeds earlier ++ last) × (0 < length last) × (behind ≡ []) × IsAtEnd left)

-- a line that may be answered
pub record IsAnswerable (line : List ℕ) : Type 0 where
  pub unbroken : HasNoFeed line
  pub short : length line ≤ MAX_SIZE_REQUEST

-- `written` are the lines whose responses were written whole. `unwritten` is empty, or the one line behind them that was kept and whose response wasn't. `tail` is what was
-- written behind the responses, `behind` what was taken of the input behind all these lines, and `more` the moment that was read for a line that wasn't kept, if there is one.
module _ (site : Site) (user : ℕ) (before : Accounts) (x x' : KeptSetting) (written unwritten : List Line) (tail behind : List ℕ) (more : List ℤ) where
  -- the response of each line that was kept was written whole, and nothing else
  abbrev pub AllWritten : Type 0
  AllWritten = (unwritten ≡ []) × (tail ≡ [])

  -- the keeper has the texts of the lines, and nothing else came to it
  abbrev pub AllKept : Type 0
  AllKept = HasMore x.keeper.told x'.keeper.told (all_texts site before (written ++ unwritten))

  -- the same, and the clock was read for no other line
  abbrev pub AllDone : Type 0
  AllDone = AllWritten × AllKept × (more ≡ [])

  -- This line stands next, and was answered but not kept. A stop leaves all its texts, or none.
  pub record IsLineUnkept (l : Line) : Type 0 where
    pub rest : List ℕ
    pub next : HoldsLines x'.source.left behind (l.bytes ∷ []) rest
    pub answerable : IsAnswerable l.bytes
    pub read : more ≡ l.moment ∷ []
    pub answered : IsAnsweredLine site user (left_by before written) l
    pub told : Option Kept
    pub kept : HasMore x.keeper.told told (all_texts site before written)
    pub fails : FailsToKeep told x'.keeper.told (line_texts site (left_by before written) l)

  -- when each status comes of a run that began
  abbrev pub KeptEnds : KeptStatus → Type 0
  KeptEnds (Plain Done) = AllDone × (behind ≡ []) × IsAtEnd x'.source.left
  KeptEnds (Plain Cut) = AllDone × (IsTooLong MAX_SIZE_REQUEST behind ⊎ ((length written ≡ MAX_LINES) × (0 < length behind)))
  KeptEnds (Plain ReadFault) = AllDone × HasNoFeed behind × Rose x.source.faults x'.source.faults
  KeptEnds (Plain WriteFault) = AllKept × (more ≡ []) × Rose x.sink.faults x'.sink.faults × (l : Line) × (unwritten ≡ l ∷ []) × IsPrefixOf tail (response l)
  KeptEnds (Plain NoMemory) = AllWritten × AllKept
  KeptEnds KeepFault = AllWritten × Rose x.keeper.faults x'.keeper.faults × (l : Line) × IsLineUnkept l
  KeptEnds _ = ⊥

-- The lines of an input were run on these accounts, in order: each was answered, what it added was kept, and then its response was written.
pub record RunsLines (site : Site) (user : ℕ) (before : Accounts) (x x' : KeptSetting) (done : KeptDone) : Type 0 where
  pub taken : List ℕ
  pub written : List Line
  pub unwritten : List Line
  pub tail : List ℕ
  pub behind : List ℕ
  pub consumed : Consumes x.source.left x'.source.left taken
  pub holds : HoldsLines x'.source.left taken (map (λ l. l.bytes) (written ++ unwritten)) behind
  pub answerable : All (λ l. IsAnswerable l.bytes) (written ++ unwritten)
  pub answered : AreAnsweredLines site user before (written ++ unwritten)
  -- the clock was read once for each line, and once more where a line wasn't kept
  pub more : List ℤ
  pub ticked : Ticked x.clock x'.clock (map (λ l. l.moment) (written ++ unwritten) ++ more)
  pub few : length more ≤ 1
  pub count_written : length written ≡ done.written
  pub count_kept : length (written ++ unwritten) ≡ done.kept
  pub one : length unwritten ≤ 1
  pub most : done.kept ≤ MAX_LINES
  pub output : Grows x.sink.holds x'.sink.holds (responses written ++ tail)
  pub source_later : x.source.faults ≤ x'.source.faults
  pub sink_later : x.sink.faults ≤ x'.sink.faults
  pub keeper_later : x.keeper.faults ≤ x'.keeper.faults
  pub undamaged : x'.keeper.damages ≡ x.keeper.damages
  pub how : KeptEnds site user before x x' written unwritten tail behind more done.status

-- ---- from the words on

-- nothing was read or written, and the texts of the keeper are those that it had
pub record NothingRun (x x' : KeptSetting) (done : KeptDone) : Type 0 where
  pub source : x'.source ≡ x.source
  pub sink : x'.sink ≡ x.sink
  pub clock : x'.clock ≡ x.clock
  pub told : x'.keeper.told ≡ x.keeper.told
  pub keeper_later : x.keeper.faults ≤ x'.keeper.faults
  pub damages_later : x.keeper.damages ≤ x'.keeper.damages
  pub none_kept : done.kept ≡ 0
  pub none_written : done.written ≡ 0

-- a list of the keeper's that has an entry of another author than the desk's, first at this place
abbrev pub IsForeignJournal : Site → Option Kept → List ℕ → ℕ → Type 0
IsForeignJournal site told id place = HasId site id × (list : List Entry) × Lists told id list × (foreign_place list ≡ Some place)

-- a list of the keeper's from which no account goes on
abbrev pub IsBadJournal : Site → Option Kept → List ℕ → Type 0
IsBadJournal site told id = HasId site id × (list : List Entry) × Lists told id list × (GoesOn site.zones (changes_of list) → ⊥)

module _ (asked : KeptCommand) (o o' : OpenerShown) (x x' : KeptSetting) where
  -- why a run didn't begin
  abbrev pub NotBegun : KeptStatus → Type 0
  NotBegun (Plain Usage) = (name : List ℕ) × (site : Site) × (asked.user ≡ Some name) × IsLoaded o o' asked.config (Ok site) × (user_named site name ≡ None)
  NotBegun (Plain (Config field index)) = IsLoaded o o' asked.config (Err (record { field = field; index = index }))
  NotBegun (Plain OpenFault) = IsNotOpened o o' asked.config
  NotBegun (Plain NoMemory) = ⊤
  NotBegun KeepFault = Rose x.keeper.faults x'.keeper.faults
  NotBegun (Damaged account place text) = (site : Site) × IsLoaded o o' asked.config (Ok site) × HasId site account
      × IsNoEntryText text.items × HasDamage x.keeper.told account place text.items × Rose x.keeper.damages x'.keeper.damages
  NotBegun (ForeignJournal account place) = (site : Site) × IsLoaded o o' asked.config (Ok site) × IsForeignJournal site x.keeper.told account place
  NotBegun (BadJournal account kind id) = (site : Site) × IsLoaded o o' asked.config (Ok site) × IsBadJournal site x.keeper.told account
  NotBegun _ = ⊥

-- The run of the lines begins from this site, for this user, on the accounts that go on from what the keeper had. `y` is the setting behind the loads.
pub record KeptStart (asked : KeptCommand) (o o' : OpenerShown) (x y : KeptSetting) : Type 0 where
  pub site : Site
  pub loaded : IsLoaded o o' asked.config (Ok site)
  pub user : ℕ
  pub is_user : IsUser site asked.user user
  pub accounts : List (Base × List Entry)
  pub opened : AreOpened site x.keeper.told accounts
  pub source : y.source ≡ x.source
  pub sink : y.sink ≡ x.sink
  pub clock : y.clock ≡ x.clock
  pub told : y.keeper.told ≡ x.keeper.told
  pub keeper_later : x.keeper.faults ≤ y.keeper.faults
  -- no load told of damage
  pub undamaged : y.keeper.damages ≡ x.keeper.damages

-- A kept run didn't begin; or it began, and its lines were run.
abbrev pub RunsKept : KeptCommand → OpenerShown → OpenerShown → KeptSetting → KeptSetting → KeptDone → Type 0
RunsKept asked o o' x x' done =
    (NothingRun x x' done × NotBegun asked o o' x x' done.status)
    ⊎ ((y : KeptSetting) × (b : KeptStart asked o o' x y) × RunsLines b.site b.user (b.accounts, 0) y x' done)
