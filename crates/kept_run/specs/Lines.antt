-- The run of the lines of an input over the accounts of a site.
use Rattle.std.specs.Prelude.{◌≡◌, ◌≤◌, ℕ, ℤ, List, [], ◌∷◌, ◌++◌, All, None, Option, drop, flat_map, length, map, option_map, ⊤}
use Rattle.account_desk.specs.SoleDesk.{shown_of}
use Rattle.journal_keeper.specs.EntryText.{entry_text}
use Rattle.journal_keeper.specs.Journals.{AreEntriesOf, Kept, Labelled, labelled}
use Rattle.kept_run.specs.Opened.{RunGoesOn}
use Rattle.spec_batch.specs.Chain.{Chain, Made}
use Rattle.spec_batch.specs.Reply.{Replies, asked_in}
use Rattle.spec_history.specs.Base.{Base}
use Rattle.spec_history.specs.declared.entry.Entry.{Entry}
use Rattle.spec_json.specs.Data.{Data}
use Rattle.spec_json.specs.Json.{text_of}
use Rattle.spec_site.specs.Configuration.{Site, SiteAccount, user_at}
use Rattle.spec_time.specs.Moments.{clamped}

-- the base and the entries of each account, and how many calls were made
abbrev pub Accounts : Type 0
Accounts = List (Base × List Entry) × ℕ

-- a line that was answered, the moment that the clock gave for it, the calls that were made for it, the reply, and the accounts as it left them
pub record Line : Type 0 where
  pub bytes : List ℕ
  pub moment : ℤ
  pub made : List Made
  pub reply : Data
  pub accounts : Accounts

-- what is written for a line: the compact text of the response, or of the problem of a request that is refused as a whole, and a line feed
abbrev pub response : Line → List ℕ
response l = text_of l.reply ++ 10 ∷ []

abbrev pub responses : List Line → List ℕ
responses ls = flat_map response ls

-- the number of entries of each account
abbrev pub counts : List (Base × List Entry) → List ℕ
counts accounts = map (λ a. length a.1) accounts

-- the entries are read from their texts
abbrev pub AreReadBack : List Entry → Type 0
AreReadBack es = AreEntriesOf es (map entry_text es)

-- the entries of the accounts behind the first so many are
abbrev pub NewAreReadBack : List ℕ → List (Base × List Entry) → Type 0
NewAreReadBack [] accounts = ⊤
NewAreReadBack (p ∷ places) [] = ⊤
NewAreReadBack (p ∷ places) (a ∷ accounts) = AreReadBack (drop p a.1) × NewAreReadBack places accounts

-- a run goes on from the entries of each
abbrev pub MayAllGoOn : List (Base × List Entry) → Type 0
MayAllGoOn accounts = All (λ a. RunGoesOn a.0.zones a.1) accounts

-- A line is a request of a user (RFC 8620 section 3.3). It was answered on the accounts as they stood before it.
pub record IsAnsweredLine (site : Site) (user : ℕ) (before : Accounts) (l : Line) : Type 0 where
  pub chain : Chain (shown_of before) (shown_of l.accounts) l.made
  pub few : length l.made ≤ 16
  pub replied : Replies (user_at site user) (clamped l.moment) (asked_in l.bytes) l.made l.reply
  pub read_back : NewAreReadBack (counts before.0) l.accounts.0
  pub go_on : MayAllGoOn l.accounts.0

-- each line was answered on the accounts as the line before it left them
abbrev pub AreAnsweredLines : Site → ℕ → Accounts → List Line → Type 0
AreAnsweredLines site user before [] = ⊤
AreAnsweredLines site user before (l ∷ ls) = IsAnsweredLine site user before l × AreAnsweredLines site user l.accounts ls

-- the accounts as the last line left them
abbrev pub left_by : Accounts → List Line → Accounts
left_by before [] = before
left_by before (l ∷ ls) = left_by l.accounts ls

-- ---- what is kept

-- the texts of the entries of the accounts behind the first so many, account by account
abbrev pub texts_behind : List SiteAccount → List ℕ → List (Base × List Entry) → List Labelled
texts_behind [] places accounts = []
texts_behind (s ∷ site) [] accounts = []
texts_behind (s ∷ site) (p ∷ places) [] = []
texts_behind (s ∷ site) (p ∷ places) (a ∷ accounts) = labelled s.id (drop p a.1) ++ texts_behind site places accounts

-- the texts of the entries that a line added
abbrev pub line_texts : Site → Accounts → Line → List Labelled
line_texts site before l = texts_behind site.accounts (counts before.0) l.accounts.0

abbrev pub all_texts : Site → Accounts → List Line → List Labelled
all_texts site before [] = []
all_texts site before (l ∷ ls) = line_texts site before l ++ all_texts site l.accounts ls

-- The keeper has these texts more, where it tells its texts. What was in doubt is so still.
abbrev pub HasMore : Option Kept → Option Kept → List Labelled → Type 0
HasMore old new more = new ≡ option_map (λ k. record { texts = k.texts ++ more; doubt = k.doubt }) old
