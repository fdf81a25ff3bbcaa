-- What answering one request does, whatever bytes come, and what a workload writes.
use Rattle.std.specs.Prelude.{◌≡◌, ◌≤◌, ◌+◌, ℕ, ℤ, List, [], ◌∷◌, ◌++◌, Bool, Option, length}
use Rattle.std.specs.Io.KnownBytes.{Consumes, IsAtEnd}
use Rattle.account_desk.specs.FreshDesk.{IsSole, fresh_desk}
use Rattle.account_desk.specs.SoleDesk.{fresh_account}
use Rattle.cal_model.specs.Answer.{added, answer}
use Rattle.spec_batch.specs.Asked.{is_refused}
use Rattle.spec_batch.specs.Reply.{Replies, asked_in}
use Rattle.spec_time.specs.Moments.{clamped}
use Rattle.spec_core.specs.declared.limits.TheConstants.{MAX_SIZE_REQUEST}
use Rattle.spec_batch.specs.Chain.{Made, Chain, Shown}
use Rattle.spec_json.specs.Data.{Data}
use Rattle.spec_json.specs.Json.{text_of}
use Rattle.io_edge.specs.Outside.{SinkShown, SourceShown, Ticks}
use Rattle.spec_site.specs.Configuration.{Site, built_in, user_at}
use Rattle.workload.specs.Work.{IsOutput}

-- what is shown of all that a command touches besides the files
pub record Surroundings : Type 0 where
  pub input : SourceShown
  pub output : SinkShown
  pub clock : Option (ℕ → ℤ)

-- This is the text that answers bytes for a user of a site at a moment: of the response, or of the problem of a request that is refused
-- as a whole, with a line feed. The calls are a chain on fresh accounts, in which nobody else takes part.
pub record IsAnswer (site : Site) (user : ℕ) (moment : ℤ) (bytes : List ℕ) (is_refusal : Bool) (text : List ℕ) : Type 0 where
  pub made : List Made
  pub desk : Shown
  pub chain : Chain (fresh_desk site) desk made
  pub sole : IsSole desk
  pub reply : Data
  pub replied : Replies (user_at site user) moment (asked_in bytes) made reply
  pub refusal : is_refused (asked_in bytes) ≡ is_refusal
  pub written : text ≡ text_of reply ++ 10 ∷ []

-- The input was read to its end, or to one byte past the most of a request; the clock was read once; and this is the text that answers
-- these bytes at that moment.
pub record AnswersInput (site : Site) (user : ℕ) (x x' : Surroundings) (is_refusal : Bool) (text : List ℕ) : Type 0 where
  pub bytes : List ℕ
  pub consumed : Consumes x.input.left x'.input.left bytes
  pub most : length bytes ≤ MAX_SIZE_REQUEST + 1
  pub whole : length bytes ≤ MAX_SIZE_REQUEST → IsAtEnd x'.input.left
  pub moment : ℤ
  pub ticked : Ticks x.clock x'.clock moment
  pub answer : IsAnswer site user (clamped moment) bytes is_refusal text

-- This is the text of a workload, on the account of the site without a configuration, before any call.
abbrev pub IsWorkText : ℕ → ℕ → List ℕ → Type 0
IsWorkText number size text = IsOutput answer added (fresh_account built_in 0).0 (fresh_account built_in 0).1 number size text
