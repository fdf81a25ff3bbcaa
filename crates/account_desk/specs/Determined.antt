-- Nothing of a reply is open where all entries on the accounts of a desk are its own.
use Rattle.std.specs.Prelude.{◌≡◌, ℕ, ℤ, List, ◌++◌, Option, Some}
use Rattle.account_desk.specs.FreshDesk.{IsSole, account_rules}
use Rattle.spec_batch.specs.Asked.{Asked}
use Rattle.spec_batch.specs.Chain.{Made, Chain, Shown}
use Rattle.spec_batch.specs.Reply.{Replies}
use Rattle.spec_connection.specs.Answered.{Ticked}
use Rattle.spec_connection.specs.Exchanges.{AllFit, Exchange, all_bytes, all_made, all_moments, messages_of}
use Rattle.spec_core.specs.declared.user.User.{User}
use Rattle.spec_history.specs.History.{changes_of}
use Rattle.spec_json.specs.Data.{Data}
use Rattle.spec_site.specs.Configuration.{Site}

-- Both desks answer by the rules of calendars and events, and each account was opened with the same and has the same changes on both. By whom, at which turns and at
-- which moments they were made may differ.
pub record AreAlike (s s' : Shown) : Type 0 where
  pub rules : s.rules ≡ account_rules
  pub rules' : s'.rules ≡ account_rules
  pub base : (k : ℕ) → s.base k ≡ s'.base k
  pub changes : (k : ℕ) → changes_of (s.seen k) ≡ changes_of (s'.seen k)

-- a reply to what was asked, by a desk in this state and with nobody else taking part, and the desk behind it
pub record RepliesAlone (s : Shown) (user : User) (moment : ℤ) (a : Asked) (reply : Data) : Type 0 where
  pub made : List Made
  pub desk : Shown
  pub chain : Chain s desk made
  pub sole : IsSole desk
  pub replied : Replies user moment a made reply

-- desks that are alike give the same reply, and are alike behind it
abbrev pub RepliesAreDetermined : Type 0
RepliesAreDetermined = (s s' : Shown) (user : User) (moment : ℤ) (a : Asked) (x y : Data) → AreAlike s s'
    → (first : RepliesAlone s user moment a x) (second : RepliesAlone s' user moment a y) → (x ≡ y) × AreAlike first.desk second.desk

-- These are the answered messages of a connection over a desk in this state, with nobody else taking part, by a clock that was to give
-- these moments; maybe the calls of a further message were made.
pub record ServesAlone (s : Shown) (site : Site) (most : ℕ) (clock : ℕ → ℤ) (exchanges : List Exchange) : Type 0 where
  pub fit : AllFit site most 0 exchanges
  pub unwritten : List Exchange
  pub moments : Option (ℕ → ℤ)
  pub ticked : Ticked (Some clock) moments (all_moments (exchanges ++ unwritten))
  pub desk : Shown
  pub chain : Chain s desk (all_made (exchanges ++ unwritten))
  pub sole : IsSole desk

-- over desks that are alike equal messages have equal responses
abbrev pub ConnectionsAreDetermined : Type 0
ConnectionsAreDetermined = (s s' : Shown) (site : Site) (most : ℕ) (clock : ℕ → ℤ) (xs ys : List Exchange) → AreAlike s s' → ServesAlone s site most clock xs
    → ServesAlone s' site most clock ys → messages_of xs ≡ messages_of ys → all_bytes xs ≡ all_bytes ys
