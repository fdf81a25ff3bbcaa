-- What contracts see of a desk that has its accounts for itself.
use Rattle.std.specs.Prelude.{◌≡◌, ◌≤◌, ◌<◌, ◌^◌, ℕ, List, [], All, Result, Ok, Err, length, map, slice_index_or}
use Rattle.spec_history.specs.Base.{Base, no_base}
use Rattle.spec_batch.specs.Chain.{Shown}
use Rattle.account_desk.specs.FreshDesk.{account_rules, bases}
use Rattle.spec_history.specs.MostTurns.{most_turns}
use Rattle.spec_history.specs.Signed.{written_by}
use Rattle.spec_site.specs.Configuration.{Site}
use Rattle.spec_calls.specs.declared.call.Reply.{Reply}
use Rattle.spec_batch.specs.declared.desk.DeskError.{DeskError}
use Rattle.spec_batch.specs.declared.desk.DeskError.TheVariants.{NoMemory}
use Rattle.spec_history.specs.declared.entry.Entry.{Entry}

-- the base and the entries of the account of a number; none are there where it has no such account
abbrev pub account_at : List (Base × List Entry) → ℕ → Base × List Entry
account_at accounts k = slice_index_or accounts k (no_base, [])

-- each call is the desk's and its account's next turn
abbrev pub shown_of : List (Base × List Entry) × ℕ → Shown
shown_of d = record {
  accounts = length d.0;
  rules = account_rules;
  turns = d.1;
  base = λ k. (account_at d.0 k).0;
  seen = λ k. (account_at d.0 k).1;
  author = λ k. 0;
  last = λ k. d.1;
}

-- the account of a number of a site, before any call
abbrev pub fresh_account : Site → ℕ → Base × List Entry
fresh_account site n = (slice_index_or (bases site) n no_base, [])

-- the accounts of a site, in its order, before any call
abbrev pub fresh_accounts : Site → List (Base × List Entry)
fresh_accounts site = map (λ b. (b, [])) (bases site)

-- what is true of every such desk
pub record IsSoleDesk (accounts : List (Base × List Entry)) (turns : ℕ) : Type 0 where
  pub few : length accounts < 2 ^ 32
  pub within : turns ≤ most_turns
  pub own : All (λ a. written_by 0 a.1 ≡ a.1) accounts

-- the reply of an account as the desk's
abbrev pub of_desk : {E : Type 0} → Result Reply E → Result Reply DeskError
of_desk (Ok reply) = Ok reply
of_desk (Err e) = Err NoMemory
