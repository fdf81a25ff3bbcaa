-- What an account was opened with, which no call changes.
use Rattle.std.specs.Prelude.{ℕ, List, []}

pub record Base : Type 0 where
  -- the account's id (RFC 8620 section 1.6.2)
  pub account_id : List ℕ
  -- the names of its time zones, each with its POSIX rule
  pub zones : List (List ℕ × List ℕ)
  -- which copy of the data the account goes on from: another one after an older copy was put back
  pub generation : ℕ

-- that of what has no account
abbrev pub no_base : Base
no_base = record { account_id = []; zones = []; generation = 0 }
