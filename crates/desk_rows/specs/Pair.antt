-- What contracts see of a desk over two accounts.
use Rattle.std.specs.Prelude.{ℕ, ◌-◌, List, [], ◌==◌, if◌then◌else◌}
use Rattle.spec_history.specs.Base.{Base}
use Rattle.account_desk.specs.FreshDesk.{account_rules}
use Rattle.spec_history.specs.MostTurns.{most_turns}
use Rattle.spec_batch.specs.Chain.{Shown}
use Rattle.spec_history.specs.declared.entry.Entry.{Entry}

-- the accounts have the numbers 0 and 1, and the desk makes so many calls more
abbrev pub pair_shown : Base × List Entry → Base × List Entry → ℕ → Shown
pair_shown first second left = record {
  accounts = 2;
  rules = account_rules;
  turns = most_turns - left;
  base = λ k. if k == 0 then first.0 else second.0;
  seen = λ k. if k == 0 then first.1 else if k == 1 then second.1 else [];
  author = λ k. 0;
  last = λ k. most_turns - left;
}
