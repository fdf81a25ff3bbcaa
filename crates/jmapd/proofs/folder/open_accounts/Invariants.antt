use Rattle.std.proofs.Common.{◌≡◌, ◌≤◌, None, length, map, take}
use Rattle.std.specs.Prelude.{All, vec_capacity}
use Rattle.account_desk.specs.FreshDesk.{bases}
use Rattle.cal_model.specs.GoesOn.{GoesOn}
use Rattle.spec_history.specs.History.{changes_of}
use Rattle.jmapd.proofs.folder.open_accounts.Given as goal

abbrev pub invariant-loop-n : goal.invariant-loop-n
invariant-loop-n l = record {
  bases : map (λ a. a.0) l.accounts.items ≡ take l.n (bases l.site);
  go_on : All (λ a. GoesOn a.0.zones (changes_of a.1)) l.accounts.items;
  many : length l.accounts.items ≡ l.n;
  room : length l.site.accounts ≤ vec_capacity l.accounts;
  faults : l.initial.faults ≤ l.faults;
  damages : l.initial.damages ≤ l.damages;
}
