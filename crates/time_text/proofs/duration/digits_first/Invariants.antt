use Rattle.std.proofs.Common.{◌≡◌, ◌≤◌, ◌+◌, ◌-◌, drop, take, length, true}
use Rattle.std.specs.Char.{is_ascii_digit}
use Rattle.std.specs.List.{list_all}
use Rattle.time_text.specs.DurationParts.{digits_first}
use Rattle.time_text.proofs.duration.digits_first.Given as goal

abbrev pub invariant-loop-i : goal.invariant-loop-i
invariant-loop-i l = record {
  place : l.i ≤ length l.text;
  rest : l.i + digits_first (drop l.i l.text) ≡ digits_first l.text;
  digits : list_all is_ascii_digit (take l.i l.text) ≡ true;
}

abbrev pub decreases-loop-i : goal.decreases-loop-i
decreases-loop-i l = length l.text - l.i
