use Rattle.std.proofs.Common.{◌≡◌, ◌++◌, drop, map, option_map}
use Rattle.spec_json.specs.Parts.{all_some, members_in}
use Rattle.spec_json.specs.TreeData.{data_of, pair_of}
use Rattle.spec_recurrence.specs.Overrides.{exception_in, first_refused}
use Rattle.overrides.proofs.exceptions.exceptions_among.Given as goal

abbrev pub invariant-loop-member : goal.invariant-loop-member
invariant-loop-member l = record {
  done : option_map (λ xs. l.exceptions.items ++ xs) (all_some (exception_in l.zones (members_in (data_of l.alone.event))) (map pair_of (drop l.member-index l.overrides))) ≡ all_some (exception_in l.zones (members_in (data_of l.alone.event))) (map pair_of l.overrides);
  refused : first_refused l.zones (members_in (data_of l.alone.event)) (map pair_of (drop l.member-index l.overrides)) ≡ first_refused l.zones (members_in (data_of l.alone.event)) (map pair_of l.overrides);
}
