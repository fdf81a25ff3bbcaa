-- The loop of `are_of_ndays`: the members so far pass.
use Rattle.std.proofs.Common.{◌≡◌, ◌||◌, drop, map}
use Rattle.std.specs.List.{list_all, list_any}
use Rattle.std.specs.Str.{bytes_eq}
use Rattle.spec_json.specs.TreeData.{pair_of}
use Rattle.spec_series.specs.RuleObjects.{is_absent, nday_names}
use Rattle.rule_read.proofs.words.are_of_ndays.Given as goal

abbrev pub invariant-loop-member : goal.invariant-loop-member
invariant-loop-member l =
    list_all (λ p. list_any (λ name. bytes_eq p.0 name) nday_names || is_absent p.1) (map pair_of (drop l.member-index l.members))
    ≡ list_all (λ p. list_any (λ name. bytes_eq p.0 name) nday_names || is_absent p.1) (map pair_of l.members)
