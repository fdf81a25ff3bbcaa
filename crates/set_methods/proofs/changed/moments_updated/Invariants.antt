use Rattle.std.proofs.Common.{◌≡◌, ◌++◌, codes, drop, filter, map}
use Rattle.std.specs.Str.{bytes_eq}
use Rattle.spec_json.specs.TreeData.{pair_of}
use Rattle.set_methods.proofs.changed.moments_updated.Given as goal

abbrev pub invariant-loop-member : goal.invariant-loop-member
invariant-loop-member l = map pair_of l.moments.items ++ filter (λ p. bytes_eq p.0 (codes "updated")) (map pair_of (drop l.member-index l.stored)) ≡ filter (λ p. bytes_eq p.0 (codes "updated")) (map pair_of l.stored)
