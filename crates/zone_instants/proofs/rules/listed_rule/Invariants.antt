use Rattle.std.specs.Prelude.{◌≡◌, drop, take, false}
use Rattle.std.specs.List.{list_any}
use Rattle.std.specs.Str.{bytes_eq}
use Rattle.spec_windows.specs.ZoneRules.{listed_rule}
use Rattle.zone_instants.proofs.rules.listed_rule.Given as goal

abbrev pub invariant-loop-zone : goal.invariant-loop-zone
invariant-loop-zone l = record {
  rest : listed_rule (drop l.zone-index l.zones) l.name ≡ listed_rule l.zones l.name;
  none : list_any (λ z. bytes_eq z.0 l.name) (take l.zone-index l.zones) ≡ false;
}
