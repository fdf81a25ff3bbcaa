use Rattle.std.proofs.Common.{◌∙◌, sym, refl, arith, length}
use Rattle.std.proofs.lemmas.Option.{slice_get_read}
use Rattle.zone_instants.proofs.Listed.{listed_here, listed_later, listed_none, none_more, none_named, some_named}
use Rattle.zone_instants.proofs.rules.listed_rule.Goals as goal

pub returns-then-is_named-clause-rule : goal.returns-then-is_named-clause-rule
returns-then-is_named-clause-rule c =
    let at = slice_get_read c.args.zones.now (length c.args.zones.now) c.loop-zone.zone-index c.zone-item.result refl c.loop-zone-test.true c.zone-item.is in
    listed_here c.args.zones.now c.loop-zone.zone-index c.zone-item.result c.args.name.now _ at (sym c.is_named.ensures ∙ c.if-is_named.true) c.rule.ensures c.loop-zone.invariant.rest

pub returns-then-is_named-clause-there : goal.returns-then-is_named-clause-there
returns-then-is_named-clause-there c =
    let at = slice_get_read c.args.zones.now (length c.args.zones.now) c.loop-zone.zone-index c.zone-item.result refl c.loop-zone-test.true c.zone-item.is in
    rw (some_named c.args.zones.now c.loop-zone.zone-index c.zone-item.result c.args.name.now at (sym c.is_named.ensures ∙ c.if-is_named.true)) (λ h. refl, λ h. refl)

pub loop-zone-preserved : goal.loop-zone-preserved
loop-zone-preserved c =
    let at = slice_get_read c.args.zones.now (length c.args.zones.now) c.loop-zone.zone-index c.zone-item.result refl c.loop-zone-test.true c.zone-item.is in
    let h = sym c.is_named.ensures ∙ c.if-is_named.false in
    record {
      rest = listed_later c.args.zones.now c.loop-zone.zone-index c.zone-item.result c.args.name.now at h c.loop-zone.invariant.rest;
      none = none_more c.args.zones.now c.loop-zone.zone-index c.zone-item.result c.args.name.now at h c.loop-zone.invariant.none;
    }

pub returns-clause-rule : goal.returns-clause-rule
returns-clause-rule c = listed_none c.args.zones.now c.loop-zone.zone-index c.args.name.now (omega (arith, c.loop-zone-test.false)) c.loop-zone.invariant.rest

pub returns-clause-there : goal.returns-clause-there
returns-clause-there c =
    rw (none_named c.args.zones.now c.loop-zone.zone-index c.args.name.now (omega (arith, c.loop-zone-test.false)) c.loop-zone.invariant.none) (λ h. h, λ h. h)
