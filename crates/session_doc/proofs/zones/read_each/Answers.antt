use Rattle.std.proofs.Common.{◌≡◌, ◌<◌, ◌≤◌, [], None, Some, Err, Ok, length, map, sym, ap, refl, ◌∙◌, arith}
use Rattle.std.proofs.lemmas.List.{length-map}
use Rattle.spec_site.specs.TimeZones.{first_bad_zone}
use Rattle.spec_json.specs.TreeData.{data_of}
use Rattle.session_doc.specs.LeadingZones.{leading_zones}
use Rattle.session_doc.proofs.ZonesRead.{bad_zone, leading_fewer, none_left, some_left}
use Rattle.session_doc.proofs.zones.read_each.Goals as goal

pub read-requires : goal.read-requires
read-requires c =
    let same : c.deref.result.now ≡ leading_zones (map data_of c.args.items.now) = c.deref.ensures.value ∙ c.in_ok-texts.ensures in
    omega (arith, ap length same, leading_fewer (map data_of c.args.items.now), length-map c.args.items.now data_of)

pub returns-then-len-items-clause-err : goal.returns-then-len-items-clause-err
returns-then-len-items-clause-err c =
    let ds = map data_of c.args.items.now in
    let same : c.deref.result.now ≡ leading_zones ds = c.deref.ensures.value ∙ c.in_ok-texts.ensures in
    let good : first_bad_zone [] (leading_zones ds) ≡ None = ap (first_bad_zone []) (sym same) ∙ c.in-Ok.ensures.good in
    let left : length (leading_zones ds) < length ds = omega (arith, ap length c.in_ok-texts.ensures, length-map c.args.items.now data_of) in
    rw c.bad.ensures (refl, some_left [] ds good left ∙ ap Err (omega (arith, ap length c.in_ok-texts.ensures)))

pub returns-in-Ok-clause-ok : goal.returns-in-Ok-clause-ok
returns-in-Ok-clause-ok c =
    let ds = map data_of c.args.items.now in
    let same : c.deref.result.now ≡ leading_zones ds = c.deref.ensures.value ∙ c.in_ok-texts.ensures in
    let good : first_bad_zone [] (leading_zones ds) ≡ None = ap (first_bad_zone []) (sym same) ∙ c.in-Ok.ensures.good in
    let left : length ds ≤ length (leading_zones ds) = omega (arith, ap length c.in_ok-texts.ensures, length-map c.args.items.now data_of) in
    none_left [] ds good left ∙ ap Ok (sym (c.in-Ok.ensures.zones ∙ same))

pub returns-in-Err-BadZone-clause-err : goal.returns-in-Err-BadZone-clause-err
returns-in-Err-BadZone-clause-err c =
    let ds = map data_of c.args.items.now in
    let same : c.deref.result.now ≡ leading_zones ds = c.deref.ensures.value ∙ c.in_ok-texts.ensures in
    let bad : first_bad_zone [] (leading_zones ds) ≡ Some c.in-Err-BadZone.index = ap (first_bad_zone []) (sym same) ∙ rw c.in-Err-BadZone.field-0-is at c.in-Err-BadZone.ensures.err in
    rw c.bad-in-Err-BadZone.ensures (refl, bad_zone [] ds c.in-Err-BadZone.index bad)
