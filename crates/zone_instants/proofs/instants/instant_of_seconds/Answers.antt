use Rattle.std.proofs.Common.{◌≡◌, FitsSigned, ap, false, is_some, not, w64, rules, sym, ◌∙◌}
use Rattle.std.proofs.lemmas.Int.{to_z-of_z}
use Rattle.jiff_tz.specs.PosixText.{tz_view}
use Rattle.zone_instants.proofs.Readings.{instant-fixed, instant-is, instant-none}
use Rattle.zone_instants.proofs.instants.instant_of_seconds.Goals as goal

pub returns-then-not-is_showing : goal.returns-then-not-is_showing
returns-then-not-is_showing c =
    let w : FitsSigned w64 c.args.wall = c.ranges.wall in
    let s = simp to_z-of_z at (sym c.is_showing.ensures ∙ c.if-not-is_showing.true) in
    sym (instant-none (tz_view c.args.rule.now) c.args.wall s)

pub returns-then-is_none : goal.returns-then-is_none
returns-then-is_none c =
    let w : FitsSigned w64 c.args.wall = c.ranges.wall in
    let f : FitsSigned w64 c.at_offset.result = search rules in
    let s = simp to_z-of_z at (sym c.is_showing.ensures ∙ c.if-not-is_showing.false) in
    let e = simp to_z-of_z at c.at_offset.ensures in
    let fixed : is_some c.args.rule.now.dst ≡ false = c.is_none.ensures ∙ ap not c.if-is_none.true in
    simp to_z-of_z (instant-fixed c.args.rule.now c.args.wall c.at_offset.result fixed e s)

pub returns : goal.returns
returns c =
    let w : FitsSigned w64 c.args.wall = c.ranges.wall in
    let f : FitsSigned w64 c.by_offsets.result = search rules in
    let s = simp to_z-of_z at (sym c.is_showing.ensures ∙ c.if-not-is_showing.false) in
    let e = simp to_z-of_z at c.datetime_of.ensures in
    let h = simp to_z-of_z at c.by_offsets.ensures in
    let o = rw c.to_ambiguous_offset-offsets.ensures at h in
    simp to_z-of_z (instant-is c.args.rule.now c.datetime_of.result c.args.wall c.by_offsets.result e o s)
