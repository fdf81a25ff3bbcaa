use Rattle.std.proofs.Common.{◌≡◌, ◌+◌, arith, map, sym}
use Rattle.spec_json.specs.TreeData.{data_of}
use Rattle.query_filter.proofs.ConditionLemmas.{counted_condition, counted_listed, counted_unlisted, left_behind_one}
use Rattle.query_filter.proofs.parts.+parts.Goals as goal

pub left_behind_object-returns-in-None : goal.left_behind_object-returns-in-None
left_behind_object-returns-in-None t c = omega (arith, c.in_ok-rest.ensures.0, c.in_ok-rest.ensures.1, counted_condition c.args.filter.now (sym c.in-None.ensures))

pub left_behind_object-returns-in-None-conditions_of : goal.left_behind_object-returns-in-None-conditions_of
left_behind_object-returns-in-None-conditions_of t c =
    let one = counted_unlisted c.args.filter.now (data_of c.in-Some.field-0.now) (sym c.in-Some.ensures) (sym c.in-None-conditions_of.ensures.value) in
    omega (arith, c.in_ok-rest.ensures.0, c.in_ok-rest.ensures.1, one)

pub left_behind_object-returns-in-Some-conditions_of : goal.left_behind_object-returns-in-Some-conditions_of
left_behind_object-returns-in-Some-conditions_of t c =
    let more = counted_listed c.args.filter.now (data_of c.in-Some.field-0.now) (map data_of c.in-Some-conditions_of.conditions.now) (sym c.in-Some.ensures) (sym c.in-Some-conditions_of.ensures.value) in
    let before : c.in_ok-rest.rest + 1 ≡ c.args.left = omega (arith, c.in_ok-rest.ensures.0, c.in_ok-rest.ensures.1) in
    left_behind_one c.left_behind_all.result c.args.left c.in_ok-rest.rest _ _ before more c.left_behind_all.ensures
