use Rattle.std.proofs.Common.{◌∙◌, map, sym}
use Rattle.spec_json.specs.TreeData.{data_of}
use Rattle.query_filter.specs.SoughtKinds.{sought_of}
use Rattle.query_filter.proofs.ConditionLemmas.{found_condition, found_listed, found_operator, found_unlisted}
use Rattle.query_filter.proofs.sought.SoughtKind.+sought.Goals as goal

pub is_found_in-returns-in-None : goal.is_found_in-returns-in-None
is_found_in-returns-in-None t c = c.is_in_condition.ensures ∙ found_condition (sought_of c.args.self) c.args.filter.now (sym c.in-None.ensures)

pub is_found_in-returns-then-is_in_operator : goal.is_found_in-returns-then-is_in_operator
is_found_in-returns-then-is_in_operator t c =
    found_operator (sought_of c.args.self) c.args.filter.now (data_of c.in-Some.operator.now) (sym c.in-Some.ensures) (sym c.is_in_operator.ensures ∙ c.if-is_in_operator.true)

pub is_found_in-returns-in-None-conditions_of : goal.is_found_in-returns-in-None-conditions_of
is_found_in-returns-in-None-conditions_of t c =
    c.is_in_unlisted.ensures
    ∙ found_unlisted (sought_of c.args.self) c.args.filter.now (data_of c.in-Some.operator.now) (sym c.in-Some.ensures) (sym c.is_in_operator.ensures ∙ c.if-is_in_operator.false) (sym c.in-None-conditions_of.ensures.value)

pub is_found_in-returns-in-Some-conditions_of : goal.is_found_in-returns-in-Some-conditions_of
is_found_in-returns-in-Some-conditions_of t c =
    c.is_found_among.ensures
    ∙ found_listed (sought_of c.args.self) c.args.filter.now (data_of c.in-Some.operator.now) (map data_of c.in-Some-conditions_of.conditions.now) (sym c.in-Some.ensures) (sym c.is_in_operator.ensures ∙ c.if-is_in_operator.false)
    (sym c.in-Some-conditions_of.ensures.value)
