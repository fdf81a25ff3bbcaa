use Rattle.std.proofs.Common.{◌≡◌, ◌∙◌, [], Bool, ap, map, subst, sym}
use Rattle.std.specs.Prelude.{IfOk}
use Rattle.spec_filters.specs.Filters.{holds, operator_holds}
use Rattle.spec_json.specs.TreeData.{data_of}
use Rattle.query_filter.specs.EventTests.{event_meets}
use Rattle.query_filter.proofs.ConditionLemmas.{holds_condition, holds_listed, holds_unlisted}
use Rattle.query_filter.proofs.condition.EventTest.+holds.Goals as goal

pub object_holds-returns-in-None : goal.object_holds-returns-in-None
object_holds-returns-in-None t c = subst (λ (x : Bool). IfOk c.meets.result (λ b. b ≡ x)) (holds_condition (event_meets c.args.self.now) c.args.filter.now (sym c.in-None.ensures)) c.meets.ensures

pub object_holds-returns-in-None-conditions_of : goal.object_holds-returns-in-None-conditions_of
object_holds-returns-in-None-conditions_of t c =
    subst (λ (x : Bool). IfOk c.operator_holds.result (λ b. b ≡ x))
    (ap (λ op. operator_holds op []) c.name_of.ensures
    ∙ holds_unlisted (event_meets c.args.self.now) c.args.filter.now (data_of c.in-Some.operator.now) (sym c.in-Some.ensures) (sym c.in-None-conditions_of.ensures.value))
    c.operator_holds.ensures

pub object_holds-returns-in-Some-conditions_of : goal.object_holds-returns-in-Some-conditions_of
object_holds-returns-in-Some-conditions_of t c =
    subst (λ (x : Bool). IfOk c.operator_holds-in-Some-conditions_of.result (λ b. b ≡ x))
    (ap (λ op. operator_holds op (map (holds (event_meets c.args.self.now)) (map data_of c.in-Some-conditions_of.conditions.now))) c.name_of-in-Some-conditions_of.ensures
    ∙ holds_listed (event_meets c.args.self.now) c.args.filter.now (data_of c.in-Some.operator.now) (map data_of c.in-Some-conditions_of.conditions.now) (sym c.in-Some.ensures) (sym c.in-Some-conditions_of.ensures.value))
    c.operator_holds-in-Some-conditions_of.ensures
