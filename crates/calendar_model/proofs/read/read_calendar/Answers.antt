use Rattle.std.proofs.Common.{◌≡◌, ◌==◌, ◌∙◌, [], ap, arith, length, subst, sym, vec_len}
use Rattle.cal_model.specs.Calendar.{bad_properties, stored}
use Rattle.spec_json.specs.Data.{members_of, object}
use Rattle.spec_json.specs.TreeData.{data_of}
use Rattle.calendar_model.proofs.ValidLemmas.{none_left, stored_is_valid}
use Rattle.calendar_model.proofs.read.read_calendar.Goals as goal

pub returns-clause-stored : goal.returns-clause-stored
returns-clause-stored c =
    let zones = c.args.zones.now in
    let names = c.in_ok-names.names in
    let same : vec_len names ≡ length names.items = omega (arith, names.ok) in
    let valid = sym c.in_ok-names.ensures ∙ none_left names.items (sym c.if-not-is_empty.false ∙ c.is_empty.ensures ∙ ap (λ n. n == 0) same) in
    subst (λ p. bad_properties zones (object (members_of (stored p))) ≡ []) (sym c.in_ok-calendar.ensures)
    (stored_is_valid zones (data_of c.args.tree.now) c.members_in-ordered.ensures.ordered valid)
