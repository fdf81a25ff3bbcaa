use Rattle.std.proofs.Common.{◌≡◌, ap, arith, is_some, length, sym, ◌∙◌}
use Rattle.std.proofs.lemmas.List.FromFn.{length-range_with_len}
use Rattle.object_log.proofs.ComingLemmas.{copied_some, next_comes, other_comes}
use Rattle.object_log.proofs.PutLemmas.{ids_few}
use Rattle.object_log.specs.Puts.{ids_put, latest}
use Rattle.object_log.proofs.log.ObjectLog.may_come.Goals as goal

pub overflow_add-self : goal.overflow_add-self
overflow_add-self g c =
    let t = c.args.self.now in
    omega (arith, t.few, ids_few t.told.items, ap length t.numbered, length-range_with_len 1 t.slots.created)

pub returns-then-id-self : goal.returns-then-id-self
returns-then-id-self g c = λ p is.
    let t = c.args.self.now in
    sym (next_comes t.told.items p (omega (arith, is, c.if-id-self.true, ap length t.numbered, length-range_with_len 1 t.slots.created)))

pub returns : goal.returns
returns g c = λ p is.
    let t = c.args.self.now in
    let count : length (ids_put t.told.items) ≡ t.slots.created = ap length t.numbered ∙ length-range_with_len 1 t.slots.created in
    c.is_some.ensures ∙ sym (copied_some c.get.result) ∙ ap is_some (c.get.ensures ∙ ap (latest t.told.items) (sym is))
    ∙ sym (other_comes t.told.items p (λ next. c.if-id-self.false (omega (arith, is, next, count))))
