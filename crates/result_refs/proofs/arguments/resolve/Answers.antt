use Rattle.std.proofs.Common.{◌≡◌, false, arith, refl}
use Rattle.std.proofs.lemmas.Grind.{common_steps}
use Rattle.std.specs.List.{list_any}
use Rattle.std.proofs.lemmas.Result.{err_from_is_err_and}
use Rattle.spec_batch.specs.References.{has_both_forms, has_too_many}
use Rattle.result_refs.proofs.PartedLemmas.{reports_bad, resolved_by_parts}
use Rattle.result_refs.proofs.ReferredLemmas.{are_small, reports_large}
use Rattle.result_refs.specs.Parted.{references_in}
use Rattle.result_refs.proofs.arguments.resolve.Goals as goal

pub returns-in_err-size-clause-err : goal.returns-in_err-size-clause-err
returns-in_err-size-clause-err c =
    let few : has_too_many c.args.arguments ≡ false = grind (arith, common_steps) in
    let one_form : list_any (λ p. has_both_forms c.args.arguments p) c.args.arguments ≡ false = grind (arith, common_steps) in
    let bad = reports_bad c.in_err-size.field-0.0 c.args.responses.now c.args.arguments (references_in c.args.arguments) few one_form refl c.in_err-size.ensures.err in
    let passed = err_from_is_err_and c.from_residual.result c.from_residual.ensures.1 in
    rw (passed.1, passed.2) bad

pub returns-then-size-gt-MAX_REFERRED_BYTES-clause-err : goal.returns-then-size-gt-MAX_REFERRED_BYTES-clause-err
returns-then-size-gt-MAX_REFERRED_BYTES-clause-err c =
    let few : has_too_many c.args.arguments ≡ false = grind (arith, common_steps) in
    let one_form : list_any (λ p. has_both_forms c.args.arguments p) c.args.arguments ≡ false = grind (arith, common_steps) in
    reports_large c.in_ok-size.size c.args.responses.now c.args.arguments few one_form c.in_ok-size.ensures.ok c.if-size-gt-MAX_REFERRED_BYTES.true

pub returns-in_err-values-clause-err : goal.returns-in_err-values-clause-err
returns-in_err-values-clause-err c =
    let few : has_too_many c.args.arguments ≡ false = grind (arith, common_steps) in
    let one_form : list_any (λ p. has_both_forms c.args.arguments p) c.args.arguments ≡ false = grind (arith, common_steps) in
    let bad = reports_bad c.in_err-values.field-0.0 c.args.responses.now c.args.arguments c.in_ok-parted.parted.references few one_form c.in_ok-parted.ensures.references c.in_err-values.ensures.err in
    let passed = err_from_is_err_and c.from_residual-in_err-values.result c.from_residual-in_err-values.ensures.1 in
    rw (passed.1, passed.2) bad

pub returns-clause-ok : goal.returns-clause-ok
returns-clause-ok c =
    let few : has_too_many c.args.arguments ≡ false = grind (arith, common_steps) in
    let one_form : list_any (λ p. has_both_forms c.args.arguments p) c.args.arguments ≡ false = grind (arith, common_steps) in
    resolved_by_parts c.args.responses.now c.args.arguments c.in_ok-parted.parted.plain c.in_ok-parted.parted.references c.in_ok-values.values c.in_ok-with_all.field-0 few one_form c.in_ok-parted.ensures.plain c.in_ok-parted.ensures.references c.in_ok-values.ensures.ok
    (are_small c.in_ok-size.size c.args.responses.now c.args.arguments c.in_ok-size.ensures.ok c.if-size-gt-MAX_REFERRED_BYTES.false) c.in_ok-with_all.ensures
