use Rattle.std.proofs.Common.{◌≡◌, ◌+◌, ◌≤◌, ℕ, arith, length, length-append, sum_by}
use Rattle.std.proofs.lemmas.List.Sums.{sum_by-append}
use Rattle.std.proofs.lemmas.Result.{IfErr-weaker, err_from_is_err_and}
use Rattle.account_opening.proofs.JudgeLemmas.{named_where_unfit}
use Rattle.account_opening.specs.Opening.{NamesUnsound}
use Rattle.account_opening.specs.declared.open.OpeningError.{OpeningError}
use Rattle.account_opening.specs.declared.open.OpeningError.TheVariants.{BadObject}
use Rattle.account_store.specs.Store.{entries}
use Rattle.cal_model.specs.declared.limits.TheConstants.{MAX_OBJECT_BYTES, MAX_OBJECTS}
use Rattle.spec_history.specs.History.{changes_of, live_at}
use Rattle.spec_history.specs.declared.entry.Kind.{Kind}
use Rattle.spec_history.specs.declared.entry.Kind.TheVariants.{Calendar, Event}
use Rattle.spec_json.specs.Json.{text_of}
use Rattle.spec_json.specs.TreeData.{data_of}
use Rattle.spec_json.specs.declared.tree.Tree.{Tree}
use Rattle.account_opening.proofs.weigh.weigh.Goals as goal

abbrev size : Tree → ℕ
size = λ t. length (text_of (data_of t))

pub returns-in_err-calendars-clause-named : goal.returns-in_err-calendars-clause-named
returns-in_err-calendars-clause-named c = λ zones.
    let cs = changes_of (entries c.args.store.now) in
    let passed = err_from_is_err_and c.from_residual.result c.from_residual.ensures.1 in
    let many = length-append (live_at cs Calendar) (live_at cs Event) in
    let bytes = sum_by-append size (live_at cs Calendar) (live_at cs Event) in
    rw (passed.1, passed.2)
    (named_where_unfit zones cs c.in_err-calendars.field-0.0
    (λ kind id is fits. c.in_err-calendars.ensures.refused kind id is (omega (arith, many, fits.live)) (omega (arith, bytes, fits.size))))

pub returns-clause-named : goal.returns-clause-named
returns-clause-named c = λ zones.
    let cs = changes_of (entries c.args.store.now) in
    let load = c.in_ok-calendars.calendars in
    let many = length-append (live_at cs Calendar) (live_at cs Event) in
    let bytes = sum_by-append size (live_at cs Calendar) (live_at cs Event) in
    IfErr-weaker c.with_kind-2.result
    (λ (e : OpeningError). (kind : Kind) (id : ℕ) → e ≡ BadObject kind id → load.objects + length (live_at cs Event) ≤ MAX_OBJECTS → load.bytes + sum_by size (live_at cs Event) ≤ MAX_OBJECT_BYTES → ⊥)
    (NamesUnsound zones cs)
    (λ e h. named_where_unfit zones cs e
    (λ kind id is fits. h kind id is (omega (arith, many, fits.live, c.in_ok-calendars.ensures.objects)) (omega (arith, bytes, fits.size, c.in_ok-calendars.ensures.bytes)))) c.with_kind-2.ensures.refused
