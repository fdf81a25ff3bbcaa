use Rattle.std.proofs.Common.{◌≡◌, ◌∙◌, inl, inr, List, [], ℕ, ap, arith, drop, length, refl, sum_by, sym}
use Rattle.std.specs.Option.{option_copied}
use Rattle.account_opening.proofs.JudgeLemmas.{object_there}
use Rattle.account_opening.proofs.LoadLemmas.{all_of, none_left, objects_of, one_counted, one_weighed}
use Rattle.account_store.specs.Store.{entries}
use Rattle.spec_history.specs.History.{changes_of}
use Rattle.spec_json.specs.Json.{text_of}
use Rattle.spec_json.specs.TreeData.{data_of}
use Rattle.spec_json.specs.declared.tree.Tree.{Tree}
use Rattle.account_opening.proofs.weigh.with_kind.Goals as goal

pub loop-id-init : goal.loop-id-init
loop-id-init c = record { objects = refl; bytes = refl }

pub unreachable-requires : goal.unreachable-requires
unreachable-requires c =
    object_there [] (changes_of (entries c.args.store.now)) c.args.kind c.deref-id-items.result.now (c.deref-id-items.ensures.value ∙ c.in_ok-ids.ensures) c.loop-id.id-index c.loop-id-test.true
    (sym c.object.ensures ∙ ap option_copied c.in_default.is)

abbrev size : Tree → ℕ
size = λ t. length (text_of (data_of t))

pub loop-id-preserved : goal.loop-id-preserved
loop-id-preserved c =
    let cs = changes_of (entries c.args.store.now) in
    let ids = c.deref-id-items.result.now in
    let k = c.loop-id.id-index in
    let live = sym c.object.ensures ∙ ap option_copied c.in-Some.is in
    let counted = one_counted cs c.args.kind size ids k c.loop-id-test.true c.in-Some.object.now live in
    let weighed = one_weighed cs c.args.kind size ids k c.loop-id-test.true c.in-Some.object.now live in
    record {
      objects = omega (arith, counted, c.loop-id.invariant.objects, c.in-Some-with_object.ensures.objects);
      bytes = omega (arith, weighed, c.loop-id.invariant.bytes, c.in-Some-with_object.ensures.bytes);
    }

pub returns-in_default-with_object-clause-refused : goal.returns-in_default-with_object-clause-refused
returns-in_default-with_object-clause-refused c = λ k n is few small.
    let cs = changes_of (entries c.args.store.now) in
    let ids = c.deref-id-items.result.now in
    let i = c.loop-id.id-index in
    let live = sym c.object.ensures ∙ ap option_copied c.in-Some.is in
    let counted = one_counted cs c.args.kind size ids i c.loop-id-test.true c.in-Some.object.now live in
    let weighed = one_weighed cs c.args.kind size ids i c.loop-id-test.true c.in-Some.object.now live in
    let all = all_of cs c.args.kind size ids (c.deref-id-items.ensures.value ∙ c.in_ok-ids.ensures) in
    let many = ap (λ (os : List Tree). length os) all in
    let bytes = ap (sum_by size) all in
    elim c.in_default-with_object.ensures.none [
      | inl over ↦ omega (arith, over, few, many, counted, c.loop-id.invariant.objects)
      | inr over ↦ omega (arith, over, small, bytes, weighed, c.loop-id.invariant.bytes)
    ]

pub returns-clause-objects : goal.returns-clause-objects
returns-clause-objects c =
    let cs = changes_of (entries c.args.store.now) in
    let ids = c.deref-id-items.result.now in
    let all = ap (λ (os : List Tree). length os) (all_of cs c.args.kind size ids (c.deref-id-items.ensures.value ∙ c.in_ok-ids.ensures)) in
    let none = ap (λ (os : List Tree). length os) (none_left cs c.args.kind size ids c.loop-id.id-index c.loop-id-test.false) in
    omega (arith, all, none, c.loop-id.invariant.objects)

pub returns-clause-bytes : goal.returns-clause-bytes
returns-clause-bytes c =
    let cs = changes_of (entries c.args.store.now) in
    let ids = c.deref-id-items.result.now in
    let all = ap (sum_by size) (all_of cs c.args.kind size ids (c.deref-id-items.ensures.value ∙ c.in_ok-ids.ensures)) in
    let none : sum_by size (objects_of cs c.args.kind size (drop c.loop-id.id-index ids)) ≡ 0 = ap (sum_by size) (none_left cs c.args.kind size ids c.loop-id.id-index c.loop-id-test.false) in
    omega (arith, all, none, c.loop-id.invariant.bytes)
