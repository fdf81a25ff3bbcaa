use Rattle.std.proofs.Common.{◌≡◌, true, false, Some, sym, ap, ◌∙◌}
use Rattle.httparse.specs.Spans.{header_bytes}
use Rattle.spec_http.specs.Fields.{same_word, first_value}
use Rattle.http_edge.proofs.Values.{value_here, value_elsewhere}
use Rattle.http_edge.proofs.fields.first_of.Goals as goal

pub returns-then-is_same_word : goal.returns-then-is_same_word
returns-then-is_same_word c =
    let e : same_word c.of.result.now c.args.name.now ≡ true = sym c.is_same_word.ensures ∙ c.if-is_same_word.true in
    let v = value_here c.args.name.now (header_bytes c.args.head.now) c.args.fields.now c.loop-field.field-index _ c.loop-field-test.true (ap (λ n. same_word n c.args.name.now) (sym c.of.ensures) ∙ e) in
    ap Some c.of-then-is_same_word.ensures ∙ sym (ap first_value (sym c.loop-field.invariant ∙ v))

pub loop-field-preserved : goal.loop-field-preserved
loop-field-preserved c =
    let e : same_word c.of.result.now c.args.name.now ≡ false = sym c.is_same_word.ensures ∙ c.if-is_same_word.false in
    sym (value_elsewhere c.args.name.now (header_bytes c.args.head.now) c.args.fields.now c.loop-field.field-index _ c.loop-field-test.true (ap (λ n. same_word n c.args.name.now) (sym c.of.ensures) ∙ e)) ∙ c.loop-field.invariant
