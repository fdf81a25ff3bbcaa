use Rattle.std.proofs.Common.{◌≡◌, true, false, codes, sym, ap₂, ◌∙◌}
use Rattle.std.specs.Prelude.{◌&&◌}
use Rattle.httparse.specs.Spans.{header_bytes}
use Rattle.spec_http.specs.Fields.{same_word, says_close}
use Rattle.http_edge.proofs.Values.{any_here, any_elsewhere}
use Rattle.http_edge.proofs.fields.has_close.Goals as goal

pub returns-then-is_close : goal.returns-then-is_close
returns-then-is_close c =
    let e : (same_word c.of.result.now (codes "connection") && says_close c.of-in-loop-field.result.now) ≡ true = sym c.is_close.ensures ∙ c.if-is_close.true in
    sym (sym c.loop-field.invariant ∙ any_here (codes "connection") says_close (header_bytes c.args.head.now) c.args.fields.now c.loop-field.field-index _ c.loop-field-test.true
    (ap₂ (λ n v. same_word n (codes "connection") && says_close v) (sym c.of.ensures) (sym c.of-in-loop-field.ensures) ∙ e))

pub loop-field-preserved : goal.loop-field-preserved
loop-field-preserved c =
    let e : (same_word c.of.result.now (codes "connection") && says_close c.of-in-loop-field.result.now) ≡ false = sym c.is_close.ensures ∙ c.if-is_close.false in
    sym (any_elsewhere (codes "connection") says_close (header_bytes c.args.head.now) c.args.fields.now c.loop-field.field-index _ c.loop-field-test.true
    (ap₂ (λ n v. same_word n (codes "connection") && says_close v) (sym c.of.ensures) (sym c.of-in-loop-field.ensures) ∙ e)) ∙ c.loop-field.invariant
