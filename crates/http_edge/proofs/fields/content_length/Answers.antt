use Rattle.std.proofs.Common.{map, codes, ap₂, ◌∙◌, fold}
use Rattle.httparse.specs.Spans.{header_bytes}
use Rattle.spec_http.specs.Fields.{values_of, length_said, value_if_named}
use Rattle.http_edge.specs.Reading.{length_step, length_shown}
use Rattle.http_edge.proofs.Values.{fold_values}
use Rattle.http_edge.proofs.Lengths.{said}
use Rattle.http_edge.proofs.fields.content_length.Goals as goal

pub loop-field-init : goal.loop-field-init
loop-field-init c = said (values_of (codes "content-length") (map (header_bytes c.args.head.now) c.args.fields.now))

pub loop-field-preserved : goal.loop-field-preserved
loop-field-preserved c =
    fold_values length_step (codes "content-length") (header_bytes c.args.head.now) c.args.fields.now c.loop-field.field-index _ (length_shown c.loop-field.found) (length_shown c.with_field-found.result)
    (length_said (values_of (codes "content-length") (map (header_bytes c.args.head.now) c.args.fields.now))) c.loop-field-test.true
    (c.with_field-found.ensures ∙ ap₂ (λ n v. fold length_step (length_shown c.loop-field.found) (value_if_named (codes "content-length") (n, v))) c.of.ensures c.of-in-loop-field.ensures) c.loop-field.invariant
