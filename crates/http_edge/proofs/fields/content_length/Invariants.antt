use Rattle.std.proofs.Common.{◌≡◌, map, drop, codes, fold}
use Rattle.httparse.specs.Spans.{header_bytes}
use Rattle.spec_http.specs.Fields.{length_said, values_of}
use Rattle.http_edge.specs.Reading.{length_shown, length_step}
use Rattle.http_edge.proofs.fields.content_length.Given as goal

abbrev pub invariant-loop-field : goal.invariant-loop-field
invariant-loop-field l =
    fold length_step (length_shown l.found) (values_of (codes "content-length") (map (header_bytes l.head) (drop l.field-index l.fields)))
    ≡ length_said (values_of (codes "content-length") (map (header_bytes l.head) l.fields))
