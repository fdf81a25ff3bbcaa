use Rattle.std.proofs.Common.{◌≡◌, map, drop}
use Rattle.httparse.specs.Spans.{header_bytes}
use Rattle.spec_http.specs.Fields.{values_of}
use Rattle.http_edge.proofs.fields.first_of.Given as goal

abbrev pub invariant-loop-field : goal.invariant-loop-field
invariant-loop-field l = values_of l.name (map (header_bytes l.head) (drop l.field-index l.fields)) ≡ values_of l.name (map (header_bytes l.head) l.fields)
