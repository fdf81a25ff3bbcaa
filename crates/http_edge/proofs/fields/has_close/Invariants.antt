use Rattle.std.proofs.Common.{◌≡◌, map, drop, codes}
use Rattle.std.specs.List.{list_any}
use Rattle.httparse.specs.Spans.{header_bytes}
use Rattle.spec_http.specs.Fields.{says_close, values_of}
use Rattle.http_edge.proofs.fields.has_close.Given as goal

abbrev pub invariant-loop-field : goal.invariant-loop-field
invariant-loop-field l =
    list_any says_close (values_of (codes "connection") (map (header_bytes l.head) (drop l.field-index l.fields)))
    ≡ list_any says_close (values_of (codes "connection") (map (header_bytes l.head) l.fields))
