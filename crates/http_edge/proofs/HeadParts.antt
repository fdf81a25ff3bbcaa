-- The parts of a head, where the parser found them.
use Rattle.std.proofs.Common.{◌≡◌, ℕ, ◌≤◌, List, map, take, Result, Ok, sym, ap, ap₂, ◌∙◌, subst}
use Rattle.httparse.specs.Grammar.{RequestHead}
use Rattle.httparse.specs.Spans.{IsRequestAt, span_bytes, header_bytes}
use Rattle.httparse.specs.declared.spans.RequestSpans.{RequestSpans}
use Rattle.httparse.specs.declared.spans.HeaderSpan.{HeaderSpan}
use Rattle.std.specs.Str.{IsAscii}
use Rattle.spec_http.specs.Fields.{asks_close, token_of}
use Rattle.spec_http.specs.Heads.{IsHead, fields_of, framing, line_feeds}
use Rattle.spec_http.specs.Messages.{path_of}
use Rattle.http_edge.specs.Reading.{Says, framing_shown}
use Rattle.http_edge.specs.declared.head.Head.{Head}
use Rattle.http_edge.proofs.Ascii.{token_bytes_ascii}

pub judged : (h : RequestHead) (bytes : List ℕ) (room : List HeaderSpan) (spans : RequestSpans) (method : List ℕ) (r : Result ℕ ℕ) → IsRequestAt bytes room spans h
    → method ≡ span_bytes bytes spans.method → framing_shown r ≡ framing method (map (header_bytes bytes) (take spans.headers room)) → framing h.method (fields_of h) ≡ framing_shown r
judged h bytes room spans method r at is e = sym (e ∙ ap₂ framing (is ∙ at.method) at.fields)

pub method_ascii : (h : RequestHead) (bytes : List ℕ) (room : List HeaderSpan) (spans : RequestSpans) (method : List ℕ) → IsHead bytes h → IsRequestAt bytes room spans h
    → method ≡ span_bytes bytes spans.method → IsAscii method
method_ascii h bytes room spans method is at e = subst IsAscii (sym (e ∙ at.method)) (token_bytes_ascii h.method is.0.0.method.1)

pub says : (h : RequestHead) (bytes : List ℕ) (room : List HeaderSpan) (spans : RequestSpans) (said : Head) → line_feeds bytes ≤ 66 → IsHead bytes h → IsRequestAt bytes room spans h
    → said.method ≡ span_bytes bytes spans.method → said.path ≡ path_of (span_bytes bytes spans.path) → said.token ≡ token_of (map (header_bytes bytes) (take spans.headers room))
    → said.close ≡ asks_close spans.version (map (header_bytes bytes) (take spans.headers room)) → framing h.method (fields_of h) ≡ framing_shown (Ok said.body) → Says bytes h said
says h bytes room spans said few is at method path token close asks = record {
  reads = record { few_lines = few; is_head = is };
  method = method ∙ at.method;
  path = path ∙ ap path_of at.path;
  token = token ∙ ap token_of at.fields;
  close = close ∙ ap₂ asks_close at.version at.fields;
  asks = asks;
}
