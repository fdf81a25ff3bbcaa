-- What bytes begin with stays, whatever follows.
use Rattle.std.proofs.Common.{◌≡◌, ℕ, List, ◌++◌, length, take, inl, inr, sym, ap, ◌∙◌, subst, append_assoc}
use Rattle.std.proofs.lemmas.List.{take-append-le, drop-append-le}
use Rattle.httparse.specs.Grammar.{RequestHead}
use Rattle.spec_http.specs.Heads.{ended, head_end, ReadsHead, RefusesHead}
use Rattle.spec_http.specs.Messages.{Message, whole, refused, HasHead, BeginsWith}
use Rattle.http_edge.proofs.Ends.{ended_more, ended_within, too_long_more}

head_bytes : (bytes more : List ℕ) (size : ℕ) → head_end bytes ≡ ended size → take size bytes ≡ take size (bytes ++ more)
head_bytes bytes more size e = sym (take-append-le size bytes more (ended_within bytes size e).0)

pub has_head_more : (bytes more : List ℕ) (size : ℕ) (head : RequestHead) (content : ℕ) → HasHead bytes size head content → HasHead (bytes ++ more) size head content
has_head_more bytes more size head content h = record {
  end = ended_more bytes more size h.end;
  reads = subst (λ l. ReadsHead l head) (head_bytes bytes more size h.end) h.reads;
  asks = h.asks;
}

pub whole_more : (bytes more : List ℕ) (message : Message) (rest : List ℕ) → BeginsWith bytes (whole message rest) → BeginsWith (bytes ++ more) (whole message (rest ++ more))
whole_more bytes more message rest w = record {
  size = w.size;
  head = w.head;
  has_head = has_head_more bytes more w.size w.head (length message.body) w.has_head;
  parts = drop-append-le w.size bytes more (ended_within bytes w.size w.has_head.end).0 ∙ ap (λ l. l ++ more) w.parts ∙ append_assoc message.body rest more;
  is = w.is;
}

pub refused_more : (bytes more : List ℕ) (status : ℕ) → BeginsWith bytes (refused status) → BeginsWith (bytes ++ more) (refused status)
refused_more bytes more status (inl h) = inl (h.0, too_long_more bytes more h.1)
refused_more bytes more status (inr h) = inr (h.0, ended_more bytes more h.0 h.1, subst (λ l. RefusesHead l status) (head_bytes bytes more h.0 h.1) h.2)
