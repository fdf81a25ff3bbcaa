-- What the calls of this crate leave and answer, in the words of `Http`.
use Rattle.std.specs.Prelude.{◌≡◌, ◌⊎◌, ℕ, ◌≤◌, List, [], ◌∷◌, ◌++◌, Result, Ok, Err, if◌then◌else◌, length, ⊤}
use Rattle.std.specs.Str.Parse.{digits_value}
use Rattle.std.specs.Io.KnownBytes.{Consumes, IsAtEnd}
use Rattle.io_edge.specs.Outside.{Rose, SourceShown}
use Rattle.httparse.specs.Grammar.{RequestHead}
use Rattle.spec_http.specs.Fields as fields
use Rattle.spec_http.specs.Fields.{asks_close, is_length, is_length_of, token_of}
use Rattle.spec_http.specs.Heads as heads
use Rattle.spec_http.specs.Heads.{ReadsHead, RefusesHead, fields_of, framing}
use Rattle.spec_http.specs.Messages as http
use Rattle.spec_http.specs.Messages.{path_of, whole, refused, partial, BeginsWith, IsUndecided}
use Rattle.spec_http.specs.Responses as responses
use Rattle.http_edge.specs.declared.fields.ContentLength.{ContentLength}
use Rattle.http_edge.specs.declared.fields.ContentLength.TheVariants as length_is
use Rattle.http_edge.specs.declared.head.Head.{Head}
use Rattle.http_edge.specs.declared.head.HeadError.{HeadError}
use Rattle.http_edge.specs.declared.head.HeadError.TheVariants as head_error
use Rattle.http_edge.specs.declared.held.Stop.{Stop}
use Rattle.http_edge.specs.declared.held.Stop.TheVariants as stop
use Rattle.http_edge.specs.declared.message.Message.{Message}
use Rattle.http_edge.specs.declared.next.HeadEnd.{HeadEnd}
use Rattle.http_edge.specs.declared.next.HeadEnd.TheVariants as head_end
use Rattle.http_edge.specs.declared.next.Next.{Next}
use Rattle.http_edge.specs.declared.next.Next.TheVariants as next
use Rattle.spec_http.specs.declared.limits.TheConstants.{PIECE}
use Rattle.http_edge.specs.declared.response.Response.{Response}

-- ---- the types of the code, as plain data

abbrev pub length_shown : ContentLength → fields.Length
length_shown length_is.Absent = fields.absent
length_shown (length_is.Known n) = fields.known n
length_shown length_is.Unusable = fields.unusable

-- what the fields say with one value more
abbrev pub length_step : fields.Length → List ℕ → fields.Length
length_step fields.absent value = if is_length value then fields.known (digits_value 10 value) else fields.unusable
length_step (fields.known n) value = if is_length_of n value then fields.known n else fields.unusable
length_step fields.unusable value = fields.unusable

abbrev pub framing_shown : Result ℕ ℕ → heads.Framing
framing_shown (Ok content) = heads.body content
framing_shown (Err status) = heads.refuse status

abbrev pub end_shown : HeadEnd → heads.HeadEnd
end_shown (head_end.At size) = heads.ended size
end_shown head_end.TooLong = heads.too_long

abbrev pub message_shown : Message → http.Message
message_shown m = record { method = m.method; path = m.path; token = m.token; close = m.close; body = m.body }

abbrev pub response_shown : Response → responses.Response
response_shown r = record { status = r.status; problem = r.problem; allow = r.allow; close = r.close; body = r.body }

-- ---- heads

-- what was kept of a head is what it says
pub record Says (bytes : List ℕ) (head : RequestHead) (said : Head) : Type 0 where
  pub reads : ReadsHead bytes head
  pub method : said.method ≡ head.method
  pub path : said.path ≡ path_of head.target
  pub token : said.token ≡ token_of (fields_of head)
  pub close : said.close ≡ asks_close head.minor (fields_of head)
  pub asks : framing head.method (fields_of head) ≡ heads.body said.body

abbrev pub IsHeadRefusal : List ℕ → HeadError → Type 0
IsHeadRefusal bytes (head_error.Refused status) = RefusesHead bytes status
IsHeadRefusal bytes head_error.NoMemory = ⊤

-- ---- sources

-- some bytes were taken from a source, and stand behind those that were kept
pub record Took (s s' : SourceShown) (kept kept' : List ℕ) : Type 0 where
  pub taken : List ℕ
  pub consumed : Consumes s.left s'.left taken
  pub later : s.faults ≤ s'.faults
  pub grown : kept' ≡ kept ++ taken

-- why no more came
abbrev pub StopCause : SourceShown → SourceShown → Stop → Type 0
StopCause s s' stop.Ended = IsAtEnd s'.left
StopCause s s' stop.Failed = Rose s.faults s'.faults
StopCause s s' stop.NoMemory = ⊤

-- The source wasn't asked; or it was asked for the last piece, of at most so many bytes, while the bytes before that piece were such.
abbrev pub AskedWhile : (List ℕ → Type 0) → ℕ → SourceShown → SourceShown → List ℕ → List ℕ → Type 0
AskedWhile Such most s s' kept kept' = ((kept' ≡ kept) × (s' ≡ s))
    ⊎ ((earlier : List ℕ) × (last : List ℕ) × (kept' ≡ (kept ++ earlier) ++ last) × (length last ≤ most) × Such (kept ++ earlier))

-- ---- messages

-- what the answer says of the bytes that were there and came, and of those that are kept now
abbrev pub NextIs : SourceShown → SourceShown → List ℕ → List ℕ → Next → Type 0
NextIs s s' bytes kept (next.Message m) = BeginsWith bytes (whole (message_shown m) kept)
NextIs s s' bytes kept (next.BadHead status) = BeginsWith bytes (refused status) × (kept ≡ bytes)
NextIs s s' bytes kept next.End = (bytes ≡ []) × (kept ≡ []) × IsAtEnd s'.left
NextIs s s' bytes kept next.Truncated = BeginsWith bytes partial × (kept ≡ bytes) × IsAtEnd s'.left
NextIs s s' bytes kept next.ReadFault = IsUndecided bytes × (kept ≡ bytes) × Rose s.faults s'.faults
NextIs s s' bytes kept next.NoMemory = kept ≡ bytes

pub record GivesNext (s s' : SourceShown) (kept kept' : List ℕ) (answer : Next) : Type 0 where
  pub taken : List ℕ
  pub consumed : Consumes s.left s'.left taken
  pub later : s.faults ≤ s'.faults
  -- nothing is asked of the source while the bytes begin with a whole message or with a head that is refused
  pub asked : AskedWhile IsUndecided PIECE s s' kept (kept ++ taken)
  pub how : NextIs s s' (kept ++ taken) kept' answer

-- what the end of input is, where no head has ended
abbrev pub ended_with : List ℕ → Next
ended_with [] = next.End
ended_with (b ∷ bytes) = next.Truncated
