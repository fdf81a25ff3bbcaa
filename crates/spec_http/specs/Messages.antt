-- What the bytes of a connection begin with (RFC 9112 sections 2.1, 6 and 9.3).
use Rattle.std.specs.Prelude.{◌≡◌, ◌⊎◌, ℕ, ◌<◌, ◌==◌, List, [], ◌∷◌, ◌++◌, Bool, Option, if◌then◌else◌, length, take, drop}
use Rattle.httparse.specs.Grammar.{RequestHead}
use Rattle.spec_http.specs.Fields.{asks_close, token_of}
use Rattle.spec_http.specs.Heads.{ended, too_long, unended, head_end, ReadsHead, RefusesHead, fields_of, body, framing}

-- a request, with the bearer token that it shows
pub record Message : Type 0 where
  pub method : List ℕ
  pub path : List ℕ
  pub token : Option (List ℕ)
  pub close : Bool
  pub body : List ℕ

-- the path of a target, which a `?` ends
abbrev pub path_of : List ℕ → List ℕ
path_of [] = []
path_of (b ∷ target) = if b == 63 then [] else b ∷ path_of target

abbrev pub message_of : RequestHead → List ℕ → Message
message_of head content = record {
  method = head.method;
  path = path_of head.target;
  token = token_of (fields_of head);
  close = asks_close head.minor (fields_of head);
  body = content;
}

pub data Beginning : Type 0 where
  -- a message, and the bytes behind it
  whole : Message → List ℕ → Beginning
  -- the status with which the head is refused
  refused : ℕ → Beginning
  -- a part of what may become either
  partial : Beginning
  nothing : Beginning

-- a head of so many bytes, that is read so and asks for a body of so many bytes
pub record HasHead (bytes : List ℕ) (size : ℕ) (head : RequestHead) (content : ℕ) : Type 0 where
  pub end : head_end bytes ≡ ended size
  pub reads : ReadsHead (take size bytes) head
  pub asks : framing head.method (fields_of head) ≡ body content

-- behind the head stand the body and the rest
pub record HasMessage (bytes : List ℕ) (message : Message) (rest : List ℕ) : Type 0 where
  pub size : ℕ
  pub head : RequestHead
  pub has_head : HasHead bytes size head (length message.body)
  pub parts : drop size bytes ≡ message.body ++ rest
  pub is : message ≡ message_of head message.body

-- behind the head is less than the body
pub record IsShort (bytes : List ℕ) : Type 0 where
  pub size : ℕ
  pub head : RequestHead
  pub content : ℕ
  pub has_head : HasHead bytes size head content
  pub short : length (drop size bytes) < content

abbrev pub BeginsWith : List ℕ → Beginning → Type 0
BeginsWith bytes (whole message rest) = HasMessage bytes message rest
BeginsWith bytes (refused status) = ((status ≡ 431) × (head_end bytes ≡ too_long)) ⊎ ((size : ℕ) × (head_end bytes ≡ ended size) × RefusesHead (take size bytes) status)
BeginsWith bytes partial = (0 < length bytes) × ((head_end bytes ≡ unended) ⊎ IsShort bytes)
BeginsWith bytes nothing = bytes ≡ []

-- they begin neither with a whole message nor with a refused head
abbrev pub IsUndecided : List ℕ → Type 0
IsUndecided bytes = BeginsWith bytes nothing ⊎ BeginsWith bytes partial
