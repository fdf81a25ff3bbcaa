-- The bytes of a response (RFC 9112 section 4, RFC 9110 sections 8.3, 8.6, 10.2.1 and 11.6.1).
use Rattle.std.specs.Prelude.{◌≡◌, ℕ, ◌==◌, ◌||◌, List, [], ◌∷◌, ◌++◌, Bool, true, Option, Some, None, if◌then◌else◌, length, codes, decimal, unwrap_or}
use Rattle.std.specs.List.{list_any}
use Rattle.http.specs.StatusCode.{reason_phrase}

pub record Response : Type 0 where
  pub status : ℕ
  -- the body is a problem object (RFC 7807)
  pub problem : Bool
  -- the method that is allowed
  pub allow : Option (List ℕ)
  -- the connection ends behind it
  pub close : Bool
  pub body : List ℕ

-- the statuses that are answered
abbrev pub statuses : List ℕ
statuses = 200 ∷ 400 ∷ 401 ∷ 404 ∷ 405 ∷ 411 ∷ 413 ∷ 431 ∷ 501 ∷ []

abbrev pub IsStatus : ℕ → Type 0
IsStatus status = list_any (λ s. s == status) statuses ≡ true

abbrev pub crlf : List ℕ
crlf = 13 ∷ 10 ∷ []

abbrev pub status_line : ℕ → List ℕ
status_line status = codes "HTTP/1.1 " ++ decimal status ++ codes " " ++ unwrap_or (reason_phrase status) [] ++ crlf

abbrev pub has_body : Response → Bool
has_body r = (r.status == 200) || r.problem

-- the bytes of the body, where there is one
abbrev pub content : Response → List ℕ
content r = if has_body r then r.body else []

abbrev pub type_line : Response → List ℕ
type_line r = if r.problem then codes "Content-Type: application/problem+json" ++ crlf else (if r.status == 200 then codes "Content-Type: application/json" ++ crlf else [])

abbrev pub length_line : Response → List ℕ
length_line r = codes "Content-Length: " ++ decimal (length (content r)) ++ crlf

abbrev pub challenge_line : Response → List ℕ
challenge_line r = if r.status == 401 then codes "WWW-Authenticate: Bearer" ++ crlf else []

abbrev pub allow_line : Option (List ℕ) → List ℕ
allow_line None = []
allow_line (Some method) = codes "Allow: " ++ method ++ crlf

abbrev pub close_line : Response → List ℕ
close_line r = if r.close then codes "Connection: close" ++ crlf else []

abbrev pub head_text : Response → List ℕ
head_text r = status_line r.status ++ type_line r ++ length_line r ++ challenge_line r ++ allow_line r.allow ++ close_line r ++ crlf

abbrev pub response_text : Response → List ℕ
response_text r = head_text r ++ content r
