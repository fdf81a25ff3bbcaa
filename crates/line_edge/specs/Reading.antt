-- What the calls of this crate leave and answer.
use Rattle.std.specs.Prelude.{◌≡◌, ℕ, ◌<◌, ◌≤◌, List, [], ◌∷◌, ◌++◌, Result, Ok, Err, Bool, true, false, drop, length, take, ⊤}
use Rattle.std.specs.Io.KnownBytes.{Consumes, IsAtEnd}
use Rattle.io_edge.specs.Outside.{Rose, SourceShown}
use Rattle.line_edge.specs.Lines.{HasNoFeed, IsTooLong}
use Rattle.line_edge.specs.declared.next.NextLine.{NextLine}
use Rattle.line_edge.specs.declared.next.NextLine.TheVariants.{Line, Last, End, TooLong, ReadFault, NoMemory}
use Rattle.line_edge.specs.declared.rest.Moved.{Moved}
use Rattle.line_edge.specs.declared.rest.Moved.TheVariants as moved
use Rattle.line_edge.specs.declared.rest.NoMore.{NoMore}
use Rattle.line_edge.specs.declared.rest.NoMore.TheVariants as no_more

-- some bytes were taken from a source, and stand behind those that were left
pub record TookMore (s s' : SourceShown) (left left' : List ℕ) : Type 0 where
  pub taken : List ℕ
  pub consumed : Consumes s.left s'.left taken
  pub later : s.faults ≤ s'.faults
  pub grown : left' ≡ left ++ taken

-- why no more came
abbrev pub NoMoreCause : SourceShown → SourceShown → NoMore → Type 0
NoMoreCause s s' no_more.Ended = IsAtEnd s'.left
NoMoreCause s s' no_more.Failed = Rose s.faults s'.faults
NoMoreCause s s' no_more.NoMemory = ⊤

-- what moving a line's next bytes does: to the first line feed, all, or nothing
abbrev pub MoveHow : ℕ → List ℕ → List ℕ → List ℕ → List ℕ → Moved → Type 0
MoveHow most line rest line' rest' moved.Line = (line ++ rest ≡ line' ++ 10 ∷ rest') × HasNoFeed line' × (length line' ≤ most)
MoveHow most line rest line' rest' moved.Part = (line' ≡ line ++ rest) × (rest' ≡ []) × HasNoFeed line' × (length line' ≤ most)
MoveHow most line rest line' rest' moved.TooLong = IsTooLong most (line ++ rest)
MoveHow most line rest line' rest' moved.NoMemory = ⊤

-- what moving the first bytes of a number does
abbrev pub MoveFirst : ℕ → ℕ → List ℕ → List ℕ → List ℕ → List ℕ → Moved → Type 0
MoveFirst count most line rest line' rest' moved.Line = ⊥
MoveFirst count most line rest line' rest' moved.Part = (line' ≡ line ++ take count rest) × (rest' ≡ drop count rest) × HasNoFeed line' × (length line' ≤ most)
MoveFirst count most line rest line' rest' moved.TooLong = IsTooLong most (line ++ rest)
MoveFirst count most line rest line' rest' moved.NoMemory = ⊤

-- what the answer says of the bytes that were left and came, and of those that are left now
abbrev pub NextLineIs : ℕ → SourceShown → SourceShown → List ℕ → List ℕ → NextLine → Type 0
NextLineIs most s s' bytes rest (Line line) = (bytes ≡ line.items ++ 10 ∷ rest) × HasNoFeed line.items × (length line.items ≤ most)
NextLineIs most s s' bytes rest (Last line) = (bytes ≡ line.items) × HasNoFeed line.items × (length line.items ≤ most) × (0 < length line.items) × (rest ≡ []) × IsAtEnd s'.left
NextLineIs most s s' bytes rest End = (bytes ≡ []) × (rest ≡ []) × IsAtEnd s'.left
NextLineIs most s s' bytes rest TooLong = IsTooLong most bytes
NextLineIs most s s' bytes rest ReadFault = HasNoFeed bytes × Rose s.faults s'.faults
NextLineIs most s s' bytes rest NoMemory = ⊤

pub record GivesLine (most : ℕ) (s s' : SourceShown) (rest rest' : List ℕ) (answer : NextLine) : Type 0 where
  pub taken : List ℕ
  pub consumed : Consumes s.left s'.left taken
  pub later : s.faults ≤ s'.faults
  pub how : NextLineIs most s s' (rest ++ taken) rest' answer

-- what the end of input is behind a line's bytes
abbrev pub EndedWith : List ℕ → NextLine → Type 0
EndedWith bytes (Last line) = (line.items ≡ bytes) × (0 < length bytes)
EndedWith bytes End = bytes ≡ []
EndedWith bytes _ = ⊥

-- whether bytes follow those that are left and came
abbrev pub FollowedHow : SourceShown → SourceShown → List ℕ → Result Bool NoMore → Type 0
FollowedHow s s' rest (Ok true) = 0 < length rest
FollowedHow s s' rest (Ok false) = (rest ≡ []) × IsAtEnd s'.left
FollowedHow s s' rest (Err e) = (rest ≡ []) × NoMoreCause s s' e
