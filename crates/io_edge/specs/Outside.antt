-- What the outside does, where it tells it, and when it may fail. For what a source gives, std has the words.
use Rattle.std.specs.Prelude.{◌≡◌, ◌≢◌, ℕ, ◌+◌, ◌-◌, ◌^◌, ◌<◌, ◌≤◌, min, ℤ, List, [], ◌∷◌, ◌++◌, length, take, if◌then◌else◌, Option, Some, None, option_map, IfSome, Result, OnErr, ⊤}
use Rattle.std.specs.Str.{bytes_eq}
use Rattle.std.specs.Io.KnownBytes.{Consumes}

-- What contracts see of a source: the bytes that are left, where it tells them, and how often a call has failed. The count stands at the last value of a u64.
pub record SourceShown : Type 0 where
  pub left : Option (List ℕ)
  pub faults : ℕ

-- of a sink: the bytes that it holds, where it tells them, and its count of faults
pub record SinkShown : Type 0 where
  pub holds : Option (List ℕ)
  pub faults : ℕ

-- of an opener: its files by name, where it tells them, how often it was asked, and its count of faults
pub record OpenerShown : Type 0 where
  pub files : Option (List (List ℕ × List ℕ))
  pub loads : ℕ
  pub faults : ℕ

-- Of a clock: the moments still to come, by the number of the call from 0, where it tells them.

-- a count of calls rose by one, or stands at its last value
abbrev pub CountsOne : ℕ → ℕ → Type 0
CountsOne before now = now ≡ min (before + 1) (2 ^ 64 - 1)

-- a count of faults rose, or stands at its last value
abbrev pub Rose : ℕ → ℕ → Type 0
Rose before now = min (before + 1) (2 ^ 64 - 1) ≤ now

-- a count of faults never falls, and rose where the call failed
pub record HasCause {T E : Type 0} (before now : ℕ) (result : Result T E) : Type 0 where
  pub later : before ≤ now
  pub failed : OnErr result (Rose before now)

-- some bytes, at most so many, were taken from what was left
abbrev pub ConsumesAtMost : Option (List ℕ) → Option (List ℕ) → ℕ → Type 0
ConsumesAtMost left now most = (taken : List ℕ) × (length taken ≤ most) × Consumes left now taken

-- A sink that tells what it holds told it before, and holds this piece more.
-- It may stop telling, as a sink in memory does that finds no more memory.
abbrev pub Grows : Option (List ℕ) → Option (List ℕ) → List ℕ → Type 0
Grows held None piece = ⊤
Grows (Some held) (Some now) piece = now ≡ held ++ piece
Grows None (Some now) piece = ⊥

-- it holds a part of this piece more, from its beginning and less than the whole
abbrev pub GrowsByPrefix : Option (List ℕ) → Option (List ℕ) → List ℕ → Type 0
GrowsByPrefix held now piece = (n : ℕ) × (n < length piece) × Grows held now (take n piece)

-- A clock that tells its moments, by the number of the call from 0, gave the first of them, and the others are still to come.
abbrev pub Ticks : Option (ℕ → ℤ) → Option (ℕ → ℤ) → ℤ → Type 0
Ticks None now moment = ⊤
Ticks (Some old) None moment = ⊥
Ticks (Some old) (Some now) moment = (moment ≡ old 0) × ((n : ℕ) → now n ≡ old (n + 1))

-- the bytes of the first file of this name
abbrev pub file_named : List (List ℕ × List ℕ) → List ℕ → Option (List ℕ)
file_named [] name = None
file_named (file ∷ files) name = if bytes_eq file.0 name then Some file.1 else file_named files name

-- where the files are told, these are the first bytes of that name's, at most so many
abbrev pub Loads : Option (List (List ℕ × List ℕ)) → List ℕ → ℕ → List ℕ → Type 0
Loads files name most bytes = IfSome files (λ told. option_map (take most) (file_named told name) ≡ Some bytes)

-- where the files are told, none has this name
abbrev pub IsMissing : Option (List (List ℕ × List ℕ)) → List ℕ → Type 0
IsMissing files name = IfSome files (λ told. file_named told name ≡ None)

-- where the files are told, one has this name
abbrev pub IsThere : Option (List (List ℕ × List ℕ)) → List ℕ → Type 0
IsThere files name = IfSome files (λ told. file_named told name ≢ None)
