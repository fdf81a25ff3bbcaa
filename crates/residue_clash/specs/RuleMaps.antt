-- Maps of the days of a rule.
use Rattle.std.specs.Prelude.{◌≡◌, ℕ, pos, Bool, false, List, Option, Some, slice_get}
use Rattle.std.proofs.Common.{Bor}
use Rattle.spec_series.specs.declared.rule.Rule.{Rule}
use Rattle.spec_series.specs.declared.series.Series.{Series}
use Rattle.rule_expand.specs.Repeats.{is_of_weekdays}
use Rattle.residue_solve.specs.ResidueMap.{IsMap}
use Rattle.residue_clash.specs.Kinds.{days_of}

-- a rule gives the day with a residue of the cycle as one of a kind
abbrev pub residue_of : Bool → Rule → ℕ → Bool
residue_of kind r k = days_of kind r (pos k)

-- a map, if there is one, has the residues that pass a test
abbrev pub HasBits : Option (Bor (List ℕ)) → (ℕ → Bool) → Type 0
HasBits map test = (b : Bor (List ℕ)) → map ≡ Some b → IsMap test b.now

-- the same of a map in memory
abbrev pub IsMapIn : Option (List ℕ) → (ℕ → Bool) → Type 0
IsMapIn map test = (words : List ℕ) → map ≡ Some words → IsMap test words

-- the words are a map of the days that the k-th rule keeps or moves backward to, unless there is none or it looks at days of the week alone
abbrev pub IsMapOfRule : Series → ℕ → List ℕ → Type 0
IsMapOfRule s k words = (r : Rule) → slice_get s.rules k ≡ Some r → is_of_weekdays r ≡ false → IsMap (residue_of false r) words

-- the same of words that may be given
abbrev pub IsMapGiven : Series → ℕ → Option (Bor (List ℕ)) → Type 0
IsMapGiven s k map = (b : Bor (List ℕ)) → map ≡ Some b → IsMapOfRule s k b.now
