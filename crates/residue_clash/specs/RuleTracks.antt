-- The days of recurrence rules as tracks.
use Rattle.std.specs.Prelude.{◌≡◌, ◌⊎◌, ℕ, ℤ, Bool, true, false, Option, Some, None, List, [], ◌∷◌, slice_get}
use Rattle.spec_series.specs.declared.rule.Rule.{Rule}
use Rattle.spec_series.specs.declared.series.Series.{Series}
use Rattle.spec_time.specs.Walls.{day_of_wall, second_of_wall}
use Rattle.spec_series.specs.RuleSets.{is_in_set}
use Rattle.residue_clash.specs.Kinds.{days_of, has_kind, phase_by}
use Rattle.residue_clash.specs.Tracks.{IsGiven}
use Rattle.residue_clash.specs.RuleMaps.{IsMapIn, residue_of}
use Rattle.residue_clash.specs.declared.kept_rule.KeptRule.{KeptRule}
use Rattle.residue_clash.specs.declared.outline.Outline.{Outline}
use Rattle.residue_clash.specs.declared.rule_track.RuleTrack.{RuleTrack}

-- the rule's set in a series that starts at a wall second is the start's day and the days of both kinds up to the last, where there is one
pub record IsEndOf (r : Rule) (start : ℤ) (kind : Bool) (last : Option ℤ) : Type 0 where
  pub to : (n : ℤ) → days_of kind r n ≡ true → phase_by kind r (day_of_wall start) n ≡ true → is_in_set r start n ≡ true
      → (n ≡ day_of_wall start) ⊎ IsGiven (days_of kind r) (phase_by kind r (day_of_wall start)) last (day_of_wall start) n
  pub from : (n : ℤ) → IsGiven (days_of kind r) (phase_by kind r (day_of_wall start)) last (day_of_wall start) n → is_in_set r start n ≡ true
  pub start_in : is_in_set r start (day_of_wall start) ≡ true

-- the track has the days of one kind that the rule gives a series that starts at a wall second
pub record IsTrackOf (r : Rule) (start : ℤ) (kind : Bool) (t : RuleTrack) : Type 0 where
  pub rule : t.rule.now ≡ r
  pub first : t.first ≡ day_of_wall start
  pub pushed : t.pushed ≡ kind
  pub end : IsEndOf r start kind t.last

-- a slot holds the track of one kind of days of the k-th rule, or none where there is no such rule or it has no such days
abbrev pub IsSlotOf : Series → ℕ → Bool → Option RuleTrack → Type 0
IsSlotOf s k kind None = (r : Rule) → slice_get s.rules k ≡ Some r → has_kind kind r ≡ false
IsSlotOf s k kind (Some t) = (r : Rule) × ((slice_get s.rules k ≡ Some r) × IsTrackOf r s.start kind t)

-- the slots hold the tracks of the rules, in order, and behind these those of the second kind
abbrev pub AreTracks : Series → List (Option RuleTrack) → Type 0
AreTracks s (t0 ∷ t1 ∷ t2 ∷ t3 ∷ t4 ∷ t5 ∷ t6 ∷ t7 ∷ []) =
    IsSlotOf s 0 false t0 × (IsSlotOf s 1 false t1 × (IsSlotOf s 2 false t2 × (IsSlotOf s 3 false t3
    × (IsSlotOf s 0 true t4 × (IsSlotOf s 1 true t5 × (IsSlotOf s 2 true t6 × IsSlotOf s 3 true t7))))))
AreTracks s ts = ⊥

-- what is kept is of a rule in a series that starts at a wall second
pub record IsKeptRule (r : Rule) (start : ℤ) (kept : KeptRule) : Type 0 where
  pub end : (kind : Bool) → IsEndOf r start kind kept.last
  pub own : IsMapIn kept.own (residue_of false r)
  pub pushed : IsMapIn kept.pushed (residue_of true r)

-- what is kept of the k-th rule, or nothing where there is no such rule
abbrev pub IsKeptOf : Series → ℕ → Option KeptRule → Type 0
IsKeptOf s k None = (r : Rule) → slice_get s.rules k ≡ Some r → ⊥
IsKeptOf s k (Some kept) = (r : Rule) × ((slice_get s.rules k ≡ Some r) × IsKeptRule r s.start kept)

-- what is kept of the rules, in order
abbrev pub AreKept : Series → List (Option KeptRule) → Type 0
AreKept s (t0 ∷ t1 ∷ t2 ∷ t3 ∷ []) = IsKeptOf s 0 t0 × (IsKeptOf s 1 t1 × (IsKeptOf s 2 t2 × IsKeptOf s 3 t3))
AreKept s ts = ⊥

-- the outline has what the series has apart from its rules
pub record IsOutlineOf (s : Series) (a : Outline) : Type 0 where
  pub first : a.first ≡ day_of_wall s.start
  pub time : a.time ≡ second_of_wall s.start
  pub length : a.length ≡ s.length
  pub occupying : a.occupying ≡ s.occupying
  pub exceptions : a.exceptions.now ≡ s.exceptions
