-- What passes the test is kept of some history.
use Rattle.std.proofs.Common.{◌≡◌, ◌∙◌, ◌⊎◌, inl, inr, ◌==◌, ◌||◌, Bool, true, false, List, ◌++◌, refl, ap, arith}
use Rattle.std.proofs.lemmas.Bool.{and_parts, false≢true, ltb-true}
use Rattle.std.proofs.lemmas.Bool.Decides.{nat_tests}
use Rattle.std.proofs.lemmas.List.{map-append}
use Rattle.std.specs.Prelude.{nat_lt}
use Rattle.spec_history.specs.History.{changes_of, count_of_kind}
use Rattle.spec_history.specs.Pages.{window}
use Rattle.spec_history.specs.declared.entry.Entry.{Entry}
use Rattle.spec_history.specs.declared.entry.Kind.{Kind}
use Rattle.spec_history.specs.declared.entry.Kind.TheVariants.{Calendar, Event}
use Rattle.spec_sizes.specs.Sizes.{is_answered_from, of_kind, size_of, window_bytes}
use Rattle.spec_snapshots.proofs.Forgotten.{forgotten}
use Rattle.spec_snapshots.proofs.MadeUpHistory.{entries_past, floors_left, past_numbered, past_own}
use Rattle.spec_snapshots.specs.Kept.{IsFloor, IsKeptFrom, floor_of, is_floor, is_old, may_be_kept}
use Rattle.spec_snapshots.specs.declared.kept.KeptHistory.{KeptHistory}

-- entries that leave the floors, and all behind them
abbrev pub some_history : KeptHistory → List Entry
some_history k = entries_past k ++ k.behind.items

module _ (k : KeptHistory) (test : may_be_kept k ≡ true) where
  parts : ((is_floor k.calendars ≡ true) × (is_floor k.events ≡ true)) × ((is_old Calendar k ≡ true) × (is_old Event k ≡ true))
  parts =
      let both = and_parts _ _ test in
      (and_parts (is_floor k.calendars) (is_floor k.events) both.0, and_parts (is_old Calendar k) (is_old Event k) both.1)

  old : (kind : Kind) → is_old kind k ≡ true
  old Calendar = parts.1.0
  old Event = parts.1.1

  floors : (kind : Kind) → IsFloor (changes_of (entries_past k)) kind (floor_of k kind)
  floors = floors_left k parts.0.0 parts.0.1

  -- by the tests of a floor's age
  unanswered : (kind : Kind) (none many large : Bool) → ((floor_of k kind).state == 0) ≡ none → nat_lt window (count_of_kind (changes_of k.behind.items) kind) ≡ many
      → nat_lt window_bytes (size_of (of_kind kind (changes_of k.behind.items))) ≡ large → (none || (many || large)) ≡ true
      → ((floor_of k kind).state ≡ 0) ⊎ (is_answered_from kind (changes_of (some_history k)) (floor_of k kind).state ≡ false)
  unanswered kind true many large a b c h = inl (grind (arith, nat_tests))
  unanswered kind false true large a b c h = inr (
      ap (λ cs. is_answered_from kind cs (floor_of k kind).state) (map-append (λ (e : Entry). e.change) (entries_past k) k.behind.items)
      ∙ forgotten kind (floor_of k kind) (changes_of (entries_past k)) (changes_of k.behind.items) (floors kind) (inl (ltb-true _ _ b)))
  unanswered kind false false true a b c h = inr (
      ap (λ cs. is_answered_from kind cs (floor_of k kind).state) (map-append (λ (e : Entry). e.change) (entries_past k) k.behind.items)
      ∙ forgotten kind (floor_of k kind) (changes_of (entries_past k)) (changes_of k.behind.items) (floors kind) (inr (ltb-true _ _ c)))
  unanswered kind false false false a b c h = absurd (false≢true h)

  pub kept_of_some : IsKeptFrom (some_history k) k
  kept_of_some = record {
    past = entries_past k;
    whole = refl;
    numbered = past_numbered k;
    own = past_own k;
    floors = floors;
    forgotten = λ kind. unanswered kind _ _ _ refl refl refl (old kind);
  }
