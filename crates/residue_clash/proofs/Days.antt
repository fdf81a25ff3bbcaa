-- The occurrences by the outline and the tracks are those of the series.
use Rattle.std.proofs.Common.{◌≡◌, ◌⊎◌, inl, inr, ℕ, zero, suc, ◌<◌, ℤ, Bool, true, false, List, [], ◌∷◌, slice_get, Option, Some, None, refl, sym, ap, ◌∙◌, arith, subst, eq-eqb}
use Rattle.std.specs.Prelude.{◌==◌}
use Rattle.std.proofs.lemmas.Map.Keys.{any_passes_from_place}
use Rattle.std.proofs.lemmas.Option.{same_Some, slice_get_within}
use Rattle.std.proofs.lemmas.Bool.Decides.{Decides-int_eq}
use Rattle.jiff_core.proofs.SignedLemmas.{signed_arith}
use borrow.Author.Tests.{eqb-true}
use Rattle.spec_series.specs.declared.exception.Span.{Span}
use Rattle.spec_series.specs.declared.occurrence.Occurrence.{Occurrence}
use Rattle.spec_series.specs.declared.rule.Rule.{Rule}
use Rattle.spec_series.specs.declared.series.Series.{Series}
use Rattle.spec_time.specs.Walls.{day_of_wall, second_of_wall, wall_at}
use Rattle.spec_json.proofs.ListTests.{any_at}
use Rattle.spec_series.proofs.Occurrences.{kinds, regular_occurs, replaced_occurs}
use Rattle.spec_series.specs.Occurrences.{is_day, IsOccurrence, Covers, IsOfKinds}
use Rattle.spec_series.specs.RuleSets.{is_in_set}
use Rattle.residue_clash.specs.Kinds.{days_of, has_kind, phase_by}
use Rattle.residue_clash.proofs.SetDays.{kind_of}
use Rattle.spec_series.specs.Shared.{IsShared, IsSelfShared}
use Rattle.rule_expand.specs.Least.{IsLeastOf}
use Rattle.rule_expand.proofs.Least.{same-least}
use Rattle.rule_expand.proofs.Places.{and_both}
use Rattle.rule_expand.proofs.Sets.{both_and}
use Rattle.residue_clash.specs.declared.outline.Outline.{Outline}
use Rattle.residue_clash.specs.declared.rule_track.RuleTrack.{RuleTrack}
use Rattle.residue_clash.specs.Tracks.{IsGiven, Gives}
use Rattle.residue_clash.specs.Covers.{IsDay, IsOccurrenceAt, Blocks}
use Rattle.residue_clash.specs.Parts.{IsSharedAs}
use Rattle.residue_clash.specs.RuleTracks.{IsTrackOf, IsSlotOf, AreTracks, IsOutlineOf}

-- the track in the slot of a rule
slot_of : (s : Series) (k : ℕ) (kind : Bool) (r : Rule) (o : Option RuleTrack) → slice_get s.rules k ≡ Some r → has_kind kind r ≡ true → IsSlotOf s k kind o → (t : RuleTrack) × ((o ≡ Some t) × IsTrackOf r s.start kind t)
slot_of s k kind r None e has h = let no = h r e in absurd (cc (has, no))
slot_of s k kind r (Some t) e has h = let same : h.0 ≡ r = cc (e, h.1.0) in (t, (refl, subst (λ (q : Rule). IsTrackOf q s.start kind t) same h.1.1))

-- and the rule of the track in a slot
rule_of : (s : Series) (k : ℕ) (kind : Bool) (t : RuleTrack) (o : Option RuleTrack) → o ≡ Some t → IsSlotOf s k kind o → (r : Rule) × ((slice_get s.rules k ≡ Some r) × IsTrackOf r s.start kind t)
rule_of s k kind t None e h = absurd (cc e)
rule_of s k kind t (Some u) e h = let same : u ≡ t = same_Some u t e in (h.0, (h.1.0, subst (λ (v : RuleTrack). IsTrackOf h.0 s.start kind v) same h.1.1))

abbrev slot_place : Bool → ℕ → ℕ
slot_place false k = k
slot_place true k = suc (suc (suc (suc k)))

-- slots are eight, as rules are at most four
track_at : (s : Series) (ts : List (Option RuleTrack)) → AreTracks s ts → (kind : Bool) (k : ℕ) (r : Rule) → k < 4 → slice_get s.rules k ≡ Some r → has_kind kind r ≡ true → (t : RuleTrack) × ((slice_get ts (slot_place kind k) ≡ Some (Some t)) × IsTrackOf r s.start kind t)
track_at s (t0 ∷ t1 ∷ t2 ∷ t3 ∷ t4 ∷ t5 ∷ t6 ∷ t7 ∷ []) h false zero r lt e has = let g = slot_of s 0 false r t0 e has h.0 in (g.0, (ap Some g.1.0, g.1.1))
track_at s (t0 ∷ t1 ∷ t2 ∷ t3 ∷ t4 ∷ t5 ∷ t6 ∷ t7 ∷ []) h false (suc zero) r lt e has = let g = slot_of s 1 false r t1 e has h.1.0 in (g.0, (ap Some g.1.0, g.1.1))
track_at s (t0 ∷ t1 ∷ t2 ∷ t3 ∷ t4 ∷ t5 ∷ t6 ∷ t7 ∷ []) h false (suc (suc zero)) r lt e has = let g = slot_of s 2 false r t2 e has h.1.1.0 in (g.0, (ap Some g.1.0, g.1.1))
track_at s (t0 ∷ t1 ∷ t2 ∷ t3 ∷ t4 ∷ t5 ∷ t6 ∷ t7 ∷ []) h false (suc (suc (suc zero))) r lt e has = let g = slot_of s 3 false r t3 e has h.1.1.1.0 in (g.0, (ap Some g.1.0, g.1.1))
track_at s (t0 ∷ t1 ∷ t2 ∷ t3 ∷ t4 ∷ t5 ∷ t6 ∷ t7 ∷ []) h false (suc (suc (suc (suc k)))) r lt e has = absurd (omega (arith, lt))
track_at s (t0 ∷ t1 ∷ t2 ∷ t3 ∷ t4 ∷ t5 ∷ t6 ∷ t7 ∷ []) h true zero r lt e has = let g = slot_of s 0 true r t4 e has h.1.1.1.1.0 in (g.0, (ap Some g.1.0, g.1.1))
track_at s (t0 ∷ t1 ∷ t2 ∷ t3 ∷ t4 ∷ t5 ∷ t6 ∷ t7 ∷ []) h true (suc zero) r lt e has = let g = slot_of s 1 true r t5 e has h.1.1.1.1.1.0 in (g.0, (ap Some g.1.0, g.1.1))
track_at s (t0 ∷ t1 ∷ t2 ∷ t3 ∷ t4 ∷ t5 ∷ t6 ∷ t7 ∷ []) h true (suc (suc zero)) r lt e has = let g = slot_of s 2 true r t6 e has h.1.1.1.1.1.1.0 in (g.0, (ap Some g.1.0, g.1.1))
track_at s (t0 ∷ t1 ∷ t2 ∷ t3 ∷ t4 ∷ t5 ∷ t6 ∷ t7 ∷ []) h true (suc (suc (suc zero))) r lt e has = let g = slot_of s 3 true r t7 e has h.1.1.1.1.1.1.1 in (g.0, (ap Some g.1.0, g.1.1))
track_at s (t0 ∷ t1 ∷ t2 ∷ t3 ∷ t4 ∷ t5 ∷ t6 ∷ t7 ∷ []) h true (suc (suc (suc (suc k)))) r lt e has = absurd (omega (arith, lt))
track_at s [] h kind k r lt e has = absurd h
track_at s (t0 ∷ []) h kind k r lt e has = absurd h
track_at s (t0 ∷ t1 ∷ []) h kind k r lt e has = absurd h
track_at s (t0 ∷ t1 ∷ t2 ∷ []) h kind k r lt e has = absurd h
track_at s (t0 ∷ t1 ∷ t2 ∷ t3 ∷ []) h kind k r lt e has = absurd h
track_at s (t0 ∷ t1 ∷ t2 ∷ t3 ∷ t4 ∷ []) h kind k r lt e has = absurd h
track_at s (t0 ∷ t1 ∷ t2 ∷ t3 ∷ t4 ∷ t5 ∷ []) h kind k r lt e has = absurd h
track_at s (t0 ∷ t1 ∷ t2 ∷ t3 ∷ t4 ∷ t5 ∷ t6 ∷ []) h kind k r lt e has = absurd h
track_at s (t0 ∷ t1 ∷ t2 ∷ t3 ∷ t4 ∷ t5 ∷ t6 ∷ t7 ∷ t8 ∷ ts) h kind k r lt e has = absurd h

rule_at : (s : Series) (ts : List (Option RuleTrack)) → AreTracks s ts → (k : ℕ) (t : RuleTrack) → slice_get ts k ≡ Some (Some t) → (kind : Bool) × ((j : ℕ) × ((r : Rule) × ((slice_get s.rules j ≡ Some r) × IsTrackOf r s.start kind t)))
rule_at s (t0 ∷ t1 ∷ t2 ∷ t3 ∷ t4 ∷ t5 ∷ t6 ∷ t7 ∷ []) h zero t e = (false, (0, rule_of s 0 false t t0 (same_Some t0 (Some t) e) h.0))
rule_at s (t0 ∷ t1 ∷ t2 ∷ t3 ∷ t4 ∷ t5 ∷ t6 ∷ t7 ∷ []) h (suc zero) t e = (false, (1, rule_of s 1 false t t1 (same_Some t1 (Some t) e) h.1.0))
rule_at s (t0 ∷ t1 ∷ t2 ∷ t3 ∷ t4 ∷ t5 ∷ t6 ∷ t7 ∷ []) h (suc (suc zero)) t e = (false, (2, rule_of s 2 false t t2 (same_Some t2 (Some t) e) h.1.1.0))
rule_at s (t0 ∷ t1 ∷ t2 ∷ t3 ∷ t4 ∷ t5 ∷ t6 ∷ t7 ∷ []) h (suc (suc (suc zero))) t e = (false, (3, rule_of s 3 false t t3 (same_Some t3 (Some t) e) h.1.1.1.0))
rule_at s (t0 ∷ t1 ∷ t2 ∷ t3 ∷ t4 ∷ t5 ∷ t6 ∷ t7 ∷ []) h (suc (suc (suc (suc zero)))) t e = (true, (0, rule_of s 0 true t t4 (same_Some t4 (Some t) e) h.1.1.1.1.0))
rule_at s (t0 ∷ t1 ∷ t2 ∷ t3 ∷ t4 ∷ t5 ∷ t6 ∷ t7 ∷ []) h (suc (suc (suc (suc (suc zero))))) t e = (true, (1, rule_of s 1 true t t5 (same_Some t5 (Some t) e) h.1.1.1.1.1.0))
rule_at s (t0 ∷ t1 ∷ t2 ∷ t3 ∷ t4 ∷ t5 ∷ t6 ∷ t7 ∷ []) h (suc (suc (suc (suc (suc (suc zero)))))) t e = (true, (2, rule_of s 2 true t t6 (same_Some t6 (Some t) e) h.1.1.1.1.1.1.0))
rule_at s (t0 ∷ t1 ∷ t2 ∷ t3 ∷ t4 ∷ t5 ∷ t6 ∷ t7 ∷ []) h (suc (suc (suc (suc (suc (suc (suc zero))))))) t e = (true, (3, rule_of s 3 true t t7 (same_Some t7 (Some t) e) h.1.1.1.1.1.1.1))
rule_at s (t0 ∷ t1 ∷ t2 ∷ t3 ∷ t4 ∷ t5 ∷ t6 ∷ t7 ∷ []) h (suc (suc (suc (suc (suc (suc (suc (suc k)))))))) t e = absurd (cc e)
rule_at s [] h k t e = absurd h
rule_at s (t0 ∷ []) h k t e = absurd h
rule_at s (t0 ∷ t1 ∷ []) h k t e = absurd h
rule_at s (t0 ∷ t1 ∷ t2 ∷ []) h k t e = absurd h
rule_at s (t0 ∷ t1 ∷ t2 ∷ t3 ∷ []) h k t e = absurd h
rule_at s (t0 ∷ t1 ∷ t2 ∷ t3 ∷ t4 ∷ []) h k t e = absurd h
rule_at s (t0 ∷ t1 ∷ t2 ∷ t3 ∷ t4 ∷ t5 ∷ []) h k t e = absurd h
rule_at s (t0 ∷ t1 ∷ t2 ∷ t3 ∷ t4 ∷ t5 ∷ t6 ∷ []) h k t e = absurd h
rule_at s (t0 ∷ t1 ∷ t2 ∷ t3 ∷ t4 ∷ t5 ∷ t6 ∷ t7 ∷ t8 ∷ ts) h k t e = absurd h

-- the days that the track of a rule gives
abbrev pub TrackGives : RuleTrack → ℤ → ℤ → Type 0
TrackGives = Gives (λ t n. days_of t.pushed t.rule.now n) (λ t n. phase_by t.pushed t.rule.now t.first n) (λ t. t.last)

-- a day of the set of some rule, or the start's
in_day : (rs : List Rule) (start n : ℤ) (k : ℕ) (r : Rule) → slice_get rs k ≡ Some r → is_in_set r start n ≡ true → is_day rs start n ≡ true
in_day [] start n k r e h = absurd (cc e)
in_day (x ∷ xs) start n k r e h = any_passes_from_place (λ rule. is_in_set rule start n) (x ∷ xs) k r e h

start_day : (rs : List Rule) (start : ℤ) → ((r : Rule) → slice_get rs 0 ≡ Some r → is_in_set r start (day_of_wall start) ≡ true) → is_day rs start (day_of_wall start) ≡ true
start_day [] start h = (Decides-int_eq (day_of_wall start) (day_of_wall start)).1 refl
start_day (x ∷ xs) start h = any_passes_from_place (λ rule. is_in_set rule start (day_of_wall start)) (x ∷ xs) 0 x refl (h x refl)

day_cases : (rs : List Rule) (start n : ℤ) → is_day rs start n ≡ true → (n ≡ day_of_wall start) ⊎ ((k : ℕ) × ((r : Rule) × ((slice_get rs k ≡ Some r) × (is_in_set r start n ≡ true))))
day_cases [] start n h = inl ((Decides-int_eq n (day_of_wall start)).0 h)
day_cases (x ∷ xs) start n h = inr (any_at (λ rule. is_in_set rule start n) (x ∷ xs) h)

given_by : (t : RuleTrack) (r : Rule) (kind : Bool) (first d n : ℤ) → t.rule.now ≡ r → t.pushed ≡ kind → t.first ≡ d → first ≡ d → TrackGives t first n → IsGiven (days_of kind r) (phase_by kind r d) t.last d n
given_by t r kind first d n er ek et ef g = record {
  later = rw (← ef) g.later;
  up_to = g.up_to;
  kept = rw (← er, ← ek) g.kept;
  in_phase = rw (← er, ← ek, ← et) g.in_phase;
}

by_given : (t : RuleTrack) (r : Rule) (kind : Bool) (first d n : ℤ) → t.rule.now ≡ r → t.pushed ≡ kind → t.first ≡ d → first ≡ d → IsGiven (days_of kind r) (phase_by kind r d) t.last d n → TrackGives t first n
by_given t r kind first d n er ek et ef g = record {
  later = rw ef g.later;
  up_to = g.up_to;
  kept = rw (er, ek) g.kept;
  in_phase = rw (er, ek, et) g.in_phase;
}

parts_at : (w n : ℤ) (t : ℕ) → t < 86400 → w ≡ wall_at n t → (second_of_wall w ≡ t) × (day_of_wall w ≡ n)
parts_at w n t small e = (omega (arith, signed_arith, small, e), omega (arith, signed_arith, small, e))

whole_is : (w : ℤ) (t : ℕ) → second_of_wall w ≡ t → w ≡ wall_at (day_of_wall w) t
whole_is w t e = omega (arith, signed_arith)

abbrev pub span_of : Occurrence → Span
span_of o = record { start = o.start; length = o.length; occupying = o.occupying }

abbrev pub at_rid : ℤ → Span → Occurrence
at_rid rid t = record { rid = rid; start = t.start; length = t.length; occupying = t.occupying }

module _ (s : Series) (a : Outline) (ts : List (Option RuleTrack)) (is : IsOutlineOf s a) (tracks : AreTracks s ts) where
  days_to : (n : ℤ) → IsDay TrackGives a ts n → is_day s.rules s.start n ≡ true
  days_to n (inl e) =
      let same : n ≡ day_of_wall s.start = e ∙ is.first in
      rw same (start_day s.rules s.start (λ r at. (track_at s ts tracks false 0 r (omega arith) at refl).1.1.end.start_in))
  days_to n (inr g) =
      let t = g.1 in
      let m = rule_at s ts tracks g.0 t g.2 in
      let r = m.1.1.0 in
      let of = m.1.1.1.1 in
      in_day s.rules s.start n m.1.0 r m.1.1.1.0 (of.end.from n (given_by t r m.0 a.first (day_of_wall s.start) n of.rule of.pushed of.first is.first g.3))

  days_from : (n : ℤ) → is_day s.rules s.start n ≡ true → IsDay TrackGives a ts n
  days_from n h =
      elim (day_cases s.rules s.start n h) [
        | inl same ↦ inl (same ∙ sym is.first)
        | inr m ↦
            let k = m.0 in
            let r = m.1.0 in
            let few = s.few_rules in
            let within = slice_get_within s.rules k r m.1.1.0 in
            elim (kind_of r s.start n m.1.1.1) [
              | inl same ↦ inl (same ∙ sym is.first)
              | inr of ↦
                  let kind = of.0 in
                  let t = track_at s ts tracks kind k r (omega (arith, few, within)) m.1.1.0 of.1.0 in
                  elim (t.1.1.end.to n of.1.1.0 of.1.1.1 m.1.1.1) [
                    | inl same ↦ inl (same ∙ sym is.first)
                    | inr given ↦ inr (slot_place kind k, t.0, t.1.0, by_given t.0 r kind a.first (day_of_wall s.start) n t.1.1.rule t.1.1.pushed t.1.1.first is.first given)
                  ]
            ]
      ]

  pub occurrence_to : (rid : ℤ) (t : Span) → IsOccurrenceAt TrackGives a ts rid t → IsOccurrence s (at_rid rid t)
  occurrence_to rid t (inl o) =
      let n = o.0 in
      let same = o.4 in
      let second : rid ≡ wall_at n (second_of_wall s.start) = o.2 ∙ ap (λ k. wall_at n k) is.time in
      let at = parts_at rid n (second_of_wall s.start) (omega (arith, a.time_in, is.time)) second in
      regular_occurs s (at_rid rid t) (record {
        rid = both_and (second_of_wall rid == second_of_wall s.start) _ (eq-eqb (second_of_wall rid) (second_of_wall s.start) at.0) (rw at.1 (days_to n o.1));
        free = rw (← is.exceptions) o.3;
        start = ap (λ (v : Span). v.start) same;
        length = ap (λ (v : Span). v.length) same ∙ is.length;
        occupying = ap (λ (v : Span). v.occupying) same ∙ is.occupying;
      })
  occurrence_to rid t (inr o) = replaced_occurs s o.0 (record { rid = rid; replaced = Some t }) (at_rid rid t) (rw (← is.exceptions) o.1) refl

  kind_from : (o : Occurrence) → IsOfKinds s o → IsOccurrenceAt TrackGives a ts o.rid (span_of o)
  kind_from o (inl h) =
      let n = day_of_wall o.rid in
      let p = and_both (second_of_wall o.rid == second_of_wall s.start) (is_day s.rules s.start n) h.rid in
      let second = eqb-true (second_of_wall o.rid) (second_of_wall s.start) p.0 in
      inl (
        n,
        days_from n p.1,
        whole_is o.rid (second_of_wall s.start) second ∙ ap (λ k. wall_at n k) (sym is.time),
        rw is.exceptions h.free,
        rw (h.start, h.length, h.occupying, is.length, is.occupying) refl,
      )
  kind_from o (inr e) = inr (e.0, rw is.exceptions (e.1.1.0 ∙ ap Some e.1.1.1))

  pub occurrence_from : (o : Occurrence) → IsOccurrence s o → IsOccurrenceAt TrackGives a ts o.rid (span_of o)
  occurrence_from o h = kind_from o (kinds s o h)

covers_to : (t : Span) (rid x : ℤ) → Blocks t x → Covers (at_rid rid t) x
covers_to t rid x b = record { occupying = b.0; begun = b.1.0; not_over = b.1.1 }

to_covers : (o : Occurrence) (x : ℤ) → Covers o x → Blocks (span_of o) x
to_covers o x c = (c.occupying, (c.begun, c.not_over))

pub two-least : (s : Series) (a : Outline) (ra : List (Option RuleTrack)) (u : Series) (b : Outline) (rb : List (Option RuleTrack)) → IsOutlineOf s a → AreTracks s ra → IsOutlineOf u b → AreTracks u rb → (o : Option ℤ) →
    IsLeastOf (IsSharedAs false TrackGives TrackGives a ra b rb) o → IsLeastOf (IsShared s u) o
two-least s a ra u b rb ia ta ib tb o h =
    same-least (IsSharedAs false TrackGives TrackGives a ra b rb) (IsShared s u) o
    (λ x (i, v, j, t, p, q, apart, bs, bt). (at_rid i v, at_rid j t, occurrence_to s a ra ia ta i v p, occurrence_to u b rb ib tb j t q, covers_to v i x bs, covers_to t j x bt))
    (λ x (p, q, hp, hq, cp, cq). (p.rid, span_of p, q.rid, span_of q, occurrence_from s a ra ia ta p hp, occurrence_from u b rb ib tb q hq, tt, to_covers p x cp, to_covers q x cq)) h

pub self-least : (s : Series) (a : Outline) (ra : List (Option RuleTrack)) → IsOutlineOf s a → AreTracks s ra → (o : Option ℤ) →
    IsLeastOf (IsSharedAs true TrackGives TrackGives a ra a ra) o → IsLeastOf (IsSelfShared s) o
self-least s a ra ia ta o h =
    same-least (IsSharedAs true TrackGives TrackGives a ra a ra) (IsSelfShared s) o
    (λ x (i, v, j, t, p, q, apart, bs, bt). (at_rid i v, at_rid j t, occurrence_to s a ra ia ta i v p, occurrence_to s a ra ia ta j t q, apart, covers_to v i x bs, covers_to t j x bt))
    (λ x (p, q, hp, hq, apart, cp, cq). (p.rid, span_of p, q.rid, span_of q, occurrence_from s a ra ia ta p hp, occurrence_from s a ra ia ta q hq, apart, to_covers p x cp, to_covers q x cq)) h

-- the other way round
pub turned_shared : (s u : Series) (o : Option ℤ) → IsLeastOf (IsShared u s) o → IsLeastOf (IsShared s u) o
turned_shared s u o h = same-least (IsShared u s) (IsShared s u) o (λ x (p, q, hp, hq, cp, cq). (q, p, hq, hp, cq, cp)) (λ x (p, q, hp, hq, cp, cq). (q, p, hq, hp, cq, cp)) h
