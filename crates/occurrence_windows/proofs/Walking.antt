-- The walk from one occurrence to the next.
use Rattle.std.proofs.Common.{◌≡◌, ◌<◌, ◌⊎◌, inl, inr, true, false, refl, ◌∙◌, arith, ℤ, pos, ◌≤ℤ◌, ◌<ℤ◌, ◌+ℤ◌, ◌-ℤ◌, ◌*ℤ◌, Option, Some, None, IfSome, int_lt}
use Rattle.std.specs.Ordering.{int_eq}
use Rattle.std.specs.Int.{int_gap}
use Rattle.std.proofs.lemmas.Bool.Decides.{Decides-int_eq}
use Rattle.std.proofs.lemmas.Int.{by_lt_z}
use Rattle.jiff_core.proofs.SignedLemmas.{signed_arith}
use Rattle.jiff_core.specs.Calendar.{IsWithin}
use Rattle.spec_series.specs.declared.occurrence.Occurrence.{Occurrence}
use Rattle.spec_series.specs.Given.{is_past, is_after, is_sooner}
use Rattle.rule_expand.proofs.Places.{and_both, is_late, late_is}
use Rattle.rule_expand.proofs.Regular.{int_gap_is}
use Rattle.rule_expand.proofs.Sets.{both_and, or_cases, or_left, or_right}

-- what `is_after` and `is_sooner` say
pub after_cases : (from : ℤ) (past : Option ℤ) (s r : ℤ) → is_after from past s r ≡ true → (from <ℤ s) ⊎ ((s ≡ from) × (is_past past r ≡ true))
unfolding is_after
after_cases from past s r h = elim (or_cases (int_lt from s) _ h) [
  | inl lt ↦ inl (late_is from s lt)
  | inr more ↦ let x = and_both (int_eq s from) _ more in inr ((Decides-int_eq s from).0 x.0, x.1)
]

pub after_by : (from : ℤ) (past : Option ℤ) (s r : ℤ) → ((from <ℤ s) ⊎ ((s ≡ from) × (is_past past r ≡ true))) → is_after from past s r ≡ true
unfolding is_after
after_by from past s r h = elim h [
  | inl lt ↦ or_left (int_lt from s) _ (is_late from s lt)
  | inr more ↦ or_right (int_lt from s) _ (both_and (int_eq s from) _ ((Decides-int_eq s from).1 more.0) more.1)
]

pub sooner_by : (a b : Occurrence) → ((a.start <ℤ b.start) ⊎ ((a.start ≡ b.start) × (a.rid <ℤ b.rid))) → is_sooner a b ≡ true
unfolding is_sooner
sooner_by a b h = elim h [
  | inl lt ↦ or_left (int_lt a.start b.start) _ (is_late a.start b.start lt)
  | inr more ↦ or_right (int_lt a.start b.start) _ (both_and (int_eq a.start b.start) _ ((Decides-int_eq a.start b.start).1 more.0) (is_late a.rid b.rid more.1))
]

past_trans : (past : Option ℤ) (b r : ℤ) → is_past past b ≡ true → b <ℤ r → is_past past r ≡ true
past_trans None b r h lt = refl
past_trans (Some p) b r h lt = let x = late_is p b h in is_late p r (omega (arith, signed_arith))

pub after_trans : (from : ℤ) (past : Option ℤ) (a b s r : ℤ) → is_after from past a b ≡ true → is_after a (Some b) s r ≡ true → is_after from past s r ≡ true
after_trans from past a b s r h k = after_by from past s r (elim (after_cases a (Some b) s r k) [
  | inl lt ↦ elim (after_cases from past a b h) [ inl x ↦ inl (omega (arith, signed_arith)) | inr x ↦ inl (omega (arith, signed_arith, x.0)) ]
  | inr e ↦ elim (after_cases from past a b h) [ inl x ↦ inl (omega (arith, signed_arith, e.0)) | inr x ↦ inr (e.0 ∙ x.0, past_trans past b r x.1 (late_is b r e.1)) ]
])

-- what isn't sooner and isn't the same comes after
pub beyond : (x o : Occurrence) → is_sooner o x ≡ false → ((o.start ≡ x.start) → (o.rid ≡ x.rid) → ⊥) → is_after x.start (Some x.rid) o.start o.rid ≡ true
beyond x o h apart =
    let no : ((o.start <ℤ x.start) ⊎ ((o.start ≡ x.start) × (o.rid <ℤ x.rid))) → ⊥ = λ e. let y = sooner_by o x e in cc in
    after_by x.start (Some x.rid) o.start o.rid (by_lt_z x.start o.start
    (λ lt. inl lt)
    (λ ge. by_lt_z o.start x.start
    (λ lt. absurd (no (inl lt)))
    (λ le. let e : o.start ≡ x.start = omega (arith, signed_arith) in
    inr (
      e,
      by_lt_z x.rid o.rid
          (λ lt. is_late x.rid o.rid lt)
          (λ back. absurd (by_lt_z o.rid x.rid (λ lt. no (inr (e, lt))) (λ same. apart e (omega (arith, signed_arith))))),
    ))))

-- no occurrence is after itself, so one after another isn't that one
past_self : (r : ℤ) → is_past (Some r) r ≡ true → ⊥
past_self r h = let x = late_is r r h in omega (arith, signed_arith)

pub after_self : (s r : ℤ) → is_after s (Some r) s r ≡ true → ⊥
after_self s r h = elim (after_cases s (Some r) s r h) [ inl lt ↦ omega (arith, signed_arith, lt) | inr e ↦ past_self r e.1 ]

-- the measure: starts and recurrence ids in one number
abbrev pub key : ℤ → Option ℤ → ℤ
key s None = s *ℤ pos 1099511627776 -ℤ pos 549755813888
key s (Some r) = s *ℤ pos 1099511627776 +ℤ r

abbrev pub TOP : ℤ
TOP = pos 549755813888000000000000

gap_less : (a b top : ℤ) → a <ℤ b → b ≤ℤ top → int_gap b top < int_gap a top
gap_less a b top h k = omega (arith, signed_arith, int_gap_is a top, int_gap_is b top)

key_less : (from : ℤ) (past : Option ℤ) (s r : ℤ) → is_after from past s r ≡ true → IfSome past (IsWithin 400000000000) → IsWithin 400000000000 r → key from past <ℤ key s (Some r)
key_less from None s r h near n = elim (after_cases from None s r h) [
  | inl lt ↦ omega (arith, signed_arith, n, lt)
  | inr e ↦ omega (arith, signed_arith, n, e.0)
]
key_less from (Some p) s r h near n = elim (after_cases from (Some p) s r h) [
  | inl lt ↦ omega (arith, signed_arith, n, near, lt)
  | inr e ↦ let x = late_is p r e.1 in omega (arith, signed_arith, n, near, e.0, x)
]

-- each step moves on
pub moves_on : (from : ℤ) (past : Option ℤ) (s r : ℤ) → is_after from past s r ≡ true → IfSome past (IsWithin 400000000000) → IsWithin 400000000000 s → IsWithin 400000000000 r
    → int_gap (key s (Some r)) TOP < int_gap (key from past) TOP
moves_on from past s r h near m n = gap_less (key from past) (key s (Some r)) TOP (key_less from past s r h near n) (omega (arith, signed_arith, m, n))
