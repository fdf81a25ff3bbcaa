-- What a series gives far behind its start it gives some cycles of the calendar earlier too.
use Rattle.std.proofs.Common.{◌≡◌, ◌∙◌, ℕ, ◌+◌, ◌-◌, ◌*◌, ◌≤◌, ℤ, pos, ◌+ℤ◌, ◌-ℤ◌, ◌*ℤ◌, ◌≤ℤ◌, ◌<ℤ◌, ◌==◌, inl, inr, Bool, true, false, List, [], ◌∷◌, refl, sym, ap, arith}
use Rattle.std.specs.List.{list_any}
use Rattle.std.proofs.lemmas.Bool.Decides.{nat_tests, Decides-int_eq}
use Rattle.jiff_core.proofs.SignedLemmas.{signed_arith}
use borrow.Author.Differences.{up, down}
use Rattle.spec_time.specs.Walls.{day_of_wall, is_in_years, second_of_wall}
use Rattle.spec_series.proofs.Occurrences.{kinds, regular_occurs}
use Rattle.spec_series.specs.Occurrences.{Covers, IsOccurrence, IsOfKinds, IsRegular, is_day}
use Rattle.spec_series.specs.Places.{count_from}
use Rattle.spec_series.specs.RuleSets.{is_by_end, is_counted, is_due, is_in_set, is_within_count}
use Rattle.spec_series.specs.SeriesLimits.{is_named, wall_seconds}
use Rattle.spec_series.specs.declared.by_part.End.{End}
use Rattle.spec_series.specs.declared.by_part.End.TheVariants.{Count, Never, Until}
use Rattle.spec_series.specs.declared.occurrence.Occurrence.{Occurrence}
use Rattle.spec_series.specs.declared.rule.Rule.{Rule}
use Rattle.spec_series.specs.declared.series.Series.{Series}
use Rattle.residue_clash.proofs.Covering.{replaced_early}
use Rattle.rule_expand.proofs.Cycle.{count_from-after, later}
use Rattle.rule_expand.proofs.DueDays.{due_again}
use Rattle.rule_expand.proofs.Places.{and_both, count_le, false_true}
use Rattle.rule_expand.proofs.Range.{years_near}
use Rattle.rule_expand.proofs.Regular.{named_near}
use Rattle.rule_expand.proofs.Sets.{both_and, counted_cases, counted_later, in_by, in_cases, int_le_is, is_int_le, not_true, or_cases, or_left, or_right, set_is}

-- ---- A rule.

by_end_earlier : (e : End) (v w : ℤ) → v ≤ℤ w → is_by_end e w ≡ true → is_by_end e v ≡ true
by_end_earlier Never v w le h = refl
by_end_earlier (Count c) v w le h = refl
by_end_earlier (Until u) v w le h = let g = int_le_is w u h in is_int_le v u (omega (arith, signed_arith, le, g))

fewer_within : (e : End) (a b : ℕ) → a ≤ b → is_within_count e b ≡ true → is_within_count e a ≡ true
fewer_within Never a b le h = refl
fewer_within (Count c) a b le h = grind (arith, nat_tests)
fewer_within (Until u) a b le h = refl

count_earlier : (p : ℤ → Bool) (d m n : ℤ) → d ≤ℤ m → m ≤ℤ n → count_from p d m ≤ count_from p d n
count_earlier p d m n low le =
    let a = up m + down d - (down m + up d) in
    let b = up n + down d - (down n + up d) in
    let ea : m ≡ d +ℤ pos a = omega (arith, signed_arith, low) in
    let eb : n ≡ d +ℤ pos b = omega (arith, signed_arith, low, le) in
    let less : a + 1 ≤ b + 1 = omega (arith, signed_arith, low, le) in
    let mono = count_le p d (a + 1) (b + 1) less in
    omega (arith, mono, count_from-after p d m a ea, count_from-after p d n b eb)

set_again : (r : Rule) (start m n : ℤ) (k : ℕ) → n ≡ later m (pos (k * r.interval)) → day_of_wall start <ℤ m → is_in_set r start n ≡ true → is_in_set r start m ≡ true
set_again r start m n k e past h =
    let d = day_of_wall start in
    let t = second_of_wall start in
    let due = is_due r d in
    let le : m ≤ℤ n = omega (arith, signed_arith, e) in
    let x = in_cases due r.end t d n (sym (set_is r start d r.end t refl refl refl n) ∙ h) in
    let fewer = count_earlier (is_counted due r.end t d) d m n (omega (arith, signed_arith, past)) le in
    set_is r start d r.end t refl refl refl m
    ∙ elim (counted_cases due r.end t d n x.0) [
      | inl same ↦ absurd (omega (arith, signed_arith, same, le, past))
      | inr more ↦
          in_by due r.end t d m
          (counted_later due r.end t d m past (sym (due_again r d m n k e) ∙ more.1.0)
          (by_end_earlier r.end (m *ℤ pos 86400 +ℤ pos t) (n *ℤ pos 86400 +ℤ pos t) (omega (arith, signed_arith, le)) more.1.1))
          (fewer_within r.end _ _ fewer x.1)
    ]

set_from : (r : Rule) (start n : ℤ) → is_in_set r start n ≡ true → day_of_wall start ≤ℤ n
set_from r start n h =
    let d = day_of_wall start in
    let t = second_of_wall start in
    let due = is_due r d in
    elim (counted_cases due r.end t d n (in_cases due r.end t d n (sym (set_is r start d r.end t refl refl refl n) ∙ h)).0) [
      | inl same ↦ omega (arith, signed_arith, same)
      | inr more ↦ omega (arith, signed_arith, more.0)
    ]

-- ---- The rules of a series.

-- an item that passes a test, and what passes a test if that item does
some_item : {A : Type 0} (p : A → Bool) (xs : List A) → list_any p xs ≡ true → (x : A) × ((p x ≡ true) × ((q : A → Bool) → q x ≡ true → list_any q xs ≡ true))
some_item p [] h = absurd (false_true h)
some_item p (x ∷ xs) h = elim (or_cases (p x) (list_any p xs) h) [
  | inl here ↦ (x, (here, λ q g. or_left (q x) (list_any q xs) g))
  | inr more ↦ let y = some_item p xs more in (y.0, (y.1.0, λ q g. or_right (q x) (list_any q xs) (y.1.1 q g)))
]

-- the start lies in the years 0 to 9999
start_early : (start : ℤ) → is_in_years start ≡ true → (pos 0 -ℤ pos 5000000) ≤ℤ day_of_wall start × day_of_wall start ≤ℤ pos 5000000
start_early start h = let near = years_near start h in (omega (arith, signed_arith, near), omega (arith, signed_arith, near))

-- a late day comes some times this many cycles earlier too, as long as it stays late
abbrev ComesAgain : List Rule → ℤ → ℤ → Type 0
ComesAgain rs start n = (i : ℕ) × ((1 ≤ i) × ((i ≤ 1000) × ((k : ℕ) (m : ℤ) → n ≡ later m (pos (k * i)) → pos 5000000 <ℤ m → is_day rs start m ≡ true)))

day_again : (rs : List Rule) (start n : ℤ) → is_in_years start ≡ true → pos 5000000 <ℤ n → is_day rs start n ≡ true → ComesAgain rs start n
day_again [] start n years late h =
    let same = (Decides-int_eq n (day_of_wall start)).0 h in
    let early = (start_early start years).1 in
    absurd (omega (arith, signed_arith, same, early, late))
day_again (r ∷ rs) start n years late h =
    let rule = some_item (λ rule. is_in_set rule start n) (r ∷ rs) h in
    let early = (start_early start years).1 in (
      rule.0.interval,
      (
        rule.0.interval_in.0,
        (
          rule.0.interval_in.1,
          λ k m e less. rule.1.1 (λ rule. is_in_set rule start m) (set_again rule.0 start m n k e (omega (arith, signed_arith, early, less)) rule.1.0),
        ),
      ),
    )

day_from : (rs : List Rule) (start n : ℤ) → is_day rs start n ≡ true → day_of_wall start ≤ℤ n
day_from [] start n h = let same = (Decides-int_eq n (day_of_wall start)).0 h in omega (arith, signed_arith, same)
day_from (r ∷ rs) start n h = let rule = some_item (λ rule. is_in_set rule start n) (r ∷ rs) h in set_from rule.0 start n rule.1.0

-- ---- Occurrences.

-- the seconds of so many cycles of 146097 days
abbrev pub back : ℕ → ℤ
back c = pos (c * 12622780800)

-- the occurrence so many cycles earlier
abbrev pub earlier : Occurrence → ℕ → Occurrence
earlier o c = record { rid = o.rid -ℤ back c; start = o.start -ℤ back c; length = o.length; occupying = o.occupying }

abbrev late : ℤ
late = pos 500000000000

not_named : (s : Series) (w : ℤ) → late ≤ℤ w → is_named s.exceptions w ≡ false
not_named s w far = not_true (is_named s.exceptions w) (λ h. let near = named_near s.exceptions s.exceptions_in w h in omega (arith, signed_arith, near, far))

day_back : (w : ℤ) (c : ℕ) → day_of_wall w ≡ later (day_of_wall (w -ℤ back c)) (pos c)
day_back w c = omega (arith, signed_arith)

second_back : (w : ℤ) (c : ℕ) → second_of_wall (w -ℤ back c) ≡ second_of_wall w
second_back w c = omega (arith, signed_arith)

late_day : (w : ℤ) → late ≤ℤ w → pos 5000000 <ℤ day_of_wall w
late_day w far = omega (arith, signed_arith, far)

-- a late occurrence that no exception made comes some times this many cycles earlier too
regular_again : (s : Series) (o : Occurrence) → IsRegular s o → late ≤ℤ o.rid
    → (i : ℕ) × ((1 ≤ i) × ((i ≤ 1000) × ((k : ℕ) → late ≤ℤ (o.rid -ℤ back (k * i)) → IsRegular s (earlier o (k * i)))))
regular_again s o h far =
    let p = and_both (second_of_wall o.rid == second_of_wall s.start) (is_day s.rules s.start (day_of_wall o.rid)) h.rid in
    let again = day_again s.rules s.start (day_of_wall o.rid) s.start_in (late_day o.rid far) p.1 in (
      again.0,
      (
        again.1.0,
        (
          again.1.1.0,
          λ k less.
              let w = o.rid -ℤ back (k * again.0) in
              record {
                rid = both_and (second_of_wall w == second_of_wall s.start) (is_day s.rules s.start (day_of_wall w)) (rw (second_back o.rid (k * again.0)) p.0)
                    (again.1.1.1 k (day_of_wall w) (day_back o.rid (k * again.0)) (late_day w less));
                free = not_named s w less;
                start = ap (λ x. x -ℤ back (k * again.0)) h.start;
                length = h.length;
                occupying = h.occupying;
              },
        ),
      ),
    )

-- where an occurrence of a series may begin, and how long it may last
kind_bounds : (s : Series) (o : Occurrence) → IsOfKinds s o → ((pos 0 -ℤ pos 500000000000) ≤ℤ o.start) × (wall_seconds o.length ≤ 31622400)
kind_bounds s o (inl h) =
    let p = and_both (second_of_wall o.rid == second_of_wall s.start) (is_day s.rules s.start (day_of_wall o.rid)) h.rid in
    let from = day_from s.rules s.start (day_of_wall o.rid) p.1 in
    let early = (start_early s.start s.start_in).0 in
    (omega (arith, signed_arith, from, early, h.start), rw h.length s.length_in)
kind_bounds s o (inr (k, x)) =
    let early = replaced_early s k x.0 o x.1.0 x.1.1 in
    let near = years_near o.start early.0 in
    (omega (arith, signed_arith, near), early.1)

pub bounds : (s : Series) (o : Occurrence) → IsOccurrence s o → ((pos 0 -ℤ pos 500000000000) ≤ℤ o.start) × (wall_seconds o.length ≤ 31622400)
bounds s o h = kind_bounds s o (kinds s o h)

abbrev AgainFrom : Series → Occurrence → ℤ → Type 0
AgainFrom s o x =
    (i : ℕ) × ((1 ≤ i) × ((i ≤ 1000) × ((k : ℕ) → pos 1000000000000 ≤ℤ (x -ℤ back (k * i)) → IsOccurrence s (earlier o (k * i)) × Covers (earlier o (k * i)) (x -ℤ back (k * i)))))

-- a late second that an occurrence covers is covered some times this many cycles earlier too, by the same occurrence so much earlier
kind_again : (s : Series) (o : Occurrence) (x : ℤ) → IsOfKinds s o → Covers o x → pos 1000000000000 ≤ℤ x → AgainFrom s o x
kind_again s o x (inr (k, e)) over far =
    let early = replaced_early s k e.0 o e.1.0 e.1.1 in
    let near = years_near o.start early.0 in
    absurd (omega (arith, signed_arith, near, early.1, over.not_over, far))
kind_again s o x (inl h) over far =
    let short = (kind_bounds s o (inl h)).1 in
    let regular = regular_again s o h (omega (arith, signed_arith, h.start, short, over.not_over, far)) in (
      regular.0,
      (
        regular.1.0,
        (
          regular.1.1.0,
          λ k less. (
            regular_occurs s (earlier o (k * regular.0)) (regular.1.1.1 k (omega (arith, signed_arith, h.start, short, over.not_over, less))),
            record {
              occupying = over.occupying;
              begun = omega (arith, signed_arith, over.begun);
              not_over = omega (arith, signed_arith, over.not_over);
            },
          ),
        ),
      ),
    )

pub again : (s : Series) (o : Occurrence) (x : ℤ) → IsOccurrence s o → Covers o x → pos 1000000000000 ≤ℤ x
    → (i : ℕ) × ((1 ≤ i) × ((i ≤ 1000) × ((k : ℕ) → pos 1000000000000 ≤ℤ (x -ℤ back (k * i)) → IsOccurrence s (earlier o (k * i)) × Covers (earlier o (k * i)) (x -ℤ back (k * i)))))
again s o x h over far = kind_again s o x (kinds s o h) over far
