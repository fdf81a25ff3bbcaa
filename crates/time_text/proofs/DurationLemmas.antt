-- The parts of a Duration, one behind the other, are what the grammar puts together.
use Rattle.std.proofs.Common.{◌≡◌, ◌∙◌, ◌≤◌, ◌<◌, ◌+◌, ◌-◌, ◌*◌, ◌==◌, ◌&&◌, ◌||◌, ℕ, zero, suc, List, [], ◌∷◌, Bool, true, false, Option, Some, None, drop, take, take_all, length, nat_le, if◌then◌else◌, refl, sym, ap, arith, option_map, slice_index}
use Rattle.std.specs.Char.{is_ascii_digit}
use Rattle.std.specs.List.{list_all, prefix_len}
use Rattle.std.specs.Option.{option_or}
use Rattle.std.proofs.lemmas.Bool.{and_from, and_parts}
use Rattle.std.proofs.lemmas.Bool.Decides.{nat_tests}
use Rattle.std.proofs.lemmas.List.Sums.{prefix_len_passes}
use borrow.Author.Tests.{eqb-true}
use Rattle.spec_json.specs.Number.{value_of_digits}
use Rattle.spec_time.specs.Durations.{Form, all_but_last, after_letter, together, dur_day, dur_hour, dur_minute, dur_second, dur_time, dur_week, duration_in, either, followed_by, is_number, is_part, length_of, or_nothing, part}
use Rattle.spec_time.specs.declared.length.Length.{Length}
use Rattle.time_text.specs.DurationParts.{amount, behind_part, clock_in, digits_first, duration_by_parts, has_part, parts_in, seconds_in}

by_bool : {Q : Type 0} (b : Bool) → (b ≡ true → Q) → (b ≡ false → Q) → Q
by_bool true f g = f refl
by_bool false f g = g refl

-- Two forms, one behind the other, where a text has one place to part at.

or_none : (o : Option Length) → option_or o None ≡ o
or_none None = refl
or_none (Some x) = refl

none_both : (a b : Option Length) → a ≡ None → together a b ≡ None
none_both a b h = rw h refl

never : (f g : Form) (s : List ℕ) → ((j : ℕ) → j ≤ length s → f (take j s) ≡ None) → followed_by f g s ≡ None
unfolding followed_by
never f g [] h = none_both (f []) (g []) (h 0 (omega arith))
never f g (b ∷ bs) h =
    let first = none_both (f []) (g (b ∷ bs)) (h 0 (omega arith)) in
    rw (first, never (λ rest. f (b ∷ rest)) g bs (λ j le. h (suc j) (omega (arith, le)))) refl

only_at : (f g : Form) (s : List ℕ) (k : ℕ) → k ≤ length s → ((j : ℕ) → j ≤ length s → ((j ≡ k) → ⊥) → f (take j s) ≡ None)
    → followed_by f g s ≡ together (f (take k s)) (g (drop k s))
unfolding followed_by
only_at f g [] zero le h = refl
only_at f g [] (suc k) le h = absurd (omega (arith, le))
only_at f g (b ∷ bs) zero le h =
    let rest = never (λ rest. f (b ∷ rest)) g bs (λ j l. h (suc j) (omega (arith, l)) (λ e. omega (arith, e))) in
    rw rest (or_none (together (f []) (g (b ∷ bs))))
only_at f g (b ∷ bs) (suc k) le h =
    let first = none_both (f []) (g (b ∷ bs)) (h 0 (omega arith) (λ e. omega (arith, e))) in
    rw first (only_at (λ rest. f (b ∷ rest)) g bs k (omega (arith, le)) (λ j l n. h (suc j) (omega (arith, l)) (λ e. n (omega (arith, e)))))

-- The digits that stand first.

len_take : (s : List ℕ) (i : ℕ) → i ≤ length s → length (take i s) ≡ i
len_take s zero le = refl
len_take [] (suc i) le = absurd (omega (arith, le))
len_take (x ∷ xs) (suc i) le = let h = len_take xs i (omega (arith, le)) in omega (arith, h)

digits_le : (s : List ℕ) (i : ℕ) → i ≤ length s → list_all is_ascii_digit (take i s) ≡ true → i ≤ digits_first s
digits_le s zero le h = omega arith
digits_le [] (suc i) le h = absurd (omega (arith, le))
digits_le (x ∷ xs) (suc i) le h =
    let p = and_parts (is_ascii_digit x) (list_all is_ascii_digit (take i xs)) h in
    let rest = digits_le xs i (omega (arith, le)) p.1 in
    rw p.0 (omega (arith, rest))

digits_all : (s : List ℕ) → list_all is_ascii_digit (take (digits_first s) s) ≡ true
digits_all [] = refl
digits_all (x ∷ xs) = by_bool (is_ascii_digit x)
    (λ e.
    let next : 1 + digits_first xs ≡ suc (digits_first xs) = omega arith in
    rw (e, next) (and_from (is_ascii_digit x) _ e (digits_all xs)))
    (λ e. rw e refl)

other_first : (s : List ℕ) (i : ℕ) → is_ascii_digit (slice_index s i) ≡ false → digits_first s ≤ i
other_first s i h = by_bool (nat_le (digits_first s) i)
    (λ e. grind (arith, nat_tests))
    (λ e. let lt : i < digits_first s = grind (arith, nat_tests) in let digit = prefix_len_passes is_ascii_digit s i 0 lt in absurd (cc (digit, h)))

digits_at : (s : List ℕ) (i : ℕ) → i ≤ length s → list_all is_ascii_digit (take i s) ≡ true → is_ascii_digit (slice_index s i) ≡ false → digits_first s ≡ i
digits_at s i le all other = let low = digits_le s i le all in let high = other_first s i other in omega (arith, low, high)

within : (s : List ℕ) (i c : ℕ) → 0 < c → slice_index s i ≡ c → i < length s
within [] i c low e = absurd (omega (arith, low, e))
within (x ∷ xs) zero c low e = omega arith
within (x ∷ xs) (suc i) c low e = let h = within xs i c low e in omega (arith, h)

-- A part.

at_end : (s : List ℕ) (i : ℕ) → i < length s → (length (take (suc i) s) ≡ suc i) × (take i (take (suc i) s) ≡ take i s) × (slice_index (take (suc i) s) i ≡ slice_index s i)
at_end [] i lt = absurd (omega (arith, lt))
at_end (x ∷ xs) zero lt = (refl, refl, refl)
at_end (x ∷ xs) (suc i) lt = let r = at_end xs i (omega (arith, lt)) in let n = r.0 in (omega (arith, n), ap (λ ys. x ∷ ys) r.1, r.2)

part_at : (c : ℕ) (s : List ℕ) (i : ℕ) → i < length s → is_part c (take (suc i) s) ≡ (((nat_le 1 i && nat_le i 9) && list_all is_ascii_digit (take i s)) && (slice_index s i == c))
part_at c s i lt =
    let r = at_end s i lt in
    let n = r.0 in
    let last : length (take (suc i) s) - 1 ≡ i = omega (arith, n) in
    rw (last, r.1, r.2, len_take s i (omega (arith, lt))) refl

-- a text that begins with this part
record Begins (c : ℕ) (s : List ℕ) : Type 0 where
  few : (nat_le 1 (digits_first s) && nat_le (digits_first s) 9) ≡ true
  letter : slice_index s (digits_first s) ≡ c

begins : (c : ℕ) (s : List ℕ) → has_part c s ≡ true → Begins c s
unfolding has_part
begins c s h =
    let p = and_parts (nat_le 1 (digits_first s) && nat_le (digits_first s) 9) (slice_index s (digits_first s) == c) h in
    record { few = p.0; letter = eqb-true (slice_index s (digits_first s)) c p.1 }

same_byte : (b c : ℕ) → b ≡ c → (b == c) ≡ true
same_byte b c e = grind (arith, nat_tests)

begun : (c : ℕ) (s : List ℕ) → Begins c s → has_part c s ≡ true
unfolding has_part
begun c s b = and_from (nat_le 1 (digits_first s) && nat_le (digits_first s) 9) _ b.few (same_byte (slice_index s (digits_first s)) c b.letter)

module _ (c : ℕ) (above : 0 < c) (no_digit : is_ascii_digit c ≡ false) (lengths : ℕ → Length) where
  -- a part at the front ends behind the digits that stand first
  part_ends : (s : List ℕ) (i : ℕ) → i < length s → is_part c (take (suc i) s) ≡ true → (has_part c s ≡ true) × (digits_first s ≡ i)
  part_ends s i lt h =
      let is = sym (part_at c s i lt) ∙ h in
      let p = and_parts ((nat_le 1 i && nat_le i 9) && list_all is_ascii_digit (take i s)) (slice_index s i == c) is in
      let q = and_parts (nat_le 1 i && nat_le i 9) (list_all is_ascii_digit (take i s)) p.0 in
      let letter = eqb-true (slice_index s i) c p.1 in
      let at = digits_at s i (omega (arith, lt)) q.1 (ap is_ascii_digit letter ∙ no_digit) in
      (begun c s (record { few = rw at q.0; letter = ap (slice_index s) at ∙ letter }), at)

  ends_part : (s : List ℕ) → has_part c s ≡ true → (digits_first s < length s) × (is_part c (take (suc (digits_first s)) s) ≡ true)
  ends_part s h =
      let b = begins c s h in
      let lt = within s (digits_first s) c above b.letter in
      (lt, part_at c s (digits_first s) lt ∙ and_from _ _ (and_from _ _ b.few (digits_all s)) (same_byte (slice_index s (digits_first s)) c b.letter))

  not_part : (t : List ℕ) → is_part c t ≡ false → part c lengths t ≡ None
  unfolding part
  not_part t h = rw h refl

  elsewhere : (s : List ℕ) (j : ℕ) → j ≤ length s → (has_part c s ≡ true → (j ≡ suc (digits_first s)) → ⊥) → part c lengths (take j s) ≡ None
  elsewhere s zero le free = not_part [] refl
  elsewhere s (suc i) le free = by_bool (is_part c (take (suc i) s))
      (λ e. let ends = part_ends s i (omega (arith, le)) e in let at = ends.1 in absurd (free ends.0 (omega (arith, at))))
      (λ e. not_part (take (suc i) s) e)

  here : (s : List ℕ) → has_part c s ≡ true → part c lengths (take (suc (digits_first s)) s) ≡ Some (lengths (value_of_digits (take (digits_first s) s)))
  unfolding part
  here s h =
      let e = ends_part s h in
      let r = at_end s (digits_first s) e.0 in
      let n = r.0 in
      let last : length (take (suc (digits_first s)) s) - 1 ≡ digits_first s = omega (arith, n) in
      rw e.1 (ap (λ (ds : List ℕ). Some (lengths (value_of_digits ds))) (ap (λ (k : ℕ). take k (take (suc (digits_first s)) s)) last ∙ r.1))

  amount_here : (s : List ℕ) → has_part c s ≡ true → amount c s ≡ value_of_digits (take (digits_first s) s)
  unfolding amount
  amount_here s h = rw h refl

  behind_here : (s : List ℕ) → has_part c s ≡ true → behind_part c s ≡ drop (suc (digits_first s)) s
  unfolding behind_part
  behind_here s h = let next : digits_first s + 1 ≡ suc (digits_first s) = omega arith in rw (h, next) refl

  with_part : (g : Form) (s : List ℕ) → has_part c s ≡ true → followed_by (part c lengths) g s ≡ together (Some (lengths (amount c s))) (g (behind_part c s))
  with_part g s h =
      let e = ends_part s h in
      let at = e.0 in
      rw (amount_here s h, behind_here s h)
      (only_at (part c lengths) g s (suc (digits_first s)) (omega (arith, at)) (λ j le n. elsewhere s j le (λ has is. n is))
      ∙ ap (λ (o : Option Length). together o (g (drop (suc (digits_first s)) s))) (here s h))

  without_part : (g : Form) (s : List ℕ) → has_part c s ≡ false → followed_by (part c lengths) g s ≡ None
  without_part g s h = never (part c lengths) g s (λ j le. elsewhere s j le (λ has is. absurd (cc (has, h))))

-- One part behind another.

-- a letter is no digit, and no part begins with a part of another letter
one_letter : (c d : ℕ) (s : List ℕ) → (c == d) ≡ false → has_part c s ≡ true → has_part d s ≡ false
one_letter c d s differ h = by_bool (has_part d s)
    (λ e. let same : c ≡ d = sym (begins c s h).letter ∙ (begins d s e).letter in absurd (cc (same_byte c d same, differ)))
    (λ e. e)

no_time : (c : ℕ) (f : Form) (s : List ℕ) → has_part c s ≡ true → after_letter 84 f s ≡ None
no_time c f [] h = refl
no_time c f (b ∷ bs) h = by_bool (b == 84)
    (λ e.
    let same = eqb-true b 84 e in
    let none : is_ascii_digit b ≡ false = ap is_ascii_digit same in
    let first : digits_first (b ∷ bs) ≡ 0 = rw none refl in
    let few = (begins c (b ∷ bs) h).few in
    absurd (cc (rw first at few)))
    (λ e. rw e refl)

-- a form of texts, or none at all where something stood before
abbrev may_be : Bool → Form → Form
may_be true f s = or_nothing f s
may_be false f s = f s

nothing_more : (o : Option Length) → together (Some (length_of 0 0)) o ≡ o
nothing_more None = refl
nothing_more (Some l) =
    let days : 0 + l.days ≡ l.days = omega arith in
    let seconds : 0 + l.seconds ≡ l.seconds = omega arith in
    λ i. Some (record { days = days i; seconds = seconds i })

optional_some : (f : Form) (s : List ℕ) → 0 < length s → or_nothing f s ≡ f s
optional_some f [] lt = absurd (omega (arith, lt))
optional_some f (b ∷ bs) lt = refl

may_be_some : (some : Bool) (f : Form) (s : List ℕ) → 0 < length s → may_be some f s ≡ f s
may_be_some true f s lt = optional_some f s lt
may_be_some false f s lt = refl

or_true : (b : Bool) → (b || true) ≡ true
or_true true = refl
or_true false = refl

or_false : (b : Bool) → (b || false) ≡ b
or_false true = refl
or_false false = refl

-- a part before a form, or the form by itself
abbrev level : ℕ → (ℕ → Length) → Form → Form
level c lengths rest = either (followed_by (part c lengths) (or_nothing rest)) rest

module _ (c : ℕ) (above : 0 < c) (no_digit : is_ascii_digit c ≡ false) (lengths : ℕ → Length) (none : lengths 0 ≡ length_of 0 0)
    (rest : Form) (differ : (s : List ℕ) → has_part c s ≡ true → rest s ≡ None) where
  level_with : (s : List ℕ) → has_part c s ≡ true → level c lengths rest s ≡ together (Some (lengths (amount c s))) (or_nothing rest (behind_part c s))
  level_with s h = rw (with_part c above no_digit lengths (or_nothing rest) s h, differ s h) (or_none _)

  level_without : (s : List ℕ) → has_part c s ≡ false → level c lengths rest s ≡ rest s
  level_without s h = rw (without_part c above no_digit lengths (or_nothing rest) s h) refl

  may_be_without : (some : Bool) (s : List ℕ) → has_part c s ≡ false → may_be some (level c lengths rest) s ≡ may_be some rest s
  may_be_without true [] h = refl
  may_be_without true (b ∷ bs) h = level_without (b ∷ bs) h
  may_be_without false s h = level_without s h

  amount_none : (s : List ℕ) → has_part c s ≡ false → amount c s ≡ 0
  unfolding amount
  amount_none s h = rw h refl

  behind_none : (s : List ℕ) → has_part c s ≡ false → behind_part c s ≡ s
  unfolding behind_part
  behind_none s h = rw h refl

  level_is : (some : Bool) (s : List ℕ) → may_be some (level c lengths rest) s ≡ together (Some (lengths (amount c s))) (may_be (some || has_part c s) rest (behind_part c s))
  level_is some s = by_bool (has_part c s)
      (λ h.
      let lt = (ends_part c above no_digit lengths s h).0 in
      may_be_some some (level c lengths rest) s (omega (arith, lt)) ∙ level_with s h
      ∙ ap (λ (b : Bool). together (Some (lengths (amount c s))) (may_be b rest (behind_part c s))) (sym (ap (λ (b : Bool). some || b) h ∙ or_true some)))
      (λ h. rw (h, or_false some, amount_none s h, behind_none s h, none) (may_be_without some s h ∙ sym (nothing_more (may_be some rest s))))

-- Hours, minutes and seconds.

abbrev seconds_last : Bool → List ℕ → Option Length
seconds_last some s = if (some || has_part 83 s) && (length (behind_part 83 s) == 0) then Some (length_of 0 (amount 83 s)) else None

len_drop : (s : List ℕ) (k : ℕ) → length (drop k s) ≡ length s - k
len_drop s zero = omega arith
len_drop [] (suc k) = omega arith
len_drop (x ∷ xs) (suc k) = let h = len_drop xs k in omega (arith, h)

is_zero : (n : ℕ) → (n == 0) ≡ true → n ≡ 0
is_zero n h = eqb-true n 0 h

not_zero : (n : ℕ) → (n == 0) ≡ false → (n ≡ 0) → ⊥
not_zero n h e = absurd (cc (same_byte n 0 e, h))

second_letter : is_ascii_digit 83 ≡ false
second_letter = refl

seconds_behind : (s : List ℕ) → has_part 83 s ≡ true → (length (behind_part 83 s) == 0) ≡ false → length s ≡ suc (digits_first s) → ⊥
seconds_behind s h more e =
    let left = len_drop s (suc (digits_first s)) in
    let same = ap length (behind_here 83 (omega arith) second_letter (λ n. length_of 0 n) s h) in
    not_zero (length (behind_part 83 s)) more (omega (arith, left, same, e))

seconds_end : (s : List ℕ) → has_part 83 s ≡ true → (length (behind_part 83 s) == 0) ≡ true → length s ≡ suc (digits_first s)
seconds_end s h over =
    let none = is_zero (length (behind_part 83 s)) over in
    let left = len_drop s (suc (digits_first s)) in
    let same = ap length (behind_here 83 (omega arith) second_letter (λ n. length_of 0 n) s h) in
    let lt = (ends_part 83 (omega arith) second_letter (λ n. length_of 0 n) s h).0 in
    omega (arith, left, same, none, lt)

all_taken : (s : List ℕ) → take (length s) s ≡ s
all_taken s = take_all (length s) s (omega arith)

no_seconds : (s : List ℕ) → (has_part 83 s ≡ true → (length s ≡ suc (digits_first s)) → ⊥) → dur_second s ≡ None
no_seconds s free = ap (λ (t : List ℕ). dur_second t) (sym (all_taken s)) ∙ elsewhere 83 (omega arith) second_letter (λ n. length_of 0 n) s (length s) (omega arith) free

seconds_alone : (s : List ℕ) → dur_second s ≡ seconds_last false s
seconds_alone s = by_bool (has_part 83 s)
    (λ h. by_bool (length (behind_part 83 s) == 0)
    (λ over.
    let end = seconds_end s h over in
    let whole : take (suc (digits_first s)) s ≡ s = ap (λ (k : ℕ). take k s) (sym end) ∙ all_taken s in
    rw (h, over)
    (ap (λ (t : List ℕ). dur_second t) (sym whole) ∙ here 83 (omega arith) second_letter (λ n. length_of 0 n) s h
    ∙ ap (λ (n : ℕ). Some (length_of 0 n)) (sym (amount_here 83 (omega arith) second_letter (λ n. length_of 0 n) s h))))
    (λ more. rw (h, more) (no_seconds s (λ has. seconds_behind s has more))))
    (λ h. rw h (no_seconds s (λ has. absurd (cc (has, h)))))

seconds_may_be : (some : Bool) (s : List ℕ) → may_be some dur_second s ≡ seconds_last some s
unfolding has_part amount behind_part
seconds_may_be false s = seconds_alone s
seconds_may_be true [] = refl
seconds_may_be true (b ∷ bs) = seconds_alone (b ∷ bs) ∙ by_bool (has_part 83 (b ∷ bs))
    (λ h. rw h refl)
    (λ h. let more : (length (b ∷ bs) == 0) ≡ false = grind (arith, nat_tests) in rw (h, more) refl)

seconds_differ : (c : ℕ) (s : List ℕ) → (c == 83) ≡ false → has_part c s ≡ true → dur_second s ≡ None
seconds_differ c s other h = seconds_alone s ∙ (rw (one_letter c 83 s other h) refl)

minutes_differ : (s : List ℕ) → has_part 72 s ≡ true → either dur_minute dur_second s ≡ None
minutes_differ s h =
    rw (without_part 77 (omega arith) refl (λ n. length_of 0 (60 * n)) (or_nothing dur_second) s (one_letter 72 77 s refl h)) (seconds_differ 72 s refl h)

sum_of_clock : (t : Bool) (a b c : ℕ) → together (Some (length_of 0 (3600 * a))) (together (Some (length_of 0 (60 * b))) (if t then Some (length_of 0 c) else None))
    ≡ option_map (length_of 0) (if t then Some (3600 * a + 60 * b + c) else None)
sum_of_clock true a b c = ap (λ (n : ℕ). Some (length_of 0 n)) (omega arith)
sum_of_clock false a b c = refl

clock_is : (s : List ℕ) → either dur_hour (either dur_minute dur_second) s ≡ option_map (length_of 0) (clock_in s)
clock_is s =
    let behind_hours = behind_part 72 s in
    let h = has_part 72 s in
    level_is 72 (omega arith) refl (λ n. length_of 0 (3600 * n)) refl (either dur_minute dur_second) minutes_differ false s
    ∙ ap (together (Some (length_of 0 (3600 * amount 72 s))))
    (level_is 77 (omega arith) refl (λ n. length_of 0 (60 * n)) refl dur_second (λ t g. seconds_differ 77 t refl g) h behind_hours
    ∙ ap (together (Some (length_of 0 (60 * amount 77 behind_hours)))) (seconds_may_be (h || has_part 77 behind_hours) (behind_part 77 behind_hours)))
    ∙ sum_of_clock (((h || has_part 77 behind_hours) || has_part 83 (behind_part 77 behind_hours)) && (length (behind_part 83 (behind_part 77 behind_hours)) == 0))
    (amount 72 s) (amount 77 behind_hours) (amount 83 (behind_part 77 behind_hours))

-- Weeks, days and the time.

time_may_be : (some : Bool) (s : List ℕ) → may_be some dur_time s ≡ option_map (length_of 0) (seconds_in some s)
time_may_be true [] = refl
time_may_be false [] = refl
time_may_be true (b ∷ bs) = by_bool (b == 84) (λ e. rw e (clock_is bs)) (λ e. rw e refl)
time_may_be false (b ∷ bs) = by_bool (b == 84) (λ e. rw e (clock_is bs)) (λ e. rw e refl)

days_differ : (s : List ℕ) → has_part 87 s ≡ true → either dur_day dur_time s ≡ None
days_differ s h =
    rw (without_part 68 (omega arith) refl (λ n. length_of n 0) (or_nothing dur_time) s (one_letter 87 68 s refl h)) (no_time 87 (either dur_hour (either dur_minute dur_second)) s h)

sum_of_days : (o : Option ℕ) (w d : ℕ) → together (Some (length_of (7 * w) 0)) (together (Some (length_of d 0)) (option_map (length_of 0) o)) ≡ option_map (length_of (7 * w + d)) o
sum_of_days None w d = refl
sum_of_days (Some n) w d =
    let days : 7 * w + (d + 0) ≡ 7 * w + d = omega arith in
    let seconds : 0 + (0 + n) ≡ n = omega arith in
    ap (λ (k : ℕ). Some (length_of k (0 + (0 + n)))) days ∙ ap (λ (k : ℕ). Some (length_of (7 * w + d) k)) seconds

parts_are : (s : List ℕ) → either dur_week (either dur_day dur_time) s ≡ parts_in s
parts_are s =
    let behind_weeks = behind_part 87 s in
    let w = has_part 87 s in
    level_is 87 (omega arith) refl (λ n. length_of (7 * n) 0) refl (either dur_day dur_time) days_differ false s
    ∙ ap (together (Some (length_of (7 * amount 87 s) 0)))
    (level_is 68 (omega arith) refl (λ n. length_of n 0) refl dur_time (λ t g. no_time 68 (either dur_hour (either dur_minute dur_second)) t g) w behind_weeks
    ∙ ap (together (Some (length_of (amount 68 behind_weeks) 0))) (time_may_be (w || has_part 68 behind_weeks) (behind_part 68 behind_weeks)))
    ∙ sum_of_days (seconds_in (w || has_part 68 behind_weeks) (behind_part 68 behind_weeks)) (amount 87 s) (amount 68 behind_weeks)

-- what is read part by part is what the grammar names
pub duration_is : (s : List ℕ) → duration_in s ≡ duration_by_parts s
unfolding duration_in
duration_is [] = refl
duration_is (b ∷ bs) = by_bool (b == 80) (λ e. rw e (parts_are bs)) (λ e. rw e refl)
