-- The lines of the bytes of an input.
use Rattle.std.proofs.Common.{◌≡◌, ◌≢◌, ◌≤◌, ◌<◌, ◌++◌, ◌∷◌, [], ◌&&◌, ◌==◌, ℕ, suc, List, Bool, true, false, inl, inr, length, length-append, refl, sym, ap, ◌∙◌, subst, arith, append_assoc, append-nil, ne_eqb}
use Rattle.std.proofs.lemmas.Bool.Decides.{nat_tests}
use Rattle.std.proofs.lemmas.List.Elements.{All-cons, All-head, All-nil, All-tail}
use Rattle.std.proofs.lemmas.List.Folds.{list_all-append}
use Rattle.std.specs.List.{list_all}
use Rattle.std.specs.Prelude.{All, Option, if◌then◌else◌, nat_le}
use Rattle.jmapd_run.specs.declared.status.Status.TheVariants.{Cut, Done}
use Rattle.kept_run.specs.Completes.{lines_status}
use Rattle.kept_run.specs.Runs.{HoldsLines, IsAnswerable}
use Rattle.kept_run.specs.declared.lines.TheConstants.{MAX_LINES}
use Rattle.line_edge.proofs.LineLemmas.{first_line, one_line}
use Rattle.line_edge.specs.Lines.{HasNoFeed, IsTooLong, before_lines, lines_of, with_feeds}
use Rattle.spec_core.specs.declared.limits.TheConstants.{MAX_SIZE_REQUEST}

-- ---- the lines of bytes that hold lines

lines_fed : (ls : List (List ℕ)) (behind : List ℕ) → All IsAnswerable ls → lines_of (with_feeds ls ++ behind) ≡ ls ++ lines_of behind
lines_fed [] behind can = refl
lines_fed (l ∷ ls) behind can =
    ap lines_of (append_assoc (l ++ 10 ∷ []) (with_feeds ls) behind ∙ append_assoc l (10 ∷ []) (with_feeds ls ++ behind))
    ∙ (first_line l (with_feeds ls ++ behind) (All-head IsAnswerable l ls can).unbroken ∙ ap (λ (m : List (List ℕ)). l ∷ m) (lines_fed ls behind (All-tail IsAnswerable l ls can)))

last_line : (last : List ℕ) → 0 < length last → HasNoFeed last → lines_of last ≡ last ∷ []
last_line [] some free = absurd (omega (arith, some))
last_line (b ∷ l) some free = one_line b l free

last_of : (ls : List (List ℕ)) (l : List ℕ) → All IsAnswerable (ls ++ l ∷ []) → IsAnswerable l
last_of [] l can = All-head IsAnswerable l [] can
last_of (m ∷ ls) l can = last_of ls l (All-tail IsAnswerable m (ls ++ l ∷ []) can)

earlier_of : (ls : List (List ℕ)) (l : List ℕ) → All IsAnswerable (ls ++ l ∷ []) → All IsAnswerable ls
earlier_of [] l can = All-nil IsAnswerable
earlier_of (m ∷ ls) l can = All-cons IsAnswerable m ls (All-head IsAnswerable m (ls ++ l ∷ []) can) (earlier_of ls l (All-tail IsAnswerable m (ls ++ l ∷ []) can))

-- what stands behind the lines may be followed by more, where they end with a line feed
pub lines_held : (bytes behind more : List ℕ) (ls : List (List ℕ)) → All IsAnswerable ls → bytes ≡ with_feeds ls ++ behind → lines_of (bytes ++ more) ≡ ls ++ lines_of (behind ++ more)
lines_held bytes behind more ls can is = ap (λ (b : List ℕ). lines_of (b ++ more)) is ∙ (ap lines_of (append_assoc (with_feeds ls) behind more) ∙ lines_fed ls (behind ++ more) can)

pub all_lines : (left : Option (List ℕ)) (bytes behind : List ℕ) (ls : List (List ℕ)) → All IsAnswerable ls → HoldsLines left bytes ls behind → behind ≡ [] → lines_of bytes ≡ ls
all_lines left bytes behind ls can (inl is) empty =
    ap lines_of (is ∙ ap (λ (b : List ℕ). with_feeds ls ++ b) empty) ∙ (lines_fed ls [] can ∙ append-nil ls)
all_lines left bytes behind ls can (inr h) empty =
    let earlier = h.0 in
    let last = h.1 in
    let both : All IsAnswerable (earlier ++ last ∷ []) = subst (All IsAnswerable) h.2 can in
    let free : HasNoFeed last = (last_of earlier last both).unbroken in
    ap lines_of h.3 ∙ (lines_fed earlier last (earlier_of earlier last both) ∙ (ap (λ (m : List (List ℕ)). earlier ++ m) (last_line last h.4 free) ∙ sym h.2))

-- ---- the status that lines give

within : (n most : ℕ) → n ≤ most → nat_le n most ≡ true
within n most h = grind (arith, nat_tests)

beyond : (n most : ℕ) → most < n → nat_le n most ≡ false
beyond n most h = grind (arith, nat_tests)

all_short : (ls : List (List ℕ)) → All IsAnswerable ls → list_all (λ (l : List ℕ). nat_le (length l) MAX_SIZE_REQUEST) ls ≡ true
all_short [] can = refl
all_short (l ∷ ls) can = rw (within (length l) MAX_SIZE_REQUEST (All-head IsAnswerable l ls can).short) (all_short ls (All-tail IsAnswerable l ls can))

pub status_done : (ls : List (List ℕ)) → length ls ≤ MAX_LINES → All IsAnswerable ls → Done ≡ lines_status ls
status_done ls few can = sym (rw (within (length ls) MAX_LINES few) (rw (all_short ls can) refl))

and_false : (b : Bool) → (b && false) ≡ false
and_false true = refl
and_false false = refl

pub status_many : (ls : List (List ℕ)) → MAX_LINES < length ls → Cut ≡ lines_status ls
status_many ls many = sym (rw (beyond (length ls) MAX_LINES many) refl)

status_long : (ls : List (List ℕ)) → list_all (λ (l : List ℕ). nat_le (length l) MAX_SIZE_REQUEST) ls ≡ false → Cut ≡ lines_status ls
status_long ls long = sym (ap (λ (b : Bool). if nat_le (length ls) MAX_LINES && b then Done else Cut) long ∙ ap (λ (b : Bool). if b then Done else Cut) (and_false (nat_le (length ls) MAX_LINES)))

-- ---- a line that is too long

-- the bytes of the first line, none where there is no line
abbrev first_length : List (List ℕ) → ℕ
first_length [] = 0
first_length (l ∷ ls) = length l

first_longer : (b : ℕ) (ls : List (List ℕ)) → first_length (before_lines b ls) ≡ suc (first_length ls)
first_longer b [] = refl
first_longer b (l ∷ ls) = refl

first_reaches : (start more : List ℕ) → HasNoFeed start → length start ≤ first_length (lines_of (start ++ more))
first_reaches [] more free = omega arith
first_reaches (b ∷ start) more free =
    let rest = first_reaches start more (All-tail (λ (c : ℕ). c ≢ 10) b start free) in
    let one : lines_of ((b ∷ start) ++ more) ≡ before_lines b (lines_of (start ++ more)) = rw (ne_eqb b 10 (All-head (λ (c : ℕ). c ≢ 10) b start free)) refl in
    let is = ap first_length one ∙ first_longer b (lines_of (start ++ more)) in
    omega (arith, rest, is)

first_too_long : (ls : List (List ℕ)) → MAX_SIZE_REQUEST < first_length ls → list_all (λ (l : List ℕ). nat_le (length l) MAX_SIZE_REQUEST) ls ≡ false
first_too_long [] long = absurd (omega (arith, long))
first_too_long (l ∷ ls) long = rw (beyond (length l) MAX_SIZE_REQUEST long) refl

pub status_too_long : (ls : List (List ℕ)) (behind more : List ℕ) → IsTooLong MAX_SIZE_REQUEST behind → Cut ≡ lines_status (ls ++ lines_of (behind ++ more))
status_too_long ls behind more t =
    let reach = first_reaches t.start (t.rest ++ more) t.unbroken in
    let same : behind ++ more ≡ t.start ++ (t.rest ++ more) = ap (λ (b : List ℕ). b ++ more) t.parts ∙ append_assoc t.start t.rest more in
    let first = first_too_long (lines_of (t.start ++ (t.rest ++ more))) (omega (arith, reach, t.long)) in
    let p : List ℕ → Bool = (λ (l : List ℕ). nat_le (length l) MAX_SIZE_REQUEST) in
    status_long (ls ++ lines_of (behind ++ more))
    (list_all-append p ls (lines_of (behind ++ more)) ∙ (ap (λ (b : List ℕ). list_all p ls && list_all p (lines_of b)) same ∙ (ap (λ (b : Bool). list_all p ls && b) first ∙ and_false (list_all p ls))))

-- bytes that are there are of a line
some_line : (bytes : List ℕ) → 0 < length bytes → 0 < length (lines_of bytes)
some_line [] some = absurd (omega (arith, some))
some_line (b ∷ bytes) some = by (b == 10) (lines_of bytes)
  where
    by : (f : Bool) (ls : List (List ℕ)) → 0 < length (if f then [] ∷ ls else before_lines b ls)
    by true ls = omega arith
    by false [] = omega arith
    by false (l ∷ ls) = omega arith

pub status_too_many : (ls : List (List ℕ)) (behind more : List ℕ) → length ls ≡ MAX_LINES → 0 < length behind → Cut ≡ lines_status (ls ++ lines_of (behind ++ more))
status_too_many ls behind more all some =
    let longer = length-append behind more in
    let one = some_line (behind ++ more) (omega (arith, longer, some)) in
    let both = length-append ls (lines_of (behind ++ more)) in
    status_many (ls ++ lines_of (behind ++ more)) (omega (arith, all, one, both))
