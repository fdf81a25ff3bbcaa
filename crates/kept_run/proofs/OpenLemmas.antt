-- Accounts that go on from lists.
use Rattle.std.proofs.Common.{◌≡◌, ◌+◌, ◌<◌, ◌≤◌, ℕ, List, [], ◌∷◌, Bool, true, false, not, cond, Option, Some, None, drop, length, option_map, ◌++◌, refl, sym, ap, ◌∙◌, arith, ◌==◌, if◌then◌else◌, length-append}
use Rattle.std.specs.List.{position_from}
use Rattle.std.proofs.lemmas.Iterator.Adapters.{position_from-zero}
use Rattle.std.proofs.lemmas.List.{length-map}
use Rattle.std.proofs.lemmas.Option.{same_Some}
use Rattle.std.proofs.lemmas.List.Sums.{sum_by-cons}
use Rattle.kept_run.specs.Opened.{foreign_place}
use Rattle.spec_history.specs.History.{changes_of, count_of_kind, is_kind}
use Rattle.spec_history.specs.Signed.{written_by}
use Rattle.spec_history.specs.declared.entry.Change.{Change}
use Rattle.spec_history.specs.declared.entry.Entry.{Entry}
use Rattle.spec_history.specs.declared.entry.Kind.{Kind}
use Rattle.spec_history.specs.declared.entry.Kind.TheVariants.{Calendar, Event}
use Rattle.spec_snapshots.specs.Kept.{IsKeptFrom}
use Rattle.spec_snapshots.specs.declared.kept.KeptHistory.{KeptHistory}

abbrev is_foreign : Entry → Bool
is_foreign e = not (e.author == 0)

own_first : (e : Entry) (es : List Entry) (i : ℕ) (b : Bool) → (e.author == 0) ≡ b → (position_from is_foreign (i + 1) es ≡ None → written_by 0 es ≡ es) → position_from is_foreign i (e ∷ es) ≡ None → written_by 0 (e ∷ es) ≡ e ∷ es
own_first e es i true is rest none = rw is (ap (λ (l : List Entry). e ∷ l) (rest (rw is at none)))
own_first e es i false is rest none = let bad : Some i ≡ None = rw is at none in cc

own_from : (i : ℕ) (es : List Entry) → position_from is_foreign i es ≡ None → written_by 0 es ≡ es
own_from i [] none = refl
own_from i (e ∷ es) none = own_first e es i (e.author == 0) refl (own_from (i + 1) es) none

-- where none is of another author the entries are the desk's own
pub own_entries : (es : List Entry) → foreign_place es ≡ None → written_by 0 es ≡ es
own_entries es none = own_from 0 es (sym (position_from-zero is_foreign es) ∙ none)

-- and the other way round

no_more : (e : Entry) (own es : List Entry) (b : Bool) → length own ≤ length es → length (cond b (e ∷ own) own) ≤ length (e ∷ es)
no_more e own es true few = omega (arith, few)
no_more e own es false few = omega (arith, few)

fewer_own : (es : List Entry) → length (written_by 0 es) ≤ length es
fewer_own [] = omega arith
fewer_own (e ∷ es) = no_more e (written_by 0 es) es (e.author == 0) (fewer_own es)

pub rest_own : (e : Entry) (es : List Entry) (b : Bool) → cond b (e ∷ written_by 0 es) (written_by 0 es) ≡ e ∷ es → (b ≡ true) × (written_by 0 es ≡ es)
rest_own e es true own = (refl, ap (drop 1) own)
rest_own e es false own = absurd (let few = fewer_own es in let same = ap length own in omega (arith, few, same))

none_from : (i : ℕ) (es : List Entry) → written_by 0 es ≡ es → position_from is_foreign i es ≡ None
none_from i [] own = refl
none_from i (e ∷ es) own = let r = rest_own e es (e.author == 0) own in rw r.0 (none_from (i + 1) es r.1)

pub none_foreign : (es : List Entry) → written_by 0 es ≡ es → foreign_place es ≡ None
none_foreign es own = position_from-zero is_foreign es ∙ none_from 0 es own

-- ---- entries behind the desk's own

later_by : (i : ℕ) (es : List Entry) (b : Bool) → position_from is_foreign (i + 1) es ≡ option_map (λ n. (i + 1) + n) (position_from is_foreign 0 es)
    → position_from is_foreign 1 es ≡ option_map (λ n. 1 + n) (position_from is_foreign 0 es)
    → cond (not b) (Some i) (position_from is_foreign (i + 1) es) ≡ option_map (λ n. i + n) (cond (not b) (Some 0) (position_from is_foreign 1 es))
later_by i es false next first = ap Some (omega arith)
later_by i es true next first = next ∙ sym (ap (option_map (λ n. i + n)) first ∙ add (position_from is_foreign 0 es))
  where
    add : (o : Option ℕ) → option_map (λ n. i + n) (option_map (λ n. 1 + n) o) ≡ option_map (λ n. (i + 1) + n) o
    add None = refl
    add (Some n) = ap Some (omega arith)

later_from : (i : ℕ) (es : List Entry) → position_from is_foreign i es ≡ option_map (λ n. i + n) (position_from is_foreign 0 es)
later_from i [] = refl
later_from i (e ∷ es) = later_by i es (e.author == 0) (later_from (i + 1) es) (later_from 1 es)

behind_from : (i : ℕ) (past es : List Entry) → written_by 0 past ≡ past → position_from is_foreign i (past ++ es) ≡ position_from is_foreign (i + length past) es
behind_from i [] es own = ap (λ n. position_from is_foreign n es) (omega arith)
behind_from i (e ∷ past) es own = let r = rest_own e past (e.author == 0) own in rw r.0 (behind_from (i + 1) past es r.1 ∙ ap (λ n. position_from is_foreign n es) (omega arith))

-- the first of another author stands among what lies behind
pub foreign_behind : (past es : List Entry) → written_by 0 past ≡ past → foreign_place (past ++ es) ≡ option_map (λ n. length past + n) (foreign_place es)
foreign_behind past es own =
    position_from-zero is_foreign (past ++ es) ∙ behind_from 0 past es own ∙ ap (λ n. position_from is_foreign n es) (omega arith) ∙ later_from (length past) es
    ∙ ap (option_map (λ n. length past + n)) (sym (position_from-zero is_foreign es))

below_by : (i n : ℕ) (e : Entry) (es : List Entry) (b : Bool) → (position_from is_foreign (i + 1) es ≡ Some n → n < (i + 1) + length es)
    → cond (not b) (Some i) (position_from is_foreign (i + 1) es) ≡ Some n → n < i + length (e ∷ es)
below_by i n e es false rest is = let same : i ≡ n = same_Some i n is in omega (arith, same)
below_by i n e es true rest is = let below = rest is in omega (arith, below)

place_from : (i n : ℕ) (es : List Entry) → position_from is_foreign i es ≡ Some n → n < i + length es
place_from i n [] is = absurd (cc is)
place_from i n (e ∷ es) is = below_by i n e es (e.author == 0) (place_from (i + 1) n es) is

-- the first of another author is one of them
place_below : (n : ℕ) (es : List Entry) → foreign_place es ≡ Some n → n < length es
place_below n es is = let below = place_from 0 n es (sym (position_from-zero is_foreign es) ∙ is) in omega (arith, below)

-- ---- what is kept of a history

one_of_each : (c : Change) → (if is_kind Calendar c.kind then 1 else 0) + (if is_kind Event c.kind then 1 else 0) ≡ 1
one_of_each c = by_kind c.kind
  where
    by_kind : (kind : Kind) → (if is_kind Calendar kind then 1 else 0) + (if is_kind Event kind then 1 else 0) ≡ 1
    by_kind Calendar = refl
    by_kind Event = refl

both_kinds : (cs : List Change) → count_of_kind cs Calendar + count_of_kind cs Event ≡ length cs
both_kinds [] = refl
both_kinds (c ∷ cs) = omega (arith, sum_by-cons (λ (d : Change). if is_kind Calendar d.kind then 1 else 0) c cs, sum_by-cons (λ (d : Change). if is_kind Event d.kind then 1 else 0) c cs, one_of_each c, both_kinds cs)

module _ (h : List Entry) (k : KeptHistory) (kept : IsKeptFrom h k) where
  front_length : length kept.past ≡ k.calendars.state + k.events.state
  front_length =
      let same = length-map kept.past (λ (e : Entry). e.change) in
      omega (arith, both_kinds (changes_of kept.past), same, (kept.floors Calendar).state, (kept.floors Event).state)

  whole_length : length h ≡ (k.calendars.state + k.events.state) + length k.behind.items
  whole_length = omega (arith, ap (λ (l : List Entry). length l) kept.whole, length-append kept.past k.behind.items, front_length)

  in_all : foreign_place h ≡ option_map (λ n. length kept.past + n) (foreign_place k.behind.items)
  in_all = ap foreign_place kept.whole ∙ foreign_behind kept.past k.behind.items kept.own

  -- the first of another author stands behind all that isn't kept
  pub place_in_all : (n front place : ℕ) → Some n ≡ foreign_place k.behind.items → front ≡ k.calendars.state + k.events.state → place ≡ front + n → foreign_place h ≡ Some place
  place_in_all n front place at front_is place_is =
      in_all ∙ ap (option_map (λ n. length kept.past + n)) (sym at) ∙ ap Some (omega (arith, front_length, front_is, place_is))

  pub none_in_all : None ≡ foreign_place k.behind.items → foreign_place h ≡ None
  none_in_all none = in_all ∙ ap (option_map (λ n. length kept.past + n)) (sym none)

  -- and where the place has no number, there are more than have
  pub too_far : (n most : ℕ) → Some n ≡ foreign_place k.behind.items → most ≤ (k.calendars.state + k.events.state) + n → length h < most → foreign_place h ≡ None
  too_far n most at far few = absurd (let below = place_below n k.behind.items (sym at) in omega (arith, whole_length, below, far, few))

  pub too_long : (most : ℕ) → most ≤ k.calendars.state + k.events.state → length h < most → foreign_place h ≡ None
  too_long most far few = absurd (omega (arith, whole_length, far, few))
