-- One more mention: what is live and touched after it.
use Rattle.std.proofs.Common.{◌≡◌, ◌≤◌, ◌<◌, ◌+◌, ◌==◌, ℕ, zero, suc, List, [], ◌∷◌, ◌++◌, ◌||◌, Bool, true, false, cond, Option, Some, None, filter, length, take, drop, get_or, arith, refl, sym, ap, ◌∙◌, eq-eqb, take-take}
use Rattle.std.proofs.lemmas.Bool.{or_parts, or_right}
use Rattle.std.proofs.lemmas.List.{take_more, take-append-drop, drop-append-le, length-take-le}
use Rattle.std.proofs.lemmas.List.Folds.{list_any-append}
use Rattle.std.specs.List.{list_any}
use Rattle.std.proofs.Math.Bool.{or-false}
use Rattle.std.specs.Option.{option_map_or}
use Rattle.spec_history.specs.Pages.{Mention, is_live, is_touched, last}
use Rattle.object_log.specs.Standing.{is_named_after}

-- an id is mentioned
abbrev pub is_named : List Mention → ℕ → Bool
is_named ms id = list_any (λ m. m.id == id) ms

-- whether the last mention of an id puts an object, or else what was before them
abbrev pub live_from : Bool → List Mention → ℕ → Bool
live_from before ms id = option_map_or (λ m. m.puts) (last (filter (λ m. m.id == id) ms)) before

-- which each mention, one after the other, decides anew
pub live_from-cons : (m : Mention) (ms : List Mention) (before : Bool) (id : ℕ) → live_from before (m ∷ ms) id ≡ live_from (cond (m.id == id) m.puts before) ms id
live_from-cons m ms before id = by_cases (m.id == id) (last (filter (λ n. n.id == id) ms)) refl
  where
    by_cases : (same : Bool) (o : Option Mention) → last (filter (λ n. n.id == id) ms) ≡ o
        → option_map_or (λ n. n.puts) (last (cond same (m ∷ filter (λ n. n.id == id) ms) (filter (λ n. n.id == id) ms))) before ≡ live_from (cond same m.puts before) ms id
    by_cases false o e = refl
    by_cases true None e = rw e refl
    by_cases true (Some n) e = rw e refl

pub live_from-append : (ms ns : List Mention) (before : Bool) (id : ℕ) → live_from before (ms ++ ns) id ≡ live_from (live_from before ms id) ns id
live_from-append [] ns before id = refl
live_from-append (m ∷ ms) ns before id =
    live_from-cons m (ms ++ ns) before id ∙ live_from-append ms ns (cond (m.id == id) m.puts before) id ∙ ap (λ b. live_from b ns id) (sym (live_from-cons m ms before id))

-- an id that isn't mentioned is as before
pub live_from_unnamed : (ms : List Mention) (before : Bool) (id : ℕ) → is_named ms id ≡ false → live_from before ms id ≡ before
live_from_unnamed [] before id h = refl
live_from_unnamed (m ∷ ms) before id h =
    let parts = or_parts (m.id == id) (is_named ms id) h in
    live_from-cons m ms before id ∙ rw parts.0 (live_from_unnamed ms before id parts.1)

pub is_live_more : (ms : List Mention) (i : ℕ) (d : Mention) (id : ℕ) → i < length ms → is_live ms (i + 1) id ≡ cond ((get_or ms i d).id == id) (get_or ms i d).puts (is_live ms i id)
is_live_more ms i d id h = rw (take_more ms i d h) (live_from-append (take i ms) (get_or ms i d ∷ []) false id ∙ live_from-cons (get_or ms i d) [] (is_live ms i id) id)

pub is_touched_more : (ms : List Mention) (k j : ℕ) (d : Mention) (id : ℕ) → k ≤ j → j < length ms → is_touched ms k (j + 1) id ≡ (is_touched ms k j id || ((get_or ms j d).id == id))
is_touched_more ms k j d id le h =
    let within : k ≤ length (take j ms) = rw (length-take-le j ms (omega arith)) le in
    rw (take_more ms j d h, drop-append-le k (take j ms) (get_or ms j d ∷ []) within) (list_any-append (λ m. m.id == id) (drop k (take j ms)) (get_or ms j d ∷ []) ∙ ap (λ b. is_touched ms k j id || b) (or-false _))

pub drop-take_none : (k : ℕ) (ms : List Mention) → drop k (take k ms) ≡ []
drop-take_none zero ms = refl
drop-take_none (suc k) [] = refl
drop-take_none (suc k) (m ∷ ms) = drop-take_none k ms

pub is_touched_none : (ms : List Mention) (k id : ℕ) → is_touched ms k k id ≡ false
is_touched_none ms k id = rw (drop-take_none k ms) refl

-- an id that isn't touched is as live as it was
pub is_live_untouched : (ms : List Mention) (k j id : ℕ) → k ≤ j → is_touched ms k j id ≡ false → is_live ms j id ≡ is_live ms k id
is_live_untouched ms k j id le h =
    let whole = take-append-drop k (take j ms) in
    ap (λ l. live_from false l id) (sym whole) ∙ live_from-append (take k (take j ms)) (drop k (take j ms)) false id ∙ live_from_unnamed (drop k (take j ms)) _ id h ∙ ap (λ l. live_from false l id) (take-take k j ms le)

-- the mention at a place names its id
pub is_named_here : (ms : List Mention) (k j : ℕ) (d : Mention) → k ≤ j → j < length ms → is_named_after ms k (get_or ms j d).id ≡ true
is_named_here [] k j d le h = absurd (omega (arith, h))
is_named_here (m ∷ ms) zero zero d le h = rw (eq-eqb m.id m.id refl) refl
is_named_here (m ∷ ms) zero (suc j) d le h = or_right (m.id == (get_or ms j d).id) _ (is_named_here ms zero j d (omega arith) (omega (arith, h)))
is_named_here (m ∷ ms) (suc k) zero d le h = absurd (omega (arith, le))
is_named_here (m ∷ ms) (suc k) (suc j) d le h = is_named_here ms k j d (omega (arith, le)) (omega (arith, h))

-- an id that is mentioned nowhere is never live
pub is_live_unnamed : (ms : List Mention) (j id : ℕ) → is_named ms id ≡ false → is_live ms j id ≡ false
is_live_unnamed ms j id h =
    let split = sym (list_any-append (λ m. m.id == id) (take j ms) (drop j ms)) ∙ ap (λ l. is_named l id) (take-append-drop j ms) ∙ h in
    live_from_unnamed (take j ms) false id (or_parts (is_named (take j ms) id) (is_named (drop j ms) id) split).0
