-- What a page lists anew by one more mention, and what is left to list.
use Rattle.std.proofs.Common.{◌≡◌, ◌≤◌, ◌<◌, ◌+◌, ◌==◌, ◌++◌, [], ◌∷◌, ℕ, List, Bool, true, false, cond, Option, Some, length, drop, take, filter, get_or, arith, refl, sym, ap, ◌∙◌, eq-eqb}
use Rattle.std.proofs.lemmas.Bool.{cond-true, or_parts}
use Rattle.std.proofs.lemmas.List.{take_more, take-append-drop, drop-append-le, length-take-le}
use Rattle.std.proofs.lemmas.List.Elements.{filter-append}
use Rattle.std.proofs.lemmas.List.Folds.{list_any-append}
use Rattle.spec_history.specs.Pages.{Mention, ids_of, is_live, is_touched, size_of_page}
use Rattle.object_log.proofs.MentionLemmas.{is_live_untouched, is_named, is_named_here}
use Rattle.object_log.proofs.SizeLemmas.{size_of_page_more}
use Rattle.object_log.proofs.StandingLemmas.{standing_more}
use Rattle.object_log.specs.Standing.{after, growth_of, is_changed, is_gone, is_listed, is_new, is_named_after, listed_by, one_if, only_if, standing}
use Rattle.object_log.specs.declared.standing.Growth.{Growth}
use Rattle.object_log.specs.declared.standing.Standing.{Standing}

-- the size of a page grows as the mention says
pub size_grows : (ms : List Mention) (k j : ℕ) (m : Mention) (was : Option Standing) (growth : Growth) → k ≤ j → j < length ms → m ≡ get_or ms j m
    → was ≡ only_if (is_named_after ms k m.id) (standing ms k j m.id) → growth ≡ growth_of m was
    → size_of_page ms k (j + 1) + one_if growth.was_listed ≡ size_of_page ms k j + one_if growth.is_listed
size_grows ms k j m was growth le h at is grown =
    let x = get_or ms j m in
    let found : was ≡ Some (standing ms k j x.id) = is ∙ ap (λ n. only_if (is_named_after ms k n.id) (standing ms k j n.id)) at ∙ ap (λ b. only_if b (standing ms k j x.id)) (is_named_here ms k j m le h) in
    let growth_is = grown ∙ ap (λ n. growth_of n was) at ∙ ap (λ o. growth_of x o) found in
    let now : standing ms k (j + 1) x.id ≡ after x (standing ms k j x.id) = standing_more ms k j m x.id le h ∙ cond-true _ _ _ (eq-eqb x.id x.id refl) in
    omega (arith, size_of_page_more ms k j m le h, ap (λ (g : Growth). one_if g.was_listed) growth_is, ap (λ (g : Growth). one_if g.is_listed) growth_is, ap (λ s. one_if (is_listed s)) now)

-- an id that isn't mentioned after the state where a page begins isn't touched in it
unnamed_untouched : (ms : List Mention) (k j id : ℕ) → k ≤ j → j ≤ length ms → is_named_after ms k id ≡ false → is_touched ms k j id ≡ false
unnamed_untouched ms k j id le end h =
    let within : k ≤ length (take j ms) = rw (length-take-le j ms end) le in
    let whole = ap (λ l. is_named (drop k l) id) (take-append-drop j ms) in
    let split = ap (λ l. is_named l id) (drop-append-le k (take j ms) (drop j ms) within) ∙ list_any-append (λ m. m.id == id) (drop k (take j ms)) (drop j ms) in
    (or_parts (is_touched ms k j id) (is_named (drop j ms) id) (sym split ∙ whole ∙ h)).0

-- a test that no id passes which stands as it did
abbrev pub IsQuiet : (Standing → Bool) → Type 0
IsQuiet test = (live : Bool) → test (record { was_live = live; is_live = live; is_touched = false }) ≡ false

pub quiet_new : IsQuiet is_new
quiet_new true = refl
quiet_new false = refl

pub quiet_changed : IsQuiet is_changed
quiet_changed true = refl
quiet_changed false = refl

pub quiet_gone : IsQuiet is_gone
quiet_gone true = refl
quiet_gone false = refl

unnamed_fails : (test : Standing → Bool) → IsQuiet test → (ms : List Mention) (k j id : ℕ) → k ≤ j → j ≤ length ms → is_named_after ms k id ≡ false → test (standing ms k j id) ≡ false
unnamed_fails test quiet ms k j id le end h =
    let untouched = unnamed_untouched ms k j id le end h in
    rw (is_live_untouched ms k j id le untouched, untouched) (quiet (is_live ms k id))

-- an id that isn't touched fails
pub untouched_fails : (test : Standing → Bool) → IsQuiet test → (ms : List Mention) (k j id : ℕ) → k ≤ j → is_touched ms k j id ≡ false → test (standing ms k j id) ≡ false
untouched_fails test quiet ms k j id le untouched = rw (is_live_untouched ms k j id le untouched, untouched) (quiet (is_live ms k id))

list_step : (test : Standing → Bool) (s : Standing) (id : ℕ) (named : Bool) → (named ≡ false → test s ≡ false) → listed_by test id (only_if named s) ≡ cond (test s) (id ∷ []) []
list_step test s id true fails = refl
list_step test s id false fails = rw (fails refl) refl

-- a list gets one more id where it passes
pub listed_more : (test : Standing → Bool) → IsQuiet test → (ms : List Mention) (k j : ℕ) (ids : List ℕ) (i id : ℕ) (o : Option Standing) (was now : List ℕ) → k ≤ j → j ≤ length ms → i < length ids → id ≡ get_or ids i 0
    → o ≡ only_if (is_named_after ms k id) (standing ms k j id) → was ≡ filter (λ n. test (standing ms k j n)) (take i ids) → now ≡ was ++ listed_by test id o
    → now ≡ filter (λ n. test (standing ms k j n)) (take (i + 1) ids)
listed_more test quiet ms k j ids i id o was now le end h at found is more =
    let p = λ (n : ℕ). test (standing ms k j n) in
    let one = ap (λ l. filter p l) (take_more ids i 0 h ∙ ap (λ n. take i ids ++ n ∷ []) (sym at)) ∙ filter-append p (take i ids) (id ∷ []) in
    let listed = ap (λ x. listed_by test id x) found ∙ list_step test (standing ms k j id) id (is_named_after ms k id) (unnamed_fails test quiet ms k j id le end) in
    more ∙ ap (λ l. l ++ listed_by test id o) is ∙ ap (λ l. filter p (take i ids) ++ l) listed ∙ sym one

within_step : (p : ℕ → Bool) (n : ℕ) (ns ls : List ℕ) (b : Bool) → (b ≡ false → p n ≡ false) → filter p ls ≡ filter p ns → filter p (cond b (n ∷ ls) ls) ≡ filter p (n ∷ ns)
within_step p n ns ls true h rest = ap (λ l. cond (p n) (n ∷ l) l) rest
within_step p n ns ls false h rest = rest ∙ sym (ap (λ b. cond b (n ∷ filter p ns) (filter p ns)) (h refl))

filter_within : (p q : ℕ → Bool) → ((n : ℕ) → q n ≡ false → p n ≡ false) → (ns : List ℕ) → filter p (filter q ns) ≡ filter p ns
filter_within p q h [] = refl
filter_within p q h (n ∷ ns) = within_step p n ns (filter q ns) (q n) (h n) (filter_within p q h ns)

-- of the touched ids as many pass as of all
pub listed_all : (test : Standing → Bool) → IsQuiet test → (ms : List Mention) (k j : ℕ) (touched : List ℕ) → k ≤ j → touched ≡ filter (λ id. is_touched ms k j id) (ids_of ms)
    → filter (λ n. test (standing ms k j n)) touched ≡ filter (λ n. test (standing ms k j n)) (ids_of ms)
listed_all test quiet ms k j touched le is =
    ap (λ l. filter (λ n. test (standing ms k j n)) l) is ∙ filter_within (λ n. test (standing ms k j n)) (λ id. is_touched ms k j id) (λ n e. untouched_fails test quiet ms k j n le e) (ids_of ms)
