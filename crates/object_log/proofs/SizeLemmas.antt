-- One more mention: how many ids a page lists after it.
use Rattle.std.proofs.Common.{◌≡◌, ◌≤◌, ◌<◌, ◌+◌, ◌==◌, ◌&&◌, ◌||◌, not, ℕ, List, [], ◌∷◌, ◌++◌, Bool, true, false, cond, length, get_or, arith, refl, sym, ap, ◌∙◌, eqb-true, count_by, fold}
use Rattle.std.proofs.lemmas.Bool.{cond-false}
use Rattle.std.proofs.lemmas.List.Folds.{list_any-append}
use Rattle.std.proofs.lemmas.List.Sums.{length-filter, sum_by-append, sum_by-cons}
use Rattle.std.proofs.Math.Bool.{or_assoc, or-false}
use Rattle.spec_history.specs.History.{with_id}
use Rattle.spec_history.specs.Pages.{Mention, is_live, is_touched, is_created, is_updated, is_destroyed, ids_of, is_in, size_of_page}
use Rattle.object_log.proofs.IdLemmas.{ids_folded}
use Rattle.object_log.proofs.MentionLemmas.{is_named, is_live_untouched, is_named_here}
use Rattle.object_log.proofs.StandingLemmas.{standing_more, standing_begun}
use Rattle.object_log.specs.Standing.{standing, is_listed, one_if}
use Rattle.spec_json.proofs.Booleans.{eqb_sym}

count_by-cons : (f : ℕ → Bool) (n : ℕ) (ns : List ℕ) → count_by f (n ∷ ns) ≡ one_if (f n) + count_by f ns
count_by-cons f n ns = sum_by-cons (λ m. one_if (f m)) n ns

count_by_never : (f : ℕ → Bool) → ((n : ℕ) → f n ≡ false) → (ns : List ℕ) → count_by f ns ≡ 0
count_by_never f h [] = refl
count_by_never f h (n ∷ ns) = count_by-cons f n ns ∙ rw (h n) (omega (arith, count_by_never f h ns))

pub one_if-le : (b : Bool) → one_if b ≤ 1
one_if-le true = omega arith
one_if-le false = omega arith

or_same : (x y : Bool) → (y ≡ true → x ≡ true) → x ≡ (x || y)
or_same true y h = refl
or_same false true h = h refl
or_same false false h = refl

-- ids of three tests that exclude each other are those of a fourth that is their join
count_by_three : (a b c l : ℕ → Bool) → ((n : ℕ) → one_if (a n) + (one_if (b n) + one_if (c n)) ≡ one_if (l n)) → (ns : List ℕ) → count_by a ns + (count_by b ns + count_by c ns) ≡ count_by l ns
count_by_three a b c l h [] = refl
count_by_three a b c l h (n ∷ ns) =
    let here = h n in
    let rest = count_by_three a b c l h ns in
    rw (count_by-cons a n ns, count_by-cons b n ns, count_by-cons c n ns, count_by-cons l n ns) (omega (arith, here, rest))

one_list : (was live touched : Bool) → (touched ≡ false → live ≡ was) → one_if (live && not was) + (one_if ((was && live) && touched) + one_if (was && not live)) ≡ one_if (touched && (was || live))
one_list true true true h = refl
one_list true true false h = refl
one_list true false true h = refl
one_list true false false h = let e = h refl in cc
one_list false true true h = refl
one_list false true false h = let e = h refl in cc
one_list false false true h = refl
one_list false false false h = refl

pub size_of_page-count : (ms : List Mention) (k j : ℕ) → k ≤ j → size_of_page ms k j ≡ count_by (λ id. is_listed (standing ms k j id)) (ids_of ms)
size_of_page-count ms k j le =
    rw (length-filter (λ id. is_created ms k j id) (ids_of ms), length-filter (λ id. is_updated ms k j id) (ids_of ms), length-filter (λ id. is_destroyed ms k j id) (ids_of ms))
    (count_by_three (λ id. is_created ms k j id) (λ id. is_updated ms k j id) (λ id. is_destroyed ms k j id) (λ id. is_listed (standing ms k j id))
    (λ id. one_list (is_live ms k id) (is_live ms j id) (is_touched ms k j id) (is_live_untouched ms k j id le)) (ids_of ms))

-- tests that differ on x alone count as many among numbers without x, and among those with x once they differ as they do on x
record Unlike (f g : ℕ → Bool) (x : ℕ) (ns : List ℕ) : Type 0 where
  none : count_by (λ n. n == x) ns ≡ 0 → count_by f ns ≡ count_by g ns
  once : count_by (λ n. n == x) ns ≡ 1 → count_by g ns + one_if (f x) ≡ count_by f ns + one_if (g x)

unlike_step : (f g : ℕ → Bool) (x n : ℕ) (ns : List ℕ) → ((n == x) ≡ false → f n ≡ g n) → Unlike f g x ns → (b : Bool) → (n == x) ≡ b → Unlike f g x (n ∷ ns)
unlike_step f g x n ns same rest true is =
    let at : n ≡ x = eqb-true n x is in
    let more = count_by-cons (λ m. m == x) n ns in
    let one = ap one_if is in
    record {
      none = λ e. absurd (omega (arith, e, more, one));
      once = λ e. let gone = rest.none (omega (arith, e, more, one)) in
          rw (count_by-cons f n ns, count_by-cons g n ns) (omega (arith, gone, ap (λ m. one_if (f m)) at, ap (λ m. one_if (g m)) at));
    }
unlike_step f g x n ns same rest false is =
    let more = count_by-cons (λ m. m == x) n ns in
    let zero = ap one_if is in
    let here = ap one_if (same is) in
    record {
      none = λ e. let equal = rest.none (omega (arith, e, more, zero)) in
          rw (count_by-cons f n ns, count_by-cons g n ns) (omega (arith, equal, here));
      once = λ e. let apart = rest.once (omega (arith, e, more, zero)) in
          rw (count_by-cons f n ns, count_by-cons g n ns) (omega (arith, apart, here));
    }

unlike : (f g : ℕ → Bool) (x : ℕ) → ((n : ℕ) → (n == x) ≡ false → f n ≡ g n) → (ns : List ℕ) → Unlike f g x ns
unlike f g x same [] = record { none = λ e. refl; once = λ e. absurd (omega (arith, e)) }
unlike f g x same (n ∷ ns) = unlike_step f g x n ns (same n) (unlike f g x same ns) (n == x) refl

-- an id occurs once where it occurs at all
abbrev Occurs : ℕ → List ℕ → Type 0
Occurs x ids = count_by (λ n. n == x) ids ≡ one_if (is_in ids x)

in_step : (ids : List ℕ) (y x : ℕ) (b : Bool) → is_in ids y ≡ b → is_in (cond b ids (ids ++ y ∷ [])) x ≡ (is_in ids x || (y == x))
in_step ids y x true has = or_same (is_in ids x) (y == x) (λ e. ap (λ z. is_in ids z) (sym (eqb-true y x e)) ∙ has)
in_step ids y x false has = list_any-append (λ n. n == x) ids (y ∷ []) ∙ ap (λ b. is_in ids x || b) (or-false (y == x))

pub is_in-with_id : (ids : List ℕ) (y x : ℕ) → is_in (with_id ids y) x ≡ (is_in ids x || (y == x))
is_in-with_id ids y x = in_step ids y x (is_in ids y) refl

occurs_step : (ids : List ℕ) (y x : ℕ) → Occurs x ids → (b : Bool) → is_in ids y ≡ b → (same : Bool) → (y == x) ≡ same → Occurs x (cond b ids (ids ++ y ∷ []))
occurs_step ids y x h true has same e = h
occurs_step ids y x h false has true e =
    let none : is_in ids x ≡ false = ap (λ z. is_in ids z) (sym (eqb-true y x e)) ∙ has in
    let count = sum_by-append (λ n. one_if (n == x)) ids (y ∷ []) in
    let now : is_in (ids ++ y ∷ []) x ≡ true = list_any-append (λ n. n == x) ids (y ∷ []) ∙ rw (none, e) refl in
    let was : count_by (λ n. n == x) ids ≡ 0 = h ∙ ap one_if none in
    rw now (omega (arith, count, was, ap one_if e))
occurs_step ids y x h false has false e =
    let count = sum_by-append (λ n. one_if (n == x)) ids (y ∷ []) in
    let now : is_in (ids ++ y ∷ []) x ≡ is_in ids x = list_any-append (λ n. n == x) ids (y ∷ []) ∙ rw e (or-false (is_in ids x)) in
    rw now (omega (arith, count, h, ap one_if e))

occurs_with : (ids : List ℕ) (y x : ℕ) → Occurs x ids → Occurs x (with_id ids y)
occurs_with ids y x h = occurs_step ids y x h (is_in ids y) refl (y == x) refl

occurs_from : (ms : List Mention) (ids : List ℕ) (x : ℕ) → Occurs x ids → Occurs x (fold (λ ids m. with_id ids m.id) ids ms)
occurs_from [] ids x h = h
occurs_from (m ∷ ms) ids x h = occurs_from ms (with_id ids m.id) x (occurs_with ids m.id x h)

is_in_from : (ms : List Mention) (ids : List ℕ) (x : ℕ) → is_in (fold (λ ids m. with_id ids m.id) ids ms) x ≡ (is_in ids x || is_named ms x)
is_in_from [] ids x = sym (or-false (is_in ids x))
is_in_from (m ∷ ms) ids x = is_in_from ms (with_id ids m.id) x ∙ ap (λ b. b || is_named ms x) (is_in-with_id ids m.id x) ∙ or_assoc (is_in ids x) (m.id == x) (is_named ms x)

-- the ids are those that are mentioned
pub is_in-ids_of : (ms : List Mention) (x : ℕ) → is_in (ids_of ms) x ≡ is_named ms x
is_in-ids_of ms x = ap (λ ids. is_in ids x) (ids_folded ms) ∙ is_in_from ms [] x

-- a page that grows by a mention may list its id anew, or no more
pub size_of_page_more : (ms : List Mention) (k j : ℕ) (d : Mention) → k ≤ j → j < length ms
    → size_of_page ms k (j + 1) + one_if (is_listed (standing ms k j (get_or ms j d).id)) ≡ size_of_page ms k j + one_if (is_listed (standing ms k (j + 1) (get_or ms j d).id))
size_of_page_more ms k j d le h =
    let x = (get_or ms j d).id in
    let once : count_by (λ n. n == x) (ids_of ms) ≡ 1 = ap (λ ids. count_by (λ n. n == x) ids) (ids_folded ms) ∙ occurs_from ms [] x refl ∙ ap one_if (is_in_from ms [] x ∙ is_named_here ms 0 j d (omega arith) h) in
    let same = λ (n : ℕ) (e : (n == x) ≡ false). ap is_listed (sym (standing_more ms k j d n le h ∙ cond-false _ _ _ (eqb_sym x n ∙ e))) in
    rw (size_of_page-count ms k j le, size_of_page-count ms k (j + 1) (omega arith)) ((unlike (λ id. is_listed (standing ms k j id)) (λ id. is_listed (standing ms k (j + 1) id)) x same (ids_of ms)).once once)

-- a page that ends where it begins lists no id
pub size_of_page_none : (ms : List Mention) (k : ℕ) → size_of_page ms k k ≡ 0
size_of_page_none ms k = size_of_page-count ms k k (omega arith) ∙ count_by_never (λ id. is_listed (standing ms k k id)) (λ id. ap is_listed (standing_begun ms k id)) (ids_of ms)
