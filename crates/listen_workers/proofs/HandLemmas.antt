-- What hands hold after one more item was dealt to each.
use Rattle.std.proofs.Common.{◌≡◌, ℕ, ◌<◌, ◌++◌, List, [], ◌∷◌, Some, length, map, slice_get, zero, suc, refl, sym, ap, ◌∙◌, arith}
use Rattle.std.proofs.lemmas.List.{map-append}
use Rattle.std.proofs.lemmas.Option.{slice_get_within}

pub some_at : {X : Type 0} (xs : List X) (k : ℕ) → k < length xs → (x : X) × (slice_get xs k ≡ Some x)
some_at [] k few = absurd (omega (arith, few))
some_at (x ∷ xs) zero few = (x, refl)
some_at (x ∷ xs) (suc k) few = some_at xs k (omega (arith, few))

-- each hand held what it is to hold, and now holds what it is to hold with an item more
pub hands_more : {H P S : Type 0} (state : P → S) (items : H → List P) (old new : List H) (dealt : List P) (held holds : ℕ → List S) (item : ℕ → S) → length new ≡ length old → length dealt ≡ length old
    → ((n : ℕ) (before after : H) (p : P) → slice_get old n ≡ Some before → slice_get dealt n ≡ Some p → slice_get new n ≡ Some after → items after ≡ items before ++ p ∷ [])
    → ((n : ℕ) (p : P) → slice_get dealt n ≡ Some p → state p ≡ item n) → ((n : ℕ) → holds n ≡ held n ++ item n ∷ []) → ((n : ℕ) (h : H) → slice_get old n ≡ Some h → map state (items h) ≡ held n)
    → (n : ℕ) (h : H) → slice_get new n ≡ Some h → map state (items h) ≡ holds n
hands_more {H} {P} {S} state items old new dealt held holds item count many each is more before n h at =
    let there : n < length new = slice_get_within new n h at in
    let old_one = some_at old n (omega (arith, there, count)) in
    let its = some_at dealt n (omega (arith, there, count, many)) in
    ap (map state) (each n old_one.0 h its.0 old_one.1 its.1 at)
    ∙ (map-append state (items old_one.0) (its.0 ∷ [])
    ∙ (ap (λ (xs : List S). xs ++ state its.0 ∷ []) (before n old_one.0 old_one.1) ∙ (ap (λ (p : S). held n ++ p ∷ []) (is n its.0 its.1) ∙ sym (more n))))
