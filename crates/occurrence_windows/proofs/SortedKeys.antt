-- Lists that were sorted by a key.
use Rattle.std.proofs.Common.{◌≡◌, Bor, suc, ◌+◌, ℤ, ◌≤ℤ◌, false, List, ◌∷◌, slice_index_or, subst, arith}
use Rattle.std.specs.Fn.{Called, ComputesKey, Mut}
use Rattle.std.specs.List.Sorted.{IsSortedByKey}
use Rattle.std.specs.Ordering.{int_cmp, is_lt}
use Rattle.std.proofs.lemmas.Fn.{always_returns_same}
use Rattle.std.proofs.lemmas.Int.{by_lt_z}
use Rattle.rule_expand.proofs.Places.{is_late}

not_less : (a b : ℤ) → is_lt (int_cmp a b) ≡ false → b ≤ℤ a
not_less a b h = by_lt_z a b (λ lt. let less = rw (is_late a b lt) at h in cc) (λ ge. ge)

module _ {X : Type 0} (key : X → ℤ) where
  -- from what a sort by it ensures
  pub put_in_order : {F : Type 0} {g : Mut F (Bor X × Unit {0}) ℤ} {f : F} (xs : List X)
      → ((k : X → ℤ) → ComputesKey g k f → IsSortedByKey k int_cmp xs)
      → ((a : Bor X × Unit {0}) (r : ℤ) (f' : F) → Called g f a r f' → (r ≡ key a.0.now) × (f' ≡ f)) → IsSortedByKey key int_cmp xs
  put_in_order {g = g} {f = f} xs sorted h = sorted key (always_returns_same g (λ a r. r ≡ key a.0.now) f h)

  -- the key of the first isn't above that of the second
  pub first_in_order : (x y : X) (xs : List X) → IsSortedByKey key int_cmp (x ∷ y ∷ xs) → key x ≤ℤ key y
  first_in_order x y xs order = not_less (key y) (key x) (order 0 x (omega arith) (omega arith))

  -- what stands behind the first is in order too
  pub rest_in_order : (x : X) (xs : List X) → IsSortedByKey key int_cmp (x ∷ xs) → IsSortedByKey key int_cmp xs
  rest_in_order x xs order k d low high =
      let next : suc k + 1 ≡ suc (k + 1) = omega arith in
      subst (λ n. is_lt (int_cmp (key (slice_index_or (x ∷ xs) n d)) (key (slice_index_or xs k d))) ≡ false) next (order (suc k) d (omega arith) (omega (arith, high)))
