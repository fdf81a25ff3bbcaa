-- A state behind one that is answered from is answered from, too.
use Rattle.std.proofs.Common.{◌≡◌, ◌≤◌, ◌+◌, ◌-◌, ℕ, zero, suc, List, [], ◌∷◌, Bool, true, false, drop, length, arith, refl, sym, ap, subst, ◌∙◌, le-leb}
use Rattle.std.specs.Prelude.{nat_le}
use Rattle.std.proofs.lemmas.Bool.{and_from, and_parts, false≢true, leb-true}
use Rattle.std.proofs.lemmas.List.{drop-drop}
use Rattle.std.proofs.lemmas.List.Sums.{sum_by-cons}
use Rattle.spec_history.specs.Pages.{is_retained, window}
use Rattle.spec_sizes.specs.Sizes.{window_bytes}
use Rattle.object_log.specs.Puts.{bytes_put, is_known}
use Rattle.object_log.specs.declared.put.Put.{Put}

module _ {T : Type 0} where
  bytes_put-drop : (d : ℕ) (ps : List (Put T)) → bytes_put (drop d ps) ≤ bytes_put ps
  bytes_put-drop zero ps = omega arith
  bytes_put-drop (suc d) [] = omega arith
  bytes_put-drop (suc d) (p ∷ ps) = omega (arith, sum_by-cons (λ (q : Put T). q.size) p ps, bytes_put-drop d ps)

  -- known at k, and at each later state that was reached
  known_later : (ps : List (Put T)) (k d : ℕ) → k + d ≤ length ps → is_known ps k ≡ true → is_known ps (k + d) ≡ true
  known_later ps k d reached h =
      let n = length ps in
      let parts = and_parts (is_retained n k) (nat_le (bytes_put (drop k ps)) window_bytes) h in
      let near = and_parts (nat_le k n) (nat_le (n - k) window) parts.0 in
      let few = leb-true (n - k) window near.1 in
      let small = leb-true (bytes_put (drop k ps)) window_bytes parts.1 in
      let less : bytes_put (drop (k + d) ps) ≤ bytes_put (drop k ps) =
      subst (λ (l : List (Put T)). bytes_put l ≤ bytes_put (drop k ps)) (drop-drop d k ps) (bytes_put-drop d (drop k ps)) in
      and_from (is_retained n (k + d)) (nat_le (bytes_put (drop (k + d) ps)) window_bytes)
      (and_from (nat_le (k + d) n) (nat_le (n - (k + d)) window) (le-leb (k + d) n reached) (le-leb (n - (k + d)) window (omega (arith, few))))
      (le-leb (bytes_put (drop (k + d) ps)) window_bytes (omega (arith, less, small)))

  -- so what isn't known at a state isn't before it
  pub unknown_before : (ps : List (Put T)) (f k : ℕ) → f ≤ length ps → is_known ps f ≡ false → k ≤ f → is_known ps k ≡ false
  unknown_before ps f k reached unknown low = by_test (is_known ps k) refl
    where
      by_test : (b : Bool) → is_known ps k ≡ b → b ≡ false
      by_test false is = refl
      by_test true is =
          let whole : k + (f - k) ≡ f = omega (arith, low) in
          absurd (false≢true (sym unknown ∙ ap (is_known ps) (sym whole) ∙ known_later ps k (f - k) (omega (arith, low, reached)) is))
