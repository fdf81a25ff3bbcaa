-- What fits into a window.
use Rattle.std.proofs.Common.{◌≡◌, ◌≤◌, ◌<◌, ◌+◌, ◌-◌, ℕ, zero, suc, List, [], ◌∷◌, true, false, drop, length, arith, sym, ap, ◌∙◌, ⊎_elim, le-leb}
use Rattle.std.specs.Prelude.{nat_le}
use Rattle.std.proofs.lemmas.Bool.{and_from, and_parts, cases_lt, leb-true, lt-leb}
use Rattle.std.proofs.lemmas.List.{drop-drop, length-drop}
use Rattle.std.proofs.lemmas.List.Sums.{sum_by-cons}
use Rattle.spec_history.specs.Pages.{window}
use Rattle.object_log.specs.Pasts.{bytes_of, fits}
use Rattle.spec_sizes.specs.Sizes.{window_bytes}
use Rattle.object_log.specs.declared.window.Past.{Past}

module _ {T : Type 0} where
  pub bytes_of-cons : (w : Past T) (ws : List (Past T)) → bytes_of (w ∷ ws) ≡ w.size + bytes_of ws
  bytes_of-cons w ws = sum_by-cons (λ (x : Past T). x.size) w ws

  pub bytes_of-drop : (d : ℕ) (ws : List (Past T)) → bytes_of (drop d ws) ≤ bytes_of ws
  bytes_of-drop zero ws = omega arith
  bytes_of-drop (suc d) [] = omega arith
  bytes_of-drop (suc d) (w ∷ ws) = omega (arith, bytes_of-cons w ws, bytes_of-drop d ws)

  pub fits_within : (ws : List (Past T)) → length ws ≤ window → bytes_of ws ≤ window_bytes → fits ws ≡ true
  fits_within ws few small = and_from (nat_le (length ws) window) (nat_le (bytes_of ws) window_bytes) (le-leb (length ws) window few) (le-leb (bytes_of ws) window_bytes small)

  -- where they fit, the newest of them do
  pub fits_drop : (d : ℕ) (ws : List (Past T)) → fits ws ≡ true → fits (drop d ws) ≡ true
  fits_drop d ws h =
      let parts = and_parts (nat_le (length ws) window) (nat_le (bytes_of ws) window_bytes) h in
      let few = leb-true (length ws) window parts.0 in
      let small = leb-true (bytes_of ws) window_bytes parts.1 in
      fits_within (drop d ws) (omega (arith, few, length-drop d ws)) (omega (arith, small, bytes_of-drop d ws))

  -- the first place from which on they fit
  pub least_fits : (ws : List (Past T)) (gone d : ℕ) → ((e : ℕ) → e < gone → fits (drop e ws) ≡ false) → fits (drop gone ws) ≡ true → nat_le gone d ≡ fits (drop d ws)
  least_fits ws gone d before here = ⊎_elim
      (λ (below : d < gone). lt-leb gone d below ∙ sym (before d below))
      (λ (past : gone ≤ d). le-leb gone d past ∙ sym (ap (λ (l : List (Past T)). fits l) (split past) ∙ fits_drop (d - gone) (drop gone ws) here))
      (cases_lt d gone)
    where
      split : gone ≤ d → drop d ws ≡ drop (d - gone) (drop gone ws)
      split past = let whole : gone + (d - gone) ≡ d = omega (arith, past) in ap (λ n. drop n ws) (sym whole) ∙ sym (drop-drop (d - gone) gone ws)
