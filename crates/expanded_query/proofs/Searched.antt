-- Occurrences in the order of their recurrence ids are those that a search over all recurrence ids finds.
use Rattle.std.proofs.Common.{◌≡◌, ◌∙◌, ℕ, zero, suc, ℤ, pos, ◌+ℤ◌, ◌≤ℤ◌, ◌<ℤ◌, ◌⊎◌, inl, inr, Bool, true, false, List, [], ◌∷◌, ◌++◌, Some, flat_map, refl, sym, ap, subst, arith}
use Rattle.std.specs.Prelude.{⊤, filter}
use Rattle.std.specs.List.{AllByRecursion}
use Rattle.std.specs.Option.{option_map_or}
use Rattle.std.proofs.lemmas.Int.{by_lt_z}
use Rattle.jiff_core.proofs.SignedLemmas.{signed_arith}
use Rattle.spec_json.specs.Parts.{some_of}
use Rattle.spec_series.proofs.Occurrences.{with_rid}
use Rattle.spec_series.specs.Numbers.{numbers_from}
use Rattle.spec_series.specs.Occurrences.{occurrence_with, passes_with}
use Rattle.spec_series.specs.declared.occurrence.Occurrence.{Occurrence}
use Rattle.spec_series.specs.declared.series.Series.{Series}
use Rattle.occurrence_windows.proofs.Listing.{by_bool}
use Rattle.occurrence_windows.proofs.Overlapping.{some_holds}

-- each has a recurrence id that is no less than this one, and greater than that of the one before it
unfoldable pub rises : ℤ → List Occurrence → Type 0
rises low [] = ⊤
rises low (o ∷ os) = (low ≤ℤ o.rid) × rises (o.rid +ℤ pos 1) os

unfoldable pub is_one : Occurrence → List Occurrence → Type 0
is_one o [] = ⊥
is_one o (p ∷ ps) = (p ≡ o) ⊎ is_one o ps

above : (low : ℤ) (os : List Occurrence) (o : Occurrence) → rises low os → is_one o os → low ≤ℤ o.rid
unfolding rises is_one
above low [] o r h = absurd h
above low (p ∷ ps) o r h = elim h [
  | inl e ↦ let same : p.rid ≡ o.rid = ap (λ q. q.rid) e in omega (arith, signed_arith, same, r.0)
  | inr m ↦ let later = above (p.rid +ℤ pos 1) ps o r.1 m in omega (arith, signed_arith, later, r.0)
]

module _ (s : Series) (test : Occurrence → Bool) where
  -- an occurrence that passes
  abbrev pub IsFound : Occurrence → Type 0
  IsFound o = (occurrence_with s o.rid ≡ Some o) × (test o ≡ true)

  abbrev pub found_at : ℤ → List Occurrence
  found_at rid = some_of (occurrence_with s rid)

  passes_at : (o : Occurrence) → IsFound o → passes_with test s o.rid ≡ true
  passes_at o h = ap (λ x. option_map_or test x false) h.0 ∙ h.1

  -- the list goes on behind one that doesn't pass
  rises_past : (from : ℤ) (os : List Occurrence) → rises from os → AllByRecursion IsFound os → passes_with test s from ≡ false → rises (from +ℤ pos 1) os
  unfolding rises
  rises_past from [] r all e = r
  rises_past from (p ∷ ps) r all e =
      let unlike : (p.rid ≡ from) → ⊥ = λ same. let yes = passes_at p all.0 in let no = rw same at yes in cc in
      (by_lt_z from p.rid (λ lt. omega (arith, signed_arith, lt)) (λ ge. absurd (unlike (omega (arith, signed_arith, ge, r.0)))), r.1)

  -- where one passes, the list begins with it
  begun : (from end : ℤ) (o : Occurrence) (rest os : List Occurrence) → occurrence_with s from ≡ Some o → test o ≡ true → from <ℤ end → rises from os → AllByRecursion IsFound os
      → ((q : Occurrence) → is_one q os → q.rid <ℤ end) → ((q : Occurrence) → IsFound q → from ≤ℤ q.rid → q.rid <ℤ end → is_one q os)
      → ((ps : List Occurrence) → rises (from +ℤ pos 1) ps → AllByRecursion IsFound ps → ((q : Occurrence) → is_one q ps → q.rid <ℤ end)
      → ((q : Occurrence) → IsFound q → (from +ℤ pos 1) ≤ℤ q.rid → q.rid <ℤ end → is_one q ps) → ps ≡ rest)
      → os ≡ found_at from ++ rest
  unfolding rises is_one
  begun from end o rest [] at passes room r all below whole next =
      let own : o.rid ≡ from = (with_rid s from o at).1 in
      absurd (whole o (ap (occurrence_with s) own ∙ at, passes) (omega (arith, signed_arith, own)) (omega (arith, signed_arith, own, room)))
  begun from end o rest (p ∷ ps) at passes room r all below whole next =
      let own : o.rid ≡ from = (with_rid s from o at).1 in
      elim (whole o (ap (occurrence_with s) own ∙ at, passes) (omega (arith, signed_arith, own)) (omega (arith, signed_arith, own, room))) [
        | inl same ↦
            let first : p.rid ≡ from = ap (λ q. q.rid) same ∙ own in
            let tail : ps ≡ rest = next ps (subst (λ x. rises (x +ℤ pos 1) ps) first r.1) all.1 (λ q m. below q (inr m))
            (λ q f low high. elim (whole q f (omega (arith, signed_arith, low)) high) [
              | inl e ↦ let equal : p.rid ≡ q.rid = ap (λ x. x.rid) e in absurd (omega (arith, signed_arith, equal, first, low))
              | inr m ↦ m
            ]) in
            (λ i. same i ∷ tail i) ∙ ap (λ x. some_of x ++ rest) (sym at)
        | inr m ↦ let later = above (p.rid +ℤ pos 1) ps o r.1 m in absurd (omega (arith, signed_arith, later, own, r.0))
      ]

  head_is : (p : Occurrence) (ps : List Occurrence) → is_one p (p ∷ ps)
  unfolding is_one
  head_is p ps = inl refl

  pub listed : (n : ℕ) (from end : ℤ) (os : List Occurrence) → end ≡ from +ℤ pos n → rises from os → AllByRecursion IsFound os → ((q : Occurrence) → is_one q os → q.rid <ℤ end)
      → ((q : Occurrence) → IsFound q → from ≤ℤ q.rid → q.rid <ℤ end → is_one q os) → os ≡ flat_map found_at (filter (passes_with test s) (numbers_from from n))
  unfolding numbers_from
  listed zero from end [] e r all below whole = refl
  listed zero from end (p ∷ ps) e r all below whole =
      let low = above from (p ∷ ps) p r (head_is p ps) in let high = below p (head_is p ps) in absurd (omega (arith, signed_arith, low, high, e))
  listed (suc n) from end os e r all below whole = by_bool (passes_with test s from)
      (λ t. let o = some_holds test (occurrence_with s from) t in
      rw t (begun from end o.0 (flat_map found_at (filter (passes_with test s) (numbers_from (from +ℤ pos 1) n))) os o.1.0 o.1.1 (omega (arith, signed_arith, e)) r all below whole
      (λ ps. listed n (from +ℤ pos 1) end ps (omega (arith, signed_arith, e)))))
      (λ f. rw f (listed n (from +ℤ pos 1) end os (omega (arith, signed_arith, e)) (rises_past from os r all f) all below
      (λ q is low high. whole q is (omega (arith, signed_arith, low)) high)))
