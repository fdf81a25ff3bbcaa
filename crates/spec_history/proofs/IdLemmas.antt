-- Numbers of objects in lists.
use Rattle.std.proofs.Common.{◌≡◌, ◌==◌, ◌&&◌, ℕ, List, Bool, filter, sym, ap, ◌∙◌, eqb-true}
use Rattle.std.proofs.lemmas.Map.Made.{is_member-filter}
use Rattle.std.specs.Cmp.{IsEquivalence, nat_eq_equiv}
use Rattle.spec_history.specs.Pages.{is_in}

is_equal : IsEquivalence (λ (a b : ℕ). b == a)
is_equal = record {
  refl = nat_eq_equiv.refl;
  symm = λ x y. nat_eq_equiv.symm y x;
  congr = λ x y z same. nat_eq_equiv.symm z x ∙ (nat_eq_equiv.congr x y z (nat_eq_equiv.symm x y ∙ same) ∙ nat_eq_equiv.symm y z);
}

-- a number is among those that pass where it is one of the list, and passes
pub is_in-filter : (test : ℕ → Bool) (ids : List ℕ) (id : ℕ) → is_in (filter test ids) id ≡ (is_in ids id && test id)
is_in-filter test ids id = is_member-filter is_equal test id (λ n same. ap test (sym (eqb-true n id same))) ids
