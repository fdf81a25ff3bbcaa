-- A grant of a user is one of the user's grants.
use Rattle.std.proofs.Common.{◌≡◌, ℕ, suc, ◌<◌, List, [], ◌∷◌, Bool, true, false, Option, Some, None, All, arith, sym, subst, cond}
use Rattle.std.specs.Str.{bytes_eq}
use Rattle.spec_batch.specs.Meaning.{grant_of}
use Rattle.spec_core.specs.declared.user.Grant.{Grant}

module _ (accounts : ℕ) where
  abbrev pub IsBelow : Option Grant → Type 0
  IsBelow None = Unit {0}
  IsBelow (Some g) = g.account < accounts

  below_rest : (g : Grant) (gs : List Grant) → All (λ h. h.account < accounts) (g ∷ gs) → All (λ h. h.account < accounts) gs
  below_rest g gs all = λ k d less. all (suc k) d (omega (arith, less))

  below_found : (b : Bool) (g : Grant) (rest : Option Grant) → g.account < accounts → IsBelow rest → IsBelow (cond b (Some g) rest)
  below_found true g rest one others = one
  below_found false g rest one others = others

  grant_below : (id : List ℕ) (gs : List Grant) → All (λ h. h.account < accounts) gs → IsBelow (grant_of id gs)
  grant_below id [] all = tt
  grant_below id (g ∷ gs) all = below_found (bytes_eq g.id id) g (grant_of id gs) (all 0 g (omega arith)) (grant_below id gs (below_rest g gs all))

  pub grant_is_below : (id : List ℕ) (gs : List Grant) (g : Grant) → Some g ≡ grant_of id gs → All (λ h. h.account < accounts) gs → g.account < accounts
  grant_is_below id gs g is all = subst IsBelow (sym is) (grant_below id gs all)
