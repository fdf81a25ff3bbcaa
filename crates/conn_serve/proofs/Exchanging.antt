-- Exchanges follow one another.
use Rattle.std.proofs.Common.{◌≡◌, ℕ, ℤ, suc, ◌+◌, List, [], ◌∷◌, ◌++◌, length, length-append, sym, subst, arith, Option}
use Rattle.std.proofs.lemmas.Grind.{flat_map-append}
use Rattle.spec_batch.specs.Chain.{Made, Shown}
use Rattle.spec_connection.proofs.InOrder.{answered_join, unasked}
use Rattle.spec_connection.specs.Answered.{AnsweredInOrder}
use Rattle.spec_connection.specs.Exchanges.{AllFit, Fits, Told, Exchange, all_made, all_moments, closes}
use Rattle.spec_site.specs.Configuration.{Site}
use Rattle.spec_batch.specs.declared.desk.Front.{Front}

pub told_none : (c : Option (ℕ → ℤ)) (f : List Front) (d : Shown) → Told c c f f d d []
told_none c f d = unasked c f d 0

pub told_join : (c0 c1 c2 : Option (ℕ → ℤ)) (f0 f1 f2 : List Front) (d0 d1 d2 : Shown) (ts us : List Exchange) → Told c0 c1 f0 f1 d0 d1 ts → Told c1 c2 f1 f2 d1 d2 us → Told c0 c2 f0 f2 d0 d2 (ts ++ us)
told_join c0 c1 c2 f0 f1 f2 d0 d1 d2 ts us h g =
    let moments = sym (flat_map-append (λ (t : Exchange). t.moments) ts us) in
    let made = sym (flat_map-append (λ (t : Exchange). t.made) ts us) in
    let count = sym (length-append ts us) in
    subst (λ (y : (List ℤ × List Made) × ℕ). AnsweredInOrder c0 c2 f0 f2 d0 d2 y.0.0 y.0.1 y.1) (λ i. ((moments i, made i), count i))
    (answered_join c0 c1 c2 f0 f1 f2 d0 d1 d2 (all_moments ts) (all_moments us) (all_made ts) (all_made us) (length ts) (length us) h g)

pub fit_more : (site : Site) (most n : ℕ) (ts : List Exchange) (t : Exchange) → AllFit site most n ts → Fits site (closes most (n + length ts) t.message) t → AllFit site most n (ts ++ t ∷ [])
fit_more site most n [] t h f =
    let same : n + 0 ≡ n = omega arith in
    (subst (λ (k : ℕ). Fits site (closes most k t.message) t) same f, tt)
fit_more site most n (x ∷ xs) t h f =
    let same : n + length (x ∷ xs) ≡ suc n + length xs = omega arith in
    (h.0, fit_more site most (suc n) xs t h.1 (subst (λ (k : ℕ). Fits site (closes most k t.message) t) same f))
