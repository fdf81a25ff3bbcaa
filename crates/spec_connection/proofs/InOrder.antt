-- Requests that are answered follow one another.
use Rattle.std.proofs.Common.{◌≡◌, ℕ, ℤ, zero, suc, ◌+◌, ◌≤◌, List, [], ◌∷◌, ◌++◌, length, length-append, map, sym, refl, ap, ◌∙◌, arith, append-nil, append_assoc, Option, Some, None}
use Rattle.std.proofs.lemmas.List.{map-append}
use Rattle.io_edge.specs.Outside.{Ticks}
use Rattle.spec_batch.proofs.Chains.{join, still}
use Rattle.spec_batch.specs.Chain.{Chain, Made, Shown, front_of}
use Rattle.spec_batch.specs.declared.desk.Front.{Front}
use Rattle.spec_connection.specs.Answered.{AnsweredInOrder, Ticked, moment_behind}

-- ---- the clock

behind_append : (ts us : List ℤ) (b c : ℕ → ℤ) → ((n : ℕ) → b n ≡ moment_behind us c n) → (n : ℕ) → moment_behind ts b n ≡ moment_behind (ts ++ us) c n
behind_append [] us b c h n = h n
behind_append (t ∷ ts) us b c h zero = refl
behind_append (t ∷ ts) us b c h (suc n) = behind_append ts us b c h n

pub ticked_join : (a b c : Option (ℕ → ℤ)) (ts us : List ℤ) → Ticked a b ts → Ticked b c us → Ticked a c (ts ++ us)
ticked_join None b c ts us h g = tt
ticked_join (Some a) None c ts us h g = absurd h
ticked_join (Some a) (Some b) None ts us h g = absurd g
ticked_join (Some a) (Some b) (Some c) ts us h g = λ n. h n ∙ behind_append ts us b c g n

pub ticked_none : (a : Option (ℕ → ℤ)) → Ticked a a []
ticked_none None = tt
ticked_none (Some a) = λ n. refl

first_tick : (a b : ℕ → ℤ) (r : ℤ) → r ≡ a 0 → ((n : ℕ) → b n ≡ a (n + 1)) → (n : ℕ) → a n ≡ moment_behind (r ∷ []) b n
first_tick a b r one rest zero = sym one
first_tick a b r one rest (suc n) = (let e : suc n ≡ n + 1 = omega arith in ap a e ∙ sym (rest n))

pub ticked_one : (a b : Option (ℕ → ℤ)) (r : ℤ) → Ticks a b r → Ticked a b (r ∷ [])
ticked_one None b r h = tt
ticked_one (Some a) None r h = absurd h
ticked_one (Some a) (Some b) r h = first_tick a b r h.0 h.1

-- ---- all that a request touches

-- requests for which neither clock nor desk was asked
pub unasked : (c : Option (ℕ → ℤ)) (f : List Front) (d : Shown) (n : ℕ) → AnsweredInOrder c c f f d d [] [] n
unasked c f d n = record { ticked = ticked_none c; added = sym (append-nil f); chain = still d; few = omega arith }

-- one request at one moment
pub answered_at : (c0 c1 : Option (ℕ → ℤ)) (f0 f1 : List Front) (d0 d1 : Shown) (moment : ℤ) (made : List Made)
    → Ticks c0 c1 moment → f1 ≡ f0 ++ map front_of made → Chain d0 d1 made → length made ≤ 16 → AnsweredInOrder c0 c1 f0 f1 d0 d1 (moment ∷ []) made 1
answered_at c0 c1 f0 f1 d0 d1 moment made ticks fronts chain few = record { ticked = ticked_one c0 c1 moment ticks; added = fronts; chain = chain; few = omega (arith, few) }

-- requests behind others
pub answered_join : (c0 c1 c2 : Option (ℕ → ℤ)) (f0 f1 f2 : List Front) (d0 d1 d2 : Shown) (ts us : List ℤ) (ms ns : List Made) (m n : ℕ)
    → AnsweredInOrder c0 c1 f0 f1 d0 d1 ts ms m → AnsweredInOrder c1 c2 f1 f2 d1 d2 us ns n → AnsweredInOrder c0 c2 f0 f2 d0 d2 (ts ++ us) (ms ++ ns) (m + n)
answered_join c0 c1 c2 f0 f1 f2 d0 d1 d2 ts us ms ns m n h g = record {
  ticked = ticked_join c0 c1 c2 ts us h.ticked g.ticked;
  added = g.added ∙ (ap (λ (l : List Front). l ++ map front_of ns) h.added ∙ (append_assoc f0 (map front_of ms) (map front_of ns)
      ∙ ap (λ (l : List Front). f0 ++ l) (sym (map-append front_of ms ns))));
  chain = join d0 d1 d2 ms ns h.chain g.chain;
  few = (let a = h.few in let b = g.few in let e = length-append ms ns in omega arith);
}
