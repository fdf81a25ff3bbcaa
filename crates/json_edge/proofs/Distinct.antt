-- The members that were kept so far, and those still to come.
use Rattle.std.proofs.Common.{◌≡◌, ℕ, zero, suc, List, [], ◌∷◌, ◌++◌, Option, Some, None, option_map, true, false, length, get_or, map, refl, sym, ap, append_assoc, arith}
use Rattle.std.proofs.lemmas.Bool.{and_from, and_parts}
use Rattle.spec_json.specs.Data.{Data, Pair}
use Rattle.spec_json.specs.ObjectKeys.{is_above, keys_rise}
use Rattle.spec_json.specs.TreeData.{pair_of}
use Rattle.spec_json.specs.declared.tree.Member.{Member}
use Rattle.json_edge.specs.FoundMembers.{Found, whole_pairs, first_of_each, is_next, last_key}

pub last_pushed : (ps : List Pair) (p : Pair) → last_key (ps ++ p ∷ []) ≡ Some p.0
last_pushed [] p = refl
last_pushed (q ∷ []) p = refl
last_pushed (q ∷ r ∷ ps) p = last_pushed (r ∷ ps) p

-- the key of the last member
pub last_at : (ms : List Member) (d : Member) (i : ℕ) → length ms ≡ suc i → last_key (map pair_of ms) ≡ Some (get_or ms i d).key
last_at [] d i h = absurd (omega (arith, h))
last_at (m ∷ []) d zero h = refl
last_at (m ∷ []) d (suc i) h = absurd (omega (arith, h))
last_at (m ∷ n ∷ ms) d zero h = absurd (omega (arith, h))
last_at (m ∷ n ∷ ms) d (suc i) h = last_at (n ∷ ms) d i (omega (arith, h))

pub kept : (ps : List Pair) (k : List ℕ) (v : Data) (es : List Found) → is_next (last_key ps) k ≡ true
    → option_map (λ qs. ps ++ qs) (whole_pairs (first_of_each (last_key ps) ((k, Some v) ∷ es))) ≡ option_map (λ qs. (ps ++ (k, v) ∷ []) ++ qs) (whole_pairs (first_of_each (last_key (ps ++ (k, v) ∷ [])) es))
kept ps k v es h = rw (h, last_pushed ps (k, v)) (grown (whole_pairs (first_of_each (Some k) es)))
  where
    grown : (o : Option (List Pair)) → option_map (λ qs. ps ++ qs) (option_map (λ qs. (k, v) ∷ qs) o) ≡ option_map (λ qs. (ps ++ (k, v) ∷ []) ++ qs) o
    grown None = refl
    grown (Some qs) = ap Some (sym (append_assoc ps ((k, v) ∷ []) qs))

pub passed : (last : Option (List ℕ)) (e : Found) (es : List Found) → is_next last e.0 ≡ false → first_of_each last (e ∷ es) ≡ first_of_each last es
passed last e es h = rw h refl

pub not_all : (last : Option (List ℕ)) (k : List ℕ) (es : List Found) → is_next last k ≡ true → whole_pairs (first_of_each last ((k, None) ∷ es)) ≡ None
not_all last k es h = rw h refl

-- a key that is above the last keeps keys in order
pub rises_on : (ps : List Pair) (p : Pair) → keys_rise ps ≡ true → is_next (last_key ps) p.0 ≡ true → keys_rise (ps ++ p ∷ []) ≡ true
rises_on [] p h n = refl
rises_on (q ∷ []) p h n = rw n refl
rises_on (q ∷ r ∷ ps) p h n = let rest = and_parts (is_above q.0 (r ∷ ps)) (keys_rise (r ∷ ps)) h in and_from _ _ rest.0 (rises_on (r ∷ ps) p rest.1 n)
