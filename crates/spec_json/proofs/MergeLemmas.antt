-- Members put in one after the other, where their keys rise.
use Rattle.std.proofs.Common.{◌≡◌, ℕ, List, [], ◌∷◌, Bool, true, false, Some, None, if◌then◌else◌, refl, sym, ap, ◌∙◌}
use Rattle.std.specs.Str.{bytes_eq}
use Rattle.std.proofs.lemmas.Bool.{and_parts}
use Rattle.spec_json.proofs.EditLemmas.{rises_with}
use Rattle.spec_json.proofs.KeyOrder.{above_later}
use Rattle.spec_json.specs.Data.{Data, Pair}
use Rattle.spec_json.specs.Edit.{with_pair, put_all}
use Rattle.spec_json.specs.Merge.{begins_below, TakesBelow, without_first}
use Rattle.spec_json.specs.ObjectKeys.{is_above, keys_rise}

-- members that are put in keep the order
pub rises_with_all : (others own : List Pair) → keys_rise own ≡ true → keys_rise (put_all others own) ≡ true
rises_with_all [] own h = h
rises_with_all (p ∷ ps) own h = rises_with_all ps (with_pair p.0 p.1 own) (rises_with p.0 p.1 own h)

pub later_rise : (p : Pair) (ps : List Pair) → keys_rise (p ∷ ps) ≡ true → keys_rise ps ≡ true
later_rise p ps h = (and_parts (is_above p.0 ps) (keys_rise ps) h).1

-- a first member below all that are put in stays first
stays_first : (p : Pair) (others own : List Pair) → is_above p.0 others ≡ true → keys_rise others ≡ true → put_all others (p ∷ own) ≡ p ∷ put_all others own
stays_first p [] own a r = refl
stays_first p (q ∷ qs) own a r =
    let rise = and_parts (is_above q.0 qs) (keys_rise qs) r in
    rw a (stays_first p qs (with_pair q.0 q.1 own) (above_later p.0 q qs a rise.0) rise.1)

pub first_moves : (other : Pair) (others : List Pair) (p : Pair) (own rest : List Pair) → keys_rise (other ∷ others) ≡ true → TakesBelow other.0 (Some p) own rest
    → put_all (other ∷ others) own ≡ p ∷ put_all (other ∷ others) rest
first_moves other others p own rest r t = ap (λ ms. put_all (other ∷ others) ms) t.1 ∙ stays_first p (other ∷ others) rest (sym (ap (λ ms. begins_below other.0 ms) t.1) ∙ t.0) r

pub of_same : (same : Bool) (q p : Pair) (ps : List Pair) → (if same then q ∷ ps else q ∷ p ∷ ps) ≡ q ∷ (if same then ps else p ∷ ps)
of_same true q p ps = refl
of_same false q p ps = refl

-- where the first member isn't below the first that is put in, the latter comes first
with_first : (k : List ℕ) (v : Data) (own : List Pair) → begins_below k own ≡ false → with_pair k v own ≡ (k, v) ∷ without_first k own
with_first k v [] b = refl
with_first k v (p ∷ ps) b = rw b (of_same (bytes_eq p.0 k) (k, v) p ps)

pub other_moves : (other : Pair) (others own rest : List Pair) → keys_rise (other ∷ others) ≡ true → TakesBelow other.0 None own rest
    → put_all (other ∷ others) own ≡ other ∷ put_all others (without_first other.0 rest)
other_moves other others own rest r t =
    let rise = and_parts (is_above other.0 others) (keys_rise others) r in
    rw (t.1, with_first other.0 other.1 own t.0) (stays_first other others (without_first other.0 own) rise.0 rise.1)
