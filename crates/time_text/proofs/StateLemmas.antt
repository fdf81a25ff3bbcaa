-- States that are written are read back, and a text that names a state is the text of that state.
use Rattle.std.proofs.Common.{◌≡◌, ◌≤◌, ◌<◌, ◌^◌, ◌==◌, ◌&&◌, ◌+◌, ◌<◌, not, ℕ, Bool, true, false, cond, List, [], ◌∷◌, ◌++◌, Option, Some, None, decimal, drop, length, nat_le, option_and_then, option_map, take, unwrap_or, nat_lt, length-append, arith, refl, sym, ap, subst, ◌∙◌}
use Rattle.std.proofs.Math.Seq.{drop-append-add, take-append_seam}
use Rattle.std.proofs.lemmas.Bool.{and_parts}
use Rattle.std.proofs.lemmas.Bool.Decides.{nat_tests}
use Rattle.std.proofs.lemmas.Fmt.{digits_decimal}
use Rattle.std.specs.Char.{is_ascii_digit}
use Rattle.std.specs.List.{list_all, position, position_or_len}
use Rattle.spec_core.specs.declared.numbers.TheConstants.{MAX_UNSIGNED_INT}
use Rattle.spec_history.specs.States.{hyphen, state_in_generation, state_text}
use Rattle.spec_history.specs.declared.state.State.{State}
use Rattle.spec_json.specs.Number.{number_in}
use Rattle.time_text.proofs.NumberLemmas.{decimal_back, own}
use Rattle.time_text.specs.State.{state_in, state_with, unsigned_in, up_to_unsigned}

abbrev is_hyphen : ℕ → Bool
is_hyphen b = b == hyphen

-- ---- written states are read back

bounded : (n : ℕ) → n ≤ MAX_UNSIGNED_INT → up_to_unsigned n ≡ Some n
bounded n h =
    let small : nat_le n MAX_UNSIGNED_INT ≡ true = grind (arith, nat_tests) in
    rw small refl

unsigned_back : (n : ℕ) → n ≤ MAX_UNSIGNED_INT → unsigned_in (decimal n) ≡ Some n
unsigned_back n h = ap (option_and_then up_to_unsigned) (decimal_back n (omega (arith, h))) ∙ bounded n h

no_hyphen : (b : ℕ) → is_ascii_digit b ≡ true → is_hyphen b ≡ false
no_hyphen b h = grind (arith, nat_tests)

-- the hyphen behind digits is the first
digits_before : (ds rest : List ℕ) → list_all is_ascii_digit ds ≡ true → position_or_len is_hyphen (ds ++ hyphen ∷ rest) ≡ length ds
digits_before [] rest h = refl
digits_before (d ∷ ds) rest h =
    let parts = and_parts (is_ascii_digit d) (list_all is_ascii_digit ds) h in
    rw (no_hyphen d parts.0, digits_before ds rest parts.1) (omega arith)

hyphen_behind : (ds rest : List ℕ) → list_all is_ascii_digit ds ≡ true → position is_hyphen (ds ++ hyphen ∷ rest) ≡ Some (length ds)
hyphen_behind ds rest h =
    let there : nat_lt (length ds) (length (ds ++ hyphen ∷ rest)) ≡ true = let l = length-append ds (hyphen ∷ rest) in grind (arith, nat_tests) in
    rw (digits_before ds rest h, there) refl

pub state_back : (generation number : ℕ) → generation ≤ MAX_UNSIGNED_INT → number ≤ MAX_UNSIGNED_INT
    → state_in (state_text (state_in_generation generation number)) ≡ Some (state_in_generation generation number)
state_back generation number small few =
    let digits = digits_decimal own generation (omega (arith, small)) in
    let front : take (length (decimal generation)) (decimal generation ++ hyphen ∷ decimal number) ≡ decimal generation = take-append_seam (decimal generation) (hyphen ∷ decimal number) in
    let back : drop (length (decimal generation) + 1) (decimal generation ++ hyphen ∷ decimal number) ≡ decimal number = drop-append-add (decimal generation) (hyphen ∷ decimal number) 1 in
    rw (hyphen_behind (decimal generation) (decimal number) digits, front, back, unsigned_back generation small, unsigned_back number few) refl

-- ---- what is read is small

small_of : (n k : ℕ) → up_to_unsigned n ≡ Some k → k ≤ MAX_UNSIGNED_INT
small_of n k e = within (nat_le n MAX_UNSIGNED_INT) refl e
  where
    within : (b : Bool) → nat_le n MAX_UNSIGNED_INT ≡ b → cond b (Some n) None ≡ Some k → k ≤ MAX_UNSIGNED_INT
    within true small e = let same : n ≡ k = ap (λ o. unwrap_or o 0) e in grind (arith, nat_tests)
    within false small e = cc

unsigned_small : (o : Option ℕ) (k : ℕ) → option_and_then up_to_unsigned o ≡ Some k → k ≤ MAX_UNSIGNED_INT
unsigned_small None k e = cc
unsigned_small (Some n) k e = small_of n k e

state_with_small : (g n : Option ℕ) (s : State) → state_with g n ≡ Some s → (g ≡ Some s.generation) × (n ≡ Some s.number)
state_with_small None n s e = cc
state_with_small (Some g) None s e = cc
state_with_small (Some g) (Some n) s e = (λ i. option_map_state (λ x. x.generation) (e i), λ i. option_map_state (λ x. x.number) (e i))
  where
    option_map_state : (State → ℕ) → Option State → Option ℕ
    option_map_state f None = None
    option_map_state f (Some x) = Some (f x)

-- the generation of a state that a text names is an UnsignedInt
pub generation_small : (text : List ℕ) (s : State) → state_in text ≡ Some s → s.generation ≤ MAX_UNSIGNED_INT
generation_small text s e = at (position is_hyphen text) e
  where
    at : (place : Option ℕ) → option_and_then (λ k. state_with (unsigned_in (take k text)) (unsigned_in (drop (k + 1) text))) place ≡ Some s → s.generation ≤ MAX_UNSIGNED_INT
    at None e = cc
    at (Some k) e = unsigned_small (number_in (take k text)) s.generation (state_with_small _ _ s e).0
