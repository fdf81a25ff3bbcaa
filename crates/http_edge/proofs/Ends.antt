-- Where a head ends, and that more bytes change nothing of it.
use Rattle.std.proofs.Common.{◌≡◌, ℕ, zero, suc, ◌<◌, ◌≤◌, min, List, [], ◌∷◌, ◌++◌, length, take, cond, Bool, true, false, Option, Some, None, refl, sym, ap, ap₂, ◌∙◌, append-nil, arith, length-append}
use Rattle.std.specs.Prelude.{nat_le}
use Rattle.std.proofs.lemmas.List.{take_min, take-append-le, length-take}
use Rattle.std.proofs.lemmas.Bool.Decides.{nat_tests}
use Rattle.spec_http.specs.Heads.{ended, too_long, unended, head_length, head_end, end_at, later}
use Rattle.http_edge.specs.Searches.{IsSearched, is_last, next_state, search_from}
use Rattle.http_edge.specs.declared.search.SearchState.{SearchState}
use Rattle.http_edge.specs.declared.search.SearchState.TheVariants.{Within}
use Rattle.http_edge.proofs.Searching.{search-cons, search_ahead}

-- ---- an end tells what the search found

is_full : (n : ℕ) → 16384 ≤ n → nat_le 16384 n ≡ true
is_full n h = grind (arith, nat_tests)

not_full : (n : ℕ) → n < 16384 → nat_le 16384 n ≡ false
not_full n h = grind (arith, nat_tests)

from_full : (n : ℕ) → nat_le 16384 n ≡ true → 16384 ≤ n
from_full n h = grind (arith, nat_tests)

not_ended : (t : Bool) (size : ℕ) → cond t too_long unended ≡ ended size → ⊥
not_ended true size e = cc
not_ended false size e = cc

pub ended_at : (o : Option ℕ) (bytes : List ℕ) (size : ℕ) → end_at o bytes ≡ ended size → o ≡ Some size
ended_at (Some n) bytes size e = cc
ended_at None bytes size e = absurd (not_ended (nat_le 16384 (length bytes)) size e)

long_is : (t : Bool) → cond t too_long unended ≡ too_long → t ≡ true
long_is true e = refl
long_is false e = let bad : ⊥ = cc in absurd bad

too_long_at : (o : Option ℕ) (bytes : List ℕ) → end_at o bytes ≡ too_long → (o ≡ None) × (16384 ≤ length bytes)
too_long_at (Some n) bytes e = let bad : ⊥ = cc in absurd bad
too_long_at None bytes e = (refl, from_full (length bytes) (long_is (nat_le 16384 (length bytes)) e))

-- ---- what was found is found whatever follows

later_some : (o : Option ℕ) (n : ℕ) → later o ≡ Some n → (m : ℕ) × (o ≡ Some m) × (n ≡ suc m)
later_some None n e = let bad : ⊥ = cc in absurd bad
later_some (Some m) n e = (m, refl, cc)

found_at : (t : Bool) (o p : Option ℕ) (n : ℕ) → ((m : ℕ) → o ≡ Some m → p ≡ Some m) → cond t (Some 1) (later o) ≡ Some n → cond t (Some 1) (later p) ≡ Some n
found_at true o p n ih e = e
found_at false o p n ih e = let l = later_some o n e in ap later (ih l.0 l.1) ∙ ap Some (sym l.2)

nothing_in : (s : SearchState) (n : ℕ) → search_from s [] ≡ Some n → ⊥
unfolding search_from
nothing_in s n e = cc

search-more : (s : SearchState) (bytes more : List ℕ) (n : ℕ) → search_from s bytes ≡ Some n → search_from s (bytes ++ more) ≡ Some n
search-more s [] more n e = absurd (nothing_in s n e)
search-more s (b ∷ bytes) more n e =
    search-cons s b (bytes ++ more) ∙ found_at (is_last s b) (search_from (next_state s b) bytes) (search_from (next_state s b) (bytes ++ more)) n
    (λ m h. search-more (next_state s b) bytes more m h) (sym (search-cons s b bytes) ∙ e)

length-more : (bytes more : List ℕ) (n : ℕ) → head_length bytes ≡ Some n → head_length (bytes ++ more) ≡ Some n
length-more bytes more n e = sym (search_ahead Within (bytes ++ more)) ∙ search-more Within bytes more n (search_ahead Within bytes ∙ e)

-- the first k bytes of more bytes
prefix_more : (k : ℕ) (bytes more : List ℕ) → (x : List ℕ) × (take k (bytes ++ more) ≡ take k bytes ++ x)
prefix_more zero bytes more = ([], refl)
prefix_more (suc k) [] more = (take (suc k) more, refl)
prefix_more (suc k) (b ∷ bytes) more = let r = prefix_more k bytes more in (r.0, ap (λ l. b ∷ l) r.1)

pub ended_more : (bytes more : List ℕ) (size : ℕ) → head_end bytes ≡ ended size → head_end (bytes ++ more) ≡ ended size
ended_more bytes more size e =
    let x = prefix_more 16384 bytes more in
    let h : head_length (take 16384 bytes) ≡ Some size = ended_at (head_length (take 16384 bytes)) bytes size e in
    ap (λ o. end_at o (bytes ++ more)) (ap head_length x.1 ∙ length-more (take 16384 bytes) x.0 size h)

pub too_long_more : (bytes more : List ℕ) → head_end bytes ≡ too_long → head_end (bytes ++ more) ≡ too_long
too_long_more bytes more e =
    let h = too_long_at (head_length (take 16384 bytes)) bytes e in
    let full = h.1 in
    let none : head_length (take 16384 (bytes ++ more)) ≡ None = ap head_length (take-append-le 16384 bytes more full) ∙ h.0 in
    let a = length-append bytes more in
    let still : 16384 ≤ length (bytes ++ more) = omega (arith, a, full) in
    ap (λ o. end_at o (bytes ++ more)) none ∙ ap (λ t. cond t too_long unended) (is_full (length (bytes ++ more)) still)

-- ---- the head lies within the bytes

within_at : (t : Bool) (o : Option ℕ) (n k : ℕ) → ((m : ℕ) → o ≡ Some m → m ≤ k) → cond t (Some 1) (later o) ≡ Some n → n ≤ suc k
within_at true o n k ih e = let one : 1 ≡ n = cc in omega (arith, one)
within_at false o n k ih e = let l = later_some o n e in let h = ih l.0 l.1 in let q = l.2 in omega (arith, h, q)

search-within : (s : SearchState) (bytes : List ℕ) (n : ℕ) → search_from s bytes ≡ Some n → n ≤ length bytes
search-within s [] n e = absurd (nothing_in s n e)
search-within s (b ∷ bytes) n e =
    within_at (is_last s b) (search_from (next_state s b) bytes) n (length bytes) (λ m h. search-within (next_state s b) bytes m h) (sym (search-cons s b bytes) ∙ e)

pub ended_within : (bytes : List ℕ) (size : ℕ) → head_end bytes ≡ ended size → (size ≤ length bytes) × (size ≤ 16384)
ended_within bytes size e =
    let h = search-within Within (take 16384 bytes) size (search_ahead Within (take 16384 bytes) ∙ ended_at (head_length (take 16384 bytes)) bytes size e) in
    let l = length-take 16384 bytes in
    (omega (arith, h, l), omega (arith, h, l))

pub nothing_unended : head_end [] ≡ unended
unfolding head_length
nothing_unended = refl

-- ---- what a search of the first bytes says of the end

pub open_none : (p : List ℕ) (s : SearchState) → IsSearched p s → head_length p ≡ None
unfolding search_from
open_none p s h = ap head_length (sym (append-nil p)) ∙ h []

pub prefix_end : (bytes : List ℕ) (size : ℕ) → head_length (take 16384 bytes) ≡ Some size → head_end bytes ≡ ended size
prefix_end bytes size e = ap (λ o. end_at o bytes) e

pub prefix_full : (bytes : List ℕ) → 16384 ≤ length bytes → head_length (take 16384 bytes) ≡ None → head_end bytes ≡ too_long
prefix_full bytes h e = ap (λ o. end_at o bytes) e ∙ ap (λ t. cond t too_long unended) (is_full (length bytes) h)

pub prefix_open : (bytes : List ℕ) → length bytes < 16384 → head_length (take 16384 bytes) ≡ None → head_end bytes ≡ unended
prefix_open bytes h e = ap (λ o. end_at o bytes) e ∙ ap (λ t. cond t too_long unended) (not_full (length bytes) h)

-- ---- the first bytes, as far as a head may go

pub prefix_same : (kept slice : List ℕ) (front : ℕ) → slice ≡ kept → front ≡ min (length kept) 16384 → take front slice ≡ take 16384 kept
prefix_same kept slice front e f =
    let m : front ≡ min 16384 (length kept) = omega (arith, f) in
    ap₂ take m e ∙ take_min 16384 kept
