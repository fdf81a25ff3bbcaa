-- Calls fill a history to its end only where each begins where the one before ended.
use Rattle.std.proofs.Common.{◌≡◌, ℕ, ◌+◌, ◌≤◌, ◌==◌, length, List, [], ◌∷◌, ◌++◌, Bool, true, false, drop, filter, flat_map, cond, sym, ap, ◌∙◌, subst, arith, length-append}
use Rattle.std.proofs.Math.Seq.{drop-append_seam}
use Rattle.account_desk.specs.FreshDesk.{IsSole}
use Rattle.spec_batch.proofs.Chains.{ends_within, summary}
use Rattle.spec_batch.specs.Chain.{Made, Rules, Shown, Chain, Stand, SummaryOn, on}
use Rattle.spec_history.specs.Base.{Base}
use Rattle.spec_history.specs.Signed.{written_by}
use Rattle.spec_history.specs.declared.entry.Entry.{Entry}
use Rattle.account_desk.specs.InTurn.{AnsweredInTurn, InTurn}

-- ---- lists that all pass

module _ (p : Entry → Bool) where
  short_filter : (xs : List Entry) → length (filter p xs) ≤ length xs
  short_filter [] = omega arith
  short_filter (x ∷ xs) = by (p x) (short_filter xs)
    where
      by : (passes : Bool) → length (filter p xs) ≤ length xs → length (cond passes (x ∷ filter p xs) (filter p xs)) ≤ length (x ∷ xs)
      by true h = omega (arith, h)
      by false h = omega (arith, h)

  all_pass_rest : (x : Entry) (xs : List Entry) (passes : Bool) → cond passes (x ∷ filter p xs) (filter p xs) ≡ x ∷ xs → filter p xs ≡ xs
  all_pass_rest x xs true all = cc
  all_pass_rest x xs false all = absurd (let short = short_filter xs in let e = ap length all in omega arith)

  -- where all of a list pass, all behind its first part do
  all_pass_end : (xs ys : List Entry) → filter p (xs ++ ys) ≡ xs ++ ys → filter p ys ≡ ys
  all_pass_end [] ys all = all
  all_pass_end (x ∷ xs) ys all = all_pass_end xs ys (all_pass_rest x (xs ++ ys) (p x) all)

-- ---- one account

-- what came of the calls
abbrev pub all_came : List Made → List Entry
all_came ms = flat_map (λ (m : Made). m.came) ms

module _ (rules : Rules) (base : Base) (author : ℕ) where
  -- the calls stand in an account's whole history, which was h before them, and fill it up
  pub record Fills (whole h : List Entry) (upto : ℕ) (ms : List Made) : Type 0 where
    pub late : ℕ
    pub stand : Stand rules base author whole (length h) late upto ms
    pub full : whole ≡ h ++ all_came ms

  fills : (before whole : List Entry) (late upto : ℕ) (ms : List Made) → SummaryOn rules base author before whole late upto ms → written_by author whole ≡ whole → Fills whole before upto ms
  fills before whole late upto ms sum all =
      let rest = sum.grows.0 in
      let is : whole ≡ before ++ rest = sum.grows.1 in
      let own : written_by author rest ≡ rest = all_pass_end (λ (e : Entry). e.author == author) before rest (sym (ap (written_by author) is) ∙ (all ∙ is)) in
      let behind : drop (length before) whole ≡ rest = ap (drop (length before)) is ∙ drop-append_seam before rest in
      record {
        late = late;
        stand = sum.stand;
        full = is ∙ ap (λ (l : List Entry). before ++ l) (sym own ∙ (sym (ap (written_by author) behind) ∙ sum.own));
      }

  module _ (h : List Entry) where
    all_within : (from late upto : ℕ) (ms : List Made) → from ≤ length h → Stand rules base author h from late upto ms → from + length (all_came ms) ≤ length h
    all_within from late upto [] first stand = omega (arith, first)
    all_within from late upto (m ∷ ms) first stand =
        let rest = all_within (m.reply.place + length m.came) m.turn upto ms (ends_within rules base author h from late m stand.0) stand.1 in
        let low = stand.0.low in
        let count = length-append m.came (all_came ms) in
        omega arith

    in_turn : (from late upto : ℕ) (ms : List Made) → length h ≤ from + length (all_came ms) → Stand rules base author h from late upto ms → InTurn from ms
    in_turn from late upto [] full stand = tt
    in_turn from late upto (m ∷ ms) full stand =
        let next = m.reply.place + length m.came in
        let rest = all_within next m.turn upto ms (ends_within rules base author h from late m stand.0) stand.1 in
        let low = stand.0.low in
        let count = length-append m.came (all_came ms) in
        let here : m.reply.place ≡ from = omega arith in
        let full_after : length h ≤ next + length (all_came ms) = omega arith in
        (here, subst (λ (n : ℕ). InTurn (n + length m.came) ms) here (in_turn next m.turn upto ms full_after stand.1))

  pub fills_in_turn : (whole h : List Entry) (upto : ℕ) (ms : List Made) → Fills whole h upto ms → InTurn (length h) ms
  fills_in_turn whole h upto ms f =
      let all = ap length f.full ∙ length-append h (all_came ms) in
      in_turn whole (length h) f.late upto ms (omega (arith, all)) f.stand

-- ---- all accounts

-- the calls of a chain in which nobody else takes part fill up the histories
pub all_filled : (s t : Shown) (ms : List Made) → Chain s t ms → IsSole t → (k : ℕ) → Fills s.rules (s.base k) (s.author k) (t.seen k) (s.seen k) (t.last k) (on k ms)
all_filled s t ms chain sole k =
    let sum = summary s t ms chain in
    let all : written_by (s.author k) (t.seen k) ≡ t.seen k = ap (λ (a : ℕ). written_by a (t.seen k)) (sym (sum.author k)) ∙ sole k in
    fills s.rules (s.base k) (s.author k) (s.seen k) (t.seen k) (s.last k) (t.last k) (on k ms) (sum.each k) all

pub answered_in_turn : AnsweredInTurn
answered_in_turn s t ms chain sole k = fills_in_turn s.rules (s.base k) (s.author k) (t.seen k) (s.seen k) (t.last k) (on k ms) (all_filled s t ms chain sole k)
