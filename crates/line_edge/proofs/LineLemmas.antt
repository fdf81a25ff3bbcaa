-- Lines and line feeds.
use Rattle.std.proofs.Common.{◌≡◌, ◌≢◌, ◌<◌, ◌≤◌, ◌+◌, ℕ, suc, List, [], ◌∷◌, ◌++◌, Bool, true, false, Option, Some, None, cond, length, take, drop, flat_map, refl, sym, ap, ◌∙◌, subst, arith, append_assoc, append-nil, length-append, ne_eqb, eqb-true}
use Rattle.std.specs.Io.KnownBytes.{Consumes}
use Rattle.std.specs.Prelude.{All, IfNone, IfSome}
use Rattle.io_edge.specs.Outside.{SourceShown}
use Rattle.line_edge.specs.Reading.{GivesLine, NextLineIs, TookMore}
use Rattle.line_edge.specs.declared.next.NextLine.{NextLine}
use Rattle.std.proofs.KnownBytes.{Consumes-nil, Consumes-trans}
use Rattle.std.proofs.lemmas.List.{take-append-drop, get_or-take, get_or_default, length-take-le, take_all}
use Rattle.std.proofs.lemmas.List.Elements.{All-append, All-nil}
use Rattle.std.proofs.Math.ListN.{get_or}
use Rattle.std.proofs.Math.Seq.{drop-cons}
use Rattle.memchr.specs.Find.{IsFirstByte, Nowhere, Passes, is_byte}
use Rattle.line_edge.specs.Lines.{HasNoFeed, IsFirstFeed, IsTooLong, before_lines, lines_of, with_feeds}

-- ---- where a line feed stands

free_before : (bytes : List ℕ) (n : ℕ) → n ≤ length bytes → Nowhere (Passes (is_byte 10) bytes) 0 n → HasNoFeed (take n bytes)
free_before bytes n few nowhere k d below is =
    let small : k < n = subst (λ (m : ℕ). k < m) (length-take-le n bytes few) below in
    let there : k < length bytes = omega arith in
    let same : get_or (take n bytes) k d ≡ get_or bytes k 0 = get_or-take n bytes k d small ∙ get_or_default bytes k d 0 there in
    nowhere k (omega arith) small (ap (is_byte 10) (sym same ∙ is))

pub feed_found : (bytes : List ℕ) (r : Option ℕ) → IsFirstByte (is_byte 10) bytes r → IfSome r (λ at. IsFirstFeed bytes at)
feed_found bytes None h = tt
feed_found bytes (Some at) h =
    let within : at < length bytes = h.0.high in
    let is : get_or bytes at 0 ≡ 10 = eqb-true (get_or bytes at 0) 10 h.1 in
    let one : suc at ≡ at + 1 = omega arith in
    record {
      within = within;
      parts = drop-cons bytes at 0 within ∙ (λ i. is i ∷ drop (one i) bytes);
      before = free_before bytes at (omega (arith, within)) h.0.before;
    }

pub no_feed_found : (bytes : List ℕ) (r : Option ℕ) → IsFirstByte (is_byte 10) bytes r → IfNone r (HasNoFeed bytes)
no_feed_found bytes (Some at) h = tt
no_feed_found bytes None h = subst HasNoFeed (take_all (length bytes) bytes (omega arith)) (free_before bytes (length bytes) (omega arith) h)

-- ---- lines

free_rest : (b : ℕ) (l : List ℕ) → HasNoFeed (b ∷ l) → HasNoFeed l
free_rest b l h k d below = h (suc k) d (omega (arith, below))

free_first : (b : ℕ) (l : List ℕ) → HasNoFeed (b ∷ l) → b ≢ 10
free_first b l h = h 0 0 (omega arith)

-- the first line of bytes that have a line feed
pub first_line : (l more : List ℕ) → HasNoFeed l → lines_of (l ++ 10 ∷ more) ≡ l ∷ lines_of more
first_line [] more free = refl
first_line (b ∷ l) more free = rw (ne_eqb b 10 (free_first b l free)) (ap (before_lines b) (first_line l more (free_rest b l free)))

-- bytes without a line feed are one line
pub one_line : (b : ℕ) (l : List ℕ) → HasNoFeed (b ∷ l) → lines_of (b ∷ l) ≡ (b ∷ l) ∷ []
one_line b [] free = rw (ne_eqb b 10 (free_first b [] free)) refl
one_line b (c ∷ l) free = rw (ne_eqb b 10 (free_first b (c ∷ l) free)) (ap (before_lines b) (one_line c l (free_rest b (c ∷ l) free)))

-- ---- what came

pub too_long : (count most : ℕ) (line rest : List ℕ) → length line ≤ most → most < length line + count → count ≤ length rest → HasNoFeed line → HasNoFeed (take count rest) → IsTooLong most (line ++ rest)
too_long count most line rest short long there one two = record {
  start = line ++ take count rest;
  rest = drop count rest;
  parts = ap (λ l. line ++ l) (sym (take-append-drop count rest)) ∙ sym (append_assoc line (take count rest) (drop count rest));
  unbroken = All-append (λ b. b ≢ 10) line (take count rest) one two;
  long = omega (arith, length-append line (take count rest), length-take-le count rest there, long);
}

-- the bytes that were left and came since are those of the line and then those that are left now
pub record Came (s s' : SourceShown) (first rest line : List ℕ) : Type 0 where
  pub taken : List ℕ
  pub consumed : Consumes s.left s'.left taken
  pub later : s.faults ≤ s'.faults
  pub parts : first ++ taken ≡ line ++ rest

pub moved_none : (s : SourceShown) (first : List ℕ) → Came s s first first []
moved_none s first = record { taken = []; consumed = Consumes-nil s.left; later = omega arith; parts = append-nil first }

-- a piece was taken behind
pub moved_more : {s t u : SourceShown} {first rest rest' line : List ℕ} → Came s t first rest line → TookMore t u rest rest' → Came s u first rest' line
moved_more {s} {t} {u} {first} {rest} {rest'} {line} m k = record {
  taken = m.taken ++ k.taken;
  consumed = Consumes-trans s.left t.left u.left m.taken k.taken m.consumed k.consumed;
  later = omega (arith, m.later, k.later);
  parts = sym (append_assoc first m.taken k.taken) ∙ (ap (λ l. l ++ k.taken) m.parts ∙ (append_assoc line rest k.taken ∙ ap (λ l. line ++ l) (sym k.grown)));
}

-- what was left was moved behind the line
pub moved_all : {s t : SourceShown} {first rest line line' : List ℕ} → Came s t first rest line → line' ≡ line ++ rest → Came s t first [] line'
moved_all {s} {t} {first} {rest} {line} {line'} m is = record { taken = m.taken; consumed = m.consumed; later = m.later; parts = m.parts ∙ (sym is ∙ sym (append-nil line')) }

-- what is told of the bytes of a line is told of those that were left and came
pub gives : {most : ℕ} {s t : SourceShown} {first rest rest' line : List ℕ} {answer : NextLine} → (m : Came s t first rest line) → NextLineIs most s t (line ++ rest) rest' answer → GivesLine most s t first rest' answer
gives {most} {s} {t} {first} {rest} {rest'} {line} {answer} m how = record {
  taken = m.taken;
  consumed = m.consumed;
  later = m.later;
  how = subst (λ (l : List ℕ). NextLineIs most s t l rest' answer) (sym m.parts) how;
}
