-- Bytes taken from a source, piece after piece.
use Rattle.std.proofs.Common.{◌≡◌, ℕ, ◌+◌, ◌≤◌, List, [], ◌++◌, inr, length, length-append, sym, ap, ◌∙◌, subst, take, append_assoc, append-nil, arith}
use Rattle.std.proofs.KnownBytes.{Consumes-nil, Consumes-trans}
use Rattle.io_edge.specs.Outside.{Rose, SourceShown}
use Rattle.http_edge.specs.Reading.{AskedWhile, Took, StopCause}
use Rattle.std.proofs.lemmas.List.{take-append-le}
use Rattle.http_edge.specs.Searches.{IsSearched}
use Rattle.http_edge.specs.declared.search.SearchState.{SearchState}
use Rattle.http_edge.specs.declared.held.Stop.{Stop}
use Rattle.http_edge.specs.declared.held.Stop.TheVariants.{Ended, Failed, NoMemory}

pub took_none : (s : SourceShown) (kept : List ℕ) → Took s s kept kept
took_none s kept = record { taken = []; consumed = Consumes-nil s.left; later = omega arith; grown = sym (append-nil kept) }

pub took_more : {s t u : SourceShown} {old mid kept : List ℕ} → Took s t old mid → Took t u mid kept → Took s u old kept
took_more {s} {t} {u} {old} {mid} {kept} one two = record {
  taken = one.taken ++ two.taken;
  consumed = Consumes-trans s.left t.left u.left one.taken two.taken one.consumed two.consumed;
  later = omega (arith, one.later, two.later);
  grown = two.grown ∙ ap (λ l. l ++ two.taken) one.grown ∙ append_assoc old one.taken two.taken;
}

rose_earlier : (f g h : ℕ) → f ≤ g → Rose g h → Rose f h
rose_earlier f g h e r = omega (arith, e, r)

pub stop_earlier : (s t u : SourceShown) (stop : Stop) → s.faults ≤ t.faults → StopCause t u stop → StopCause s u stop
stop_earlier s t u Ended e c = c
stop_earlier s t u Failed e c = rose_earlier s.faults t.faults u.faults e c
stop_earlier s t u NoMemory e c = tt

-- a piece of at most so many bytes was asked for while the bytes were such
pub asked_for : (Such : List ℕ → Type 0) (most : ℕ) {s t u : SourceShown} {old mid kept : List ℕ} → Took s t old mid → Took t u mid kept → length kept ≤ length mid + most → Such mid → AskedWhile Such most s u old kept
asked_for Such most {s} {t} {u} {old} {mid} {kept} one two few such =
    let size = ap length two.grown ∙ length-append mid two.taken in
    inr (one.taken, two.taken, two.grown ∙ ap (λ l. l ++ two.taken) one.grown, omega (arith, size, few), subst Such one.grown such)

-- what was searched is searched still when more bytes have come
pub searched_still : {s t : SourceShown} (kept slice kept' : List ℕ) (searched : ℕ) (state : SearchState) → slice ≡ kept → Took s t kept kept' → searched ≤ length kept → IsSearched (take searched slice) state → IsSearched (take searched kept') state
searched_still kept slice kept' searched state is took within found =
    let same : take searched slice ≡ take searched kept' = ap (take searched) is ∙ (sym (take-append-le searched kept took.taken within) ∙ ap (take searched) (sym took.grown)) in
    subst (λ (l : List ℕ). IsSearched l state) same found
