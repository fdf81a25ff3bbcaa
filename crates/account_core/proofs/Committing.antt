-- The entries that changes become.
use Rattle.std.proofs.Common.{◌≡◌, ◌<◌, ◌+◌, ℕ, suc, get_or, take, List, [], ◌∷◌, ◌++◌, add-zero, append_assoc, arith, length, refl, sym, ap, ◌∙◌}
use Rattle.std.proofs.lemmas.List.{map-append, take_more}
use Rattle.std.proofs.lemmas.List.Sums.{sum_by-append}
use Rattle.account_core.specs.Tally.{Tallies}
use Rattle.account_core.specs.declared.tally.Tally.{Tally}
use Rattle.cal_model.specs.Answer.{entries_from, entry_of}
use Rattle.spec_history.specs.History.{changes_of, object_from, count_of_kind}
use Rattle.spec_history.specs.declared.entry.Change.{Change}
use Rattle.spec_history.specs.declared.entry.Entry.{Entry}
use Rattle.spec_history.specs.declared.entry.Kind.{Kind}
use Rattle.spec_history.specs.declared.stamp.Stamp.{Stamp}
use Rattle.spec_json.specs.declared.tree.Tree.{Tree}
use Rattle.std.specs.Prelude.{Option}

-- the changes of the entries that changes become
pub changes_back : (s : Stamp) (cs : List Change) (n : ℕ) → changes_of (entries_from s n cs) ≡ cs
changes_back s [] n = refl
changes_back s (c ∷ cs) n = ap (λ ds. c ∷ ds) (changes_back s cs (suc n))

-- the changes of a history that the staged changes became part of
pub changes_committed : (h h' : List Entry) (s : Stamp) (n : ℕ) (cs : List Change) → h' ≡ h ++ entries_from s n cs → changes_of h' ≡ changes_of h ++ cs
changes_committed h h' s n cs is = rw (is, map-append, changes_back) refl

-- the tally of a history with its staged changes is that of the history which they became part of
pub tally_committed : (t : Tally) (h h' : List Entry) (cs : List Change) → Tallies t (changes_of h ++ cs) → changes_of h' ≡ changes_of h ++ cs → Tallies t (changes_of h')
tally_committed t h h' cs tallies is = rw is tallies

pub object_from_append : (cs ds : List Change) (before : Option Tree) (kind : Kind) (id : ℕ) → object_from before (cs ++ ds) kind id ≡ object_from (object_from before cs kind id) ds kind id
object_from_append [] ds before kind id = refl
object_from_append (c ∷ cs) ds before kind id = object_from_append cs ds _ kind id

pub count_of_kind_append : (cs ds : List Change) (kind : Kind) → count_of_kind (cs ++ ds) kind ≡ count_of_kind cs kind + count_of_kind ds kind
count_of_kind_append cs ds kind = sum_by-append _ cs ds

-- the entry of one change more
pub entries_push : (s : Stamp) (cs : List Change) (n : ℕ) (c : Change) → entries_from s n (cs ++ c ∷ []) ≡ entries_from s n cs ++ entry_of s (n + length cs) c ∷ []
entries_push s [] n c = rw add-zero refl
entries_push s (d ∷ cs) n c = ap (λ es. entry_of s n d ∷ es) (entries_push s cs (suc n) c ∙ ap (λ m. entries_from s (suc n) cs ++ entry_of s m c ∷ []) (omega arith))

-- one entry more, with the next part
pub entries_more : (h h' h'' : List Entry) (s : Stamp) (cs : List Change) (c : Change) (first part : ℕ) → h' ≡ h ++ entries_from s first cs → part ≡ first + length cs → h'' ≡ h' ++ entry_of s part c ∷ []
    → h'' ≡ h ++ entries_from s first (cs ++ c ∷ [])
entries_more h h' h'' s cs c first part before number push = push ∙ rw (before, number, append_assoc) (ap (λ es. h ++ es) (sym (entries_push s cs first c)))

-- one change more is copied as an entry
pub one_copied : (s : Stamp) (cs : List Change) (i : ℕ) (c d : Change) (part : ℕ) (old new : List Entry) → i < length cs → c ≡ get_or cs i c → length (take i cs) ≡ i → part ≡ i → d ≡ c
    → old ≡ entries_from s 0 (take i cs) → new ≡ old ++ entry_of s part d ∷ [] → new ≡ entries_from s 0 (take (i + 1) cs)
one_copied s cs i c d part old new there at upto number same before push =
    let place : part ≡ 0 + length (take i cs) = omega (arith, number, upto) in
    let entry : entry_of s part d ≡ entry_of s (0 + length (take i cs)) c = λ k. entry_of s (place k) (same k) in
    let more : take (i + 1) cs ≡ take i cs ++ c ∷ [] = take_more cs i c there ∙ ap (λ (x : Change). take i cs ++ x ∷ []) (sym at) in
    push ∙ ap (λ (es : List Entry). es ++ entry_of s part d ∷ []) before ∙ ap (λ (e : Entry). entries_from s 0 (take i cs) ++ e ∷ []) entry
    ∙ sym (entries_push s (take i cs) 0 c) ∙ ap (entries_from s 0) (sym more)
