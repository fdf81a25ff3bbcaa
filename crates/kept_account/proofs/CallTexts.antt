-- The texts of the entries that the changes of a call become.
use Rattle.std.proofs.Common.{◌≡◌, ◌≤◌, ◌<◌, ◌+◌, ◌^◌, ◌++◌, ◌∷◌, ◌∙◌, [], ℕ, suc, List, None, Result, Ok, Err, OnOk, ap, arith, drop, get_or, length, length-append, map, subst, sym, take, refl}
use Rattle.std.proofs.lemmas.List.{take_more}
use Rattle.std.proofs.lemmas.List.Elements.{All-from_recursion, All-head, All-tail}
use Rattle.std.specs.List.{AllByRecursion as ByRecursion}
use Rattle.std.specs.Prelude.{All}
use Rattle.account_core.proofs.Committing.{changes_committed, entries_push}
use Rattle.cal_model.specs.Answer.{entries_from, entry_of}
use Rattle.account_core.specs.Staged.{MayBeKept}
use Rattle.cal_model.specs.Sound.{first_unsound}
use Rattle.journal_keeper.proofs.ManyTexts.{labelled_more, written_more}
use Rattle.journal_keeper.specs.EntryText.{IsEntryText, IsKeepable, entry_text}
use Rattle.journal_keeper.specs.Journals.{AreEntriesOf, AreKeepable, Labelled, labelled}
use Rattle.kept_account.proofs.Keepables.{keepable_all, live_numbers}
use Rattle.kept_account.specs.Values.{IsChangeValue, IsEntryValue}
use Rattle.spec_history.specs.History.{changes_of}
use Rattle.spec_history.specs.MostTurns.{most_turns}
use Rattle.spec_history.specs.declared.entry.Change.{Change}
use Rattle.spec_history.specs.declared.entry.Entry.{Entry}
use Rattle.spec_history.specs.declared.stamp.Stamp.{Stamp}
use Rattle.spec_snapshots.proofs.NumberedPast.{parts_numbered}
use Rattle.spec_site.specs.TimeZones.{ZoneText}
use Rattle.spec_time.specs.Moments.{IsMoment}

-- ---- a loop over the changes

-- the entries of the changes so far, with the next
so_far : (stamp : Stamp) (cs : List Change) (i : ℕ) (c : Change) → i < length cs → c ≡ get_or cs i c → length (take i cs) ≡ i → entries_from stamp 0 (take (i + 1) cs) ≡ entries_from stamp 0 (take i cs) ++ entry_of stamp i c ∷ []
so_far stamp cs i c there at upto =
    let part : 0 + length (take i cs) ≡ i = omega (arith, upto) in
    ap (entries_from stamp 0) (take_more cs i c there ∙ ap (λ (x : Change). take i cs ++ x ∷ []) (sym at)) ∙ entries_push stamp (take i cs) 0 c
    ∙ ap (λ (n : ℕ). entries_from stamp 0 (take i cs) ++ entry_of stamp n c ∷ []) part

pub upto_step : (cs : List Change) (i : ℕ) (c : Change) → i < length cs → length (take i cs) ≡ i → length (take (i + 1) cs) ≡ i + 1
upto_step cs i c there upto =
    let more = ap length (take_more cs i c there) in
    let count = length-append (take i cs) (get_or cs i c ∷ []) in
    omega (arith, more, count, upto)

pub texts_step : (account : List ℕ) (stamp : Stamp) (cs : List Change) (i : ℕ) (c : Change) (old new : List Labelled) (text : List ℕ) → i < length cs → c ≡ get_or cs i c → length (take i cs) ≡ i
    → old ≡ labelled account (entries_from stamp 0 (take i cs)) → new ≡ old ++ (account, text) ∷ [] → text ≡ entry_text (entry_of stamp i c) → new ≡ labelled account (entries_from stamp 0 (take (i + 1) cs))
texts_step account stamp cs i c old new text there at upto before push is =
    push ∙ (λ k. before k ++ (account, is k) ∷ []) ∙ sym (labelled_more account (entries_from stamp 0 (take i cs)) (entry_of stamp i c)) ∙ ap (labelled account) (sym (so_far stamp cs i c there at upto))

pub back_step : (stamp : Stamp) (cs : List Change) (i : ℕ) (c : Change) → i < length cs → c ≡ get_or cs i c → length (take i cs) ≡ i
    → (AreKeepable (entries_from stamp 0 (take i cs)) → AreEntriesOf (entries_from stamp 0 (take i cs)) (map entry_text (entries_from stamp 0 (take i cs))))
    → (IsKeepable (entry_of stamp i c) → IsEntryText (entry_of stamp i c) (entry_text (entry_of stamp i c)))
    → AreKeepable (entries_from stamp 0 (take (i + 1) cs)) → AreEntriesOf (entries_from stamp 0 (take (i + 1) cs)) (map entry_text (entries_from stamp 0 (take (i + 1) cs)))
back_step stamp cs i c there at upto all one =
    subst (λ (es : List Entry). AreKeepable es → AreEntriesOf es (map entry_text es)) (sym (so_far stamp cs i c there at upto)) (written_more (entries_from stamp 0 (take i cs)) (entry_of stamp i c) all one)

-- ---- they have texts

values_from : (stamp : Stamp) (n : ℕ) (cs : List Change) → stamp.author < 2 ^ 32 → IsMoment stamp.moment → n + length cs ≤ 2 ^ 32 → All IsChangeValue cs → ByRecursion IsEntryValue (entries_from stamp n cs)
values_from stamp n [] author moment few values = tt
values_from stamp n (c ∷ cs) author moment few values = (
  record { author = author; part = omega (arith, few); moment = moment; fit = All-head IsChangeValue c cs values },
  values_from stamp (suc n) cs author moment (omega (arith, few)) (All-tail IsChangeValue c cs values),
)

turns_from : (stamp : Stamp) (n : ℕ) (cs : List Change) → stamp.turn ≤ most_turns → ByRecursion (λ (e : Entry). e.turn ≤ most_turns) (entries_from stamp n cs)
turns_from stamp n [] few = tt
turns_from stamp n (c ∷ cs) few = (few, turns_from stamp (suc n) cs few)

-- the entries of changes that may be kept behind a history have texts
pub keepable_call : (zones : List ZoneText) (h : List Entry) (stamp : Stamp) (cs : List Change) → MayBeKept zones h cs → stamp.author < 2 ^ 32 → IsMoment stamp.moment → stamp.turn ≤ most_turns
    → length cs ≤ 2 ^ 32 → All IsChangeValue cs → AreKeepable (entries_from stamp 0 cs)
keepable_call zones h stamp cs may author moment turn few values =
    let es : List Entry = entries_from stamp 0 cs in
    let sound : first_unsound zones (changes_of h) (changes_of es) ≡ None = ap (first_unsound zones (changes_of h)) (changes_committed [] es stamp 0 cs refl) ∙ may.sound in
    keepable_all zones (changes_of h) es (live_numbers (changes_of h) (parts_numbered [] (changes_of h) cs may.goes_on.numbered).0) sound
    (All-from_recursion IsEntryValue es (values_from stamp 0 cs author moment (omega (arith, few)) values))
    (All-from_recursion (λ (e : Entry). e.turn ≤ most_turns) es (turns_from stamp 0 cs turn))

pub still_ok : {T E P Q : Type 0} (r : Result T E) → (P → Q) → OnOk r P → OnOk r Q
still_ok (Ok x) so p = so p
still_ok (Err e) so p = tt
