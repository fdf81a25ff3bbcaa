-- A text is that of one entry alone.
use Rattle.std.proofs.Common.{◌≡◌, ◌∙◌, ℕ, ℤ, List, [], ◌∷◌, Option, Some, None, ap, refl, subst, sym}
use Rattle.std.proofs.lemmas.Option.{same_Some}
use Rattle.journal_keeper.proofs.Finding.{author_found, id_found, kind_found, moment_found, object_found, part_found, turn_found}
use Rattle.spec_json.proofs.TreeBack.{same_tree}
use Rattle.journal_keeper.specs.EntryText.{IsEntryText, IsKeepable, IsObjectTree, entry_data, object_data}
use Rattle.journal_keeper.specs.Journals.{AreEntriesOf}
use Rattle.spec_history.specs.declared.entry.Entry.{Entry}
use Rattle.spec_history.specs.declared.entry.Kind.{Kind}
use Rattle.spec_json.specs.Data.{Data, null}
use Rattle.spec_json.specs.Json.{Reading, not_json, not_whole, value}
use Rattle.spec_json.specs.TreeData.{data_of}
use Rattle.spec_json.specs.declared.tree.Tree.{Tree}
use Rattle.spec_json.specs.declared.tree.Tree.TheVariants.{Null}

abbrev data_in : Reading → Data
data_in not_json = null
data_in not_whole = null
data_in (value d) = d

not_object : (t : Tree) → IsObjectTree (Some t) → null ≡ data_of t → ⊥
not_object t h is = subst (λ (u : Tree). IsObjectTree (Some u)) (same_tree t Null (sym is)) h

same_object : (o p : Option Tree) → IsObjectTree o → IsObjectTree p → object_data o ≡ object_data p → o ≡ p
same_object None None h k is = refl
same_object (Some t) (Some u) h k is = ap Some (same_tree t u is)
same_object None (Some u) h k is = absurd (not_object u k is)
same_object (Some t) None h k is = absurd (not_object t h (sym is))

abbrev entry_from : ℕ → ℕ → ℕ → ℤ → Kind → ℕ → Option Tree → Entry
entry_from author turn part moment kind id object = record { author = author; turn = turn; part = part; moment = moment; change = record { kind = kind; id = id; object = object } }

same_parts : (e f : Entry) → e.author ≡ f.author → e.turn ≡ f.turn → e.part ≡ f.part → e.moment ≡ f.moment → e.change.kind ≡ f.change.kind → e.change.id ≡ f.change.id → e.change.object ≡ f.change.object → e ≡ f
same_parts e f author turn part moment kind id object =
    ap (λ x. entry_from x e.turn e.part e.moment e.change.kind e.change.id e.change.object) author
    ∙ (ap (λ x. entry_from f.author x e.part e.moment e.change.kind e.change.id e.change.object) turn
    ∙ (ap (λ x. entry_from f.author f.turn x e.moment e.change.kind e.change.id e.change.object) part
    ∙ (ap (λ x. entry_from f.author f.turn f.part x e.change.kind e.change.id e.change.object) moment
    ∙ (ap (λ x. entry_from f.author f.turn f.part f.moment x e.change.id e.change.object) kind
    ∙ (ap (λ x. entry_from f.author f.turn f.part f.moment f.change.kind x e.change.object) id
    ∙ ap (λ x. entry_from f.author f.turn f.part f.moment f.change.kind f.change.id x) object)))))

-- entries of one object are one
same_entry : (d : Data) (e f : Entry) → IsKeepable e → IsKeepable f → d ≡ entry_data e → d ≡ entry_data f → e ≡ f
same_entry d e f k l is also =
    same_parts e f
    (same_Some e.author f.author (sym (author_found d e k is) ∙ author_found d f l also))
    (same_Some e.turn f.turn (sym (turn_found d e k is) ∙ turn_found d f l also))
    (same_Some e.part f.part (sym (part_found d e k is) ∙ part_found d f l also))
    (same_Some e.moment f.moment (sym (moment_found d e is) ∙ moment_found d f also))
    (same_Some e.change.kind f.change.kind (sym (kind_found d e is) ∙ kind_found d f also))
    (same_Some e.change.id f.change.id (sym (id_found d e k is) ∙ id_found d f l also))
    (same_object e.change.object f.change.object k.object l.object
    (same_Some (object_data e.change.object) (object_data f.change.object) (sym (object_found d e is) ∙ object_found d f also)))

pub one_entry : (e f : Entry) (bytes : List ℕ) → IsEntryText e bytes → IsEntryText f bytes → e ≡ f
one_entry e f bytes is also =
    same_entry (entry_data e) e f is.keepable also.keepable refl (ap data_in (sym is.reads ∙ also.reads))

pub one_list : (es fs : List Entry) (ts : List (List ℕ)) → AreEntriesOf es ts → AreEntriesOf fs ts → es ≡ fs
one_list [] [] ts is also = refl
one_list (e ∷ es) (f ∷ fs) (t ∷ ts) is also = ap (λ x. x ∷ es) (one_entry e f t is.0 also.0) ∙ ap (λ l. f ∷ l) (one_list es fs ts is.1 also.1)
one_list (e ∷ es) (f ∷ fs) [] is also = absurd is
one_list [] (f ∷ fs) [] is also = absurd also
one_list [] (f ∷ fs) (t ∷ ts) is also = absurd is
one_list (e ∷ es) [] [] is also = absurd is
one_list (e ∷ es) [] (t ∷ ts) is also = absurd also
