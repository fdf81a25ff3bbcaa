-- What is found in the object of an entry.
use Rattle.std.proofs.Common.{◌≡◌, ◌≢◌, ◌≤◌, List, ◌∙◌, ℕ, pos, cond, Option, Some, None, codes, ap, sym, refl, subst, arith, le-leb}
use Rattle.journal_keeper.specs.EntryParts.{kind_in, most_id, most_u32, small, small_at}
use Rattle.journal_keeper.specs.EntryText.{IsKeepable, IsNoEntryText, IsObjectTree, entry_data, entry_text, object_data}
use Rattle.spec_json.proofs.TreeBack.{same_tree}
use Rattle.spec_json.specs.Json.{reading, value}
use Rattle.spec_json.specs.TreeData.{data_of}
use Rattle.spec_json.specs.declared.tree.Tree.{Tree}
use Rattle.spec_json.specs.declared.tree.Tree.TheVariants.{Null, Truth, Whole, Text, List as Listed, Object}
use Rattle.spec_history.specs.MostTurns.{most_turns}
use Rattle.spec_history.specs.declared.entry.Entry.{Entry}
use Rattle.spec_history.specs.declared.entry.Kind.{Kind}
use Rattle.spec_history.specs.declared.entry.Kind.TheVariants.{Calendar, Event}
use Rattle.spec_json.specs.Data.{Data, Pair, field}
use Rattle.spec_json.specs.Parts.{number_at}

small_enough : (most n : ℕ) → n ≤ most → small most (pos n) ≡ Some n
small_enough most n h = ap (λ b. cond b (Some n) None) (le-leb n most h)

pub author_found : (d : Data) (e : Entry) → IsKeepable e → d ≡ entry_data e → small_at most_u32 (codes "author") d ≡ Some e.author
author_found d e k is = ap (small_at most_u32 (codes "author")) is ∙ small_enough most_u32 e.author (let h = k.author in omega arith)

pub id_found : (d : Data) (e : Entry) → IsKeepable e → d ≡ entry_data e → small_at most_id (codes "id") d ≡ Some e.change.id
id_found d e k is = ap (small_at most_id (codes "id")) is ∙ small_enough most_id e.change.id (let h = k.id in omega arith)

pub part_found : (d : Data) (e : Entry) → IsKeepable e → d ≡ entry_data e → small_at most_u32 (codes "part") d ≡ Some e.part
part_found d e k is = ap (small_at most_u32 (codes "part")) is ∙ small_enough most_u32 e.part (let h = k.part in omega arith)

pub turn_found : (d : Data) (e : Entry) → IsKeepable e → d ≡ entry_data e → small_at most_turns (codes "turn") d ≡ Some e.turn
turn_found d e k is = ap (small_at most_turns (codes "turn")) is ∙ small_enough most_turns e.turn (let h = k.turn in omega arith)

kind_back : (k : Kind) (e : Entry) → e.change.kind ≡ k → kind_in (entry_data e) ≡ Some k
kind_back Calendar e is = rw is refl
kind_back Event e is = rw is refl

pub kind_found : (d : Data) (e : Entry) → d ≡ entry_data e → kind_in d ≡ Some e.change.kind
kind_found d e is = ap kind_in is ∙ kind_back e.change.kind e refl

pub moment_found : (d : Data) (e : Entry) → d ≡ entry_data e → number_at (codes "moment") d ≡ Some e.moment
moment_found d e is = ap (number_at (codes "moment")) is

pub object_found : (d : Data) (e : Entry) → d ≡ entry_data e → field (codes "object") d ≡ Some (object_data e.change.object)
object_found d e is = ap (field (codes "object")) is

-- what is told as null is no object
pub null_back : (o : Option Tree) → IsObjectTree o → data_of Null ≡ object_data o → o ≡ None
null_back None h is = refl
null_back (Some t) h is = absurd (subst (λ (u : Tree). IsObjectTree (Some u)) (same_tree t Null (sym is)) h)

-- and what is told as an object is it
pub object_back : (ms : List Pair) (o : Option Tree) → data_of (Object ms) ≡ object_data o → o ≡ Some (Object ms)
object_back ms None is = cc
object_back ms (Some t) is = ap Some (same_tree t (Object ms) (sym is))

-- nothing else is told of an entry's object
pub no_other : (t : Tree) (o : Option Tree) → IsObjectTree o → data_of t ≡ object_data o → t ≢ Null → ((ms : List Pair) → t ≢ Object ms) → ⊥
no_other t None h is not_null not_object = not_null (same_tree t Null is)
no_other t (Some (Object ms)) h is not_null not_object = not_object ms (same_tree t (Object ms) is)
no_other t (Some Null) h is not_null not_object = absurd h
no_other t (Some (Truth b)) h is not_null not_object = absurd h
no_other t (Some (Whole n)) h is not_null not_object = absurd h
no_other t (Some (Text s)) h is not_null not_object = absurd h
no_other t (Some (Listed ds)) h is not_null not_object = absurd h

-- ---- bytes that are no entry's text

pub no_entry_unread : (bytes : List ℕ) → ((d : Data) → reading bytes ≢ value d) → IsNoEntryText bytes
no_entry_unread bytes unread e is = unread (entry_data e) is.reads

pub no_entry_missing : (bytes : List ℕ) (d : Data) (r : Option Entry) → reading bytes ≡ value d → ((e : Entry) → IsKeepable e → d ≡ entry_data e → r ≡ Some e) → r ≡ None → IsNoEntryText bytes
no_entry_missing bytes d r reads found none e is =
    let both : value d ≡ value (entry_data e) = sym reads ∙ is.reads in
    let same : d ≡ entry_data e = cc in
    let some : r ≡ Some e = found e is.keepable same in
    cc

pub no_entry_other : (bytes text : List ℕ) (d : Data) (entry : Entry) → reading bytes ≡ value d → ((e : Entry) → IsKeepable e → d ≡ entry_data e → Some entry ≡ Some e) → text ≡ entry_text entry → text ≢ bytes → IsNoEntryText bytes
no_entry_other bytes text d entry reads found is_text other e is =
    let both : value d ≡ value (entry_data e) = sym reads ∙ is.reads in
    let same : d ≡ entry_data e = cc in
    let some : Some entry ≡ Some e = found e is.keepable same in
    let entry_is : entry ≡ e = cc in
    other (is_text ∙ (ap entry_text entry_is ∙ sym is.text))
