-- The members of an object.
use Rattle.std.proofs.Common.{◌≡◌, ◌∷◌, ◌++◌, ℕ, List, [], map, refl, sym, ap, ◌∙◌, Ordering, Less, Equal, Greater, String, string_bytes, nat_cmp}
use Rattle.std.specs.BTreeMap.{insert_entry}
use Rattle.std.specs.Cmp.Lexicographic.{slice_cmp}
use Rattle.std.specs.Ordering.{is_eq, ordering_reverse}
use Rattle.std.specs.String.{string_cmp}
use Rattle.std.proofs.lemmas.Cmp.{nat_list_cmp_total}
use Rattle.std.proofs.lemmas.List.{map-append}
use Rattle.std.proofs.lemmas.Map.Lookups.{exact_bytes}
use Rattle.std.proofs.lemmas.Map.Text.{is_eq-slice_cmp}
use Rattle.spec_json.specs.Data.{Data, Pair, field, list, lookup, null, object, text, truth, whole}
use Rattle.spec_json.specs.Edit.{put_all, with_pair}
use Rattle.spec_json.specs.Parts.{members_in}
use Rattle.spec_json.specs.TreeData.{data_of, pair_of}
use Rattle.spec_json.specs.declared.tree.Member.{Member}
use Rattle.spec_json.specs.declared.tree.Tree.{Tree}
use Rattle.object_outcomes.specs.Entries.{pair_in}

pub field_is : (k : List ℕ) (d : Data) → field k d ≡ lookup k (members_in d)
field_is k null = refl
field_is k (truth b) = refl
field_is k (whole n) = refl
field_is k (text s) = refl
field_is k (list ds) = refl
field_is k (object ms) = refl

put_push : (ps : List Pair) (p : Pair) (ms : List Pair) → put_all (ps ++ p ∷ []) ms ≡ with_pair p.0 p.1 (put_all ps ms)
put_push [] p ms = refl
put_push (q ∷ ps) p ms = put_push ps p (with_pair q.0 q.1 ms)

-- one member more
pub put_member_push : (done : List Member) (m : Member) → put_all (map pair_of (done ++ m ∷ [])) [] ≡ with_pair m.key (data_of m.value) (put_all (map pair_of done) [])
put_member_push done m = ap (λ ps. put_all ps []) (map-append pair_of done (m ∷ [])) ∙ put_push (map pair_of done) (pair_of m) []

-- the first entry, by how its key stands to the new one
beside_first : {Z : Type 0} (e : String Z × Tree) (es : List (String Z × Tree)) (k : String Z) (t : Tree) (o : Ordering) → slice_cmp nat_cmp (string_bytes k) (string_bytes e.0) ≡ o
    → map pair_in (insert_entry string_cmp es k t) ≡ with_pair (string_bytes k) (data_of t) (map pair_in es)
    → map pair_in (insert_entry string_cmp (e ∷ es) k t) ≡ with_pair (string_bytes k) (data_of t) (map pair_in (e ∷ es))
beside_first e es k t Less h rest =
    let turned = nat_list_cmp_total.antisymm (string_bytes e.0) (string_bytes k) ∙ ap ordering_reverse h in
    rw (h, turned, sym (is_eq-slice_cmp (string_bytes e.0) (string_bytes k)) ∙ ap is_eq turned) refl
beside_first e es k t Equal h rest =
    let turned = nat_list_cmp_total.antisymm (string_bytes e.0) (string_bytes k) ∙ ap ordering_reverse h in
    rw (h, turned, sym (is_eq-slice_cmp (string_bytes e.0) (string_bytes k)) ∙ ap is_eq turned)
    (ap (λ key. (key, data_of t) ∷ map pair_in es) (sym (exact_bytes (string_bytes k) (string_bytes e.0) h)))
beside_first e es k t Greater h rest =
    let turned = nat_list_cmp_total.antisymm (string_bytes e.0) (string_bytes k) ∙ ap ordering_reverse h in
    rw (h, turned) (ap (λ ps. pair_in e ∷ ps) rest)

-- an entry goes into a map where its member is put
pub inserted_pair : {Z : Type 0} (es : List (String Z × Tree)) (k : String Z) (t : Tree) → map pair_in (insert_entry string_cmp es k t) ≡ with_pair (string_bytes k) (data_of t) (map pair_in es)
inserted_pair [] k t = refl
inserted_pair (e ∷ es) k t = beside_first e es k t (slice_cmp nat_cmp (string_bytes k) (string_bytes e.0)) refl (inserted_pair es k t)
