-- The title of an occurrence whose patch names properties alone.
use Rattle.std.proofs.Common.{◌≡◌, ◌∙◌, ◌==◌, ◌++◌, ◌&&◌, ℕ, ◌<◌, List, [], ◌∷◌, Bool, true, false, not, nat_lt, Option, Some, None, IsAscii, map, arith, refl, sym, ap, subst}
use Rattle.std.specs.Prelude.{codes, option_and_then, unwrap_or}
use Rattle.std.specs.List.{list_all, list_any}
use Rattle.std.specs.Str.{bytes_eq}
use Rattle.std.proofs.lemmas.Bool.{and_from, and_parts}
use Rattle.std.proofs.lemmas.Bool.Decides.{nat_tests}
use Rattle.std.proofs.lemmas.List.{append-nil, append_assoc}
use Rattle.std.proofs.lemmas.List.Folds.{list_any-append}
use Rattle.std.proofs.lemmas.Slice.Eq.{bytes_eq-Decides}
use Rattle.std.proofs.lemmas.Str.{chars-IsAscii}
use Rattle.std.proofs.lemmas.Str.Ascii.{IsAscii-cons, IsAscii-nil, encode_ascii}
use Rattle.expanded_query.proofs.TitleLemmas.{lookup_with_other, title_of_members, title_stays}
use Rattle.expanded_query.specs.OwnTitles.{is_plain_name, is_plain, title_by}
use Rattle.spec_json.proofs.EditLemmas.{lookup_below, lookup_with, lookup_without, rises_with, rises_without}
use Rattle.spec_json.specs.Data.{Data, Pair, null, truth, whole, text, list, object, field, lookup, members_of, pairs_back}
use Rattle.spec_json.specs.Edit.{with_pair, without}
use Rattle.spec_json.specs.ObjectKeys.{is_above, keys_rise}
use Rattle.spec_json.specs.Parts.{as_text, members_in}
use Rattle.spec_json.specs.Patch.{first_failing, is_object, is_prefix, placed, placed_all, put_or_removed, unless_failing}
use Rattle.spec_json.specs.TreeData.{pair_of}
use Rattle.spec_json.specs.declared.tree.Member.{Member}
use Rattle.spec_json.specs.Pointer.{parts, parts_from}
use Rattle.spec_queries.specs.Expanded.{title_in}
use Rattle.spec_recurrence.specs.Overrides.{occurrence_in, patch_changes, single}

by_bool : {Q : Type 0} (b : Bool) → (b ≡ true → Q) → (b ≡ false → Q) → Q
by_bool true f g = f refl
by_bool false f g = g refl

-- A name is a pointer of one part.

record IsPlain (b : ℕ) : Type 0 where
  ascii : b < 128
  slash : (b == 47) ≡ false
  tilde : (b == 126) ≡ false

plain_is : (b : ℕ) → is_plain b ≡ true → IsPlain b
plain_is b h =
    let first = and_parts (nat_lt b 128) (not (b == 47) && not (b == 126)) h in
    let second = and_parts (not (b == 47)) (not (b == 126)) first.1 in
    record { ascii = grind (arith, nat_tests, first.0); slash = grind (arith, nat_tests, second.0); tilde = grind (arith, nat_tests, second.1) }

all_ascii : (bs : List ℕ) → is_plain_name bs ≡ true → IsAscii bs
all_ascii [] h = IsAscii-nil
all_ascii (b ∷ bs) h = let p = and_parts (is_plain b) (is_plain_name bs) h in IsAscii-cons b bs (plain_is b p.0).ascii (all_ascii bs p.1)

spelled : (part bs : List ℕ) → is_plain_name bs ≡ true → parts_from part bs ≡ Some ((part ++ bs) ∷ [])
spelled part [] h = ap (λ q. Some (q ∷ [])) (sym (append-nil part))
spelled part (b ∷ bs) h =
    let p = and_parts (is_plain b) (is_plain_name bs) h in
    let plain = plain_is b p.0 in
    rw (plain.slash, plain.tilde, encode_ascii b plain.ascii) (spelled (part ++ b ∷ []) bs p.1 ∙ ap (λ q. Some (q ∷ [])) (append_assoc part (b ∷ []) bs))

one_part : (key : List ℕ) → is_plain_name key ≡ true → parts key ≡ Some (key ∷ [])
one_part key h = ap (parts_from []) (chars-IsAscii key (all_ascii key h)) ∙ spelled [] key h

abbrev are_names : List Pair → Bool
are_names patch = list_all (λ p. is_plain_name p.0) patch

-- No name of a patch fails.

abbrev is_free : List (List (List ℕ)) → List Pair → Bool
is_free earlier ps = list_all (λ p. not (list_any (λ e. is_prefix e (p.0 ∷ [])) earlier)) ps

absent_parts : (k : List ℕ) (p : Pair) (ps : List Pair) → lookup k (p ∷ ps) ≡ None → (bytes_eq p.0 k ≡ false) × (lookup k ps ≡ None)
absent_parts k p ps h = by_bool (bytes_eq p.0 k) (λ e. let no = rw e at h in absurd (cc no)) (λ e. (e, rw e at h))

unlike_back : (j k : List ℕ) → bytes_eq j k ≡ false → bytes_eq k j ≡ false
unlike_back j k h = by_bool (bytes_eq k j) (λ e. let same = (bytes_eq-Decides k j).0 e in let no = (bytes_eq-Decides j k).1 (sym same) in absurd (cc (no, h))) (λ e. e)

free_more : (earlier : List (List (List ℕ))) (k : List ℕ) (ps : List Pair) → is_free earlier ps ≡ true → lookup k ps ≡ None → is_free (earlier ++ (k ∷ []) ∷ []) ps ≡ true
free_more earlier k [] h none = refl
free_more earlier k (p ∷ ps) h none =
    let free = and_parts (not (list_any (λ e. is_prefix e (p.0 ∷ [])) earlier)) (is_free earlier ps) h in
    let other = absent_parts k p ps none in
    rw (list_any-append (λ e. is_prefix e (p.0 ∷ [])) earlier ((k ∷ []) ∷ []), unlike_back p.0 k other.0)
    (by_bool (list_any (λ e. is_prefix e (p.0 ∷ [])) earlier)
    (λ e. let no = rw e at free.0 in absurd (cc no))
    (λ e. rw e (free_more earlier k ps free.1 other.1)))

all_free : (ps : List Pair) → is_free [] ps ≡ true
all_free [] = refl
all_free (p ∷ ps) = all_free ps

none_fails : (d : Data) (earlier : List (List (List ℕ))) (ps : List Pair) → is_object d ≡ true → are_names ps ≡ true → keys_rise ps ≡ true → is_free earlier ps ≡ true → first_failing d earlier ps ≡ None
none_fails d earlier [] o names rise free = refl
none_fails d earlier (p ∷ ps) o names rise free =
    let name = and_parts (is_plain_name p.0) (are_names ps) names in
    let up = and_parts (is_above p.0 ps) (keys_rise ps) rise in
    let first = and_parts (not (list_any (λ e. is_prefix e (p.0 ∷ [])) earlier)) (is_free earlier ps) free in
    by_bool (list_any (λ e. is_prefix e (p.0 ∷ [])) earlier)
    (λ e. let no = rw e at first.0 in absurd (cc no))
    (λ e.
    rw (one_part p.0 name.0, e, o)
    (none_fails d (earlier ++ (p.0 ∷ []) ∷ []) ps o name.1 up.1 (free_more earlier p.0 ps first.1 (lookup_below p.0 ps up.0 up.1))))

-- What stands at `title` behind it.

abbrev title : List ℕ
title = codes "title"

abbrev text_of : Option Data → List ℕ
text_of found = unwrap_or (option_and_then as_text found) []

abbrev told : Option Data → Option Data → List ℕ
told None old = text_of old
told (Some v) old = unwrap_or (as_text v) []

taken : (k : List ℕ) (ps : List Pair) → keys_rise ps ≡ true → lookup k (without k ps) ≡ None
taken k [] rise = refl
taken k (p ∷ ps) rise =
    let up = and_parts (is_above p.0 ps) (keys_rise ps) rise in
    by_bool (bytes_eq p.0 k)
    (λ e. rw e (lookup_below k ps (subst (λ j. is_above j ps ≡ true) ((bytes_eq-Decides p.0 k).0 e) up.0) up.1))
    (λ e. rw (e, e) (taken k ps up.1))

put_other : (k : List ℕ) (v : Data) (ms : List Pair) → bytes_eq k title ≡ false → lookup title (put_or_removed k v ms) ≡ lookup title ms
put_other k null ms h = lookup_without k title ms h
put_other k (truth b) ms h = lookup_with_other k title (truth b) ms h
put_other k (whole z) ms h = lookup_with_other k title (whole z) ms h
put_other k (text s) ms h = lookup_with_other k title (text s) ms h
put_other k (list ds) ms h = lookup_with_other k title (list ds) ms h
put_other k (object os) ms h = lookup_with_other k title (object os) ms h

put_title : (v : Data) (ms : List Pair) → keys_rise ms ≡ true → text_of (lookup title (put_or_removed title v ms)) ≡ unwrap_or (as_text v) []
put_title null ms rise = ap text_of (taken title ms rise)
put_title (truth b) ms rise = ap text_of (lookup_with title (truth b) ms)
put_title (whole z) ms rise = ap text_of (lookup_with title (whole z) ms)
put_title (text s) ms rise = ap text_of (lookup_with title (text s) ms)
put_title (list ds) ms rise = ap text_of (lookup_with title (list ds) ms)
put_title (object os) ms rise = ap text_of (lookup_with title (object os) ms)

put_rises : (k : List ℕ) (v : Data) (ms : List Pair) → keys_rise ms ≡ true → keys_rise (put_or_removed k v ms) ≡ true
put_rises k null ms h = rises_without k ms h
put_rises k (truth b) ms h = rises_with k (truth b) ms h
put_rises k (whole z) ms h = rises_with k (whole z) ms h
put_rises k (text s) ms h = rises_with k (text s) ms h
put_rises k (list ds) ms h = rises_with k (list ds) ms h
put_rises k (object os) ms h = rises_with k (object os) ms h

object_of : List Pair → Data
object_of ms = object (members_of ms)

placed_name : (p : Pair) (ms : List Pair) → is_plain_name p.0 ≡ true → placed (parts p.0) p.1 (object_of ms) ≡ object_of (put_or_removed p.0 p.1 ms)
unfolding object_of
placed_name p ms name = rw (one_part p.0 name) (ap (λ ns. object (members_of (put_or_removed p.0 p.1 ns))) (pairs_back ms))

title_placed : (ms ps : List Pair) → keys_rise ms ≡ true → keys_rise ps ≡ true → are_names ps ≡ true → text_of (field title (placed_all (object_of ms) ps)) ≡ told (lookup title ps) (lookup title ms)
unfolding object_of
title_placed ms [] up rise names = ap (λ ns. text_of (lookup title ns)) (pairs_back ms)
title_placed ms (p ∷ ps) up rise names =
    let above = and_parts (is_above p.0 ps) (keys_rise ps) rise in
    let name = and_parts (is_plain_name p.0) (are_names ps) names in
    let next = put_or_removed p.0 p.1 ms in
    ap (λ d. text_of (field title (placed_all d ps))) (placed_name p ms name.0)
    ∙ title_placed next ps (put_rises p.0 p.1 ms up) above.1 name.1
    ∙ by_bool (bytes_eq p.0 title)
    (λ e.
    let same : p.0 ≡ title = (bytes_eq-Decides p.0 title).0 e in
    let none : lookup title ps ≡ None = subst (λ k. lookup k ps ≡ None) same (lookup_below p.0 ps above.0 above.1) in
    rw (e, none) (ap (λ k. text_of (lookup title (put_or_removed k p.1 ms))) same ∙ put_title p.1 ms up))
    (λ e. rw e (ap (told (lookup title ps)) (put_other p.0 p.1 ms e)))

-- `excluded` is none of what is changed.

names_without : (k : List ℕ) (ps : List Pair) → are_names ps ≡ true → are_names (without k ps) ≡ true
names_without k [] h = refl
names_without k (p ∷ ps) h =
    let name = and_parts (is_plain_name p.0) (are_names ps) h in
    by_bool (bytes_eq p.0 k) (λ e. rw e name.1) (λ e. rw e (and_from (is_plain_name p.0) (are_names (without k ps)) name.0 (names_without k ps name.1)))

told_is : (found : Option Data) (event : Data) → told found (lookup title (members_in event)) ≡ title_by found event
told_is None event = ap text_of (title_of_members event)
told_is (Some v) event = refl

named_title : (event : Data) (key : List ℕ) (patch : List Pair) → keys_rise (members_in event) ≡ true → keys_rise patch ≡ true → are_names patch ≡ true
    → title_by (lookup (codes "title") patch) event ≡ title_in (occurrence_in (members_in event) key patch)
unfolding object_of
named_title event key patch up rise names =
    let alone = single (members_in event) in
    let first : keys_rise alone ≡ true = rises_without (codes "recurrenceOverrides") (without (codes "recurrenceRules") (members_in event)) (rises_without (codes "recurrenceRules") (members_in event) up) in
    let moved = with_pair (codes "start") (text key) alone in
    let start : keys_rise moved ≡ true = rises_with (codes "start") (text key) alone first in
    let changes = patch_changes patch in
    let behind : keys_rise changes ≡ true = rises_without (codes "excluded") patch rise in
    let all : are_names changes ≡ true = names_without (codes "excluded") patch names in
    let old : lookup title moved ≡ lookup title (members_in event) = ap (lookup title) (sym (pairs_back moved)) ∙ title_stays key (members_in event) in
    sym (ap (λ failing. title_in (unless_failing failing (placed_all (object_of moved) changes))) (none_fails (object_of moved) [] changes refl all behind (all_free changes))
    ∙ title_placed moved changes start behind all
    ∙ (λ i. told (lookup_without (codes "excluded") title patch refl i) (old i))
    ∙ told_is (lookup title patch) event)

all_names : (members : List Member) → list_all (λ member. is_plain_name member.key) members ≡ are_names (map pair_of members)
all_names [] = refl
all_names (m ∷ members) = ap (λ b. is_plain_name m.key && b) (all_names members)

-- the same of the members of an object
pub title_by_names : (event : Data) (key : List ℕ) (members : List Member) (patch : List Pair) → keys_rise (members_in event) ≡ true → keys_rise patch ≡ true → map pair_of members ≡ patch
    → list_all (λ member. is_plain_name member.key) members ≡ true → title_by (lookup (codes "title") patch) event ≡ title_in (occurrence_in (members_in event) key patch)
title_by_names event key members patch up rise are names = named_title event key patch up rise (ap are_names (sym are) ∙ sym (all_names members) ∙ names)
