-- Titles of occurrences that no override names.
use Rattle.std.proofs.Common.{◌≡◌, ◌∙◌, ℕ, List, [], ◌∷◌, Bool, true, false, Some, None, refl, sym, ap}
use Rattle.std.specs.Prelude.{codes, unwrap_or, option_and_then}
use Rattle.std.specs.Cmp.Lexicographic.{slice_cmp}
use Rattle.std.specs.Ordering.{nat_cmp, is_lt}
use Rattle.std.specs.Str.{bytes_eq}
use Rattle.std.proofs.lemmas.Slice.Eq.{bytes_eq-Decides}
use Rattle.spec_json.proofs.EditLemmas.{lookup_without}
use Rattle.spec_json.specs.Data.{Data, Pair, null, truth, whole, text, list, object, field, lookup, members_of, pairs_back, pairs_of}
use Rattle.spec_json.specs.Edit.{with_pair, without}
use Rattle.spec_json.specs.Parts.{as_text, members_in}
use Rattle.spec_queries.specs.Expanded.{title_at, title_in}
use Rattle.spec_queries.specs.Items.{text_or_empty}
use Rattle.spec_recurrence.specs.Overrides.{occurrence_in, single}
use Rattle.spec_recurrence.specs.Recurrence.{override_at}

-- a member that is put in leaves the values of other keys
other_put : (j k : List ℕ) (v : Data) (p : Pair) (ps : List Pair) → bytes_eq j k ≡ false → lookup k (with_pair j v ps) ≡ lookup k ps → (below same : Bool) → is_lt (slice_cmp nat_cmp p.0 j) ≡ below → bytes_eq p.0 j ≡ same
    → lookup k (with_pair j v (p ∷ ps)) ≡ lookup k (p ∷ ps)
other_put j k v p ps h e true same b s = rw (b, e) refl
other_put j k v p ps h e false true b s =
    let unlike : bytes_eq p.0 k ≡ false = ap (λ i. bytes_eq i k) ((bytes_eq-Decides p.0 j).0 s) ∙ h in rw (b, s, h, unlike) refl
other_put j k v p ps h e false false b s = rw (b, s, h) refl

pub lookup_with_other : (j k : List ℕ) (v : Data) (ps : List Pair) → bytes_eq j k ≡ false → lookup k (with_pair j v ps) ≡ lookup k ps
lookup_with_other j k v [] h = rw h refl
lookup_with_other j k v (p ∷ ps) h = other_put j k v p ps h (lookup_with_other j k v ps h) (is_lt (slice_cmp nat_cmp p.0 j)) (bytes_eq p.0 j) refl refl

-- what stands at `title` stays
pub title_stays : (key : List ℕ) (ms : List Pair) → lookup (codes "title") (pairs_of (members_of (with_pair (codes "start") (text key) (single ms)))) ≡ lookup (codes "title") ms
title_stays key ms =
    ap (lookup (codes "title")) (pairs_back (with_pair (codes "start") (text key) (single ms)))
    ∙ lookup_with_other (codes "start") (codes "title") (text key) (single ms) refl
    ∙ lookup_without (codes "recurrenceOverrides") (codes "title") (without (codes "recurrenceRules") ms) refl
    ∙ lookup_without (codes "recurrenceRules") (codes "title") ms refl

pub title_of_members : (d : Data) → lookup (codes "title") (members_in d) ≡ field (codes "title") d
title_of_members null = refl
title_of_members (truth b) = refl
title_of_members (whole n) = refl
title_of_members (text s) = refl
title_of_members (list ds) = refl
title_of_members (object ms) = refl

-- without an override it is that of the event
pub own_title : (key : List ℕ) (d : Data) → None ≡ override_at key d → text_or_empty (codes "title") d ≡ title_at key d
unfolding title_at
own_title key d h =
    ap (λ v. unwrap_or (option_and_then as_text v) []) (sym (title_of_members d) ∙ sym (title_stays key (members_in d)))
    ∙ ap (λ o. title_in (occurrence_in (members_in d) key (unwrap_or o []))) h

-- with one it is that of the object that its patch makes
pub title_patched : (key : List ℕ) (d : Data) (patch : List Pair) → Some patch ≡ override_at key d → title_in (occurrence_in (members_in d) key patch) ≡ title_at key d
unfolding title_at
title_patched key d patch h = ap (λ o. title_in (occurrence_in (members_in d) key (unwrap_or o []))) h
