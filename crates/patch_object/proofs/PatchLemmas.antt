-- The keys of a patch, tested one after the other, and the changes that they ask for.
use Rattle.std.proofs.Common.{◌≡◌, ℕ, List, [], ◌∷◌, ◌++◌, ◌||◌, not, Bool, false, Option, Some, None, map, sym, ap, refl, ◌∙◌}
use Rattle.std.proofs.lemmas.List.{map-append}
use Rattle.std.specs.List.{list_any}
use Rattle.spec_json.specs.Data as own
use Rattle.spec_json.specs.Data.{Data, Pair, members_of, object, pairs_of}
use Rattle.spec_json.specs.Patch.{fails, first_failing, has_parent, is_prefix, on_members, patched, placed_all, placed_in, unless_failing}
use Rattle.spec_json.specs.Pointer.{parts}
use Rattle.spec_json.specs.TreeData.{data_of}
use Rattle.patch_object.proofs.ChangeLemmas.{on_on, placed_on}
use Rattle.patch_object.specs.Edits.{change_of, placed_each, pointer_of}
use Rattle.patch_object.specs.Reports.{Reports, ReportsKey}
use Rattle.patch_object.specs.declared.patch.PatchError.{PatchError}
use Rattle.patch_object.specs.declared.patch.PatchError.TheVariants.{InvalidPatch, NoMemory}
use Rattle.patch_object.specs.declared.place.Edit.{Edit}
use Rattle.spec_json.proofs.Booleans.{or_swap}
use Rattle.spec_json.proofs.DataLemmas.{members_forth}

any_more : (f : List (List ℕ) → Bool) (es : List Edit) (e : Edit) → list_any f (map pointer_of (es ++ e ∷ [])) ≡ (f e.pointer || list_any f (map pointer_of es))
any_more f [] e = refl
any_more f (x ∷ xs) e = ap (λ b. f x.pointer || b) (any_more f xs e) ∙ or_swap (f x.pointer) (f e.pointer) (list_any f (map pointer_of xs))

-- a pointer that is added to both lists is a prefix in both
earlier_more : (earlier later : List (List (List ℕ))) (es : List Edit) (e : Edit) → ((ps : List (List ℕ)) → list_any (λ p. is_prefix p ps) earlier ≡ list_any (λ p. is_prefix p ps) (map pointer_of es))
    → ((ps : List (List ℕ)) → list_any (λ p. is_prefix p ps) later ≡ (is_prefix e.pointer ps || list_any (λ p. is_prefix p ps) earlier)) → (ps : List (List ℕ)) → list_any (λ p. is_prefix p ps) later ≡ list_any (λ p. is_prefix p ps) (map pointer_of (es ++ e ∷ []))
earlier_more earlier later es e same added ps = added ps ∙ ap (λ b. is_prefix e.pointer ps || b) (same ps) ∙ sym (any_more (λ p. is_prefix p ps) es e)

fails_alike : (d : Data) (earlier : List (List (List ℕ))) (es : List Edit) (o : Option (List (List ℕ))) → ((ps : List (List ℕ)) → list_any (λ p. is_prefix p ps) earlier ≡ list_any (λ p. is_prefix p ps) (map pointer_of es)) → fails d earlier o ≡ fails d (map pointer_of es) o
fails_alike d earlier es None same = refl
fails_alike d earlier es (Some ps) same = ap (λ b. b || not (has_parent ps d)) (same ps)

-- a key that passes is noted among the earlier ones
passes : (d : Data) (earlier : List (List (List ℕ))) (es : List Edit) (e : Edit) (p : Pair) (rest : List Pair) → ((ps : List (List ℕ)) → list_any (λ q. is_prefix q ps) earlier ≡ list_any (λ q. is_prefix q ps) (map pointer_of es))
    → parts p.0 ≡ Some e.pointer → fails d earlier (Some e.pointer) ≡ false → first_failing d (map pointer_of es) (p ∷ rest) ≡ first_failing d (map pointer_of (es ++ e ∷ [])) rest
passes d earlier es e p rest same read passed =
    let here : fails d (map pointer_of es) (Some e.pointer) ≡ false = sym (fails_alike d earlier es (Some e.pointer) same) ∙ passed in
    rw (read, here, map-append) refl

reports_failing : (error : PatchError) (d : Data) (es : List Edit) (p : Pair) (rest : List Pair) (made : Data) → ReportsKey error p.0 (fails d (map pointer_of es) (parts p.0)) → Reports error (unless_failing (first_failing d (map pointer_of es) (p ∷ rest)) made)
reports_failing (InvalidPatch key) d es p rest made r = rw (r.1, r.0) refl
reports_failing NoMemory d es p rest made r = tt

-- what the test of a key reports is reported of the patch
pub reports : (error : PatchError) (d : Data) (earlier : List (List (List ℕ))) (es : List Edit) (p : Pair) (rest patch : List Pair) → ((ps : List (List ℕ)) → list_any (λ q. is_prefix q ps) earlier ≡ list_any (λ q. is_prefix q ps) (map pointer_of es))
    → first_failing d (map pointer_of es) (p ∷ rest) ≡ first_failing d [] patch → ReportsKey error p.0 (fails d earlier (parts p.0)) → Reports error (patched d patch)
reports error d earlier es p rest patch same failing told =
    rw (← failing) (reports_failing error d es p rest (placed_all d patch) (rw (fails_alike d earlier es (parts p.0) same) at told))

same_on : (f g : List Pair → List Pair) (d : Data) → ((ms : List Pair) → f ms ≡ g ms) → on_members f d ≡ on_members g d
same_on f g own.null h = refl
same_on f g (own.truth b) h = refl
same_on f g (own.whole n) h = refl
same_on f g (own.text s) h = refl
same_on f g (own.list ds) h = refl
same_on f g (object ms) h = ap (λ ps. object (members_of ps)) (h (pairs_of ms))

-- no changes leave the tree
pub placed_none : (d : Data) → on_members (placed_each []) d ≡ d
placed_none own.null = refl
placed_none (own.truth b) = refl
placed_none (own.whole n) = refl
placed_none (own.text s) = refl
placed_none (own.list ds) = refl
placed_none (object ms) = ap object (members_forth ms)

-- one more is made after the others
placed_more : (es : List Edit) (e : Edit) (d : Data) (p : Pair) (rest : List Pair) → parts p.0 ≡ Some e.pointer → p.1 ≡ data_of e.value.now
    → placed_all (on_members (placed_each (map change_of (es ++ e ∷ []))) d) rest ≡ placed_all (on_members (placed_each (map change_of es)) d) (p ∷ rest)
placed_more es e d p rest read value =
    let split = map-append change_of es (e ∷ []) in
    let made : on_members (placed_each (map change_of (es ++ e ∷ []))) d ≡ on_members (λ ms. placed_in e.pointer (data_of e.value.now) ms) (on_members (placed_each (map change_of es)) d) =
    rw split (same_on _ _ d (λ ms. sym (placed_on (map change_of es) (change_of e ∷ []) ms)) ∙ sym (on_on (λ ms. placed_in e.pointer (data_of e.value.now) ms) (placed_each (map change_of es)) d)) in
    rw (read, value) (ap (λ c. placed_all c rest) made)

-- all of it at once, for the next key
pub tested_more : (d : Data) (earlier later : List (List (List ℕ))) (es es' : List Edit) (e : Edit) (p : Pair) (left rest patch : List Pair) → es' ≡ es ++ e ∷ [] → left ≡ p ∷ rest
    → ((ps : List (List ℕ)) → list_any (λ q. is_prefix q ps) earlier ≡ list_any (λ q. is_prefix q ps) (map pointer_of es)) → ((ps : List (List ℕ)) → list_any (λ q. is_prefix q ps) later ≡ (is_prefix e.pointer ps || list_any (λ q. is_prefix q ps) earlier))
    → parts p.0 ≡ Some e.pointer → p.1 ≡ data_of e.value.now → fails d earlier (Some e.pointer) ≡ false
    → first_failing d (map pointer_of es) left ≡ first_failing d [] patch → placed_all (on_members (placed_each (map change_of es)) d) left ≡ placed_all d patch
    → (first_failing d (map pointer_of es') rest ≡ first_failing d [] patch) × ((ps : List (List ℕ)) → list_any (λ q. is_prefix q ps) later ≡ list_any (λ q. is_prefix q ps) (map pointer_of es')) × (placed_all (on_members (placed_each (map change_of es')) d) rest ≡ placed_all d patch)
tested_more d earlier later es es' e p left rest patch pushed next same added read value passed failing placed = (
  ap (λ ds. first_failing d (map pointer_of ds) rest) pushed ∙ sym (passes d earlier es e p rest same read passed) ∙ ap (λ ms. first_failing d (map pointer_of es) ms) (sym next) ∙ failing,
  (λ ps. earlier_more earlier later es e same added ps ∙ ap (λ ds. list_any (λ q. is_prefix q ps) (map pointer_of ds)) (sym pushed)),
  ap (λ ds. placed_all (on_members (placed_each (map change_of ds)) d) rest) pushed ∙ placed_more es e d p rest read value ∙ ap (λ ms. placed_all (on_members (placed_each (map change_of es)) d) ms) (sym next) ∙ placed,
)
