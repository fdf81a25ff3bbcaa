-- What a client holds after pages, and what states show.
use Rattle.std.proofs.Common.{◌≡◌, ◌≤◌, ◌<◌, ◌+◌, ◌-◌, ◌==◌, ◌&&◌, ◌||◌, not, ℕ, List, [], ◌∷◌, Bool, true, false, cond, Option, Some, None, length, map, filter, fold, get_or, take, is_some, option_and_then, arith, refl, sym, ap, ◌∙◌, le-leb}
use Rattle.std.proofs.lemmas.List.{length-map, take_all}
use Rattle.std.proofs.lemmas.List.Sums.{length-filter}
use Rattle.spec_history.proofs.IdLemmas.{is_in-filter}
use Rattle.spec_history.specs.History.{is_kind, names, object_from, live_object, ids_from, ids_at, count_of_kind, with_id}
use Rattle.spec_history.specs.Pages.{Mention, mention_of, mentions, is_live, is_touched, is_created, is_updated, is_destroyed, is_in, ids_of, last, created, updated, destroyed, is_within, page_end, size_of_page}
use Rattle.spec_history.specs.PagesLead.{AreApart, held_after, held_after_all, last_state}
use Rattle.spec_history.specs.declared.entry.Change.{Change}
use Rattle.spec_history.specs.declared.entry.Kind.{Kind}
use Rattle.spec_json.specs.declared.tree.Tree.{Tree}
use Rattle.object_log.proofs.EndLemmas.{greatest-le, greatest_is, greatest_passes}
use Rattle.object_log.proofs.MentionLemmas.{is_live_unnamed, is_named, live_from, live_from-cons}
use Rattle.object_log.proofs.IdLemmas.{ids_folded}
use Rattle.object_log.proofs.SizeLemmas.{is_in-ids_of, one_if-le, size_of_page_more, size_of_page_none}
use Rattle.object_log.specs.Standing.{is_listed, standing}
use Rattle.spec_json.proofs.Booleans.{eqb_sym}

named_only : (named passes : Bool) → (named ≡ false → passes ≡ false) → (named && passes) ≡ passes
named_only true passes h = refl
named_only false passes h = sym (h refl)

-- where an id is in a list is what the list says of it
listed_is : (ms : List Mention) (test : ℕ → Bool) (x : ℕ) → (is_named ms x ≡ false → test x ≡ false) → is_in (filter test (ids_of ms)) x ≡ test x
listed_is ms test x h = is_in-filter test (ids_of ms) x ∙ ap (λ b. b && test x) (is_in-ids_of ms x) ∙ named_only (is_named ms x) (test x) h

is_in-created : (ms : List Mention) (k j x : ℕ) → is_in (created ms k j) x ≡ is_created ms k j x
is_in-created ms k j x = listed_is ms (λ id. is_created ms k j id) x (λ e. rw (is_live_unnamed ms j x e) refl)

is_in-updated : (ms : List Mention) (k j x : ℕ) → is_in (updated ms k j) x ≡ is_updated ms k j x
is_in-updated ms k j x = listed_is ms (λ id. is_updated ms k j id) x (λ e. rw (is_live_unnamed ms k x e) refl)

is_in-destroyed : (ms : List Mention) (k j x : ℕ) → is_in (destroyed ms k j) x ≡ is_destroyed ms k j x
is_in-destroyed ms k j x = listed_is ms (λ id. is_destroyed ms k j id) x (λ e. rw (is_live_unnamed ms k x e) refl)

new_old : (was live touched : Bool) → ((live && not was) && ((was && live) && touched)) ≡ false
new_old true true t = refl
new_old true false t = refl
new_old false true t = refl
new_old false false t = refl

new_gone : (was live : Bool) → ((live && not was) && (was && not live)) ≡ false
new_gone true true = refl
new_gone true false = refl
new_gone false true = refl
new_gone false false = refl

old_gone : (was live touched : Bool) → (((was && live) && touched) && (was && not live)) ≡ false
old_gone true true true = refl
old_gone true true false = refl
old_gone true false t = refl
old_gone false true t = refl
old_gone false false t = refl

pub lists_apart : (ms : List Mention) (k j : ℕ) → AreApart ms k j
lists_apart ms k j = record {
  created_updated = λ x. rw (is_in-created ms k j x, is_in-updated ms k j x) (new_old (is_live ms k x) (is_live ms j x) (is_touched ms k j x));
  created_destroyed = λ x. rw (is_in-created ms k j x, is_in-destroyed ms k j x) (new_gone (is_live ms k x) (is_live ms j x));
  updated_destroyed = λ x. rw (is_in-updated ms k j x, is_in-destroyed ms k j x) (old_gone (is_live ms k x) (is_live ms j x) (is_touched ms k j x));
}

one_page : (was live : Bool) → ((was && not (was && not live)) || (live && not was)) ≡ live
one_page true true = refl
one_page true false = refl
one_page false true = refl
one_page false false = refl

page_leads : (ms : List Mention) (k j : ℕ) (held : ℕ → Bool) (x : ℕ) → held x ≡ is_live ms k x → held_after ms k j held x ≡ is_live ms j x
page_leads ms k j held x e = rw (e, is_in-created ms k j x, is_in-destroyed ms k j x) (one_page (is_live ms k x) (is_live ms j x))

pub pages_lead_on : (ms : List Mention) (js : List ℕ) (k : ℕ) (held : ℕ → Bool) (x : ℕ) → ((i : ℕ) → held i ≡ is_live ms k i) → held_after_all ms k js held x ≡ is_live ms (last_state k js) x
pages_lead_on ms [] k held x e = e x
pages_lead_on ms (j ∷ js) k held x e = pages_lead_on ms js j (λ i. held_after ms k j held i) x (λ i. page_leads ms k j held i (e i))

-- a page that allows one id holds one more mention
pub gets_on : (ms : List Mention) (k most : ℕ) → k < length ms → 0 < most → k < page_end ms k (Some most)
gets_on [] k most h some = absurd (omega arith)
gets_on (m ∷ ms) k most h some =
    let all = m ∷ ms in
    let more = size_of_page_more all k k m (omega arith) h in
    let none = size_of_page_none all k in
    let x = (get_or all k m).id in
    let small : size_of_page all k (k + 1) ≤ most = omega (arith, more, none, some, one_if-le (is_listed (standing all k (k + 1) x))) in
    let end = greatest_is (λ j. is_within (Some most) (size_of_page all k j)) k (length all - k) (k + 1) (omega arith) (omega (arith, h)) (le-leb _ _ small) in
    omega (arith, end)

within_none : (most : Option ℕ) (n : ℕ) → n ≡ 0 → is_within most n ≡ true
within_none None n e = refl
within_none (Some most) n e = le-leb n most (omega (arith, e))

pub page_fits : (ms : List Mention) (k : ℕ) (most : Option ℕ) → is_within most (size_of_page ms k (page_end ms k most)) ≡ true
page_fits ms k most = greatest_passes (λ j. is_within most (size_of_page ms k j)) k (length ms - k) (within_none most _ (size_of_page_none ms k))

is_some-cond : (b : Bool) (x y : Option Tree) → cond b (is_some x) (is_some y) ≡ is_some (cond b x y)
is_some-cond true x y = refl
is_some-cond false x y = refl

live_step : (c : Change) (cs : List Change) (before : Option Tree) (kind : Kind) (x : ℕ)
    → ((b : Option Tree) → live_from (is_some b) (mentions kind cs) x ≡ is_some (object_from b cs kind x)) → (of_kind : Bool)
    → live_from (is_some before) (map mention_of (cond of_kind (c ∷ filter (λ d. is_kind kind d.kind) cs) (filter (λ d. is_kind kind d.kind) cs))) x ≡ is_some (object_from (cond (of_kind && (x == c.id)) c.object before) cs kind x)
live_step c cs before kind x rest true =
    live_from-cons (mention_of c) (mentions kind cs) (is_some before) x
    ∙ ap (λ b. live_from b (mentions kind cs) x) (ap (λ b. cond b (is_some c.object) (is_some before)) (eqb_sym c.id x) ∙ is_some-cond (x == c.id) c.object before) ∙ rest (cond (x == c.id) c.object before)
live_step c cs before kind x rest false = rest before

-- an id is live where the history has its object
pub live_objects : (cs : List Change) (before : Option Tree) (kind : Kind) (x : ℕ) → live_from (is_some before) (mentions kind cs) x ≡ is_some (object_from before cs kind x)
live_objects [] before kind x = refl
live_objects (c ∷ cs) before kind x = live_step c cs before kind x (λ b. live_objects cs b kind x) (is_kind kind c.kind)

-- what stands before some changes, or else what the last of those that name it puts
abbrev object_or : Option Tree → Option Change → Option Tree
object_or before None = before
object_or before (Some c) = c.object

object_last : (cs : List Change) (before : Option Tree) (kind : Kind) (id : ℕ) → object_from before cs kind id ≡ object_or before (last (filter (names kind id) cs))
object_last [] before kind id = refl
object_last (c ∷ cs) before kind id = object_last cs _ kind id ∙ by_cases (names kind id c) (last (filter (names kind id) cs)) refl
  where
    by_cases : (named : Bool) (o : Option Change) → last (filter (names kind id) cs) ≡ o
        → object_or (cond named c.object before) o ≡ object_or before (last (cond named (c ∷ filter (names kind id) cs) (filter (names kind id) cs)))
    by_cases false o e = rw e refl
    by_cases true None e = rw e refl
    by_cases true (Some d) e = rw e refl

-- the object of a number is that of the last change that names it
pub object_is_last : (cs : List Change) (kind : Kind) (id : ℕ) → live_object cs kind id ≡ option_and_then (λ c. c.object) (last (filter (names kind id) cs))
object_is_last cs kind id = object_last cs None kind id ∙ or_none (last (filter (names kind id) cs))
  where
    or_none : (o : Option Change) → object_or None o ≡ option_and_then (λ c. c.object) o
    or_none None = refl
    or_none (Some c) = refl

ids_step : (c : Change) (cs : List Change) (ids : List ℕ) (kind : Kind) → ((is : List ℕ) → fold (λ is (m : Mention). with_id is m.id) is (mentions kind cs) ≡ ids_from is cs kind)
    → (of_kind : Bool) → fold (λ is (m : Mention). with_id is m.id) ids (map mention_of (cond of_kind (c ∷ filter (λ d. is_kind kind d.kind) cs) (filter (λ d. is_kind kind d.kind) cs))) ≡ ids_from (cond of_kind (with_id ids c.id) ids) cs kind
ids_step c cs ids kind rest true = rest (with_id ids c.id)
ids_step c cs ids kind rest false = rest ids

ids_are_from : (cs : List Change) (ids : List ℕ) (kind : Kind) → fold (λ is (m : Mention). with_id is m.id) ids (mentions kind cs) ≡ ids_from ids cs kind
ids_are_from [] ids kind = refl
ids_are_from (c ∷ cs) ids kind = ids_step c cs ids kind (λ is. ids_are_from cs is kind) (is_kind kind c.kind)

pub ids_are : (cs : List Change) (kind : Kind) → ids_of (mentions kind cs) ≡ ids_at cs kind
ids_are cs kind = ids_folded (mentions kind cs) ∙ ids_are_from cs [] kind

pub length-mentions : (cs : List Change) (kind : Kind) → length (mentions kind cs) ≡ count_of_kind cs kind
length-mentions cs kind = length-map (filter (λ c. is_kind kind c.kind) cs) mention_of ∙ length-filter (λ c. is_kind kind c.kind) cs

-- at the state of a kind the live ids are those of its objects
pub live_at_state : (cs : List Change) (kind : Kind) (x : ℕ) → is_live (mentions kind cs) (count_of_kind cs kind) x ≡ is_some (live_object cs kind x)
live_at_state cs kind x = ap (λ l. live_from false l x) (ap (λ n. take n (mentions kind cs)) (sym (length-mentions cs kind)) ∙ take_all (length (mentions kind cs)) (mentions kind cs) (omega arith)) ∙ live_objects cs None kind x

pub page_ends : (ms : List Mention) (k : ℕ) (most : Option ℕ) → k ≤ length ms → page_end ms k most ≤ length ms
page_ends ms k most h = omega (arith, h, greatest-le (λ j. is_within most (size_of_page ms k j)) k (length ms - k))

pub page_longest : (ms : List Mention) (k : ℕ) (most : Option ℕ) (j : ℕ) → k < j → j ≤ length ms → is_within most (size_of_page ms k j) ≡ true → j ≤ page_end ms k most
page_longest ms k most j l u fits = greatest_is (λ i. is_within most (size_of_page ms k i)) k (length ms - k) j l (omega (arith, l, u)) fits
