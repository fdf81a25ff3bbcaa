-- The numbers that the first changes of a kind name.
use Rattle.std.proofs.Common.{◌≡◌, ℕ, ◌==◌, ◌&&◌, Bool, true, false, if◌then◌else◌, List, [], ◌∷◌, ◌++◌, Option, None, drop, filter, is_some, take, refl, sym, ap, ◌∙◌, append-nil}
use Rattle.std.proofs.lemmas.Bool.{or_parts}
use Rattle.std.proofs.lemmas.List.{take-append-drop}
use Rattle.std.proofs.lemmas.List.Elements.{filter-append}
use Rattle.spec_history.specs.History.{ids_at, ids_from, is_kind, live_object, names, object_from, with_id}
use Rattle.spec_history.specs.Pages.{is_in}
use Rattle.spec_history.specs.declared.entry.Change.{Change}
use Rattle.spec_history.specs.declared.entry.Kind.{Kind}
use Rattle.spec_json.specs.declared.tree.Tree.{Tree}
use Rattle.object_log.proofs.SizeLemmas.{is_in-with_id}
use Rattle.spec_sizes.specs.Sizes.{of_kind}
use Rattle.spec_json.proofs.Booleans.{eqb_sym}

-- ---- the numbers of some changes, by kind and in two parts

ids_step : (c : Change) (cs : List Change) (kind : Kind) (ids : List ℕ) (b : Bool) → is_kind kind c.kind ≡ b → ((some : List ℕ) → ids_from some (of_kind kind cs) kind ≡ ids_from some cs kind)
    → ids_from ids (if b then c ∷ of_kind kind cs else of_kind kind cs) kind ≡ ids_from (if b then with_id ids c.id else ids) cs kind
ids_step c cs kind ids true is rest = ap (λ b. ids_from (if b then with_id ids c.id else ids) (of_kind kind cs) kind) is ∙ rest (with_id ids c.id)
ids_step c cs kind ids false is rest = rest ids

pub ids_of_kind : (cs : List Change) (kind : Kind) (ids : List ℕ) → ids_from ids (of_kind kind cs) kind ≡ ids_from ids cs kind
ids_of_kind [] kind ids = refl
ids_of_kind (c ∷ cs) kind ids = ids_step c cs kind ids (is_kind kind c.kind) refl (ids_of_kind cs kind)

ids_more : (cs more : List Change) (kind : Kind) (ids : List ℕ) → ids_from ids (cs ++ more) kind ≡ ids_from (ids_from ids cs kind) more kind
ids_more [] more kind ids = refl
ids_more (c ∷ cs) more kind ids = ids_more cs more kind (if is_kind kind c.kind then with_id ids c.id else ids)

-- ---- numbers that later changes are the first to name

module _ (p : ℕ → Bool) where
  -- no number but these passes
  abbrev AreAllThatPass : List ℕ → Type 0
  AreAllThatPass ids = (id : ℕ) → is_in ids id ≡ false → p id ≡ false

  passed_with : (ids : List ℕ) (id : ℕ) → AreAllThatPass ids → (b : Bool) → is_in ids id ≡ b → filter p (if b then ids else ids ++ id ∷ []) ≡ filter p ids
  passed_with ids id all true is = refl
  passed_with ids id all false is = filter-append p ids (id ∷ []) ∙ ap (λ b. filter p ids ++ (if b then id ∷ [] else [])) (all id is) ∙ append-nil (filter p ids)

  all_with : (ids : List ℕ) (id : ℕ) → AreAllThatPass ids → AreAllThatPass (with_id ids id)
  all_with ids id all = λ other absent. all other (or_parts (is_in ids other) (id == other) (sym (is_in-with_id ids id other) ∙ absent)).0

  passed_step : (c : Change) (cs : List Change) (kind : Kind) (ids : List ℕ) → AreAllThatPass ids → ((some : List ℕ) → AreAllThatPass some → filter p (ids_from some cs kind) ≡ filter p some)
      → (b : Bool) → filter p (ids_from (if b then with_id ids c.id else ids) cs kind) ≡ filter p ids
  passed_step c cs kind ids all rest true = rest (with_id ids c.id) (all_with ids c.id all) ∙ passed_with ids c.id all (is_in ids c.id) refl
  passed_step c cs kind ids all rest false = rest ids all

  passed_from : (cs : List Change) (kind : Kind) (ids : List ℕ) → AreAllThatPass ids → filter p (ids_from ids cs kind) ≡ filter p ids
  passed_from [] kind ids all = refl
  passed_from (c ∷ cs) kind ids all = passed_step c cs kind ids all (passed_from cs kind) (is_kind kind c.kind)

-- ---- numbers that no change names

unnamed_step : (c : Change) (ids : List ℕ) (id : ℕ) (before : Option Tree) → (is_in ids id ≡ false → is_some before ≡ false) → (b : Bool)
    → is_in (if b then with_id ids c.id else ids) id ≡ false → is_some (if b && (id == c.id) then c.object else before) ≡ false
unnamed_step c ids id before h true absent =
    let parts = or_parts (is_in ids id) (c.id == id) (sym (is_in-with_id ids c.id id) ∙ absent) in
    ap (λ d. is_some (if d then c.object else before)) (eqb_sym id c.id ∙ parts.1) ∙ h parts.0
unnamed_step c ids id before h false absent = h absent

unnamed : (cs : List Change) (kind : Kind) (ids : List ℕ) (id : ℕ) (before : Option Tree) → (is_in ids id ≡ false → is_some before ≡ false) → is_in (ids_from ids cs kind) id ≡ false → is_some (object_from before cs kind id) ≡ false
unnamed [] kind ids id before h = h
unnamed (c ∷ cs) kind ids id before h =
    unnamed cs kind (if is_kind kind c.kind then with_id ids c.id else ids) id (if names kind id c then c.object else before) (unnamed_step c ids id before h (is_kind kind c.kind))

-- the numbers that are live after the first k changes of a kind are among those that these name
pub live_first : (cs : List Change) (kind : Kind) (k : ℕ)
    → filter (λ id. is_some (live_object (take k (of_kind kind cs)) kind id)) (ids_at cs kind) ≡ filter (λ id. is_some (live_object (take k (of_kind kind cs)) kind id)) (ids_at (take k (of_kind kind cs)) kind)
live_first cs kind k =
    let first = take k (of_kind kind cs) in
    let later = drop k (of_kind kind cs) in
    let live : ℕ → Bool = λ id. is_some (live_object first kind id) in
    ap (filter live) (sym (ids_of_kind cs kind []) ∙ ap (λ l. ids_from [] l kind) (sym (take-append-drop k (of_kind kind cs))) ∙ ids_more first later kind [])
    ∙ passed_from live later kind (ids_at first kind) (λ id. unnamed first kind [] id None (λ _. refl))
