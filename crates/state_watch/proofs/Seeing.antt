-- States that are looked at, one after the other.
use Rattle.std.proofs.Common.{◌≡◌, ℕ, ℤ, suc, ◌+◌, ◌<◌, ◌≤◌, List, [], ◌∷◌, ◌++◌, Option, Some, None, Ok, Err, Result, Vec, inl, inr, refl, sym, ap, ◌∙◌, subst, length, length-append, map, flat_map, fold, take, append-nil, append_assoc, arith}
use Rattle.std.specs.Prelude.{◌⊎◌, All, ⊤, slice_index_or, slice_set}
use Rattle.std.specs.declared.alloc.Global.{Global}
use Rattle.std.proofs.lemmas.Grind.{flat_map-append, fold-append}
use Rattle.std.proofs.lemmas.List.{length-map, map-append, take_more}
use Rattle.std.proofs.lemmas.List.Elements.{All-head, All-nil, All-push, All-tail}
use Rattle.spec_batch.proofs.Chains.{accounts_stay, join, made_of, still}
use Rattle.spec_batch.specs.Chain.{Called, Chain, Made, Shown}
use Rattle.spec_batch.specs.declared.desk.DeskError.{DeskError}
use Rattle.spec_batch.specs.declared.desk.DeskError.TheVariants.{NoMemory}
use Rattle.spec_calls.specs.declared.call.Reply.{Reply}
use Rattle.spec_json.specs.Data.{Pair}
use Rattle.spec_json.specs.Json.{text_of}
use Rattle.spec_json.specs.Parts.{some_of}
use Rattle.spec_push.specs.Looks.{AsksForNext, IsLook, Look, LooksInPart, Sight, SightFits, all_behind, changed_by, made_for, sent_for, watched_behind, watched_of, with_sight}
use Rattle.spec_core.specs.declared.user.Grant.{Grant}
use Rattle.spec_push.specs.StateChanges.{state_call, state_change, told_of}
use Rattle.spec_push.specs.Watching.{watched_in}
use Rattle.spec_push.specs.declared.data_types.DataTypes.{DataTypes}
use Rattle.spec_push.specs.declared.watched.Watched.{Watched}
use Rattle.state_watch.specs.Looking.{IsGlance, IsSeen, IsTold, LooksSo, SeesSo}
use Rattle.state_watch.specs.declared.watch.Looked.{Looked}
use Rattle.state_watch.specs.declared.watch.Seen.{Seen}

-- ---- one state

abbrev pub sight_of : Watched → ℤ → Shown → Reply → Sight
sight_of w moment t reply = record { watched = w; made = Some (made_of t w.account (state_call w.kind) moment reply) }

pub glanced : {moment : ℤ} {w : Watched} {d d' : Shown} (reply : Reply) → Called d d' w.account (state_call w.kind) moment (Ok reply) → IsGlance moment w d d' (sight_of w moment d' reply)
glanced {moment} {w} {d} {d'} reply called = record { is = refl; one = refl; fit = (refl, refl, refl); chain = (d', (called, refl, refl), refl) }

-- ---- states, one after the other

some_few : (o : Option Made) → length (some_of o) ≤ 1
some_few None = omega arith
some_few (Some m) = omega arith

-- a look makes no more calls than there are states
pub made_for_few : (sights : List Sight) → length (made_for sights) ≤ length sights
made_for_few [] = omega arith
made_for_few (s ∷ ss) = (let all = length-append (some_of s.made) (made_for ss) in let one = some_few s.made in let rest = made_for_few ss in omega (arith, all, one, rest))

all_behind_seam : (n : ℕ) (xs ys : List Watched) → All (λ (w : Watched). w.account < n) (xs ++ ys) → All (λ (w : Watched). w.account < n) ys
all_behind_seam n [] ys h = h
all_behind_seam n (x ∷ xs) ys h = all_behind_seam n xs ys (All-tail (λ (w : Watched). w.account < n) x (xs ++ ys) h)

-- the state at a place between others
at_seam : (xs : List Watched) (w d : Watched) (ws : List Watched) → slice_index_or (xs ++ w ∷ ws) (length xs) d ≡ w
at_seam [] w d ws = refl
at_seam (x ∷ xs) w d ws = at_seam xs w d ws

set_seam : (xs : List Watched) (w z : Watched) (ws : List Watched) → slice_set (xs ++ w ∷ ws) (length xs) z ≡ xs ++ z ∷ ws
set_seam [] w z ws = refl
set_seam (x ∷ xs) w z ws = ap (λ (l : List Watched). x ∷ l) (set_seam xs w z ws)

-- these states were looked at, or passed over, and the others are left
pub record Seeing (moment : ℤ) (all now : List Watched) (i : ℕ) (d d' : Shown) (changed : List Pair) (calls : ℕ) : Type 0 where
  pub sights : List Sight
  pub rest : List Watched
  pub over : all ≡ watched_of sights ++ rest
  pub now_is : now ≡ all_behind sights ++ rest
  pub count : length sights ≡ i
  pub fit : All (SightFits moment) sights
  pub chain : Chain d d' (made_for sights)
  pub changed_is : changed ≡ changed_by sights
  pub calls_are : calls ≡ length (made_for sights)

pub seeing_start : (moment : ℤ) (all : List Watched) (d : Shown) (changed : List Pair) → changed ≡ [] → Seeing moment all all 0 d d changed 0
seeing_start moment all d changed none = record { sights = []; rest = all; over = refl; now_is = refl; count = refl; fit = All-nil (SightFits moment); chain = still d; changed_is = none; calls_are = refl }

module _ {moment : ℤ} {all now : List Watched} {i : ℕ} {d d1 : Shown} {changed : List Pair} {calls : ℕ} (s : Seeing moment all now i d d1 changed calls) where
  pub as_many : length now ≡ length all
  as_many = (
      let a = ap length s.over ∙ length-append (watched_of s.sights) s.rest in
      let b = ap length s.now_is ∙ length-append (all_behind s.sights) s.rest in
      let c = length-map s.sights (λ (x : Sight). x.watched) in
      let e = length-map s.sights watched_behind in
      omega (arith, a, b, c, e)
      )

  left_in : (rest : List Watched) → length s.sights + length rest ≡ length now → i < length now → (w : Watched) × (ws : List Watched) × (rest ≡ w ∷ ws)
  left_in [] h less = absurd (let count = s.count in let bad : ⊥ = omega (arith, h, less, count) in bad)
  left_in (w ∷ ws) h less = (w, ws, refl)

  pub few_calls : calls ≤ i
  few_calls = (let calls = s.calls_are in let made = made_for_few s.sights in let count = s.count in omega (arith, calls, made, count))

  -- there is one more
  pub next_left : i < length now → (w : Watched) × (ws : List Watched) × (s.rest ≡ w ∷ ws)
  next_left less = left_in s.rest (
      let b = ap length s.now_is ∙ length-append (all_behind s.sights) s.rest in
      let e = length-map s.sights watched_behind in
      omega (arith, b, e)
      ) less

  -- a sight more
  more : {now' : List Watched} {d2 : Shown} {changed' : List Pair} {calls' : ℕ} (x : Sight) (ws : List Watched) → s.rest ≡ x.watched ∷ ws → SightFits moment x → Chain d1 d2 (made_for (x ∷ []))
      → now' ≡ all_behind s.sights ++ watched_behind x ∷ ws → changed' ≡ with_sight changed x → calls' ≡ calls + length (made_for (x ∷ [])) → Seeing moment all now' (i + 1) d d2 changed' calls'
  more {now'} {d2} {changed'} {calls'} x ws is fit chain now_is changed_is calls_are = record {
    sights = s.sights ++ x ∷ [];
    rest = ws;
    over = s.over ∙ (ap (λ (r : List Watched). watched_of s.sights ++ r) is
        ∙ (sym (append_assoc (watched_of s.sights) (x.watched ∷ []) ws) ∙ ap (λ (l : List Watched). l ++ ws) (sym (map-append (λ (y : Sight). y.watched) s.sights (x ∷ [])))));
    now_is = now_is ∙ (sym (append_assoc (all_behind s.sights) (watched_behind x ∷ []) ws) ∙ ap (λ (l : List Watched). l ++ ws) (sym (map-append watched_behind s.sights (x ∷ []))));
    count = (let count = s.count in length-append s.sights (x ∷ []) ∙ omega (arith, count));
    fit = All-push (SightFits moment) s.sights x s.fit fit;
    chain = subst (Chain d d2) (sym (flat_map-append (λ (y : Sight). some_of y.made) s.sights (x ∷ []))) (join d d1 d2 (made_for s.sights) (made_for (x ∷ [])) s.chain chain);
    changed_is = changed_is ∙ (ap (λ (c : List Pair). with_sight c x) s.changed_is ∙ sym (fold-append with_sight [] s.sights (x ∷ [])));
    calls_are = (
        let made = ap length (flat_map-append (λ (y : Sight). some_of y.made) s.sights (x ∷ [])) ∙ length-append (made_for s.sights) (made_for (x ∷ [])) in
        let before = s.calls_are in
        calls_are ∙ omega (arith, made, before)
        );
  }

  -- the next one was passed over
  pub passed : i < length now → Seeing moment all now (i + 1) d d1 changed calls
  passed less =
      let n = next_left less in
      let x : Sight = record { watched = n.0; made = None } in
      more x n.1 n.2 tt (still d1) (s.now_is ∙ ap (λ (r : List Watched). all_behind s.sights ++ r) n.2) refl (omega arith)

  places : length (all_behind s.sights) ≡ i
  places = length-map s.sights watched_behind ∙ s.count

  -- which one is next
  pub next_is : (less : i < length now) (w : Watched) → w ≡ slice_index_or now i w → w ≡ (next_left less).0
  next_is less w at =
      let n = next_left less in
      let now_is : now ≡ all_behind s.sights ++ n.0 ∷ n.1 = s.now_is ∙ ap (λ (r : List Watched). all_behind s.sights ++ r) n.2 in
      at ∙ (ap (λ (l : List Watched). slice_index_or l i w) now_is ∙ (ap (λ (k : ℕ). slice_index_or (all_behind s.sights ++ n.0 ∷ n.1) k w) (sym places) ∙ at_seam (all_behind s.sights) n.0 w n.1))

  set_is : (less : i < length now) (z : Watched) → slice_set now i z ≡ all_behind s.sights ++ z ∷ (next_left less).1
  set_is less z =
      let n = next_left less in
      let now_is : now ≡ all_behind s.sights ++ n.0 ∷ n.1 = s.now_is ∙ ap (λ (r : List Watched). all_behind s.sights ++ r) n.2 in
      ap (λ (l : List Watched). slice_set l i z) now_is ∙ (ap (λ (k : ℕ). slice_set (all_behind s.sights ++ n.0 ∷ n.1) k z) (sym places) ∙ set_seam (all_behind s.sights) n.0 z n.1)

  -- it is of an account of the desk
  pub next_within : i < length now → (w : Watched) → w ≡ slice_index_or now i w → All (λ (x : Watched). x.account < d.accounts) all → w.account < d1.accounts
  next_within less w at within =
      let n = next_left less in
      let here : All (λ (x : Watched). x.account < d.accounts) (n.0 ∷ n.1) =
      all_behind_seam d.accounts (watched_of s.sights) (n.0 ∷ n.1) (subst (λ (l : List Watched). All (λ (x : Watched). x.account < d.accounts) l) (s.over ∙ ap (λ (r : List Watched). watched_of s.sights ++ r) n.2) within) in
      subst (λ (y : Watched × ℕ). y.0.account < y.1) (λ k. (sym (next_is less w at) k, sym (accounts_stay d d1 (made_for s.sights) s.chain) k)) (All-head (λ (x : Watched). x.account < d.accounts) n.0 n.1 here)

-- the desk answered no more, or memory ran out
pub stopped_at : {moment : ℤ} {all now : List Watched} {i : ℕ} {d d1 d2 : Shown} {changed : List Pair} {calls : ℕ} {watch' : List Watched} (s : Seeing moment all now i d d1 changed calls) (less : i < length now)
    (w w' : Watched) (changed' : List Pair) → w ≡ slice_index_or now i w → (e : DeskError) → IsSeen moment w w' changed changed' d1 d2 (Err e) → SeesSo moment all watch' d d2 (Err e)
stopped_at {moment} {all} {now} {i} {d} {d1} {d2} {changed} {calls} {watch'} s less w w' changed' at e (inl called) =
    let n = next_left s less in
    record {
      look = record { sights = s.sights; rest = s.rest };
      desk = d1;
      chain = s.chain;
      how = (
        record { over = s.over; fit = s.fit },
        inr (w.account, state_call w.kind, subst (λ (r : List Watched). AsksForNext r w.account (state_call w.kind)) (sym n.2) (ap (λ (x : Watched). x.account) (next_is s less w at), ap (λ (x : Watched). state_call x.kind) (next_is s less w at)), called),
      );
    }
stopped_at {moment} {all} {now} {i} {d} {d1} {d2} {changed} {calls} {watch'} s less w w' changed' at e (inr (none, x, g)) =
    let n = next_left s less in
    let more_seen : Seeing moment all (slice_set now i (watched_behind x)) (i + 1) d d2 (with_sight changed x) (calls + length (made_for (x ∷ []))) =
    more s x n.1 (n.2 ∙ ap (λ (y : Watched). y ∷ n.1) (sym (next_is s less w at) ∙ sym g.is)) g.fit g.chain (set_is s less (watched_behind x)) refl refl in
    record {
      look = record { sights = more_seen.sights; rest = more_seen.rest };
      desk = d2;
      chain = more_seen.chain;
      how = (record { over = more_seen.over; fit = more_seen.fit }, inl (none, refl));
    }

-- the next state was looked at
pub seen_more : {moment : ℤ} {all now now' : List Watched} {i : ℕ} {d d1 d2 : Shown} {changed changed' : List Pair} {calls calls' : ℕ} (s : Seeing moment all now i d d1 changed calls) (less : i < length now)
    (w w' : Watched) → w ≡ slice_index_or now i w → (u : ⊤) → IsSeen moment w w' changed changed' d1 d2 (Ok u) → now' ≡ slice_set now i w' → calls' ≡ calls + 1 → Seeing moment all now' (i + 1) d d2 changed' calls'
seen_more {moment} {all} {now} {now'} {i} {d} {d1} {d2} {changed} {changed'} {calls} {calls'} s less w w' at u (x, g, noted, changes) set one =
    let n = next_left s less in
    more s x n.1 (n.2 ∙ ap (λ (y : Watched). y ∷ n.1) (sym (next_is s less w at) ∙ sym g.is)) g.fit g.chain
    (set ∙ (ap (slice_set now i) noted ∙ set_is s less (watched_behind x))) changes (one ∙ ap (λ (k : ℕ). calls + k) (sym g.one))

-- all were looked at, or passed over
none_left : (l : List Watched) → length l ≤ 0 → l ≡ []
none_left [] h = refl
none_left (x ∷ xs) h = absurd (let bad : ⊥ = omega (arith, h) in bad)

all_seen : {moment : ℤ} {all now : List Watched} {i : ℕ} {d d1 : Shown} {changed : List Pair} {calls : ℕ} (s : Seeing moment all now i d d1 changed calls) → length now ≤ i → s.rest ≡ []
all_seen s over = none_left s.rest (
    let b = ap length s.now_is ∙ length-append (all_behind s.sights) s.rest in
    let e = length-map s.sights watched_behind in
    let count = s.count in
    omega (arith, b, e, count, over)
    )

pub saw_all : {moment : ℤ} {all now : List Watched} {i : ℕ} {d d1 : Shown} {changed : List Pair} {calls : ℕ} (s : Seeing moment all now i d d1 changed calls) → length now ≤ i
    → (seen : Seen) → seen.changed ≡ changed → seen.calls ≡ calls → SeesSo moment all now d d1 (Ok seen)
saw_all {moment} {all} {now} {i} {d} {d1} s over seen changes counts =
    let none = all_seen s over in
    record {
      look = record { sights = s.sights; rest = s.rest };
      desk = d1;
      chain = s.chain;
      how = (
        record {
          whole = (record { over = s.over; fit = s.fit }, none);
          same = refl;
          noted = s.now_is ∙ (ap (λ (r : List Watched). all_behind s.sights ++ r) none ∙ append-nil (all_behind s.sights));
        },
        changes ∙ s.changed_is,
        counts ∙ s.calls_are,
      );
    }

-- what was seen is told, or couldn't be put together
pub told_so : {moment : ℤ} {watch watch' : List Watched} {d d' : Shown} (seen : Seen) (r : Result Looked DeskError) → SeesSo moment watch watch' d d' (Ok seen) → IsTold seen r → LooksSo moment watch watch' d d' r
told_so seen (Ok looked) s tells = record { look = s.look; desk = s.desk; chain = s.chain; how = (s.how.0, tells.0 ∙ ap told_of s.how.1, tells.1 ∙ s.how.2) }
told_so seen (Err e) s none = record { look = s.look; desk = s.desk; chain = s.chain; how = (s.how.0.whole.0, inl (none, s.how.0.same)) }

pub stopped : {moment : ℤ} {watch watch' : List Watched} {d d' : Shown} (e : DeskError) → SeesSo moment watch watch' d d' (Err e) → LooksSo moment watch watch' d d' (Err e)
stopped e s = record { look = s.look; desk = s.desk; chain = s.chain; how = s.how }

-- ---- what is told

-- where there is news, it is told
pub told_more : (ps : List Pair) (told : List ℕ) → 0 < length ps → told ≡ text_of (state_change ps) → told ∷ [] ≡ told_of ps
told_more [] told some is = absurd (let bad : ⊥ = omega (arith, some) in bad)
told_more (p ∷ ps) told some is = ap (λ (t : List ℕ). t ∷ []) is

pub watched_more : (types : DataTypes) (gs : List Grant) (i : ℕ) (g : Grant) (ws : List Watched) → i < length gs → g ≡ slice_index_or gs i g → ws ≡ flat_map (watched_in types) (take i gs) → ws ++ watched_in types g ≡ flat_map (watched_in types) (take (i + 1) gs)
watched_more types gs i g ws less at is =
    ap (λ (l : List Watched). l ++ watched_in types g) is
    ∙ (ap (λ (l : List Watched). flat_map (watched_in types) (take i gs) ++ l) (sym (append-nil (watched_in types g)))
    ∙ (sym (flat_map-append (watched_in types) (take i gs) (g ∷ [])) ∙ ap (flat_map (watched_in types)) (ap (λ (x : Grant). take i gs ++ x ∷ []) at ∙ sym (take_more gs i g less))))
