-- Logs whose objects are made of those of a history.
use Rattle.std.proofs.Common.{◌≡◌, ◌≤◌, ◌==◌, ◌&&◌, ℕ, suc, List, [], ◌∷◌, Bool, true, false, cond, Option, Some, None, length, map, option_map, arith, refl, sym, ap, ◌∙◌}
use Rattle.std.specs.Prelude.{nat_le, nat_lt}
use Rattle.std.proofs.lemmas.Bool.{and_from, and_parts, leb-true, lt-ltb}
use Rattle.std.specs.List.{range_with_len}
use Rattle.object_log.proofs.HistoryLemmas.{shows_count, shows_ids}
use Rattle.object_log.specs.Histories.{Follows, told_by, told_in}
use Rattle.object_log.specs.Puts.{ids_put, latest, latest_from}
use Rattle.object_log.specs.Slots.{object_in, rises}
use Rattle.spec_history.specs.History.{is_kind, object_from}
use Rattle.spec_history.specs.declared.entry.Change.{Change}
use Rattle.spec_history.specs.declared.entry.Kind.{Kind}
use Rattle.spec_json.proofs.Booleans.{eqb_sym}
use Rattle.spec_json.specs.declared.tree.Tree.{Tree}
use Rattle.spec_sizes.specs.Sizes.{of_kind, size_of_object}
use Rattle.spec_snapshots.specs.Kept.{IsFloor, object_among, rise_within}
use Rattle.spec_snapshots.specs.declared.kept.KindFloor.{KindFloor}
use Rattle.spec_snapshots.specs.declared.kept.LiveObject.{LiveObject}
use Rattle.store_opening.specs.Puts.{put_by, puts_by, slot_by}

module _ {T : Type 0} (made : Tree → T) where
  -- what is live of what was put
  latest_by : (kind : Kind) (cs : List Change) (id : ℕ) (before : Option Tree) → latest_from (option_map made before) (puts_by made kind cs) id ≡ option_map made (object_from before cs kind id)
  latest_by kind [] id before = refl
  latest_by kind (c ∷ cs) id before = by_cases (is_kind kind c.kind) (latest_by kind cs id)
    where
      either : (b : Bool) (o p : Option Tree) → cond b (option_map made o) (option_map made p) ≡ option_map made (cond b o p)
      either true o p = refl
      either false o p = refl

      by_cases : (b : Bool) → ((o : Option Tree) → latest_from (option_map made o) (puts_by made kind cs) id ≡ option_map made (object_from o cs kind id))
          → latest_from (option_map made before) (map (put_by made) (cond b (c ∷ of_kind kind cs) (of_kind kind cs))) id ≡ option_map made (object_from (cond (b && (id == c.id)) c.object before) cs kind id)
      by_cases false rest = rest before
      by_cases true rest =
          ap (λ o. latest_from o (puts_by made kind cs) id) (ap (λ b. cond b (option_map made c.object) (option_map made before)) (eqb_sym c.id id) ∙ either (id == c.id) c.object before)
          ∙ rest (cond (id == c.id) c.object before)

  -- what is in slots
  slots_by : (ls : List LiveObject) (id : ℕ) → object_in (map (slot_by made) ls) id ≡ option_map made (object_among ls id)
  slots_by [] id = refl
  slots_by (l ∷ ls) id = by_cases (l.id == id) (slots_by ls id)
    where
      by_cases : (b : Bool) → object_in (map (slot_by made) ls) id ≡ option_map made (object_among ls id)
          → cond b (Some (made l.object)) (object_in (map (slot_by made) ls) id) ≡ option_map made (cond b (Some l.object) (object_among ls id))
      by_cases true rest = refl
      by_cases false rest = rest

  rising_by : (low most : ℕ) (ls : List LiveObject) → low ≤ most → rise_within (suc low) most ls ≡ true → rises low (suc most) (map (slot_by made) ls) ≡ true
  rising_by low most [] within h = lt-ltb low (suc most) (omega (arith, within))
  rising_by low most (l ∷ ls) within h =
      let parts = and_parts _ (rise_within (suc l.id) most ls) h in
      let bounds = and_parts (nat_le (suc low) l.id) (nat_le l.id most) parts.0 in
      let up = leb-true (suc low) l.id bounds.0 in
      and_from (nat_lt low l.id) _ (lt-ltb low l.id (omega (arith, up))) (rising_by l.id most ls (leb-true l.id most bounds.1) parts.1)

  -- the log follows the history of which its objects are made
  pub follows_by : (read : T → Tree) → ((t : Tree) → read (made t) ≡ t) → (kind : Kind) (cs : List Change) → Follows read (puts_by made kind cs) kind cs
  follows_by read back kind cs = each (of_kind kind cs)
    where
      again : (o : Option Tree) → option_map read (option_map made o) ≡ o
      again None = refl
      again (Some t) = ap Some (back t)

      each : (ds : List Change) → map (told_by read) (map (put_by made) ds) ≡ map told_in ds
      each [] = refl
      each (d ∷ ds) = ap (λ o. (d.id, (o, size_of_object d.object)) ∷ map (told_by read) (map (put_by made) ds)) (again d.object) ∙ ap (λ l. told_in d ∷ l) (each ds)

  -- what a log is opened with, at a floor that the history left
  pub record OpensAt (kind : Kind) (cs : List Change) (f : KindFloor) : Type 0 where
    pub state : length (puts_by made kind cs) ≡ f.state
    pub numbered : ids_put (puts_by made kind cs) ≡ range_with_len 1 f.created
    pub rising : rises 0 (suc f.created) (map (slot_by made) f.live.items) ≡ true
    pub standing : (id : ℕ) → object_in (map (slot_by made) f.live.items) id ≡ latest (puts_by made kind cs) id

  pub opens_at : (read : T → Tree) → ((t : Tree) → read (made t) ≡ t) → (kind : Kind) (cs : List Change) (f : KindFloor) → IsFloor cs kind f → OpensAt kind cs f
  opens_at read back kind cs f h =
      let follows = follows_by read back kind cs in
      record {
        state = shows_count read (puts_by made kind cs) kind cs follows ∙ sym h.state;
        numbered = shows_ids read (puts_by made kind cs) kind cs follows ∙ h.numbers;
        rising = rising_by 0 f.created f.live.items (omega arith) h.rising;
        standing = λ id. slots_by f.live.items id ∙ ap (option_map made) (h.live id) ∙ sym (latest_by kind cs id None);
      }
