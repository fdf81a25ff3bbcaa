-- Which calendars live events are in, told one number after the other.
use Rattle.std.proofs.Common.{◌≡◌, ◌+◌, ◌-◌, ◌<◌, ◌++◌, ◌||◌, ℕ, suc, List, [], ◌∷◌, Bool, true, false, Option, Some, None, arith, flat_map, refl, ap, ◌∙◌}
use Rattle.std.specs.List.{list_any, range_with_len}
use Rattle.account_core.proofs.Committing.{object_from_append}
use Rattle.account_core.specs.Uses.{has_staged_event, is_object_in_calendar}
use Rattle.spec_events.specs.Events.{names_calendar}
use Rattle.spec_history.specs.History.{is_kind, live_object, object_from, some_object}
use Rattle.spec_history.specs.declared.entry.Change.{Change}
use Rattle.spec_history.specs.declared.entry.Kind.TheVariants.{Event}
use Rattle.spec_json.specs.TreeData.{data_of}
use Rattle.spec_json.specs.declared.tree.Tree.{Tree}
use Rattle.std.specs.Prelude.{◌&&◌, ◌==◌, if◌then◌else◌}

kept_step : (before : Option Tree) (c : Change) (cs : List Change) (id : ℕ) (b : Bool) → is_kind Event c.kind ≡ b → (b || has_staged_event cs) ≡ false
    → (has_staged_event cs ≡ false → object_from before cs Event id ≡ before) → object_from (if (is_kind Event c.kind && (id == c.id)) then c.object else before) cs Event id ≡ before
kept_step before c cs id false e rest kept = rw e (kept rest)
kept_step before c cs id true e rest kept = cc

kept_by : (before : Option Tree) (cs : List Change) (id : ℕ) → has_staged_event cs ≡ false → object_from before cs Event id ≡ before
kept_by before [] id none = refl
kept_by before (c ∷ cs) id none = kept_step before c cs id (is_kind Event c.kind) refl none (kept_by before cs id)

-- where no change of an event is staged, events are what they were before
pub live_before : (cs ds : List Change) (id : ℕ) → has_staged_event ds ≡ false → live_object (cs ++ ds) Event id ≡ live_object cs Event id
live_before cs ds id none = object_from_append cs ds None Event id ∙ kept_by (live_object cs Event id) ds id none

-- the events of n numbers from a on, of which one is live and in the calendar
abbrev pub has_event_from : List Change → ℕ → ℕ → ℕ → Bool
has_event_from cs calendar a n = list_any (λ t. names_calendar calendar (data_of t)) (flat_map (λ id. some_object (live_object cs Event id)) (range_with_len a n))

pub first_event : (calendar : ℕ) (o : Option Tree) (ts : List Tree) → list_any (λ t. names_calendar calendar (data_of t)) (some_object o ++ ts) ≡ (is_object_in_calendar calendar o || list_any (λ t. names_calendar calendar (data_of t)) ts)
first_event calendar None ts = refl
first_event calendar (Some t) ts = refl

one_number : (a m : ℕ) → range_with_len a (suc m) ≡ a ∷ range_with_len (a + 1) m
one_number a m = refl

more_numbers : (a k n : ℕ) → k < n → range_with_len a (n - k) ≡ a ∷ range_with_len (a + 1) (n - (k + 1))
more_numbers a k n lt =
    let less : n - k ≡ suc (n - (k + 1)) = omega (arith, lt) in
    ap (range_with_len a) less ∙ one_number a (n - (k + 1))

-- the event of the next number, or one of those behind it
pub next_event : (cs : List Change) (calendar k n : ℕ) → k < n
    → has_event_from cs calendar (k + 1) (n - k) ≡ (is_object_in_calendar calendar (live_object cs Event (k + 1)) || has_event_from cs calendar (k + 1 + 1) (n - (k + 1)))
next_event cs calendar k n lt =
    ap (λ ns. list_any (λ t. names_calendar calendar (data_of t)) (flat_map (λ id. some_object (live_object cs Event id)) ns)) (more_numbers (k + 1) k n lt)
    ∙ first_event calendar (live_object cs Event (k + 1)) (flat_map (λ id. some_object (live_object cs Event id)) (range_with_len (k + 1 + 1) (n - (k + 1))))
