-- An account has no more resources than it may have behind a change that fits.
use Rattle.std.proofs.Common.{◌≡◌, ◌∙◌, ◌≤◌, ◌+◌, inl, inr, ◌++◌, ◌∷◌, ◌==◌, not, cond, ℕ, List, [], Bool, true, false, Option, Some, None, arith, filter, if◌then◌else◌, is_some, length, length-append, append-nil, refl, sym, ap}
use Rattle.std.proofs.lemmas.Bool.{false≢true}
use Rattle.std.proofs.lemmas.Bool.Decides.{nat_tests}
use Rattle.std.proofs.lemmas.List.Elements.{filter-append, filter_agree}
use Rattle.std.proofs.lemmas.List.Filters.{length-filter_both}
use Rattle.std.specs.Prelude.{◌&&◌, nat_le}
use Rattle.account_core.proofs.SoundObjectLemmas.{calendar_put}
use Rattle.account_rooms.proofs.Changes.{change, event_leaves_resources, ids_from-push, is_of_resource, resource_now, with_known, with_new}
use Rattle.account_rooms.proofs.Numbers.{filter_gone, filter_without}
use Rattle.cal_model.specs.Fits.{IsFit, IsObjectFit}
use Rattle.cal_model.specs.Operations.{exceeds_resources}
use Rattle.cal_model.specs.Sound.{is_sound}
use Rattle.object_outcomes.proofs.SoundLemmas.{sound_parts}
use Rattle.object_outcomes.proofs.SoundObjects.{live_is_numbered}
use Rattle.spec_bookings.proofs.Tables.{number_same, same_number}
use Rattle.spec_bookings.specs.Resources.{is_resource, resources_at, zone_of_resource}
use Rattle.spec_bookings.specs.declared.limits.TheConstants.{MAX_RESOURCES}
use Rattle.spec_history.specs.History.{ids_at, live_object, next_number, with_id}
use Rattle.spec_history.specs.Pages.{is_in}
use Rattle.spec_history.specs.declared.entry.Change.{Change}
use Rattle.spec_history.specs.declared.entry.Kind.{Kind}
use Rattle.spec_history.specs.declared.entry.Kind.TheVariants.{Calendar, Event}
use Rattle.spec_json.specs.TreeData.{data_of}
use Rattle.spec_json.specs.declared.tree.Tree.{Tree}
use Rattle.spec_site.specs.TimeZones.{ZoneText}

-- one number more, which passes or doesn't
one_passes : (p : ℕ → Bool) (id : ℕ) → length (filter p (id ∷ [])) ≤ 1
one_passes p id = by_test (p id)
  where
    by_test : (b : Bool) → length (cond b (id ∷ []) []) ≤ 1
    by_test true = omega arith
    by_test false = omega arith

none_passes : (p : ℕ → Bool) (id : ℕ) → p id ≡ false → filter p (id ∷ []) ≡ []
none_passes p id h = rw h refl

-- ---- The resources behind a change of a calendar.

module _ (cs : List Change) (id : ℕ) (o : Option Tree) where
  abbrev after : List Change
  after = cs ++ change Calendar id o ∷ []

  -- the test of the calendars then
  abbrev test : Bool → ℕ → Bool
  test b n = if n == id then b else is_resource cs n

  resources_by : (b : Bool) → is_of_resource o ≡ b → resources_at after ≡ filter (test b) (with_id (ids_at cs Calendar) id)
  resources_by b is =
      filter_agree (is_resource after) (test b) (λ n. resource_now cs id o n ∙ ap (λ c. if n == id then c else is_resource cs n) is) (ids_at after Calendar)
      ∙ ap (filter (test b)) (ids_from-push cs [] (change Calendar id o) Calendar)

  at_itself : (b : Bool) → test b id ≡ b
  at_itself b = ap (λ c. if c then b else is_resource cs id) (number_same id id refl)

  -- a number that is new
  new_resources : (b : Bool) → is_of_resource o ≡ b → is_in (ids_at cs Calendar) id ≡ false → resources_at after ≡ resources_at cs ++ filter (test b) (id ∷ [])
  new_resources b is new =
      resources_by b is ∙ ap (filter (test b)) (with_new (ids_at cs Calendar) id new) ∙ filter-append (test b) (ids_at cs Calendar) (id ∷ [])
      ∙ ap (λ ns. ns ++ filter (test b) (id ∷ [])) (filter_without (is_resource cs) b id (ids_at cs Calendar) new)

  -- a calendar that is of a resource, or isn't, as before
  as_many : is_of_resource o ≡ is_resource cs id → resources_at after ≡ resources_at cs
  as_many same = by_cases (is_in (ids_at cs Calendar) id) refl
    where
      unchanged : (n : ℕ) (here : Bool) → (n == id) ≡ here → (if here then is_of_resource o else is_resource cs n) ≡ is_resource cs n
      unchanged n true e = same ∙ ap (is_resource cs) (sym (same_number n id e))
      unchanged n false e = refl

      by_cases : (known : Bool) → is_in (ids_at cs Calendar) id ≡ known → resources_at after ≡ resources_at cs
      by_cases true e =
          resources_by (is_of_resource o) refl ∙ ap (filter (test (is_of_resource o))) (with_known (ids_at cs Calendar) id e)
          ∙ filter_agree (test (is_of_resource o)) (is_resource cs) (λ n. unchanged n (n == id) refl) (ids_at cs Calendar)
      by_cases false e =
          new_resources (is_of_resource o) refl e
          ∙ ap (λ ns. resources_at cs ++ ns) (none_passes (test (is_of_resource o)) id (at_itself (is_of_resource o) ∙ same ∙ none (is_resource cs id) refl))
          ∙ append-nil (resources_at cs)
        where
          of_some : (p : Option Tree) → is_of_resource p ≡ true → is_some p ≡ true
          of_some None h = absurd (false≢true h)
          of_some (Some t) h = refl

          none : (b : Bool) → is_resource cs id ≡ b → b ≡ false
          none false is = refl
          none true is = absurd (false≢true (sym e ∙ live_is_numbered cs Calendar id (of_some (live_object cs Calendar id) is)))

  -- one that goes
  one_less : is_of_resource o ≡ false → length (resources_at after) ≤ length (resources_at cs)
  one_less none = by_cases (is_in (ids_at cs Calendar) id) refl
    where
      by_cases : (known : Bool) → is_in (ids_at cs Calendar) id ≡ known → length (resources_at after) ≤ length (resources_at cs)
      by_cases true e =
          let is : resources_at after ≡ filter (λ n. not (n == id)) (resources_at cs) =
          resources_by false none ∙ ap (filter (test false)) (with_known (ids_at cs Calendar) id e) ∙ filter_gone (is_resource cs) id (ids_at cs Calendar) in
          omega (arith, ap length is, length-filter_both (λ n. not (n == id)) (λ n. not (not (n == id))) (λ n. refl) (resources_at cs))
      by_cases false e =
          let is : resources_at after ≡ resources_at cs =
          new_resources false none e ∙ ap (λ ns. resources_at cs ++ ns) (none_passes (test false) id (at_itself false)) ∙ append-nil (resources_at cs) in
          omega (arith, ap length is)

-- a calendar that is put
module _ (zones : List ZoneText) (cs : List Change) (id : ℕ) (t : Tree) (most : length (resources_at cs) ≤ MAX_RESOURCES) where
  abbrev after_put : List Change
  after_put = cs ++ change Calendar id (Some t) ∷ []

  new_within : is_in (ids_at cs Calendar) id ≡ false → exceeds_resources cs id (data_of t) ≡ false → length (resources_at after_put) ≤ MAX_RESOURCES
  new_within new room = by_zone (is_some (zone_of_resource t)) refl room
    where
      others : filter (λ m. not (m == id)) (resources_at cs) ≡ resources_at cs
      others = sym (filter_gone (is_resource cs) id (ids_at cs Calendar)) ∙ filter_without (is_resource cs) false id (ids_at cs Calendar) new

      too_many : (m n : ℕ) → nat_le m n ≡ false → n + 1 ≤ m
      too_many m n h = grind (arith, nat_tests)

      by_zone : (b : Bool) → is_some (zone_of_resource t) ≡ b → (b && nat_le MAX_RESOURCES (length (filter (λ m. not (m == id)) (resources_at cs)))) ≡ false → length (resources_at after_put) ≤ MAX_RESOURCES
      by_zone false e h = omega (arith, one_less cs id (Some t) e, most)
      by_zone true e h =
          let less = too_many MAX_RESOURCES (length (resources_at cs)) (ap (λ ns. nat_le MAX_RESOURCES (length ns)) (sym others) ∙ h) in
          let is = ap length (new_resources cs id (Some t) true e new) in
          omega (arith, is, less, length-append (resources_at cs) (filter (test cs id (Some t) true) (id ∷ [])), one_passes (test cs id (Some t) true) id)

  put_within : is_in (ids_at cs Calendar) (next_number cs Calendar) ≡ false → IsObjectFit zones cs Calendar id (Some t) → is_sound zones cs (change Calendar id (Some t)) ≡ true
      → length (resources_at after_put) ≤ MAX_RESOURCES
  put_within new (inl next) sound =
      let parts = sound_parts zones cs (change Calendar id (Some t)) sound in
      new_within (ap (is_in (ids_at cs Calendar)) next ∙ new) (calendar_put zones cs id t parts.1).few
  put_within new (inr same) sound = omega (arith, ap length (as_many cs id (Some t) same), most)

resources_by_kind : (zones : List ZoneText) (cs : List Change) (kind : Kind) (id : ℕ) (o : Option Tree) → length (resources_at cs) ≤ MAX_RESOURCES → is_in (ids_at cs Calendar) (next_number cs Calendar) ≡ false
    → IsObjectFit zones cs kind id o → is_sound zones cs (change kind id o) ≡ true → length (resources_at (cs ++ change kind id o ∷ [])) ≤ MAX_RESOURCES
resources_by_kind zones cs Event id o most new fit sound =
    let after = cs ++ change Event id o ∷ [] in
    let is : resources_at after ≡ resources_at cs =
    filter_agree (is_resource after) (is_resource cs) (event_leaves_resources cs id o) (ids_at after Calendar) ∙ ap (filter (is_resource cs)) (ids_from-push cs [] (change Event id o) Calendar) in
    omega (arith, ap length is, most)
resources_by_kind zones cs Calendar id None most new fit sound = omega (arith, one_less cs id None refl, most)
resources_by_kind zones cs Calendar id (Some t) most new fit sound = put_within zones cs id t most new fit sound

pub resources_more : (zones : List ZoneText) (cs : List Change) (c : Change) → length (resources_at cs) ≤ MAX_RESOURCES → is_in (ids_at cs Calendar) (next_number cs Calendar) ≡ false → IsFit zones cs c
    → length (resources_at (cs ++ c ∷ [])) ≤ MAX_RESOURCES
resources_more zones cs c most new fit = resources_by_kind zones cs c.kind c.id c.object most new fit.object fit.sound
