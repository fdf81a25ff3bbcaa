use Rattle.std.proofs.Common.{◌≡◌, ◌||◌, ◌∙◌, Bool, true, false, ap, refl, rules}
use Rattle.std.specs.BTreeSet.{contains}
use Rattle.std.specs.List.{list_any}
use Rattle.std.specs.Ordering.{nat_cmp}
use Rattle.account_core.proofs.InUse.{has_event_among}
use Rattle.account_store.proofs.LiveLemmas.{objects_of_live}
use Rattle.account_store.specs.Store.{entries}
use Rattle.cal_model.specs.EventObject.{has_event}
use Rattle.spec_events.specs.Events.{names_calendar}
use Rattle.spec_history.specs.History.{changes_of}
use Rattle.spec_history.specs.declared.entry.Kind.TheVariants.{Event}
use Rattle.spec_json.specs.TreeData.{data_of}
use Rattle.account_core.proofs.uses.calendars_in_use.Goals as goal

or_none : (b : Bool) → (b || false) ≡ b
or_none true = refl
or_none false = refl

pub loop-number-init : goal.loop-number-init
loop-number-init c = λ n.
    let cs = changes_of (entries c.args.store.now) in
    let none : contains nat_cmp c.new-in_use.result n ≡ false = search rules in
    let all : has_event_among cs n c.deref-number-items.result.now ≡ has_event cs n =
    ap (has_event_among cs n) (c.deref-number-items.ensures.value ∙ c.in_ok-numbers.ensures) ∙ ap (list_any (λ t. names_calendar n (data_of t))) (objects_of_live cs Event) in
    ap (λ b. has_event_among cs n c.deref-number-items.result.now || b) none ∙ or_none (has_event_among cs n c.deref-number-items.result.now) ∙ all
