use Rattle.std.proofs.Common.{◌≡◌, ◌≤◌, ◌^◌, ◌++◌, ℕ, List, [], true, false, ap, arith, length, subst, sym, ◌∙◌}
use Rattle.std.proofs.lemmas.Bool.{false≢true}
use Rattle.std.proofs.lemmas.Result.{IfErr-weaker, IfOk-weaker}
use Rattle.std.specs.Prelude.{IfOk}
use Rattle.account_store.specs.Opening.{opening_entries}
use Rattle.account_store.specs.Store.{entries}
use Rattle.account_store.specs.declared.store.Store.{Store}
use Rattle.spec_history.specs.History.{changes_of}
use Rattle.spec_history.specs.declared.entry.Entry.{Entry}
use Rattle.spec_history.specs.declared.entry.Kind.{Kind}
use Rattle.spec_history.specs.declared.entry.Kind.TheVariants.{Calendar, Event}
use Rattle.spec_snapshots.specs.Kept.{IsFloor}
use Rattle.spec_snapshots.specs.Numbered.{are_numbered}
use Rattle.store_opening.proofs.FrontLemmas.{forgotten_at, front_count, front_floor, front_whole, whole_count}
use Rattle.store_opening.specs.declared.open.StoreError.{StoreError}
use Rattle.store_opening.specs.declared.open.StoreError.TheVariants.{BadChange}
use Rattle.store_opening.proofs.open.open_store.Goals as goal

pub at_floors-requires-clause-count : goal.at_floors-requires-clause-count
at_floors-requires-clause-count c =
    omega (arith, c.in-Some.ensures.some.0, front_count c.args.loaded.told.items c.args.loaded.kept c.requires, ap (λ (es : List Entry). length es) c.of-past.ensures)

pub at_floors-requires-clause-calendars : goal.at_floors-requires-clause-calendars
at_floors-requires-clause-calendars c =
    let kept = c.args.loaded.kept in
    subst (λ (es : List Entry). IsFloor (changes_of es) Calendar kept.calendars) (sym c.of-past.ensures) (front_floor c.args.loaded.told.items kept c.requires Calendar)

pub at_floors-requires-clause-events : goal.at_floors-requires-clause-events
at_floors-requires-clause-events c =
    let kept = c.args.loaded.kept in
    subst (λ (es : List Entry). IsFloor (changes_of es) Event kept.events) (sym c.of-past.ensures) (front_floor c.args.loaded.told.items kept c.requires Event)

pub push_all-requires-clause-few : goal.push_all-requires-clause-few
push_all-requires-clause-few c =
    let front_is = c.in_ok-opening.ensures.entries ∙ c.of-past.ensures in
    omega (arith, c.in-Some.ensures.some.0, c.in-Some.ensures.some.1, front_count c.args.loaded.told.items c.args.loaded.kept c.requires, ap (λ (es : List Entry). length es) front_is)

pub push_all-requires-clause-forgotten : goal.push_all-requires-clause-forgotten
push_all-requires-clause-forgotten c =
    forgotten_at c.args.loaded.told.items c.args.loaded.kept c.requires c.in_ok-opening.opening (c.in_ok-opening.ensures.entries ∙ c.of-past.ensures) c.in_ok-opening.ensures.calendars_from c.in_ok-opening.ensures.events_from

pub returns-clause-entries : goal.returns-clause-entries
returns-clause-entries c =
    let behind = c.args.loaded.kept.behind.items in
    let whole = ap (λ (es : List Entry). es ++ behind) (c.in_ok-opening.ensures.entries ∙ c.of-past.ensures) ∙ front_whole c.args.loaded.told.items c.args.loaded.kept c.requires in
    subst (λ (es : List Entry). IfOk c.push_all.result (λ s. entries s ≡ es)) whole c.push_all.ensures.entries

pub returns-clause-few : goal.returns-clause-few
returns-clause-few c =
    let told = c.args.loaded.told.items in
    let few : length told ≤ 2 ^ 40 = omega (arith, c.in-Some.ensures.some.0, c.in-Some.ensures.some.1, whole_count told c.args.loaded.kept c.requires) in
    IfOk-weaker c.push_all.result (λ (s : Store). entries s ≡ opening_entries c.in_ok-opening.opening ++ c.args.loaded.kept.behind.items) (λ _. length told ≤ 2 ^ 40) (λ s is. few) c.push_all.ensures.entries

pub returns-clause-refused : goal.returns-clause-refused
returns-clause-refused c =
    let told = c.args.loaded.told.items in
    let behind = c.args.loaded.kept.behind.items in
    let opened = opening_entries c.in_ok-opening.opening in
    let whole : opened ++ behind ≡ told = ap (λ (es : List Entry). es ++ behind) (c.in_ok-opening.ensures.entries ∙ c.of-past.ensures) ∙ front_whole told c.args.loaded.kept c.requires in
    IfErr-weaker c.push_all.result (λ (e : StoreError). (kind : Kind) (id : ℕ) → e ≡ BadChange kind id → are_numbered [] (changes_of (opened ++ behind)) ≡ false)
    (λ (e : StoreError). (kind : Kind) (id : ℕ) → e ≡ BadChange kind id → are_numbered [] (changes_of told) ≡ true → length told ≤ 2 ^ 40 → ⊥)
    (λ e refused kind id is numbered few. false≢true (sym (refused kind id is) ∙ ap (λ (es : List Entry). are_numbered [] (changes_of es)) whole ∙ numbered)) c.push_all.ensures.refused

pub returns-in_default-clause-refused : goal.returns-in_default-clause-refused
returns-in_default-clause-refused c = λ kind id is numbered few. omega (arith, c.in_default.ensures.none, few, whole_count c.args.loaded.told.items c.args.loaded.kept c.requires)
