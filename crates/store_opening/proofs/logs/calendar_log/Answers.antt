use Rattle.std.proofs.Common.{◌≡◌, ap, length, refl, subst, suc, sym, true, List, ◌∙◌}
use Rattle.object_log.specs.Puts.{ids_put, latest}
use Rattle.object_log.specs.Slots.{object_in, rises}
use Rattle.object_log.specs.declared.put.Put.{Put}
use Rattle.object_log.specs.declared.slots.IdSlot.{IdSlot}
use Rattle.spec_history.specs.History.{changes_of}
use Rattle.spec_history.specs.declared.entry.Kind.TheVariants.{Calendar}
use Rattle.spec_json.specs.declared.tree.Tree.{Tree}
use Rattle.store_opening.proofs.LogLemmas.{opens_at}
use Rattle.store_opening.proofs.logs.calendar_log.Goals as goal

pub open-requires-clause-state : goal.open-requires-clause-state
open-requires-clause-state c =
    let at = opens_at (λ (t : Tree). t) (λ (t : Tree). t) (λ t. refl) Calendar (changes_of c.args.past.now.items) c.args.floor c.requires.floor in
    ap (λ (ps : List (Put Tree)). length ps) c.of-told.ensures ∙ at.state

pub open-requires-clause-numbered : goal.open-requires-clause-numbered
open-requires-clause-numbered c =
    let at = opens_at (λ (t : Tree). t) (λ (t : Tree). t) (λ t. refl) Calendar (changes_of c.args.past.now.items) c.args.floor c.requires.floor in
    ap (λ (ps : List (Put Tree)). ids_put ps) c.of-told.ensures ∙ at.numbered

pub open-requires-clause-rising : goal.open-requires-clause-rising
open-requires-clause-rising c =
    let at = opens_at (λ (t : Tree). t) (λ (t : Tree). t) (λ t. refl) Calendar (changes_of c.args.past.now.items) c.args.floor c.requires.floor in
    subst (λ (ss : List (IdSlot Tree)). rises 0 (suc c.args.floor.created) ss ≡ true) (sym c.in_ok-slots.ensures) at.rising

pub open-requires-clause-standing : goal.open-requires-clause-standing
open-requires-clause-standing c = λ id.
    let at = opens_at (λ (t : Tree). t) (λ (t : Tree). t) (λ t. refl) Calendar (changes_of c.args.past.now.items) c.args.floor c.requires.floor in
    ap (λ (ss : List (IdSlot Tree)). object_in ss id) c.in_ok-slots.ensures ∙ at.standing id ∙ sym (ap (λ (ps : List (Put Tree)). latest ps id) c.of-told.ensures)

pub returns-clause-puts : goal.returns-clause-puts
returns-clause-puts c = c.open.ensures.puts ∙ c.of-told.ensures
