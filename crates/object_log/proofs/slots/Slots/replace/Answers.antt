use Rattle.std.proofs.Common.{◌≡◌, ◌==◌, ap, ◌∙◌, if◌then◌else◌, suc, sym}
use Rattle.object_log.proofs.SlotLemmas.{found_at, object_set, rises_set}
use Rattle.object_log.specs.Slots.{object_in}
use Rattle.object_log.specs.declared.slots.IdSlot.{IdSlot}
use Rattle.object_log.proofs.slots.Slots.replace.Goals as goal

pub invariant_of-self : goal.invariant_of-self
invariant_of-self g c =
    let t = c.args.self.now in
    let s = c.index_mut.result.now in
    let same : s.id ≡ c.args.id = ap (λ (r : IdSlot g.row.T.Denot). r.id) c.index_mut.ensures.value ∙ c.in-Some.ensures.found s in
    record { rising = rises_set 0 (suc t.created) c.in-Some.place s.id c.replace.new.dest t.items.items c.in-Some.ensures.within (λ d. c.in-Some.ensures.found d ∙ sym same) t.rising }

pub returns-in-Some-clause-before : goal.returns-in-Some-clause-before
returns-in-Some-clause-before g c =
    let t = c.args.self.now in
    let s = c.index_mut.result.now in
    let at = c.in-Some.place in
    c.replace.ensures.value ∙ ap (λ (r : IdSlot g.row.T.Denot). r.object) c.index_mut.ensures.value
    ∙ sym (found_at 0 (suc t.created) at t.items.items s t.rising c.in-Some.ensures.within) ∙ ap (object_in t.items.items) (c.in-Some.ensures.found s)

pub returns-in-Some-clause-after : goal.returns-in-Some-clause-after
returns-in-Some-clause-after g c = λ q.
    let t = c.args.self.now in
    let s = c.index_mut.result.now in
    let at = c.in-Some.place in
    let same : s.id ≡ c.args.id = ap (λ (r : IdSlot g.row.T.Denot). r.id) c.index_mut.ensures.value ∙ c.in-Some.ensures.found s in
    object_set 0 (suc t.created) at s.id c.replace.new.dest t.items.items q t.rising c.in-Some.ensures.within (λ d. c.in-Some.ensures.found d ∙ sym same)
    ∙ ap (λ id. if id == q then c.replace.new.dest else object_in t.items.items q) same ∙ ap (λ o. if c.args.id == q then o else object_in t.items.items q) c.replace.ensures.after
