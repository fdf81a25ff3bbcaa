use Rattle.std.proofs.Common.{arith, sym, ◌∙◌}
use Rattle.std.proofs.lemmas.List.{length-map}
use Rattle.account_core.proofs.CreatedCount.{few_ids, numbers_told}
use Rattle.account_opening.proofs.NumberedLemmas.{numbers_in_order}
use Rattle.account_store.specs.Store.{entries}
use Rattle.spec_history.specs.History.{changes_of}
use Rattle.spec_history.specs.declared.entry.Entry.{Entry}
use Rattle.spec_history.specs.declared.entry.Kind.TheVariants.{Calendar, Event}
use Rattle.account_core.proofs.tally.Tally.at.Goals as goal

pub invariant_of-result : goal.invariant_of-result
invariant_of-result c =
    let es = entries c.args.opened.now.store in
    let count = length-map es (λ (e : Entry). e.change) in
    let goes = c.requires.1.goes_on in
    let calendars = few_ids (changes_of es) Calendar in
    let events = few_ids (changes_of es) Event in
    record {
      few = omega (arith, c.len.ensures, count, goes.changes);
      within = omega (arith, c.requires.1.objects, goes.live);
      small = omega (arith, c.requires.1.size, goes.size);
      calendars_numbered = omega (arith, c.created.ensures, calendars, c.len.ensures, count);
      events_numbered = omega (arith, c.created-2.ensures, events, c.len.ensures, count);
    }

pub returns : goal.returns
returns c =
    let es = entries c.args.opened.now.store in
    let order = numbers_in_order (changes_of es) c.requires.1.goes_on.numbered in
    record {
      entries = c.len.ensures ∙ sym (length-map es (λ (e : Entry). e.change));
      objects = c.requires.1.objects;
      size = c.requires.1.size;
      numbers = numbers_told _ (changes_of es) order c.created.ensures c.created-2.ensures;
    }
