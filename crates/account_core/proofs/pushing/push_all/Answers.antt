use Rattle.std.proofs.Common.{◌≡◌, ◌+◌, ◌++◌, ◌∷◌, [], List, ap, arith, drop, length, length-append, refl, rules, suc, sym, ◌∙◌}
use Rattle.std.proofs.lemmas.Iterator.Adapters.{YieldsList-from_vec}
use Rattle.std.proofs.lemmas.Iterator.Consumers.{YieldsList-so_far, YieldsList-turn}
use Rattle.std.proofs.lemmas.List.{length-map, map_push}
use Rattle.account_core.proofs.Committing.{entries_more}
use Rattle.account_core.proofs.Opened.{behind}
use Rattle.account_core.proofs.PushLemmas.{left_behind, next_left, numbered_parts, read_next, same_behind}
use Rattle.account_core.proofs.SeriesRead.{more_read}
use Rattle.spec_snapshots.specs.Numbered.{are_numbered}
use Rattle.account_core.specs.declared.reading.Reading.{Reading}
use Rattle.account_store.specs.Store.{entries, event_puts}
use Rattle.cal_model.specs.Answer.{entry_of}
use Rattle.cal_model.specs.Quota.{size_of_object}
use Rattle.spec_bookings.specs.SeriesPut.{series_put}
use Rattle.spec_history.specs.History.{changes_of}
use Rattle.spec_history.specs.declared.entry.Change.{Change}
use Rattle.spec_history.specs.declared.entry.Entry.{Entry}
use Rattle.account_core.proofs.pushing.push_all.Goals as goal

pub loop-change-init : goal.loop-change-init
loop-change-init c = record {
  grown = search rules;
  count = search rules;
  enough = omega (arith, c.requires.spare);
  part = search rules;
  place = refl;
  numbered = c.requires.numbered;
  left = refl;
  len = refl;
  series = λ zones read h. h;
}

pub take-size-requires : goal.take-size-requires
take-size-requires c =
    let all = c.args.changes.items in
    let road = YieldsList-from_vec {s = c.into_iter-change-iterator.result} all (search rules) (search rules) in
    let turn = YieldsList-turn road c.loop-change.yielded c.loop-change.change-iterator c.loop-change.yielded_by c.next.result c.next.new.self c.in-Some.change c.in-Some.is c.next.ensures.steps in
    let many : length c.args.readings.now.items ≡ length all =
    sym (length-map c.args.readings.now.items (λ (r : Reading). r.size)) ∙ ap length c.requires.sizes ∙ length-map all (λ (d : Change). size_of_object d.object) in
    omega (arith, turn.0, many, c.loop-change.invariant.place, c.loop-change.invariant.len)

pub push_reserved-requires-clause-numbered : goal.push_reserved-requires-clause-numbered
push_reserved-requires-clause-numbered c =
    let all = c.args.changes.items in
    let road = YieldsList-from_vec {s = c.into_iter-change-iterator.result} all (search rules) (search rules) in
    let so_far = YieldsList-so_far road c.loop-change.yielded c.loop-change.change-iterator c.loop-change.yielded_by in
    let turn = YieldsList-turn road c.loop-change.yielded c.loop-change.change-iterator c.loop-change.yielded_by c.next.result c.next.new.self c.in-Some.change c.in-Some.is c.next.ensures.steps in
    let rest = drop (suc (length c.loop-change.yielded)) all in
    let all_is : all ≡ c.loop-change.yielded ++ c.in-Some.change ∷ rest = behind all c.loop-change.yielded c.in-Some.change so_far turn in
    (numbered_parts (changes_of (entries c.loop-change.store)) all c.loop-change.yielded c.in-Some.change rest all_is c.loop-change.invariant.numbered).0

pub push_reserved-requires-clause-few : goal.push_reserved-requires-clause-few
push_reserved-requires-clause-few c =
    let all = c.args.changes.items in
    let road = YieldsList-from_vec {s = c.into_iter-change-iterator.result} all (search rules) (search rules) in
    let turn = YieldsList-turn road c.loop-change.yielded c.loop-change.change-iterator c.loop-change.yielded_by c.next.result c.next.new.self c.in-Some.change c.in-Some.is c.next.ensures.steps in
    omega (arith, turn.0, c.requires.few, c.loop-change.invariant.count)

pub push_reserved-requires-clause-size : goal.push_reserved-requires-clause-size
push_reserved-requires-clause-size c =
    let all = c.args.changes.items in
    let road = YieldsList-from_vec {s = c.into_iter-change-iterator.result} all (search rules) (search rules) in
    let so_far = YieldsList-so_far road c.loop-change.yielded c.loop-change.change-iterator c.loop-change.yielded_by in
    let turn = YieldsList-turn road c.loop-change.yielded c.loop-change.change-iterator c.loop-change.yielded_by c.next.result c.next.new.self c.in-Some.change c.in-Some.is c.next.ensures.steps in
    let rest = drop (suc (length c.loop-change.yielded)) all in
    let all_is : all ≡ c.loop-change.yielded ++ c.in-Some.change ∷ rest = behind all c.loop-change.yielded c.in-Some.change so_far turn in
    let left = ap (λ n. drop n all) c.loop-change.invariant.place ∙ next_left all c.loop-change.yielded c.in-Some.change rest all_is in
    read_next (λ (r : Reading). r.size) (λ (d : Change). size_of_object d.object) c.args.readings.now.items c.loop-change.readings.items all c.loop-change.place c.take-size.result c.in-Some.change rest
    c.requires.sizes c.loop-change.invariant.left left (c.take-size.ensures.taken c.take-size.result)

pub loop-change-preserved : goal.loop-change-preserved
loop-change-preserved c =
    let all = c.args.changes.items in
    let yielded = c.loop-change.yielded in
    let change = c.in-Some.change in
    let road = YieldsList-from_vec {s = c.into_iter-change-iterator.result} all (search rules) (search rules) in
    let so_far = YieldsList-so_far road yielded c.loop-change.change-iterator c.loop-change.yielded_by in
    let turn = YieldsList-turn road yielded c.loop-change.change-iterator c.loop-change.yielded_by c.next.result c.next.new.self change c.in-Some.is c.next.ensures.steps in
    let rest = drop (suc (length yielded)) all in
    let all_is : all ≡ yielded ++ change ∷ rest = behind all yielded change so_far turn in
    let left = ap (λ n. drop n all) c.loop-change.invariant.place ∙ next_left all yielded change rest all_is in
    let parts = numbered_parts (changes_of (entries c.loop-change.store)) all yielded change rest all_is c.loop-change.invariant.numbered in
    let longer = length-append yielded (change ∷ []) in
    let entry : Entry = entry_of c.args.stamp.now c.loop-change.part change in
    record {
      grown = entries_more _ _ _ c.args.stamp.now yielded change c.args.first c.loop-change.part c.loop-change.invariant.grown c.loop-change.invariant.part c.push_reserved.ensures.entries;
      count = omega (arith, ap (λ (es : List Entry). length es) c.push_reserved.ensures.entries, length-append (entries c.loop-change.store) (entry ∷ []), c.loop-change.invariant.count, longer);
      enough = omega (arith, c.loop-change.invariant.enough, c.push_reserved.ensures.spare, longer);
      part = omega (arith, c.loop-change.invariant.part, longer);
      place = omega (arith, c.loop-change.invariant.place, longer);
      numbered = ap (λ (es : List Entry). are_numbered (changes_of es) (drop (length (yielded ++ change ∷ [])) all)) c.push_reserved.ensures.entries
          ∙ ap (λ (cs : List Change). are_numbered cs (drop (length (yielded ++ change ∷ [])) all)) (map_push (λ (e : Entry). e.change) (entries c.loop-change.store) entry)
          ∙ ap (are_numbered (changes_of (entries c.loop-change.store) ++ change ∷ [])) (left_behind all yielded change rest all_is) ∙ parts.1;
      left = same_behind c.args.readings.now.items c.loop-change.readings.items c.take-size.new.readings.items c.loop-change.place (c.loop-change.place + 1) refl c.loop-change.invariant.left c.take-size.ensures.later;
      len = c.take-size.ensures.len ∙ c.loop-change.invariant.len;
      series = λ zones read h.
          more_read zones (event_puts c.loop-change.store) (event_puts c.push_reserved.new.self) change c.take-size.result.series (c.loop-change.invariant.series zones read h)
          (read_next (λ (r : Reading). r.series) (series_put zones) c.args.readings.now.items c.loop-change.readings.items all c.loop-change.place c.take-size.result change rest
          read c.loop-change.invariant.left left (c.take-size.ensures.taken c.take-size.result)) c.push_reserved.ensures.events;
    }
