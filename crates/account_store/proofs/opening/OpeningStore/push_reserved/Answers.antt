use Rattle.std.proofs.Common.{◌≡◌, ◌≤◌, ◌==◌, ◌&&◌, ◌||◌, ◌++◌, ◌∷◌, [], ℕ, List, Option, ap, arith, is_some, length, length-append, option_map, subst, sym, true, ◌∙◌}
use Rattle.std.specs.Prelude.{nat_le}
use Rattle.std.proofs.lemmas.List.{length-map}
use Rattle.account_store.proofs.FollowLemmas.{follows_more, follows_other, known_on, next_told}
use Rattle.account_store.proofs.ShownLemmas.{as_it_is, few_puts, kept_object}
use Rattle.account_store.specs.declared.kept.KeptEvent.{KeptEvent}
use Rattle.object_log.specs.Histories.{Follows, told_by, told_in}
use Rattle.object_log.specs.Puts.{is_known}
use Rattle.object_log.specs.declared.put.Put.{Put}
use Rattle.spec_history.specs.History.{changes_of, is_kind, live_object, next_number}
use Rattle.spec_history.specs.declared.entry.Entry.{Entry}
use Rattle.spec_history.specs.declared.entry.Kind.{Kind}
use Rattle.spec_history.specs.declared.entry.Kind.TheVariants.{Calendar, Event}
use Rattle.spec_json.specs.declared.tree.Tree.{Tree}
use Rattle.account_store.proofs.opening.OpeningStore.push_reserved.Goals as goal

pub put-requires-clause-next : goal.put-requires-clause-next
put-requires-clause-next c =
    let s = c.args.self.now in
    let cs = changes_of s.told.items in
    let d = c.args.entry.change in
    next_told (λ (t : Tree). t) Calendar s.calendars.told.items (record { id = d.id; object = c.args.entry.change.object; size = c.args.size }) cs s.calendars_follow
    (subst (λ (q : Kind). ((d.id == next_number cs q) || is_some (live_object cs q d.id)) ≡ true) c.in-Calendar.is c.requires.numbered)

pub put-requires-clause-few : goal.put-requires-clause-few
put-requires-clause-few c =
    let s = c.args.self.now in
    let cs = changes_of s.told.items in
    omega (arith, few_puts (λ (t : Tree). t) s.calendars.told.items Calendar cs s.calendars_follow, c.requires.few, length-map s.told.items (λ (x : Entry). x.change))

pub invariant_of-self : goal.invariant_of-self
invariant_of-self c =
    let s = c.args.self.now in
    let es = s.told.items in
    let e = c.args.entry in
    let d = e.change in
    let ps = s.calendars.told.items in
    let p : Put Tree = record { id = d.id; object = c.args.entry.change.object; size = c.args.size } in
    let told : c.and-self.result.items ≡ es ++ e ∷ [] = c.and-self.ensures in
    let same : told_by (λ (t : Tree). t) p ≡ told_in d = ap (λ (o : Option Tree). (d.id, (o, c.args.size))) (as_it_is d.object) ∙ ap (λ (n : ℕ). (d.id, (d.object, n))) c.requires.size in
    let more = follows_more (λ (t : Tree). t) Calendar ps p es e s.calendars_follow (ap (λ q. is_kind Calendar q) c.in-Calendar.is) same in
    let after = c.put.new.self in
    let within : s.calendars.first ≤ length ps = omega (arith, s.calendars.counted) in
    record {
      calendars_follow = subst (λ (l : List (Put Tree)). Follows (λ (t : Tree). t) l Calendar (changes_of c.and-self.result.items)) (sym c.put.ensures.puts) (subst (λ (l : List Entry). Follows (λ (t : Tree). t) (ps ++ p ∷ []) Calendar (changes_of l)) (sym told) more);
      events_follow = subst (λ (l : List Entry). Follows (λ (x : KeptEvent). x.object) s.events.told.items Event (changes_of l)) (sym told) (follows_other (λ (x : KeptEvent). x.object) Event s.events.told.items es e s.events_follow (ap (λ q. is_kind Event q) c.in-Calendar.is));
      calendars_low = omega (arith, s.calendars_low, c.put.ensures.rises);
      calendars_known = λ k from. subst (λ (l : List (Put Tree)). (nat_le after.first k && nat_le k (length l)) ≡ is_known l k) (sym c.put.ensures.puts)
          (known_on ps p s.calendars.first after.first k within c.put.ensures.rises (s.calendars_known k from)
          (λ low. subst (λ (l : List (Put Tree)). (nat_le after.first k && nat_le k (length l)) ≡ is_known l k) c.put.ensures.puts (c.put.ensures.known k low)));
      events_known = s.events_known;
      events_low = s.events_low;
      counted = omega (arith, s.counted, ap (λ (l : List Entry). length l) told, length-append es (e ∷ []));
    }

pub put-requires-in-Event-clause-next : goal.put-requires-in-Event-clause-next
put-requires-in-Event-clause-next c =
    let s = c.args.self.now in
    let cs = changes_of s.told.items in
    let d = c.args.entry.change in
    next_told (λ (x : KeptEvent). x.object) Event s.events.told.items (record { id = d.id; object = c.kept_event-object.result; size = c.args.size }) cs s.events_follow
    (subst (λ (q : Kind). ((d.id == next_number cs q) || is_some (live_object cs q d.id)) ≡ true) c.in-Event.is c.requires.numbered)

pub put-requires-in-Event-clause-few : goal.put-requires-in-Event-clause-few
put-requires-in-Event-clause-few c =
    let s = c.args.self.now in
    let cs = changes_of s.told.items in
    omega (arith, few_puts (λ (x : KeptEvent). x.object) s.events.told.items Event cs s.events_follow, c.requires.few, length-map s.told.items (λ (x : Entry). x.change))

pub invariant_of-self-in-Event : goal.invariant_of-self-in-Event
invariant_of-self-in-Event c =
    let s = c.args.self.now in
    let es = s.told.items in
    let e = c.args.entry in
    let d = e.change in
    let ps = s.events.told.items in
    let p : Put KeptEvent = record { id = d.id; object = c.kept_event-object.result; size = c.args.size } in
    let told : c.and-self.result.items ≡ es ++ e ∷ [] = c.and-self.ensures in
    let same : told_by (λ (x : KeptEvent). x.object) p ≡ told_in d = ap (λ (o : Option Tree). (d.id, (o, c.args.size))) (ap (option_map (λ (x : KeptEvent). x.object)) c.kept_event-object.ensures ∙ kept_object d.object c.args.series) ∙ ap (λ (n : ℕ). (d.id, (d.object, n))) c.requires.size in
    let more = follows_more (λ (x : KeptEvent). x.object) Event ps p es e s.events_follow (ap (λ q. is_kind Event q) c.in-Event.is) same in
    let after = c.put-in-Event.new.self in
    let within : s.events.first ≤ length ps = omega (arith, s.events.counted) in
    record {
      events_follow = subst (λ (l : List (Put KeptEvent)). Follows (λ (x : KeptEvent). x.object) l Event (changes_of c.and-self.result.items)) (sym c.put-in-Event.ensures.puts) (subst (λ (l : List Entry). Follows (λ (x : KeptEvent). x.object) (ps ++ p ∷ []) Event (changes_of l)) (sym told) more);
      calendars_follow = subst (λ (l : List Entry). Follows (λ (t : Tree). t) s.calendars.told.items Calendar (changes_of l)) (sym told) (follows_other (λ (t : Tree). t) Calendar s.calendars.told.items es e s.calendars_follow (ap (λ q. is_kind Calendar q) c.in-Event.is));
      events_low = omega (arith, s.events_low, c.put-in-Event.ensures.rises);
      events_known = λ k from. subst (λ (l : List (Put KeptEvent)). (nat_le after.first k && nat_le k (length l)) ≡ is_known l k) (sym c.put-in-Event.ensures.puts)
          (known_on ps p s.events.first after.first k within c.put-in-Event.ensures.rises (s.events_known k from)
          (λ low. subst (λ (l : List (Put KeptEvent)). (nat_le after.first k && nat_le k (length l)) ≡ is_known l k) c.put-in-Event.ensures.puts (c.put-in-Event.ensures.known k low)));
      calendars_known = s.calendars_known;
      calendars_low = s.calendars_low;
      counted = omega (arith, s.counted, ap (λ (l : List Entry). length l) told, length-append es (e ∷ []));
    }
