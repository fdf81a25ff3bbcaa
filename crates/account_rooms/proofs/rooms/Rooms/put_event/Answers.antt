use Rattle.std.proofs.Common.{◌≡◌, ◌∙◌, Some, ap, false, map, option_map, rules, subst, sym, take, true}
use Rattle.std.proofs.lemmas.Option.{none-some}
use Rattle.std.proofs.lemmas.Result.{on_ok_weaker}
use Rattle.std.specs.List.{list_any}
use Rattle.account_rooms.proofs.Slots.{kept_take, not_taken, retired_kept, short_series, taken, week_of}
use Rattle.account_rooms.specs.RoomChanges.{IsShortSeries, MayChange, booked_again}
use Rattle.account_rooms.specs.RoomsView.{RoomsView}
use Rattle.account_rooms.specs.Slots.{booked, rooms_kept, rooms_now, is_booked_by}
use Rattle.spec_history.specs.declared.entry.Kind.TheVariants.{Event}
use Rattle.spec_json.specs.TreeData.{data_of}
use Rattle.account_rooms.proofs.rooms.Rooms.put_event.Goals as goal

pub returns-then-not-is_in_any-clause-ok : goal.returns-then-not-is_in_any-clause-ok
returns-then-not-is_in_any-clause-ok c =
    let ss = c.self.inside.slots.items in
    let n = c.args.number in
    let t = c.args.event.now in
    let series = option_map (λ s. s.now) c.args.series in
    let tested = c.is_in_any.ensures ∙ ap (list_any (is_booked_by (data_of t))) (c.deref.ensures.value ∙ c.retire_in_all.ensures) in
    let none : c.is_in_any.result ≡ false = search rules in
    ap rooms_now c.retire_in_all.ensures ∙ not_taken n t series ss (sym tested ∙ none) ∙ ap (λ (v : RoomsView). map (booked_again n (Some t) series) v.rooms) c.self.view_is

pub returns-then-not-is_in_any-clause-kept : goal.returns-then-not-is_in_any-clause-kept
returns-then-not-is_in_any-clause-kept c =
    ap (λ ss. rooms_kept (take c.self.inside.kept ss)) c.retire_in_all.ensures ∙ retired_kept c.args.number c.self.inside.kept c.self.inside.slots.items ∙ ap (λ (v : RoomsView). v.kept) c.self.view_is

pub unreachable-requires : goal.unreachable-requires
unreachable-requires c =
    let ss = c.self.inside.slots.items in
    let n = c.args.number in
    let t = c.args.event.now in
    let series = option_map (λ s. s.now) c.args.series in
    let tested = c.is_in_any.ensures ∙ ap (list_any (is_booked_by (data_of t))) (c.deref.ensures.value ∙ c.retire_in_all.ensures) in
    let some : c.is_in_any.result ≡ true = search rules in
    let may = subst (λ (v : RoomsView). MayChange v.rooms Event (Some t) series) (sym c.self.view_is) c.requires in
    let short = subst (λ o. IsShortSeries (option_map (λ s. s.now) o)) c.in-None.is (short_series n t series ss may (sym tested ∙ some)) in
    none-some short.series short.is

pub book_in_all-requires : goal.book_in_all-requires
book_in_all-requires c =
    let ss = c.self.inside.slots.items in
    let n = c.args.number in
    let t = c.args.event.now in
    let series = option_map (λ s. s.now) c.args.series in
    let tested = c.is_in_any.ensures ∙ ap (list_any (is_booked_by (data_of t))) (c.deref.ensures.value ∙ c.retire_in_all.ensures) in
    let some : c.is_in_any.result ≡ true = search rules in
    let may = subst (λ (v : RoomsView). MayChange v.rooms Event (Some t) series) (sym c.self.view_is) c.requires in
    let short = short_series n t series ss may (sym tested ∙ some) in
    week_of c.in-Some.series.now (subst (λ o. IsShortSeries (option_map (λ s. s.now) o)) c.in-Some.is short)

pub returns-clause-ok : goal.returns-clause-ok
returns-clause-ok c =
    let ss = c.self.inside.slots.items in
    let n = c.args.number in
    let t = c.args.event.now in
    let series = c.in-Some.series.now in
    on_ok_weaker c.book_in_all.result
    (λ e.
    ap rooms_now (e ∙ ap (map (booked n (data_of t) series)) c.retire_in_all.ensures)
    ∙ taken n t series ss
    ∙ ap (λ o. map (booked_again n (Some t) (option_map (λ s. s.now) o)) (rooms_now ss)) (sym c.in-Some.is)
    ∙ ap (λ (v : RoomsView). map (booked_again n (Some t) (option_map (λ s. s.now) c.args.series)) v.rooms) c.self.view_is)
    c.book_in_all.ensures.ok

pub returns-clause-kept : goal.returns-clause-kept
returns-clause-kept c =
    let k = c.self.inside.kept in
    kept_take k c.book_in_all.new.slots.items ∙ ap (take k) c.book_in_all.ensures.kept ∙ sym (kept_take k c.retire_in_all.new.slots.items)
    ∙ ap (λ ss. rooms_kept (take c.self.inside.kept ss)) c.retire_in_all.ensures ∙ retired_kept c.args.number c.self.inside.kept c.self.inside.slots.items ∙ ap (λ (v : RoomsView). v.kept) c.self.view_is
