use Rattle.std.proofs.Common.{◌≡◌, ◌∙◌, Bool, option_map, subst, sym}
use Rattle.std.specs.Prelude.{IfOk}
use Rattle.jiff_tz.specs.PosixText.{tz_view}
use Rattle.spec_json.specs.TreeData.{data_of}
use Rattle.query_filter.proofs.KeptLemmas.{times_alone, times_met, times_missed}
use Rattle.query_filter.proofs.condition.EventTest.holds_by.Goals as goal

pub returns-then-not-overlaps_window : goal.returns-then-not-overlaps_window
returns-then-not-overlaps_window c =
    let s = c.args.self.now in
    sym (times_missed s.clock.now (option_map (λ x. x.now) s.series) (option_map (λ r. tz_view r.now) s.rule) (data_of s.event.now) (data_of c.args.filter.now) c.args.times c.requires.times
    (sym c.overlaps_window.ensures ∙ c.if-not-overlaps_window.true))

pub returns-then-times : goal.returns-then-times
returns-then-times c =
    let s = c.args.self.now in
    sym (times_alone s.clock.now (option_map (λ x. x.now) s.series) (option_map (λ r. tz_view r.now) s.rule) (data_of s.event.now) (data_of c.args.filter.now) c.args.times c.requires.times
    (sym c.overlaps_window.ensures ∙ c.if-not-overlaps_window.false) c.if-times.true)

pub returns : goal.returns
returns c =
    let s = c.args.self.now in
    subst (λ (x : Bool). IfOk c.others_hold.result (λ b. b ≡ x))
    (sym (times_met s.clock.now (option_map (λ x. x.now) s.series) (option_map (λ r. tz_view r.now) s.rule) (data_of s.event.now) (data_of c.args.filter.now) c.args.times c.requires.times
    (sym c.overlaps_window.ensures ∙ c.if-not-overlaps_window.false)))
    c.others_hold.ensures
