use Rattle.std.proofs.Common.{◌≡◌, ◌≤◌, ◌∙◌, List, ℕ, Err, refl, rules, sym, ap, subst, arith}
use Rattle.spec_time.specs.Moments.{clamped}
use Rattle.io_edge.specs.Outside.{Grows, GrowsByPrefix}
use Rattle.kept_run.proofs.LineLemmas.{line_unkept, line_unwritten, line_written}
use Rattle.kept_run.proofs.TextLemmas.{grown_within, same_count}
use Rattle.kept_run.proofs.TurnLemmas.{turns_added}
use Rattle.kept_run.specs.Steps.{AreWithin, HaveTurns}
use Rattle.spec_batch.proofs.Chains.{turns_counted}
use Rattle.account_desk.specs.SoleDesk.{shown_of}
use Rattle.spec_history.specs.MostTurns.{most_turns}
use Rattle.kept_run.proofs.line.answer_line.Goals as goal

pub keep_new-requires-clause-all : goal.keep_new-requires-clause-all
keep_new-requires-clause-all g c κs within =
    let t = c.in-Ok-line_text.ensures in
    same_count c.args.desk.now c.line_text.new.desk t.made t.chain ∙ c.requires.all

pub keep_new-requires-clause-within : goal.keep_new-requires-clause-within
keep_new-requires-clause-within g c κs within =
    let t = c.in-Ok-line_text.ensures in
    subst (λ (places : List ℕ). AreWithin places c.line_text.new.desk.0) (sym (c.deref.ensures.value ∙ c.in-Ok.ensures)) (grown_within c.args.desk.now c.line_text.new.desk t.made t.chain)

pub keep_new-requires-clause-turns : goal.keep_new-requires-clause-turns
keep_new-requires-clause-turns g c κs within =
    let t = c.in-Ok-line_text.ensures in
    let made = turns_counted (shown_of c.args.desk.now) (shown_of c.line_text.new.desk) t.made t.chain in
    let few = t.few in
    let upto : c.line_text.new.desk.1 ≤ most_turns = omega (arith, made, few, c.requires.may_call) in
    subst (λ (places : List ℕ). HaveTurns places c.line_text.new.desk.0) (sym (c.deref.ensures.value ∙ c.in-Ok.ensures))
    (turns_added c.args.desk.now c.line_text.new.desk t.made t.chain c.all_entries_are_its_own.ensures upto)

pub returns-in-Err-Failed : goal.returns-in-Err-Failed
returns-in-Err-Failed g c =
    let kept = c.in-Err-Failed.ensures in
    let failed = c.in-Err-Failed.field-0-is in
    let clamps : c.clamped-moment.result ≡ clamped c.now.result = search rules in
    line_unkept _ _ _ _ _ c.now.result c.clamped-moment.result _ clamps c.in-Ok-line_text.ensures _ (c.deref.ensures.value ∙ c.in-Ok.ensures) (kept.read_back (λ e. let f = failed in cc)) (kept.go_on (λ e. let f = failed in cc))
    c.now.ensures kept.faults kept.damages (kept.failed (ap Err failed)) (kept.cause (ap Err failed)) refl

pub returns-in-Ok-put_all : goal.returns-in-Ok-put_all
returns-in-Ok-put_all g c =
    let kept = c.in-Ok-keep_new.ensures in
    let put = c.in-Ok-put_all.ensures in
    let clamps : c.clamped-moment.result ≡ clamped c.now.result = search rules in
    line_written _ _ _ _ _ c.now.result c.clamped-moment.result _ clamps c.in-Ok-line_text.ensures _ (c.deref.ensures.value ∙ c.in-Ok.ensures) (kept.read_back (λ e. cc)) (kept.go_on (λ e. cc))
    c.now.ensures kept.faults kept.damages kept.kept (subst (Grows _ _) c.deref-2.ensures.value put.ok) put.cause.later

pub returns : goal.returns
returns g c =
    let kept = c.in-Ok-keep_new.ensures in
    let put = c.in-Err.ensures in
    let clamps : c.clamped-moment.result ≡ clamped c.now.result = search rules in
    line_unwritten _ _ _ _ _ c.now.result c.clamped-moment.result _ clamps c.in-Ok-line_text.ensures _ (c.deref.ensures.value ∙ c.in-Ok.ensures) (kept.read_back (λ e. cc)) (kept.go_on (λ e. cc))
    c.now.ensures kept.faults kept.damages kept.kept (subst (GrowsByPrefix _ _) c.deref-2.ensures.value put.err) put.cause.later put.cause.failed
