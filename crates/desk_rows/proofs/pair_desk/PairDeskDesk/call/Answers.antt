use Rattle.std.proofs.Common.{◌≡◌, ◌-◌, ◌<◌, ◌^◌, List, rules, subst, sym, Result}
use Rattle.spec_history.specs.Base.{Base}
use Rattle.spec_history.specs.declared.entry.Entry.{Entry}
use Rattle.account_desk.specs.SoleDesk.{of_desk}
use Rattle.spec_batch.specs.Chain.{Called}
use Rattle.spec_history.specs.MostTurns.{most_turns}
use Rattle.spec_calls.specs.declared.call.Reply.{Reply}
use Rattle.spec_batch.specs.declared.desk.DeskError.{DeskError}
use Rattle.spec_history.specs.declared.stamp.Stamp.{Stamp}
use Rattle.desk_rows.specs.Pair.{pair_shown}
use Rattle.desk_rows.proofs.PairLemmas.{first_called, second_called, stamp_next}
use Rattle.desk_rows.proofs.pair_desk.PairDeskDesk.call.Goals as goal

pub returns-else-account-eq0 : goal.returns-else-account-eq0
returns-else-account-eq0 c =
    let d = c.args.self.now in
    let act = c.act-else-account-eq0 in
    let account = c.deref_mut-else-account-eq0 in
    let e = act.ensures in
    let some : 0 < d.calls_left = search rules in
    let few : d.calls_left < 2 ^ 32 = search rules in
    let stamp : Stamp = record { author = 0; turn = most_turns - c.from-turn.result; moment = c.args.moment } in
    let next : stamp ≡ stamp_next d.calls_left c.args.moment = λ i. record { author = 0; turn = most_turns - c.from-turn.ensures i; moment = c.args.moment } in
    record {
      called =
          subst (λ (r : Result Reply DeskError). Called (pair_shown d.first.value d.second.value d.calls_left) (pair_shown d.first.value act.new.self (d.calls_left - 1)) c.args.account c.args.call.now c.args.moment r) (sym c.as_of_desk-else-account-eq0.ensures)
          (subst (λ (h : Base × List Entry). Called (pair_shown d.first.value h d.calls_left) (pair_shown d.first.value act.new.self (d.calls_left - 1)) c.args.account c.args.call.now c.args.moment (of_desk act.result)) account.ensures.value
          (second_called d.first.value account.result.now act.new.self d.calls_left some few c.args.call.now c.args.moment c.args.account stamp act.result c.requires c.if-account-eq0.false next e.base e.came e.unchanged));
    }

pub returns-then-account-eq0 : goal.returns-then-account-eq0
returns-then-account-eq0 c =
    let d = c.args.self.now in
    let account = c.deref_mut in
    let e = c.act.ensures in
    let some : 0 < d.calls_left = search rules in
    let few : d.calls_left < 2 ^ 32 = search rules in
    let stamp : Stamp = record { author = 0; turn = most_turns - c.from-turn.result; moment = c.args.moment } in
    let next : stamp ≡ stamp_next d.calls_left c.args.moment = λ i. record { author = 0; turn = most_turns - c.from-turn.ensures i; moment = c.args.moment } in
    record {
      called =
          subst (λ (r : Result Reply DeskError). Called (pair_shown d.first.value d.second.value d.calls_left) (pair_shown c.act.new.self d.second.value (d.calls_left - 1)) c.args.account c.args.call.now c.args.moment r) (sym c.as_of_desk.ensures)
          (subst (λ (h : Base × List Entry). Called (pair_shown h d.second.value d.calls_left) (pair_shown c.act.new.self d.second.value (d.calls_left - 1)) c.args.account c.args.call.now c.args.moment (of_desk c.act.result)) account.ensures.value
          (first_called account.result.now c.act.new.self d.second.value d.calls_left some few c.args.call.now c.args.moment c.args.account stamp c.act.result (sym c.if-account-eq0.true) next e.base e.came e.unchanged));
    }
