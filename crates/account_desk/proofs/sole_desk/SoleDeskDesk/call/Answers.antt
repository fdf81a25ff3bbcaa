use Rattle.std.proofs.Common.{◌<◌, ◌+◌, ℕ, List, [], Result, arith, rules, subst, sym, length, set}
use Rattle.std.proofs.lemmas.List.{get_or_read}
use Rattle.spec_history.specs.Base.{Base, no_base}
use Rattle.spec_batch.specs.Chain.{Called}
use Rattle.spec_history.specs.MostTurns.{most_turns}
use Rattle.spec_calls.specs.declared.call.Reply.{Reply}
use Rattle.spec_batch.specs.declared.desk.DeskError.{DeskError}
use Rattle.spec_history.specs.declared.entry.Entry.{Entry}
use Rattle.account_desk.specs.SoleDesk.{of_desk, shown_of}
use Rattle.account_desk.proofs.SoleLemmas.{sole_called, still_sole}
use Rattle.account_desk.proofs.sole_desk.SoleDeskDesk.call.Goals as goal

pub invariant_of-self : goal.invariant_of-self
invariant_of-self c =
    let d = c.self.inside in
    let few : d.turns < most_turns = grind (arith, c.self.invariant.within, c.if-self-eq-MAX_TURNS.false) in
    let there : c.args.account < length d.accounts.items = search rules in
    let e = c.act-reply.ensures in
    let old = c.index_mut.result.now in
    still_sole d.accounts.items d.turns c.args.account c.act-reply.new.self c.args.call.now c.args.moment there c.act-reply.result old
    (get_or_read d.accounts.items c.args.account old there c.index_mut.ensures.value (no_base, []))
    (record { base = e.base; came = e.came; unchanged = e.unchanged }) few c.self.invariant

pub returns : goal.returns
returns c =
    let d = c.self.inside in
    let few : d.turns < most_turns = grind (arith, c.self.invariant.within, c.if-self-eq-MAX_TURNS.false) in
    let there : c.args.account < length d.accounts.items = search rules in
    let e = c.act-reply.ensures in
    let old = c.index_mut.result.now in
    let moment = c.args.moment in
    let after = shown_of (set d.accounts.items c.args.account c.act-reply.new.self, d.turns + 1) in
    let called : Called (shown_of (d.accounts.items, d.turns)) after c.args.account c.args.call.now moment (of_desk c.act-reply.result) =
    sole_called d.accounts.items d.turns c.args.account c.act-reply.new.self c.args.call.now moment there c.act-reply.result old
    (get_or_read d.accounts.items c.args.account old there c.index_mut.ensures.value (no_base, []))
    (record { base = e.base; came = e.came; unchanged = e.unchanged }) few in
    record {
      called =
          subst (λ (y : List (Base × List Entry) × ℕ). Called (shown_of y) after c.args.account c.args.call.now moment c.as_of_desk.result) c.self.view_is
          (subst (λ (r : Result Reply DeskError). Called (shown_of (d.accounts.items, d.turns)) after c.args.account c.args.call.now moment r) (sym c.as_of_desk.ensures) called);
    }
