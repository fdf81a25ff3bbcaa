use Rattle.std.proofs.Common.{◌≡◌, ◌<◌, ◌≤◌, ◌+◌, ℕ, List, Result, arith, refl, rules, subst, sym, ap, get_or, length, map, set}
use Rattle.std.proofs.lemmas.List.{length-map, map-set}
use Rattle.std.proofs.lemmas.Option.{slice_get_read}
use Rattle.std.specs.Arc.{arc_value}
use Rattle.account_lock.specs.Passes.{PassState}
use Rattle.spec_batch.specs.Chain.{Called, Rules}
use Rattle.spec_calls.specs.declared.call.Reply.{Reply}
use Rattle.spec_batch.specs.declared.desk.DeskError.{DeskError}
use Rattle.spec_history.specs.MostTurns.{most_turns}
use Rattle.account_desk.specs.FreshDesk.{account_rules_with}
use Rattle.account_desk.specs.SharedDesk.{IsSharedDesk, shown_by_passes, through_pass}
use Rattle.account_desk.proofs.SharedLemmas.{lock_at, of_all, shared_called, state_at, still_shared}
use Rattle.account_desk.proofs.shared_desk.SharedDeskDesk.call.Goals as goal

pub call-requires : goal.call-requires
call-requires g c =
    let d = c.self.inside in
    let locks = (arc_value d.accounts).items in
    let asked : c.args.account < length c.args.self.now.0 = c.requires in
    let count = ap (λ (y : List PassState × ℕ). length y.0) c.self.view_is in
    let each = length-map d.passes.items g.L.AccountLock.state in
    let there : c.args.account < length d.passes.items = omega (arith, asked, count, each) in
    let same = ap length c.self.invariant.of_locks in
    let all = length-map locks g.L.AccountLock.lock in
    let both = length-map (map g.L.AccountLock.state d.passes.items) (λ (p : PassState). p.lock) in
    let also : c.args.account < length locks = omega (arith, there, same, all, both, each) in
    let found : c.index-lock.result.now ≡ get_or locks c.args.account c.index-lock.result.now = search rules in
    let at = slice_get_read d.passes.items (length d.passes.items) c.args.account c.index_mut-pass.result.now refl there c.index_mut-pass.ensures.value in
    let lock = slice_get_read locks (length locks) c.args.account c.index-lock.result.now refl also found in
    lock_at g.L.AccountLock.lock g.L.AccountLock.state locks d.passes.items c.args.account c.index-lock.result.now c.index_mut-pass.result.now c.self.invariant.of_locks lock at

pub invariant_of-self : goal.invariant_of-self
invariant_of-self g c =
    let rules : Rules = account_rules_with g.L.AccountLock.unkept g.L.AccountLock.unkept_placed in
    let d = c.self.inside in
    let state = g.L.AccountLock.state in
    let passes = map state d.passes.items in
    let few : d.turns < most_turns = grind (arith, c.self.invariant.within, c.if-self-eq-MAX_TURNS.false) in
    let asked : c.args.account < length c.args.self.now.0 = c.requires in
    let count = ap (λ (y : List PassState × ℕ). length y.0) c.self.view_is in
    let each = length-map d.passes.items g.L.AccountLock.state in
    let there : c.args.account < length d.passes.items = omega (arith, asked, count, each) in
    let e = c.call.ensures in
    let p = c.index_mut-pass.result.now in
    let at = state_at state d.passes.items c.args.account p (slice_get_read d.passes.items (length d.passes.items) c.args.account p refl there c.index_mut-pass.ensures.value) in
    let still = still_shared rules passes d.turns c.args.account (state p) (state c.call.new.pass) at c.args.call.now c.args.moment (map g.L.AccountLock.lock (arc_value d.accounts).items) c.call.result
    (record { answers = e.answered; fails = e.failed; spent = e.spent.0 }) few c.self.invariant in
    subst (λ (ps : List PassState). IsSharedDesk (map g.L.AccountLock.lock (arc_value d.accounts).items) ps (d.turns + 1)) (sym (map-set state d.passes.items c.args.account c.call.new.pass)) still

pub returns : goal.returns
returns g c =
    let rules : Rules = account_rules_with g.L.AccountLock.unkept g.L.AccountLock.unkept_placed in
    let d = c.self.inside in
    let state = g.L.AccountLock.state in
    let passes = map state d.passes.items in
    let few : d.turns < most_turns = grind (arith, c.self.invariant.within, c.if-self-eq-MAX_TURNS.false) in
    let asked : c.args.account < length c.args.self.now.0 = c.requires in
    let count = ap (λ (y : List PassState × ℕ). length y.0) c.self.view_is in
    let each = length-map d.passes.items g.L.AccountLock.state in
    let there : c.args.account < length d.passes.items = omega (arith, asked, count, each) in
    let e = c.call.ensures in
    let p = c.index_mut-pass.result.now in
    let at = state_at state d.passes.items c.args.account p (slice_get_read d.passes.items (length d.passes.items) c.args.account p refl there c.index_mut-pass.ensures.value) in
    let after = shown_by_passes rules (map state (set d.passes.items c.args.account c.call.new.pass), d.turns + 1) in
    let called : Called (shown_by_passes rules (passes, d.turns)) (shown_by_passes rules (set passes c.args.account (state c.call.new.pass), d.turns + 1)) c.args.account c.args.call.now c.args.moment (through_pass c.call.result) =
    shared_called rules passes d.turns c.args.account (state p) (state c.call.new.pass) at c.args.call.now c.args.moment c.call.result
    (record { answers = e.answered; fails = e.failed; spent = e.spent.0 }) few (of_all (λ (y : PassState). y.turns ≤ d.turns) passes c.args.account (state p) c.self.invariant.counted at) in
    let so : Called (shown_by_passes rules (passes, d.turns)) after c.args.account c.args.call.now c.args.moment (through_pass c.call.result) =
    subst (λ (ps : List PassState). Called (shown_by_passes rules (passes, d.turns)) (shown_by_passes rules (ps, d.turns + 1)) c.args.account c.args.call.now c.args.moment (through_pass c.call.result))
    (sym (map-set state d.passes.items c.args.account c.call.new.pass)) called in
    record {
      called =
          subst (λ (y : List PassState × ℕ). Called (shown_by_passes rules y) after c.args.account c.args.call.now c.args.moment c.through_pass.result) c.self.view_is
          (subst (λ (r : Result Reply DeskError). Called (shown_by_passes rules (passes, d.turns)) after c.args.account c.args.call.now c.args.moment r) (sym c.through_pass.ensures) so);
    }
