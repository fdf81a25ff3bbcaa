use Rattle.std.proofs.Common.{◌≡◌, ◌∷◌, ◌++◌, [], ◌<◌, All, List, Ok, Err, inl, refl, sym, subst, arith, rules}
use Rattle.std.proofs.lemmas.Grind.{common_steps}
use Rattle.std.specs.Vec.Iter.{into_iter_items}
use Rattle.json_edge.specs.Lengths.{saturated}
use Rattle.spec_batch.proofs.Chains.{accounts_stay}
use Rattle.spec_batch.specs.Meaning.{size_of_responses}
use Rattle.spec_batch.specs.declared.request.Invocation.{Invocation}
use Rattle.spec_batch.specs.declared.request.Request.{Request}
use Rattle.spec_batch.specs.declared.method_response.MethodResponse.{MethodResponse}
use Rattle.batch_exec.specs.Answering.{Going}
use Rattle.batch_exec.proofs.Filling.{fuller}
use Rattle.batch_exec.proofs.Progressing.{going_first, goes_on, stopped_first}
use Rattle.batch_exec.proofs.batch.answer_all.Goals as goal

pub loop-invocation-init : goal.loop-invocation-init
loop-invocation-init g c =
    let a = c.args in
    let r : Request = record { using = a.capabilities.now; calls = a.calls; created_ids = a.given.now } in (
      grind (arith, common_steps),
      [],
      going_first a.user.now r a.moment a.fronts.now.items (g.D.Desk.shown a.desk.now) (into_iter_items c.into_iter-invocation-iterator.result) c.new-responses.result.items c.in-Ok.created
          (grind (arith, common_steps)) (search rules) (search rules),
    )

pub respond-requires-clause-accounts : goal.respond-requires-clause-accounts
respond-requires-clause-accounts g c = subst (λ n. All (λ h. h.account < n) c.args.user.now.grants) (sym (accounts_stay _ _ _ c.loop-invocation.invariant.2.progress.chain)) c.requires

pub returns-in-Err : goal.returns-in-Err
returns-in-Err g c =
    let a = c.args in
    let r : Request = record { using = a.capabilities.now; calls = a.calls; created_ids = a.given.now } in
    let l = c.loop-invocation in
    let next : into_iter_items l.invocation-iterator ≡ c.in-Some.invocation ∷ into_iter_items c.next.new.self = grind (arith, common_steps) in
    let going = subst (λ (cs : List Invocation). Going a.user.now r a.moment a.fronts.now.items l.fronts.items (g.D.Desk.shown a.desk.now) (g.D.Desk.shown l.desk) l.invariant.1 cs l.responses.items l.created) next l.invariant.2 in
    goes_on a.user.now r a.moment a.fronts.now.items l.fronts.items c.respond.new.fronts.items (g.D.Desk.shown a.desk.now) (g.D.Desk.shown l.desk) (g.D.Desk.shown c.respond.new.desk)
    l.invariant.1 c.in-Some.invocation (into_iter_items c.next.new.self) c.deref.result.now l.responses.items c.deref-in-loop-invocation.result.now l.created c.respond.new.created (Err c.in-Err.error)
    (search rules) (search rules) going c.in-Err.ensures

pub returns-then-is_err : goal.returns-then-is_err
returns-then-is_err g c =
    let a = c.args in
    let r : Request = record { using = a.capabilities.now; calls = a.calls; created_ids = a.given.now } in
    let l = c.loop-invocation in
    let next : into_iter_items l.invocation-iterator ≡ c.in-Some.invocation ∷ into_iter_items c.next.new.self = grind (arith, common_steps) in
    let going = subst (λ (cs : List Invocation). Going a.user.now r a.moment a.fronts.now.items l.fronts.items (g.D.Desk.shown a.desk.now) (g.D.Desk.shown l.desk) l.invariant.1 cs l.responses.items l.created) next l.invariant.2 in
    let more = goes_on a.user.now r a.moment a.fronts.now.items l.fronts.items c.respond.new.fronts.items (g.D.Desk.shown a.desk.now) (g.D.Desk.shown l.desk) (g.D.Desk.shown c.respond.new.desk)
    l.invariant.1 c.in-Some.invocation (into_iter_items c.next.new.self) c.deref.result.now l.responses.items c.deref-in-loop-invocation.result.now l.created c.respond.new.created (Ok c.in-Ok-respond.response)
    (search rules) (search rules) going c.in-Ok-respond.ensures in
    (more.0, into_iter_items c.next.new.self, g.D.Desk.shown c.respond.new.desk, more.1.progress, inl (refl, refl))

pub loop-invocation-preserved : goal.loop-invocation-preserved
loop-invocation-preserved g c =
    let a = c.args in
    let r : Request = record { using = a.capabilities.now; calls = a.calls; created_ids = a.given.now } in
    let l = c.loop-invocation in
    let next : into_iter_items l.invocation-iterator ≡ c.in-Some.invocation ∷ into_iter_items c.next.new.self = grind (arith, common_steps) in
    let going = subst (λ (cs : List Invocation). Going a.user.now r a.moment a.fronts.now.items l.fronts.items (g.D.Desk.shown a.desk.now) (g.D.Desk.shown l.desk) l.invariant.1 cs l.responses.items l.created) next l.invariant.2 in
    let more = goes_on a.user.now r a.moment a.fronts.now.items l.fronts.items c.respond.new.fronts.items (g.D.Desk.shown a.desk.now) (g.D.Desk.shown l.desk) (g.D.Desk.shown c.respond.new.desk)
    l.invariant.1 c.in-Some.invocation (into_iter_items c.next.new.self) c.deref.result.now l.responses.items c.deref-in-loop-invocation.result.now l.created c.respond.new.created (Ok c.in-Ok-respond.response)
    (search rules) (search rules) going c.in-Ok-respond.ensures in
    let pushed : l.responses.items ++ c.in-Ok-respond.response ∷ [] ≡ c.push.new.self.items = grind (arith, common_steps) in
    let full : c.saturating_add-size.result ≡ saturated (size_of_responses c.push.new.self.items) =
    subst (λ (rs : List MethodResponse). c.saturating_add-size.result ≡ saturated (size_of_responses rs)) pushed
    (fuller l.size l.responses.items l.invariant.0 c.in-Ok-respond.response c.text_length.result c.saturating_add-size.result c.text_length.ensures c.saturating_add-size.ensures) in
    (full, more.0, subst (λ (rs : List MethodResponse). Going a.user.now r a.moment a.fronts.now.items c.respond.new.fronts.items (g.D.Desk.shown a.desk.now) (g.D.Desk.shown c.respond.new.desk) more.0 (into_iter_items c.next.new.self) rs c.respond.new.created) pushed more.1)

pub returns : goal.returns
returns g c =
    let a = c.args in
    let r : Request = record { using = a.capabilities.now; calls = a.calls; created_ids = a.given.now } in
    let l = c.loop-invocation in
    let none : into_iter_items l.invocation-iterator ≡ [] = grind (arith, common_steps) in
    let going = subst (λ (cs : List Invocation). Going a.user.now r a.moment a.fronts.now.items l.fronts.items (g.D.Desk.shown a.desk.now) (g.D.Desk.shown l.desk) l.invariant.1 cs l.responses.items l.created) none l.invariant.2 in
    (l.invariant.1, going.progress, going.responses_are, going.created_are)

pub returns-in_default : goal.returns-in_default
returns-in_default g c =
    let a = c.args in
    stopped_first a.user.now (record { using = a.capabilities.now; calls = a.calls; created_ids = a.given.now }) a.moment a.fronts.now.items (g.D.Desk.shown a.desk.now)
