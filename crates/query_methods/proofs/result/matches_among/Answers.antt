use Rattle.std.proofs.Common.{◌+◌, ◌++◌, ◌∷◌, [], append-nil, ap, get_or, length, length-append, map, sym, ◌∙◌}
use Rattle.account_store.specs.Earlier.{changes_up_to}
use Rattle.account_store.specs.Store.{entries}
use Rattle.spec_history.specs.declared.entry.Kind.TheVariants.{Event}
use Rattle.spec_queries.specs.Matching.{with_number}
use Rattle.query_methods.proofs.ResultLemmas.{one_matched}
use Rattle.query_methods.proofs.result.matches_among.Goals as goal
use Rattle.query_methods.proofs.result.matches_among.Goals.{in-Some+in_ok-push+in_ok-push-2, in_default}
use Rattle.query_methods.specs.Compared.{seen_in}
use Rattle.query_methods.specs.Sights.{seen_by}

pub loop-number-preserved : goal.loop-number-preserved
loop-number-preserved c =
    let see = seen_in c.args.order.now (seen_by c.args.sight.now) in
    let cs = changes_up_to (entries c.args.events.now.store.now) Event c.args.state in
    let ids = c.args.numbers.now in
    let i = c.loop-number.number-index in
    let was = c.loop-number.invariant in
    let one = one_matched (λ p. p.0) see cs c.loop-number.found.items c.match-branch-2.found.items ids i c.in_ok-item.field-0 c.loop-number-test.true was.numbers c.in_ok-item.ensures in
    let other = one_matched (λ p. p.1) see cs c.loop-number.items.items c.match-branch-2.items.items ids i c.in_ok-item.field-0 c.loop-number-test.true was.items c.in_ok-item.ensures in
    elim c.match-branch-2.branch [
      | in-Some+in_ok-push+in_ok-push-2 w ↦
          let numbers = ap (λ v. v.items) w.found-is ∙ w.in_ok-push.ensures.items in
          let items = ap (λ v. v.items) w.items-is ∙ w.in_ok-push-2.ensures.items in
          record {
            numbers = one (numbers ∙ ap (λ o. c.loop-number.found.items ++ map (λ p. p.0) (with_number (get_or ids i 0) o)) (sym w.in-Some.is));
            items = other (items ∙ ap (λ o. c.loop-number.items.items ++ map (λ p. p.1) (with_number (get_or ids i 0) o)) (sym w.in-Some.is));
            paired = ap length numbers ∙ length-append c.loop-number.found.items (_ ∷ []) ∙ ap (λ n. n + 1) was.paired ∙ sym (length-append c.loop-number.items.items (_ ∷ [])) ∙ sym (ap length items);
          }
      | in_default w ↦
          let numbers = ap (λ v. v.items) w.found-is in
          let items = ap (λ v. v.items) w.items-is in
          record {
            numbers = one (numbers ∙ sym (append-nil c.loop-number.found.items) ∙ ap (λ o. c.loop-number.found.items ++ map (λ p. p.0) (with_number (get_or ids i 0) o)) (sym w.in_default.is));
            items = other (items ∙ sym (append-nil c.loop-number.items.items) ∙ ap (λ o. c.loop-number.items.items ++ map (λ p. p.1) (with_number (get_or ids i 0) o)) (sym w.in_default.is));
            paired = ap length numbers ∙ was.paired ∙ sym (ap length items);
          }
    ]
