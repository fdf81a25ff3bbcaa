use Rattle.std.proofs.Common.{◌≡◌, ◌∷◌, ◌+◌, drop, map, sym, ap, ◌∙◌, is_some, not}
use Rattle.std.proofs.lemmas.List.{drop_more}
use Rattle.account_core.proofs.FoundLemmas.{found_step, missing_step, whole_larger}
use Rattle.account_core.specs.Finds.{found_in, missing_in}
use Rattle.account_store.specs.Store.{entries}
use Rattle.cal_model.specs.Gets.{object_or_occurrence, selected}
use Rattle.spec_history.specs.History.{changes_of}
use Rattle.spec_json.specs.Parts.{some_of}
use Rattle.spec_json.specs.TreeData.{data_of}
use Rattle.account_core.proofs.found.find_each.Goals as goal

pub returns-then-is_too_large : goal.returns-then-is_too_large
returns-then-is_too_large c =
    let cs = changes_of (entries c.args.store.now) in
    let rest = drop (c.loop-id.id-index + 1) c.args.ids.now in
    let next : drop c.loop-id.id-index c.args.ids.now ≡ c.id-item.result ∷ rest =
    drop_more c.args.ids.now c.loop-id.id-index c.id-item.result c.loop-id-test.true ∙ ap (λ id. id ∷ rest) (sym c.id-item.is) in
    let list = found_step (λ id. some_of (object_or_occurrence cs c.args.kind id)) (selected c.args.asked.now) (map data_of c.loop-id.listing.objects.items) (map data_of c.find_one.new.listing.objects.items) (map (selected c.args.asked.now) (found_in cs c.args.kind c.args.ids.now))
    c.id-item.result rest (drop c.loop-id.id-index c.args.ids.now) next c.loop-id.invariant.list c.in_ok-find_one.ensures.objects in
    whole_larger c.args.kind (map data_of c.find_one.new.listing.objects.items) (map (selected c.args.asked.now) (found_in cs c.args.kind rest)) (map (selected c.args.asked.now) (found_in cs c.args.kind c.args.ids.now)) list (sym c.is_too_large.ensures ∙ c.if-is_too_large.true)

pub loop-id-preserved : goal.loop-id-preserved
loop-id-preserved c =
    let cs = changes_of (entries c.args.store.now) in
    let rest = drop (c.loop-id.id-index + 1) c.args.ids.now in
    let next : drop c.loop-id.id-index c.args.ids.now ≡ c.id-item.result ∷ rest =
    drop_more c.args.ids.now c.loop-id.id-index c.id-item.result c.loop-id-test.true ∙ ap (λ id. id ∷ rest) (sym c.id-item.is) in
    record {
      list = found_step (λ id. some_of (object_or_occurrence cs c.args.kind id)) (selected c.args.asked.now) (map data_of c.loop-id.listing.objects.items) (map data_of c.find_one.new.listing.objects.items) (map (selected c.args.asked.now) (found_in cs c.args.kind c.args.ids.now))
          c.id-item.result rest (drop c.loop-id.id-index c.args.ids.now) next c.loop-id.invariant.list c.in_ok-find_one.ensures.objects;
      missing = missing_step (λ id. not (is_some (object_or_occurrence cs c.args.kind id))) c.loop-id.listing.missing.items c.find_one.new.listing.missing.items (missing_in cs c.args.kind c.args.ids.now)
          c.id-item.result rest (drop c.loop-id.id-index c.args.ids.now) next c.loop-id.invariant.missing c.in_ok-find_one.ensures.missing;
      small = sym c.is_too_large.ensures ∙ c.if-is_too_large.false;
    }
