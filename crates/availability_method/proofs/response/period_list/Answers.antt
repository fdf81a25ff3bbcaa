use Rattle.std.proofs.Common.{◌≡◌, ◌<◌, ◌+◌, get_or, ap, length, map, take, ◌++◌, ◌∷◌, [], ◌∙◌, sym, ℕ, List}
use Rattle.std.proofs.lemmas.List.{map-append, map_more}
use Rattle.std.proofs.lemmas.Option.{slice_get-get_or}
use Rattle.spec_json.specs.TreeData.{data_of}
use Rattle.spec_json.specs.declared.tree.Tree.{Tree}
use Rattle.spec_availability.specs.Availability.{period_data}
use Rattle.spec_windows.specs.declared.period.Period.{Period}
use Rattle.availability_method.proofs.response.period_list.Goals as goal

-- one tree more, which tells the next period
told_more : (ts : List Tree) (ps : List Period) (i : ℕ) (d : Period) (t : Tree) → i < length ps → map data_of ts ≡ map period_data (take i ps) → data_of t ≡ period_data (get_or ps i d)
    → map data_of (ts ++ t ∷ []) ≡ map period_data (take (i + 1) ps)
told_more ts ps i d t lt old new = map-append data_of ts (t ∷ []) ∙ ap (λ ds. ds ++ data_of t ∷ []) old ∙ ap (λ x. map period_data (take i ps) ++ x ∷ []) new ∙ sym (map_more period_data ps i d lt)

pub period_tree-requires : goal.period_tree-requires
period_tree-requires c = c.requires c.loop-period.period-index _ (slice_get-get_or c.args.periods.now c.loop-period.period-index _ c.loop-period-test.true)

pub loop-period-preserved : goal.loop-period-preserved
loop-period-preserved c = rw c.in_ok-push.ensures.items (told_more c.loop-period.items.items c.args.periods.now c.loop-period.period-index _ c.in_ok-period_tree.field-0 c.loop-period-test.true c.loop-period.invariant c.in_ok-period_tree.ensures)
