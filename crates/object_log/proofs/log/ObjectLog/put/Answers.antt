use Rattle.std.proofs.Common.{◌≡◌, ◌≤◌, ◌+◌, ◌==◌, ◌&&◌, ◌++◌, ◌∷◌, [], ap, arith, drop, length, length-append, refl, subst, sym, ◌∙◌, List, if◌then◌else◌}
use Rattle.std.specs.Prelude.{nat_le}
use Rattle.std.specs.List.{range_with_len}
use Rattle.std.proofs.lemmas.List.{drop-drop, length-drop}
use Rattle.std.proofs.lemmas.List.FromFn.{length-range_with_len}
use Rattle.spec_history.specs.History.{with_id}
use Rattle.object_log.proofs.PutLemmas.{ids_few, ids_more, known_more, latest_more, next_slot, numbers_more, window_more}
use Rattle.object_log.proofs.SlotLemmas.{next_id}
use Rattle.object_log.specs.Pasts.{fits, past_of, pasts}
use Rattle.object_log.specs.Puts.{ids_put, is_known, latest}
use Rattle.object_log.specs.declared.put.Put.{Put}
use Rattle.object_log.specs.declared.window.Past.{Past}
use Rattle.object_log.proofs.log.ObjectLog.put.Goals as goal

pub put-before-requires-clause-next : goal.put-before-requires-clause-next
put-before-requires-clause-next g c =
    let t = c.args.self.now in
    next_slot t.told.items c.args.put t.slots.created t.slots.items.items t.numbered (t.standing c.args.put.id) c.requires.next

pub put-before-requires-clause-few : goal.put-before-requires-clause-few
put-before-requires-clause-few g c =
    let t = c.args.self.now in
    omega (arith, c.requires.few, ids_few t.told.items, ap length t.numbered, length-range_with_len 1 t.slots.created)

pub invariant_of-self : goal.invariant_of-self
invariant_of-self g c =
    let t = c.args.self.now in
    let p = c.args.put in
    let ps = t.told.items in
    let ws = t.window.pasts.items in
    let after = c.and-self.result.items in
    let told : after ≡ ps ++ p ∷ [] = c.and-self.ensures in
    let gone = c.push_reserved-gone.result in
    let within : t.first ≤ length ps = omega (arith, t.counted) in
    let past : Past g.row.T.Denot = record { id = p.id; puts = c.is_some-puts.result; size = p.size; before = c.put-before.result } in
    let same : past ≡ past_of ps p = rw (c.is_some-puts.ensures, c.put-before.ensures.before, t.standing p.id) refl in
    let grown : ws ++ past ∷ [] ≡ drop t.first (pasts after) = ap (λ (w : Past g.row.T.Denot). ws ++ w ∷ []) same ∙ window_more ps p t.first ws within t.kept ∙ ap (λ (l : List (Put g.row.T.Denot)). drop t.first (pasts l)) (sym told) in
    let next = next_slot ps p t.slots.created t.slots.items.items t.numbered (t.standing p.id) c.requires.next in
    let given = next_id t.slots.created p.id t.slots.items.items t.slots.rising next in
    record {
      kept = c.push_reserved-gone.ensures.pasts ∙ ap (λ (l : List (Past g.row.T.Denot)). drop gone l) grown ∙ drop-drop gone t.first (pasts after);
      counted = omega (arith, t.counted, c.push_reserved-gone.ensures.within, ap (λ (l : List (Past g.row.T.Denot)). length l) c.push_reserved-gone.ensures.pasts, length-drop gone (ws ++ past ∷ []), length-append ws (past ∷ []), ap (λ (l : List (Put g.row.T.Denot)). length l) told, length-append ps (p ∷ []));
      standing = λ q. c.put-before.ensures.after q ∙ ap (λ o. if p.id == q then p.object else o) (t.standing q) ∙ sym (ap (λ (l : List (Put g.row.T.Denot)). latest l q) told ∙ latest_more ps p q);
      numbered = ap (λ (l : List (Put g.row.T.Denot)). ids_put l) told ∙ ids_more ps p ∙ ap (λ l. with_id l p.id) t.numbered ∙ numbers_more t.slots.created p.id given.0 given.1 ∙ ap (λ n. range_with_len 1 n) (sym c.put-before.ensures.created);
      few = omega (arith, c.requires.few, ap (λ (l : List (Put g.row.T.Denot)). length l) told, length-append ps (p ∷ []));
    }

pub returns-clause-known : goal.returns-clause-known
returns-clause-known g c = λ k low.
    let t = c.args.self.now in
    let p = c.args.put in
    let ps = t.told.items in
    let ws = t.window.pasts.items in
    let gone = c.push_reserved-gone.result in
    let within : t.first ≤ length ps = omega (arith, t.counted) in
    let past : Past g.row.T.Denot = record { id = p.id; puts = c.is_some-puts.result; size = p.size; before = c.put-before.result } in
    let same : past ≡ past_of ps p = rw (c.is_some-puts.ensures, c.put-before.ensures.before, t.standing p.id) refl in
    let known = known_more ps p t.first ws within t.kept gone (λ d h. c.push_reserved-gone.ensures.least d h ∙ ap (λ (w : Past g.row.T.Denot). fits (drop d (ws ++ w ∷ []))) same) k low in
    subst (λ (l : List (Put g.row.T.Denot)). (nat_le (t.first + gone) k && nat_le k (length l)) ≡ is_known l k) (sym c.and-self.ensures) known
