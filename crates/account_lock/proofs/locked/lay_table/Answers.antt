use Rattle.std.proofs.Common.{◌≡◌, ℕ, ◌∷◌, [], List, Option, Some, subst, sym, refl, rules}
use Rattle.atomic_table.specs.Table.{opening}
use Rattle.account_lock.specs.LockSteps.{new_pass}
use Rattle.account_lock.specs.Rule.{RuleHolds}
use Rattle.account_lock.proofs.StepLemmas.{opens}
use Rattle.account_lock.proofs.locked.lay_table.Goals as goal

pub new-requires : goal.new-requires
new-requires g c =
    let B = g.row.B.Denot in
    let entries = g.B.Book.entries in
    let base = g.B.Book.base in
    let b = c.args.book in
    let items : c.push_reserved.new.self.items ≡ Some b ∷ [] = search rules in
    let Holds : ℕ × List (Option B) × B → Type 0 = λ p. RuleHolds entries base (entries p.2) (base p.2) (opening (0 ∷ 0 ∷ p.0 ∷ []) p.1 (new_pass 0 (entries p.2) (base p.2))) in
    subst Holds (λ k. (sym c.count-count.ensures.exact k, sym items k, sym c.of-opened.ensures k)) (opens entries base (entries b) (base b) b refl refl)
