use Rattle.std.proofs.Common.{◌≡◌, ◌∙◌, FitsSigned, ℕ, [], ap, option_map, subst, sym, unwrap_or, w64}
use Rattle.std.proofs.lemmas.Int.{to_z-of_z}
use Rattle.spec_series.specs.Given.{IsFirstOf, IsLaterAt}
use Rattle.spec_series.proofs.exception.Exceptions.next_given.Goals as goal

pub returns-in-Some : goal.returns-in-Some
returns-in-Some c =
    let f : FitsSigned w64 c.args.from = c.ranges.from in
    let same : c.deref.result.now ≡ c.args.self.now = c.deref.ensures ∙ ap (λ s. unwrap_or (option_map (λ b. b.value) s) []) (sym c.in-Some.is) ∙ c.self.view_is in
    let found = simp to_z-of_z at c.next_given.ensures in
    subst (λ xs. IsFirstOf (λ o. (k : ℕ) × IsLaterAt c.args.from c.args.past xs k o) c.next_given.result) same found
