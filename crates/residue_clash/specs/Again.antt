-- The days of one kind that a rule gives come again.
use Rattle.std.proofs.Common.{◌≡◌, ℕ, ℤ, pos, ◌+ℤ◌, Bool, true, false, refl}
use Rattle.spec_series.specs.declared.rule.Rule.{Rule}
use Rattle.rule_expand.specs.Repeats.{repeats_after}
use Rattle.rule_expand.proofs.Again.{kept_again, moved_again}
use Rattle.residue_clash.specs.Kinds.{days_of}

pub days_again : (kind : Bool) (r : Rule) (c : ℕ) → repeats_after r c ≡ true → (n : ℤ) → days_of kind r (n +ℤ pos c) ≡ days_of kind r n
unfolding days_of
days_again false r c h n = rw (kept_again r c h n, moved_again r c h n) refl
days_again true r c h n = rw (moved_again r c h n) refl
