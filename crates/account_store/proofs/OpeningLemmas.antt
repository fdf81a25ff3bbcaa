-- What a store answers from, once it is open.
use Rattle.std.proofs.Common.{◌≡◌, ◌≤◌, ◌<◌, ◌⊎◌, ◌&&◌, ℕ, List, false, length, arith, sym, ◌∙◌, ⊎_elim}
use Rattle.std.specs.Prelude.{nat_le}
use Rattle.std.proofs.lemmas.Bool.{and_left, cases_lt, lt-leb}
use Rattle.object_log.proofs.HistoryLemmas.{shows_known}
use Rattle.object_log.proofs.KnownLemmas.{unknown_before}
use Rattle.object_log.specs.Histories.{Follows}
use Rattle.object_log.specs.Puts.{is_known}
use Rattle.object_log.specs.declared.put.Put.{Put}
use Rattle.spec_history.specs.declared.entry.Change.{Change}
use Rattle.spec_history.specs.declared.entry.Kind.{Kind}
use Rattle.spec_json.specs.declared.tree.Tree.{Tree}
use Rattle.spec_sizes.specs.Sizes.{is_answered_from}

-- it is known from the floor on, and nothing is answered from up to there: so it is known everywhere
pub known_all : {T : Type 0} (read : T → Tree) (ps : List (Put T)) (kind : Kind) (cs : List Change) → Follows read ps kind cs → (first from : ℕ) → from ≤ first → first ≤ length ps
    → (from ≡ 0) ⊎ (is_answered_from kind cs from ≡ false) → ((k : ℕ) → from ≤ k → (nat_le first k && nat_le k (length ps)) ≡ is_known ps k) → (k : ℕ) → (nat_le first k && nat_le k (length ps)) ≡ is_known ps k
known_all read ps kind cs follows first from low within old known k = ⊎_elim
    (λ (before : k < from). ⊎_elim
    (λ (none : from ≡ 0). absurd (omega (arith, before, none)))
    (λ (unanswered : is_answered_from kind cs from ≡ false).
    and_left (nat_le first k) _ (lt-leb first k (omega (arith, before, low)))
    ∙ sym (unknown_before ps from k (omega (arith, low, within)) (shows_known read ps kind cs follows from ∙ unanswered) (omega (arith, before))))
    old)
    (λ (behind : from ≤ k). known k behind)
    (cases_lt k from)
