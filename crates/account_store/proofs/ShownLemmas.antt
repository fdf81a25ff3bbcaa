-- What a store shows of a kind, by the log of that kind.
use Rattle.std.proofs.Common.{◌≡◌, ◌≤◌, ◌-◌, ◌&&◌, ℕ, true, List, Option, None, Some, drop, filter, length, option_map, Bor, arith, le-leb, refl, sym, ap, ◌∙◌}
use Rattle.std.specs.Prelude.{nat_le, option_copied}
use Rattle.account_store.specs.Earlier.{touched_ids}
use Rattle.account_store.specs.Kept.{kept_event}
use Rattle.account_store.specs.declared.kept.KeptEvent.{KeptEvent}
use Rattle.spec_series.specs.declared.series.Series.{Series}
use Rattle.std.proofs.lemmas.Bool.{and_parts, leb-true}
use Rattle.std.proofs.Math.Seq.{drop-length}
use Rattle.std.proofs.lemmas.List.Sums.{count_by-le-length, length-filter}
use Rattle.object_log.proofs.HistoryLemmas.{shows_count, shows_ids, shows_known, shows_mentions}
use Rattle.object_log.proofs.TouchedLemmas.{ids_said}
use Rattle.object_log.specs.Histories.{Follows}
use Rattle.object_log.specs.Puts.{is_known, said}
use Rattle.object_log.specs.declared.put.Put.{Put}
use Rattle.spec_history.specs.History.{count_of_kind, is_kind}
use Rattle.spec_history.specs.Pages.{ids_of, is_touched, mentions, window}
use Rattle.spec_sizes.specs.Sizes.{is_answered_from, of_kind, size_of, window_bytes}
use Rattle.spec_history.specs.declared.entry.Change.{Change}
use Rattle.spec_history.specs.declared.entry.Kind.{Kind}
use Rattle.spec_json.specs.declared.tree.Tree.{Tree}

pub as_it_is : (o : Option Tree) → option_map (λ t. t) o ≡ o
as_it_is None = refl
as_it_is (Some t) = refl

pub kept_object : (o : Option Tree) (series : Option Series) → option_map (λ e. e.object) (kept_event o series) ≡ o
kept_object None series = refl
kept_object (Some t) series = refl

pub copied_object : (o : Option (Bor KeptEvent)) → option_map (λ e. e.now.object) o ≡ option_map (λ e. e.object) (option_copied o)
copied_object None = refl
copied_object (Some e) = refl

module _ {T : Type 0} (read : T → Tree) (ps : List (Put T)) (kind : Kind) (cs : List Change) (follows : Follows read ps kind cs) where
  pub few_puts : length ps ≤ length cs
  few_puts = omega (arith, shows_count read ps kind cs follows, count_by-le-length (λ (c : Change). is_kind kind c.kind) cs)

  -- the states that are told from are those that are answered from
  pub answered : (first k : ℕ) → (nat_le first k && nat_le k (length ps)) ≡ is_known ps k → (nat_le first k && nat_le k (length ps)) ≡ is_answered_from kind cs k
  answered first k known = known ∙ shows_known read ps kind cs follows k

  pub told_from : (first k : ℕ) → (nat_le first k && nat_le k (length ps)) ≡ is_known ps k → is_answered_from kind cs k ≡ true → (first ≤ k) × (k ≤ length ps)
  told_from first k known is =
      let parts = and_parts (nat_le first k) (nat_le k (length ps)) (answered first k known ∙ is) in
      (leb-true first k parts.0, leb-true k (length ps) parts.1)

-- changes are told from the state that a history has come to
pub newest_answered : (kind : Kind) (cs : List Change) → is_answered_from kind cs (count_of_kind cs kind) ≡ true
newest_answered kind cs =
    let n = count_of_kind cs kind in
    let counted : n ≡ length (of_kind kind cs) = sym (length-filter (λ (c : Change). is_kind kind c.kind) cs) in
    rw (le-leb n n (omega arith), le-leb (n - n) window (omega arith)) (ap (λ k. nat_le (size_of (drop k (of_kind kind cs))) window_bytes) counted ∙ ap (λ l. nat_le (size_of l) window_bytes) (drop-length (of_kind kind cs)))

-- the numbers that changes behind a state name
pub touched_shown : {T : Type 0} (read : T → Tree) (ps : List (Put T)) (kind : Kind) (cs : List Change) (k n : ℕ) → Follows read ps kind cs → n ≡ length ps
    → filter (is_touched (said ps) k n) (ids_of (said ps)) ≡ touched_ids cs kind k
touched_shown read ps kind cs k n follows is =
    ap (λ m. filter (is_touched (said ps) k m) (ids_of (said ps))) (is ∙ shows_count read ps kind cs follows)
    ∙ ap (λ ms. filter (is_touched ms k (count_of_kind cs kind)) (ids_of ms)) (shows_mentions read ps kind cs follows)
    ∙ ap (filter (is_touched (mentions kind cs) k (count_of_kind cs kind))) (ap ids_of (sym (shows_mentions read ps kind cs follows)) ∙ ids_said ps ∙ shows_ids read ps kind cs follows)
