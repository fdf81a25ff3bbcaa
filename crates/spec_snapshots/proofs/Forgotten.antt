-- When no state up to a floor is answered from any more.
use Rattle.std.proofs.Common.{◌≡◌, ◌∙◌, ◌⊎◌, inl, inr, ◌+◌, ◌-◌, ◌<◌, ◌&&◌, List, ◌++◌, false, drop, arith, sym, ap}
use Rattle.std.specs.Prelude.{nat_le}
use Rattle.std.proofs.lemmas.Bool.{and_left, and_right, lt-leb}
use Rattle.std.proofs.lemmas.List.{drop_at}
use Rattle.std.proofs.lemmas.List.Elements.{filter-append}
use Rattle.std.proofs.lemmas.List.Sums.{length-filter, sum_by-append}
use Rattle.spec_history.specs.History.{count_of_kind, is_kind}
use Rattle.spec_history.specs.Pages.{window}
use Rattle.spec_history.specs.declared.entry.Change.{Change}
use Rattle.spec_history.specs.declared.entry.Kind.{Kind}
use Rattle.spec_sizes.specs.Sizes.{is_answered_from, of_kind, size_of, window_bytes}
use Rattle.spec_snapshots.specs.Kept.{IsFloor}
use Rattle.spec_snapshots.specs.declared.kept.KindFloor.{KindFloor}

module _ (kind : Kind) (f : KindFloor) (past behind : List Change) (h : IsFloor past kind f) where
  counted : count_of_kind (past ++ behind) kind ≡ f.state + count_of_kind behind kind
  counted = sum_by-append _ past behind ∙ ap (λ n. n + count_of_kind behind kind) (sym h.state)

  behind_floor : drop f.state (of_kind kind (past ++ behind)) ≡ of_kind kind behind
  behind_floor =
      ap (drop f.state) (filter-append (λ (c : Change). is_kind kind c.kind) past behind)
      ∙ drop_at (of_kind kind past) (of_kind kind behind) f.state (length-filter (λ (c : Change). is_kind kind c.kind) past ∙ sym h.state)

  -- more changes lie behind it than are told from, or more bytes
  pub forgotten : (window < count_of_kind behind kind) ⊎ (window_bytes < size_of (of_kind kind behind)) → is_answered_from kind (past ++ behind) f.state ≡ false
  forgotten (inl many) =
      and_left (nat_le f.state (count_of_kind (past ++ behind) kind) && nat_le (count_of_kind (past ++ behind) kind - f.state) window) _
      (and_right (nat_le f.state (count_of_kind (past ++ behind) kind)) (nat_le (count_of_kind (past ++ behind) kind - f.state) window)
      (lt-leb (count_of_kind (past ++ behind) kind - f.state) window (omega (arith, many, counted))))
  forgotten (inr large) =
      and_right _ (nat_le (size_of (drop f.state (of_kind kind (past ++ behind)))) window_bytes)
      (ap (λ cs. nat_le (size_of cs) window_bytes) behind_floor ∙ lt-leb (size_of (of_kind kind behind)) window_bytes large)
