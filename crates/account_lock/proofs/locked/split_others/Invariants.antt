use Rattle.std.proofs.Common.{◌≡◌, ℕ, ◌+◌, Some, vec_len, vec_capacity, slice_get}
use Rattle.account_lock.specs.Passes.{PassState, pass_state, opened_pass}
use Rattle.account_lock.proofs.locked.split_others.Given as goal

abbrev pub invariant-loop-number : goal.invariant-loop-number
invariant-loop-number g l = record {
  slots : l.seat.me.1 ≡ l.initial.seat.me.1;
  phase : l.seat.me.0.phase ≡ l.initial.seat.me.0.phase;
  opened : l.seat.me.0.opened ≡ l.initial.seat.me.0.opened;
  state : pass_state l.seat.table_id l.seat.me.0 ≡ pass_state l.initial.seat.table_id l.initial.seat.me.0;
  splits : l.seat.me.0.splits + 1 ≡ l.number;
  len : vec_len l.all + 1 ≡ l.number;
  room : vec_capacity l.all ≡ vec_capacity l.initial.all;
  each : (k : ℕ) (p : PassState) → slice_get l.all.items k ≡ Some p → p ≡ opened_pass l.initial.seat.table_id l.initial.seat.me.0.base l.initial.seat.me.0.opened (k + 1);
}
