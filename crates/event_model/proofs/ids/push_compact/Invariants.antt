use Rattle.std.proofs.Common.{◌≡◌, ◌++◌, drop, filter, string_bytes}
use Rattle.spec_recurrence.specs.OccurrenceIds.{is_no_separator}
use Rattle.event_model.proofs.ids.push_compact.Given as goal

abbrev pub invariant-loop-byte : goal.invariant-loop-byte
invariant-loop-byte l = string_bytes l.id ++ filter is_no_separator (drop l.byte-index l.local) ≡ string_bytes l.initial.id ++ filter is_no_separator l.local
