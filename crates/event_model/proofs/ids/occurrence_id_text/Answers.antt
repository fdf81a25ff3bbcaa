use Rattle.std.proofs.Common.{subst, sym, ◌∙◌}
use Rattle.std.specs.Str.{IsAscii}
use Rattle.spec_recurrence.proofs.OccurrenceIdLemmas.{local_is_ascii}
use Rattle.event_model.proofs.ids.occurrence_id_text.Goals as goal

pub push_compact-requires : goal.push_compact-requires
push_compact-requires c =
    subst (λ s. IsAscii s) (sym (c.as_bytes.ensures.value ∙ c.as_str.ensures ∙ c.in_ok-local.ensures)) (local_is_ascii c.args.wall c.requires)
