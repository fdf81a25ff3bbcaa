use Rattle.std.proofs.Common.{◌≡◌, ◌∙◌, ap, cond, rules, sym}
use Rattle.expanded_query.proofs.IdLemmas.{another_id}
use Rattle.expanded_query.specs.Founds.{id_of}
use Rattle.spec_history.specs.ObjectId.{id_text}
use Rattle.spec_history.specs.declared.entry.Kind.TheVariants.{Event}
use Rattle.spec_recurrence.specs.OccurrenceIds.{occurrence_id_text}
use Rattle.expanded_query.proofs.found_occurrence.FoundOccurrence.has_id.Goals as goal

pub returns-then-not-is_named : goal.returns-then-not-is_named
returns-then-not-is_named c =
    let own : id_of c.args.self.now ≡ occurrence_id_text c.args.self.now.source.now.number c.args.self.now.rid =
    ap (λ b. cond b (occurrence_id_text c.args.self.now.source.now.number c.args.self.now.rid) (id_text Event c.args.self.now.source.now.number)) (sym c.args.self.now.source.now.recurs_is ∙ c.if-self.true) in
    sym (another_id c.args.id.now (id_of c.args.self.now) c.args.self.now.source.now.number c.args.self.now.rid c.if-self-gt0.true (search rules) c.args.self.now.years own (λ e. c.is_named.ensures c.if-not-is_named.true (c.requires ∙ e)))
