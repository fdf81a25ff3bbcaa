-- Why an occurrence that no exception names has the title of its event.
use Rattle.std.proofs.Common.{◌∙◌, FitsSigned, rules, sym, w64}
use Rattle.std.proofs.lemmas.Int.{to_z-of_z}
use Rattle.expanded_query.proofs.NamedLemmas.{none_at}
use Rattle.expanded_query.proofs.TitleLemmas.{own_title}
use Rattle.spec_json.specs.TreeData.{data_of}
use Rattle.spec_recurrence.specs.Recurrence.{override_at}
use Rattle.spec_time.specs.LocalTimes.{local_text}
use Rattle.expanded_query.proofs.item.own_title.Goals as goal

pub returns-then-not-names : goal.returns-then-not-names
returns-then-not-names c =
    let f : FitsSigned w64 c.seconds.result = search rules in
    let free = sym (rw c.seconds.ensures at (simp to_z-of_z at c.names.ensures)) ∙ c.if-not-names.true in
    own_title (local_text c.args.rid) (data_of c.args.source.now.event.now)
    (none_at (override_at (local_text c.args.rid) (data_of c.args.source.now.event.now)) (c.args.source.now.names c.args.rid c.requires free))
