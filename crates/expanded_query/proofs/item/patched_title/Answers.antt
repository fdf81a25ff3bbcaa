-- Why a patch of names tells the title itself.
use Rattle.std.proofs.Common.{◌≡◌, ◌∙◌, codes, sym}
use Rattle.std.proofs.lemmas.Result.{IfOk-weaker}
use Rattle.expanded_query.proofs.NameLemmas.{title_by_names}
use Rattle.expanded_query.specs.OwnTitles.{title_by, title_or}
use Rattle.spec_json.specs.Data.{Data, lookup}
use Rattle.spec_json.specs.Parts.{members_in}
use Rattle.spec_json.specs.TreeData.{data_of}
use Rattle.spec_queries.specs.Expanded.{title_in}
use Rattle.spec_recurrence.specs.Overrides.{occurrence_in}
use Rattle.expanded_query.proofs.item.patched_title.Goals as goal

pub returns-then-are_names : goal.returns-then-are_names
returns-then-are_names c =
    let event = data_of c.args.event.now in
    let names = rw c.deref.ensures.value at c.are_names.ensures in
    let same = title_by_names event c.args.key.now c.members.result.now.items c.args.patch.now c.members_in-ordered.ensures.ordered c.members.ensures.ordered c.members.ensures.value (sym names ∙ c.if-are_names.true) in
    IfOk-weaker c.named_title.result (λ own. (d : Data) → title_or d own ≡ title_by (lookup (codes "title") c.args.patch.now) d) (λ own. title_or event own ≡ title_in (occurrence_in (members_in event) c.args.key.now c.args.patch.now))
    (λ own h. h event ∙ same) c.named_title.ensures
