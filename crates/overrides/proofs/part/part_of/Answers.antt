use Rattle.std.proofs.Common.{ap, ◌∙◌}
use Rattle.spec_json.specs.Parts.{members_in}
use Rattle.spec_json.specs.TreeData.{data_of}
use Rattle.overrides.proofs.MemberLemmas.{firsts_put}
use Rattle.overrides.specs.Parts.{part_with, with_each_member}
use Rattle.overrides.proofs.part.part_of.Goals as goal

pub returns : goal.returns
unfolding part_with
returns c =
    c.in_ok-put_firsts.ensures
    ∙ ap (with_each_member c.args.firsts.now (members_in (data_of c.args.event.now))) (c.in_ok-part.ensures ∙ c.requires)
    ∙ firsts_put c.args.firsts.now (members_in (data_of c.args.event.now)) c.members_in-ordered.ensures.ordered
