use Rattle.std.proofs.Common.{ap, map, ◌∙◌}
use Rattle.spec_json.specs.Parts.{members_in}
use Rattle.spec_json.specs.TreeData.{data_of, pair_of}
use Rattle.overrides.proofs.MemberLemmas.{always_put}
use Rattle.overrides.specs.Parts.{always_needed, part_with, with_each_member}
use Rattle.overrides.proofs.part.always_part.Goals as goal

pub returns : goal.returns
unfolding part_with
returns c =
    c.in_ok-put_names.ensures ∙ ap (λ names. with_each_member names (members_in (data_of c.args.event.now)) c.new-part.result) c.always_needed.ensures
    ∙ ap (with_each_member always_needed (members_in (data_of c.args.event.now))) (c.new-part.ensures ∙ ap (map pair_of) c.new.ensures.items)
    ∙ always_put (members_in (data_of c.args.event.now)) c.members_in-ordered.ensures.ordered
