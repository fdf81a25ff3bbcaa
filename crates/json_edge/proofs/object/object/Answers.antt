use Rattle.std.proofs.Common.{Some, map, option_map, sym, ap, ◌∙◌}
use Rattle.spec_json.specs.Data.{members_of, object as object_data}
use Rattle.spec_json.specs.TreeData.{pair_of}
use Rattle.json_edge.specs.FoundMembers.{whole_pairs}
use Rattle.json_edge.specs.FoundData.{found_of}
use Rattle.json_edge.proofs.Settling.{firsts_sorted}
use Rattle.json_edge.proofs.object.object.Goals as goal

pub returns-in-Some-clause-ok : goal.returns-in-Some-clause-ok
returns-in-Some-clause-ok c =
    let kept = firsts_sorted found_of c.args.found.items c.reverse.new.self.items c.sort.new.found.items c.reverse.ensures.items c.in_ok-sort.ensures in
    ap (λ es. option_map (λ ps. object_data (members_of ps)) (whole_pairs es)) (sym kept)
    ∙ ap (option_map (λ ps. object_data (members_of ps))) (c.in_ok-members.ensures.ok ∙ ap (option_map (λ ms. map pair_of ms.items)) c.in-Some.is)
    ∙ ap (λ ps. Some (object_data (members_of ps))) (sym c.new.ensures)

pub returns-in-None-clause-ok : goal.returns-in-None-clause-ok
returns-in-None-clause-ok c =
    let kept = firsts_sorted found_of c.args.found.items c.reverse.new.self.items c.sort.new.found.items c.reverse.ensures.items c.in_ok-sort.ensures in
    ap (λ es. option_map (λ ps. object_data (members_of ps)) (whole_pairs es)) (sym kept)
    ∙ ap (option_map (λ ps. object_data (members_of ps))) (c.in_ok-members.ensures.ok ∙ ap (option_map (λ ms. map pair_of ms.items)) c.in-None.is)
