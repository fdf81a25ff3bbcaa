use Rattle.std.proofs.Common.{◌≡◌, Some, length, option_map, option_and_then, sym, ap, ◌∙◌}
use Rattle.json_edge.specs.Lengths.{saturated}
use Rattle.spec_json.specs.Data.{Data}
use Rattle.spec_json.specs.Json.{text_of}
use Rattle.spec_json.specs.TreeData.{data_of}
use Rattle.spec_batch.specs.References.{value_of_reference}
use Rattle.result_refs.proofs.ReferredLemmas.{sized_by}
use Rattle.result_refs.specs.Targets.{target_value}
use Rattle.result_refs.proofs.arguments.size_of_reference.Goals as goal

pub returns-in-Some-size-clause-ok : goal.returns-in-Some-size-clause-ok
returns-in-Some-size-clause-ok c =
    let found : target_value c.in-Some.target ≡ value_of_reference c.args.responses.now (data_of c.args.reference.now) = sym (ap (option_and_then target_value) c.in-Some.is) ∙ c.in_ok-target.ensures in
    let sized = sized_by c.in-Some-size.size (target_value c.in-Some.target) (sym c.in-Some-size.is ∙ c.size.ensures) in
    ap (option_map (λ (d : Data). saturated (length (text_of d)))) (sym found) ∙ (sized ∙ ap Some (sym c.of_a_text.ensures))
