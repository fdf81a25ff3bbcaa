use Rattle.std.proofs.Common.{◌≡◌, ◌∙◌, List, ap, map, option_map, rules}
use Rattle.spec_json.specs.Data.{Data}
use Rattle.spec_json.specs.Parts.{all_some, as_text}
use Rattle.spec_json.specs.TreeData.{data_of}
use Rattle.spec_sockets.specs.Switches.{types_named}
use Rattle.ws_serve.proofs.Switching.{listed_types}
use Rattle.ws_serve.proofs.switch.types_in.Goals as goal

pub returns-in-List : goal.returns-in-List
returns-in-List c =
    let names : map data_of c.deref.result.now ≡ c.in-List.names = search rules in
    listed_types c.args.names.now c.in-List.names c.types_named.result (search rules) (c.types_named.ensures ∙ ap (λ (l : List Data). option_map types_named (all_some as_text l)) names)
