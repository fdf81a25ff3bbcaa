-- What values in the making stand for.
use Rattle.std.specs.Prelude.{List, Option, Some, None, Result, Ok, Err, option_map, map, Vec}
use Rattle.std.specs.declared.alloc.Global.{Global}
use Rattle.json.specs.declared.reader.Invalid.{Invalid}
use Rattle.spec_json.specs.Data.{Data}
use Rattle.spec_json.specs.TreeData.{data_of}
use Rattle.spec_json.specs.declared.tree.Tree.{Tree}
use Rattle.json_edge.specs.FoundMembers.{Found}
use Rattle.json_edge.specs.declared.object.FoundMember.{FoundMember}

-- a value, none where a number of it isn't whole; and no value where the text is no JSON
abbrev pub read_as : Result (Option Tree) Invalid → Option (Option Data)
read_as (Ok t) = Some (option_map data_of t)
read_as (Err e) = None

abbrev pub found_of : FoundMember → Found
found_of m = (m.key, option_map data_of m.value)

abbrev pub all_data : Option (Vec Tree Global) → Option (List Data)
all_data found = option_map (λ v. map data_of v.items) found
