-- What a reference names.
use Rattle.std.specs.Prelude.{Option}
use Rattle.spec_batch.specs.References.{value_by}
use Rattle.spec_json.specs.Data.{Data}
use Rattle.spec_json.specs.TreeData.{data_of}
use Rattle.result_refs.specs.Steps.{parts_along}
use Rattle.result_refs.specs.declared.reference.Target.{Target}

-- the value there
abbrev pub target_value : Target → Option Data
target_value t = value_by (parts_along t.path) (data_of t.arguments.now)
