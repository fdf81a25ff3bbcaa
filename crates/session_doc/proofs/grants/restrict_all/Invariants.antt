use Rattle.std.proofs.Common.{◌≡◌, drop, map}
use Rattle.spec_site.specs.Configuration.{restrict_all}
use Rattle.spec_json.specs.TreeData.{data_of}
use Rattle.session_doc.proofs.grants.restrict_all.Given as goal

abbrev pub invariant-loop-id : goal.invariant-loop-id
invariant-loop-id l = restrict_all (map data_of (drop l.id-index l.ids)) l.grants.items ≡ restrict_all (map data_of l.ids) l.fn.grants.items
