use Rattle.std.proofs.Common.{◌≡◌, [], drop, map}
use Rattle.spec_site.specs.Configuration.{grant_in, read_behind}
use Rattle.spec_json.specs.TreeData.{data_of}
use Rattle.session_doc.proofs.grants.read_each.Given as goal

abbrev pub invariant-loop-id : goal.invariant-loop-id
invariant-loop-id l = read_behind (grant_in l.accounts) l.grants.items (map data_of (drop l.id-index l.ids)) ≡ read_behind (grant_in l.accounts) [] (map data_of l.ids)
