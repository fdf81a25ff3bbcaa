use Rattle.std.proofs.Common.{◌<◌, ◌||◌, [], ap, length, map, subst, sym, ◌∙◌}
use Rattle.std.specs.List.{list_any}
use Rattle.spec_json.specs.Patch.{is_prefix}
use Rattle.patch_object.specs.Paths.{string_parts}
use Rattle.patch_object.proofs.PointerLemmas.{any_inserted, with_parts}
use Rattle.patch_object.proofs.pointer_set.PointerSet.add.Goals as goal

pub returns-clause-added : goal.returns-clause-added
returns-clause-added c = λ ps.
    ap (λ ks. list_any (λ e. is_prefix e ps) (map string_parts ks)) c.in_ok-is_new.ensures.keys
    ∙ any_inserted (λ e. is_prefix e ps) c.self.inside.paths.keys c.in_ok-path.path
    ∙ ap (λ path. is_prefix path ps || list_any (λ e. is_prefix e ps) (map string_parts c.self.inside.paths.keys)) (c.in_ok-path.ensures ∙ c.parts.ensures.parts)
    ∙ ap (λ es. is_prefix c.args.pointer.now ps || list_any (λ e. is_prefix e ps) es) c.self.view_is

pub invariant_of-self-2 : goal.invariant_of-self-2
invariant_of-self-2 c =
    ap (λ ks. list_any (λ e. is_prefix e []) (map string_parts ks)) c.in_ok-is_new.ensures.keys
    ∙ any_inserted (λ e. is_prefix e []) c.self.inside.paths.keys c.in_ok-path.path
    ∙ with_parts (string_parts c.in_ok-path.path) (list_any (λ e. is_prefix e []) (map string_parts c.self.inside.paths.keys)) (subst (λ ps. 0 < length ps) (sym c.in_ok-path.ensures) c.parts.ensures.some) c.self.invariant
