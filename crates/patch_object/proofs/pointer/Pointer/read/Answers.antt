use Rattle.std.proofs.Common.{◌≡◌, [], sym, ap, ◌∙◌, arith, append-nil, map-id}
use Rattle.std.proofs.lemmas.Grind.{common_steps}
use Rattle.std.proofs.lemmas.Iterator.{YieldsList-from_chars}
use Rattle.std.proofs.lemmas.Iterator.Consumers.{YieldsList-end}
use Rattle.std.specs.Str.{chars}
use Rattle.spec_json.specs.Pointer.{parts, parts_from}
use Rattle.patch_object.specs.Reading.{read_on}
use Rattle.patch_object.proofs.pointer.Pointer.read.Goals as goal

pub returns-in-None-2-clause-bad_escape : goal.returns-in-None-2-clause-bad_escape
returns-in-None-2-clause-bad_escape c =
    let end = YieldsList-end (YieldsList-from_chars c.as_str.result.now c.as_str.utf8 cc) c.loop-c.yielded _ c.loop-c.yielded_by _ _ c.in-None.is c.next.ensures.steps in
    let all : read_on c.loop-c.reader [] ≡ parts c.args.key.now = c.loop-c.invariant [] ∙ ap (λ cs. parts_from [] cs) (append-nil c.loop-c.yielded ∙ sym (map-id c.loop-c.yielded) ∙ end.0 ∙ ap chars c.as_str.ensures) in
    λ _. grind (arith, common_steps, all)

pub returns-in-Some-2-clause-ok : goal.returns-in-Some-2-clause-ok
returns-in-Some-2-clause-ok c =
    let end = YieldsList-end (YieldsList-from_chars c.as_str.result.now c.as_str.utf8 cc) c.loop-c.yielded _ c.loop-c.yielded_by _ _ c.in-None.is c.next.ensures.steps in
    let all : read_on c.loop-c.reader [] ≡ parts c.args.key.now = c.loop-c.invariant [] ∙ ap (λ cs. parts_from [] cs) (append-nil c.loop-c.yielded ∙ sym (map-id c.loop-c.yielded) ∙ end.0 ∙ ap chars c.as_str.ensures) in
    grind (arith, common_steps, all)
