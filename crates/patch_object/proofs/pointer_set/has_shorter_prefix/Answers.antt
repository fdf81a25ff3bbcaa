use Rattle.std.proofs.Common.{◌≡◌, ◌<◌, false, sym, arith, ◌∙◌}
use borrow.Author.Count.{below_more}
use Rattle.std.specs.List.{list_any}
use Rattle.patch_object.proofs.PointerLemmas.{found_prefix, front_at, itself_or_none}
use Rattle.patch_object.proofs.pointer_set.has_shorter_prefix.Goals as goal

pub returns-then-contains : goal.returns-then-contains
returns-then-contains c = sym (found_prefix c.args.path.now c.loop-end.end c.args.paths.now.keys (sym c.contains.ensures ∙ c.if-contains.true))

pub loop-end-init : goal.loop-end-init
loop-end-init c = λ n h p. absurd (omega arith)

pub loop-end-preserved : goal.loop-end-preserved
loop-end-preserved c =
    let none : list_any (front_at c.args.path.now c.loop-end.end) c.args.paths.now.keys ≡ false = sym c.contains.ensures ∙ c.if-contains.false in
    below_more (λ n. 0 < n → list_any (front_at c.args.path.now n) c.args.paths.now.keys ≡ false) c.loop-end.end c.loop-end.invariant (λ p. none)

pub returns : goal.returns
returns c = itself_or_none c.args.path.now c.args.paths.now.keys c.requires (λ n h p. c.loop-end.invariant n (omega arith) p)
