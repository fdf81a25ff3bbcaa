use Rattle.std.proofs.Common.{◌∙◌, ◌++◌, ◌∷◌, [], ap, append_assoc, map, sym}
use Rattle.std.proofs.lemmas.List.{map-append}
use Rattle.listen_workers.specs.declared.post.Post.TheVariants.{Sockets}
use Rattle.listen_workers.proofs.post.add_accepters.Goals as goal

pub loop-accepter-preserved : goal.loop-accepter-preserved
loop-accepter-preserved g c =
    c.in_ok-push.ensures.items
    ∙ (ap (λ ps. ps ++ Sockets c.in-Some.accepter ∷ []) c.loop-accepter.invariant
    ∙ (append_assoc _ (map Sockets c.loop-accepter.yielded) (Sockets c.in-Some.accepter ∷ []) ∙ ap (λ ps. c.args.posts.now.items ++ ps) (sym (map-append Sockets c.loop-accepter.yielded (c.in-Some.accepter ∷ [])))))
