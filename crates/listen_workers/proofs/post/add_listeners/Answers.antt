use Rattle.std.proofs.Common.{◌∙◌, ◌++◌, ◌∷◌, [], ap, append_assoc, map, sym}
use Rattle.std.proofs.lemmas.List.{map-append}
use Rattle.listen_workers.specs.declared.post.Post.TheVariants.{Connections}
use Rattle.listen_workers.proofs.post.add_listeners.Goals as goal

pub loop-listener-preserved : goal.loop-listener-preserved
loop-listener-preserved g c =
    c.in_ok-push.ensures.items
    ∙ (ap (λ ps. ps ++ Connections c.in-Some.listener ∷ []) c.loop-listener.invariant
    ∙ (append_assoc _ (map Connections c.loop-listener.yielded) (Connections c.in-Some.listener ∷ []) ∙ ap (λ ps. c.args.posts.now.items ++ ps) (sym (map-append Connections c.loop-listener.yielded (c.in-Some.listener ∷ [])))))
