use Rattle.std.proofs.Common.{◌≡◌, ◌++◌, map}
use Rattle.listen_workers.specs.declared.post.Post.TheVariants.{Connections}
use Rattle.listen_workers.proofs.post.add_listeners.Given as goal

abbrev pub invariant-loop-listener : goal.invariant-loop-listener
invariant-loop-listener g l = l.posts.items ≡ l.initial.posts.items ++ map Connections l.yielded
