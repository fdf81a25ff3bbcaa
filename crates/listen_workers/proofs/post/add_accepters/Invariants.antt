use Rattle.std.proofs.Common.{◌≡◌, ◌++◌, map}
use Rattle.listen_workers.specs.declared.post.Post.TheVariants.{Sockets}
use Rattle.listen_workers.proofs.post.add_accepters.Given as goal

abbrev pub invariant-loop-accepter : goal.invariant-loop-accepter
invariant-loop-accepter g l = l.posts.items ≡ l.initial.posts.items ++ map Sockets l.yielded
