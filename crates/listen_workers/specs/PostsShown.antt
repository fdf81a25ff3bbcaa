-- What contracts see of a post.
use Rattle.listen_edge.specs.Listening.{ListenerShown}
use Rattle.listen_workers.specs.Posts.{PostShown, connections, sockets}
use Rattle.listen_workers.specs.declared.post.Post.{Post}
use Rattle.listen_workers.specs.declared.post.Post.TheVariants.{Connections, Sockets}
use Rattle.ws_edge.specs.Accepting.{AcceptShown}

abbrev pub post_shown : {L A : Type 0} → (L → ListenerShown) → (A → AcceptShown) → Post L A → PostShown
post_shown listener accepter (Connections l) = connections (listener l)
post_shown listener accepter (Sockets a) = sockets (accepter a)
