use Rattle.std.specs.Prelude.{Vec}
use Rattle.std.specs.declared.alloc.Global.{Global}
use Rattle.command_line.specs.Shown.{listen_shown}
use Rattle.jmapd_listen.proofs.PostLemmas.{count_of, kinds_of, no_accepter, no_list, no_listener}
use Rattle.listen_workers.specs.declared.post.Post.{Post}
use Rattle.jmapd_listen.proofs.listen.open_posts.Goals as goal

pub returns-in-Err-clause-how : goal.returns-in-Err-clause-how
returns-in-Err-clause-how g c =
    no_listener (listen_shown c.args.asked.now) (g.H.Host.shown c.args.host.now) (g.H.Host.shown c.open_listeners.new.host) (g.G.SocketHost.shown c.args.socket_host.now) (Vec g.row.H-L.Denot Global) (Vec (Post g.row.H-L.Denot g.row.G-A.Denot) Global) c.in-Err.error c.in-Err.ensures.how

pub returns-in-Err-open_sockets-clause-how : goal.returns-in-Err-open_sockets-clause-how
returns-in-Err-open_sockets-clause-how g c =
    no_accepter (listen_shown c.args.asked.now) (g.H.Host.shown c.args.host.now) (g.H.Host.shown c.open_listeners.new.host) (g.G.SocketHost.shown c.args.socket_host.now) (Vec g.row.G-A.Denot Global) (Vec (Post g.row.H-L.Denot g.row.G-A.Denot) Global) (g.G.SocketHost.shown c.open_sockets.new.host)
    c.in-Ok.ensures.how c.in-Err-open_sockets.error c.in-Err-open_sockets.ensures.how

pub returns-in-Err-posts_at-clause-how : goal.returns-in-Err-posts_at-clause-how
returns-in-Err-posts_at-clause-how g c =
    no_list (listen_shown c.args.asked.now) (g.H.Host.shown c.args.host.now) (g.H.Host.shown c.open_listeners.new.host) (g.G.SocketHost.shown c.args.socket_host.now) (Vec g.row.G-A.Denot Global) (Vec (Post g.row.H-L.Denot g.row.G-A.Denot) Global) (g.G.SocketHost.shown c.open_sockets.new.host)
    c.in-Ok.ensures.how c.in-Ok-open_sockets.ensures.how

pub returns-in-Ok-posts_at-clause-how : goal.returns-in-Ok-posts_at-clause-how
returns-in-Ok-posts_at-clause-how g c = (c.in-Ok.ensures.how, c.in-Ok-open_sockets.ensures.how)

pub returns-in-Ok-posts_at-clause-count : goal.returns-in-Ok-posts_at-clause-count
returns-in-Ok-posts_at-clause-count g c =
    count_of g.H.L.Listener.shown g.G.A.WsAccept.shown c.in-Ok-posts_at.posts.items c.in-Ok.listeners.items c.in-Ok-open_sockets.accepters.items _ _ c.in-Ok-posts_at.ensures c.in-Ok.ensures.count c.in-Ok-open_sockets.ensures.count

pub returns-in-Ok-posts_at-clause-kinds : goal.returns-in-Ok-posts_at-clause-kinds
returns-in-Ok-posts_at-clause-kinds g c =
    kinds_of g.H.L.Listener.shown g.G.A.WsAccept.shown c.in-Ok-posts_at.posts.items c.in-Ok.listeners.items c.in-Ok-open_sockets.accepters.items _ _ c.in-Ok-posts_at.ensures c.in-Ok.ensures.count c.in-Ok-open_sockets.ensures.count
