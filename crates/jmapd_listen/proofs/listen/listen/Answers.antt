use Rattle.std.proofs.Common.{ℕ, map, subst}
use denote.Exit.{no}
use denote.Param.Send.{arg_send, param_send}
use Rattle.account_desk.specs.FreshDesk.{account_rules}
use Rattle.account_desk.specs.SharedDesk.{shown_by_passes}
use Rattle.command_line.specs.Shown.{listen_shown}
use Rattle.jmapd_listen.proofs.ListenLemmas.{not_loaded, served}
use Rattle.jmapd_listen.proofs.Sending.{desk_sent}
use Rattle.jmapd_listen.specs.Listens.{AreDesksOf}
use Rattle.jmapd_listen.proofs.listen.listen.Goals as goal

pub returns-in-Err-clause-listens : goal.returns-in-Err-clause-listens
returns-in-Err-clause-listens g c =
    not_loaded (g.O.Opener.shown c.args.opener.now) (g.O.Opener.shown c.load_site.new.opener) (listen_shown c.args.asked.now)
    (record { connections = g.H.Host.shown c.args.host.now; sockets = g.G.SocketHost.shown c.args.socket_host.now })
    (record { faults = g.S.Spawner.faults c.args.spawner.now; served = g.S.Spawner.served c.args.spawner.now }) c.in-Err.status c.in-Err.ensures.how

pub serve_site-requires-send-D : goal.serve_site-requires-send-D
serve_site-requires-send-D g c κs within = param_send _ _ (arg_send _ no _ (desk_sent _ c.type_bounds.send-W))

pub returns-clause-listens : goal.returns-clause-listens
returns-clause-listens g c =
    served (g.O.Opener.shown c.args.opener.now) (g.O.Opener.shown c.load_site.new.opener) (listen_shown c.args.asked.now)
    (record { connections = g.H.Host.shown c.args.host.now; sockets = g.G.SocketHost.shown c.args.socket_host.now })
    (record { connections = g.H.Host.shown c.serve_site.new.host; sockets = g.G.SocketHost.shown c.serve_site.new.socket_host })
    (record { faults = g.S.Spawner.faults c.args.spawner.now; served = g.S.Spawner.served c.args.spawner.now }) (record { faults = g.S.Spawner.faults c.serve_site.new.spawner; served = g.S.Spawner.served c.serve_site.new.spawner })
    c.in-Ok.site c.in-Ok.ensures.how c.serve_site.result (
      map (shown_by_passes account_rules) c.in-Ok-site_desks.desks.items,
      subst (λ (n : ℕ). AreDesksOf c.in-Ok.site n (map (shown_by_passes account_rules) c.in-Ok-site_desks.desks.items)) c.all_workers.ensures.all c.in-Ok-site_desks.ensures.of_site,
      c.serve_site.ensures,
    )
