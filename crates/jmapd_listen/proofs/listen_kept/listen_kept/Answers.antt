use Rattle.std.proofs.Common.{◌∙◌, ℕ, map, subst}
use Rattle.command_line.specs.Shown.{listen_shown}
use Rattle.jmapd_listen.proofs.KeptLemmas.{kept_count, kept_served, kept_unused, none_loaded, none_opened}
use Rattle.jmapd_listen.specs.Offices.{AreKeptDesks}
use Rattle.jmapd_listen.proofs.listen_kept.listen_kept.Goals as goal

pub returns-in-Err-clause-listens : goal.returns-in-Err-clause-listens
returns-in-Err-clause-listens g c =
    none_loaded (g.O.Opener.shown c.args.opener.now) (g.O.Opener.shown c.load_site.new.opener) (listen_shown c.args.asked.now) (g.F.Office.shown c.args.office.now)
    (record { connections = g.H.Host.shown c.args.host.now; sockets = g.G.SocketHost.shown c.args.socket_host.now })
    (record { faults = g.S.Spawner.faults c.args.spawner.now; served = g.S.Spawner.served c.args.spawner.now }) c.in-Err.status c.in-Err.ensures.how

pub serve_site-requires-clause-workers : goal.serve_site-requires-clause-workers
serve_site-requires-clause-workers g c κs within =
    kept_count g.F.D.Desk.shown c.in-Ok.site (g.F.Office.shown c.args.office.now).told c.all_workers.result c.in-Ok-desks.desks.items c.in-Ok-desks.ensures.opened
    ∙ c.all_workers.ensures.all

pub serve_site-requires-clause-unused : goal.serve_site-requires-clause-unused
serve_site-requires-clause-unused g c κs within =
    kept_unused g.F.D.Desk.shown c.in-Ok.site (g.F.Office.shown c.args.office.now).told c.all_workers.result c.in-Ok-desks.desks.items c.in-Ok-desks.ensures.opened

pub returns-in-Err-desks-clause-listens : goal.returns-in-Err-desks-clause-listens
returns-in-Err-desks-clause-listens g c =
    none_opened (g.O.Opener.shown c.args.opener.now) (g.O.Opener.shown c.load_site.new.opener) (listen_shown c.args.asked.now) (g.F.Office.shown c.args.office.now) (g.F.Office.shown c.desks.new.self)
    c.in-Ok.site c.in-Ok.ensures.how (record { connections = g.H.Host.shown c.args.host.now; sockets = g.G.SocketHost.shown c.args.socket_host.now })
    (record { faults = g.S.Spawner.faults c.args.spawner.now; served = g.S.Spawner.served c.args.spawner.now }) c.in-Err-desks.status
    c.in-Err-desks.ensures.refused

pub returns-in-Ok-desks-clause-listens : goal.returns-in-Ok-desks-clause-listens
returns-in-Ok-desks-clause-listens g c =
    kept_served (g.O.Opener.shown c.args.opener.now) (g.O.Opener.shown c.load_site.new.opener) (listen_shown c.args.asked.now) (g.F.Office.shown c.args.office.now) (g.F.Office.shown c.desks.new.self)
    c.in-Ok.site c.in-Ok.ensures.how (record { connections = g.H.Host.shown c.args.host.now; sockets = g.G.SocketHost.shown c.args.socket_host.now })
    (record { connections = g.H.Host.shown c.serve_site.new.host; sockets = g.G.SocketHost.shown c.serve_site.new.socket_host })
    (record { faults = g.S.Spawner.faults c.args.spawner.now; served = g.S.Spawner.served c.args.spawner.now }) (record { faults = g.S.Spawner.faults c.serve_site.new.spawner; served = g.S.Spawner.served c.serve_site.new.spawner })
    (map g.F.D.Desk.shown c.in-Ok-desks.desks.items)
    (subst (λ (n : ℕ). AreKeptDesks c.in-Ok.site (g.F.Office.shown c.args.office.now).told n (map g.F.D.Desk.shown c.in-Ok-desks.desks.items)) c.all_workers.ensures.all c.in-Ok-desks.ensures.opened)
    c.serve_site.result c.serve_site.ensures
