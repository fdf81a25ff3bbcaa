use Rattle.std.proofs.Common.{◌≡◌, map, refl, sym, ap, ◌∙◌}
use Rattle.std.proofs.lemmas.List.{length-map}
use Rattle.std.specs.Arc.{arc_value}
use Rattle.std.specs.List.{list_all}
use mathlib.Core.List.{map-map}
use denote.Exit.{no}
use denote.Param.Send.{arg_send, param_send}
use Rattle.command_line.specs.Shown.{listen_shown}
use Rattle.jmapd_listen.proofs.EndedLemmas.{have_ended}
use Rattle.jmapd_listen.proofs.Sending.{back_sent, job_sent}
use Rattle.jmapd_listen.proofs.ServeLemmas.{all_served, not_all, wanting}
use Rattle.jmapd_listen.specs.Hosts.{HostsShown}
use Rattle.jmapd_listen.specs.Listens.{SpawnerShown}
use Rattle.jmapd_listen.specs.declared.job.WorkerBack.{WorkerBack}
use Rattle.jmapd_listen.specs.declared.job.WorkerJob.{WorkerJob}
use Rattle.listen_workers.specs.Crew.{is_all}
use Rattle.listen_workers.specs.Posts.{is_for_sockets}
use Rattle.listen_workers.specs.PostsShown.{post_shown}
use Rattle.listen_workers.specs.declared.post.Post.{Post}
use Rattle.jmapd_listen.proofs.listen.serve_site.Goals as goal

pub run_all-requires-send-J : goal.run_all-requires-send-J
run_all-requires-send-J g c κs within =
    param_send _ _ (arg_send _ no _ (job_sent _ _ _ _ _ c.type_bounds.send-H-L c.type_bounds.send-G-A c.type_bounds.send-C c.type_bounds.send-D))

pub run_all-requires-send-J-Back : goal.run_all-requires-send-J-Back
run_all-requires-send-J-Back g c κs within =
    param_send _ _ (arg_send _ no _ (back_sent _ _ _ _ c.type_bounds.send-H-L c.type_bounds.send-G-A c.type_bounds.send-C c.type_bounds.send-D))

pub returns-in_default : goal.returns-in_default
returns-in_default g c =
    let h : HostsShown = record { connections = g.H.Host.shown c.args.host.now; sockets = g.G.SocketHost.shown c.args.socket_host.now } in
    let h' : HostsShown = record { connections = g.H.Host.shown c.open_posts.new.host; sockets = g.G.SocketHost.shown c.open_posts.new.socket_host } in
    let s : SpawnerShown = record { faults = g.S.Spawner.faults c.args.spawner.now; served = g.S.Spawner.served c.args.spawner.now } in
    wanting c.args.site (map g.D.Desk.shown c.args.desks.items) (listen_shown c.args.asked.now) h h' c.in-Ok.ensures.how s s refl

pub returns-in_default-run_all : goal.returns-in_default-run_all
returns-in_default-run_all g c =
    let h : HostsShown = record { connections = g.H.Host.shown c.args.host.now; sockets = g.G.SocketHost.shown c.args.socket_host.now } in
    let h' : HostsShown = record { connections = g.H.Host.shown c.open_posts.new.host; sockets = g.G.SocketHost.shown c.open_posts.new.socket_host } in
    let s : SpawnerShown = record { faults = g.S.Spawner.faults c.args.spawner.now; served = g.S.Spawner.served c.args.spawner.now } in
    let s' : SpawnerShown = record { faults = g.S.Spawner.faults c.run_all.new.spawner; served = g.S.Spawner.served c.run_all.new.spawner } in
    let none = c.in_default-run_all.ensures.none in
    wanting c.args.site (map g.D.Desk.shown c.args.desks.items) (listen_shown c.args.asked.now) h h' c.in-Ok.ensures.how s s' (λ i. record { faults = none.0 i; served = none.1 i })

pub returns-then-all_served : goal.returns-then-all_served
returns-then-all_served g c =
    let P : Type 0 = Post g.row.H-L.Denot g.row.G-A.Denot in
    let Job : Type 0 = WorkerJob g.row.H-L.Denot g.row.G-A.Denot g.row.C.Denot g.row.D.Denot g.D.Desk in
    let Back : Type 0 = WorkerBack g.row.H-L.Denot g.row.G-A.Denot g.row.C.Denot g.row.D.Denot in
    let l = listen_shown c.args.asked.now in
    let desks = map g.D.Desk.shown c.args.desks.items in
    let h : HostsShown = record { connections = g.H.Host.shown c.args.host.now; sockets = g.G.SocketHost.shown c.args.socket_host.now } in
    let h' : HostsShown = record { connections = g.H.Host.shown c.open_posts.new.host; sockets = g.G.SocketHost.shown c.open_posts.new.socket_host } in
    let s : SpawnerShown = record { faults = g.S.Spawner.faults c.args.spawner.now; served = g.S.Spawner.served c.args.spawner.now } in
    let s' : SpawnerShown = record { faults = g.S.Spawner.faults c.run_all.new.spawner; served = g.S.Spawner.served c.run_all.new.spawner } in
    let shown = post_shown g.H.L.Listener.shown g.G.A.WsAccept.shown in
    let jobs = c.in-Ok-jobs_of.jobs.items in
    let backs = c.in-Ok-run_all.backs.items in
    let posts_are = c.in-Ok-jobs_of.ensures.posts in
    let kinds = sym (map-map (λ (p : P). is_for_sockets (shown p)) (λ (job : Job). job.post) jobs) ∙ (ap (map (λ (p : P). is_for_sockets (shown p))) posts_are ∙ c.in-Ok.ensures.kinds) in
    let ended = have_ended {J = Job} {K = Back} c.args.site c.args.asked.now.connections (λ job. arc_value job.site) (λ job. job.connections) (λ job. shown job.post)
    (λ job. record { clock = g.C.Clock.moments job.clock; desk = g.D.Desk.shown job.desk }) (λ back. shown back.post)
    (λ back. record { clock = g.C.Clock.moments back.clock; desk = g.D.Desk.shown back.desk }) (λ back. back.done) desks _ s s' jobs backs c.in-Ok-run_all.ensures.each c.in-Ok-jobs_of.ensures.each
    (sym (map-map g.D.Desk.shown (λ (job : Job). job.desk) jobs) ∙ ap (map g.D.Desk.shown) c.in-Ok-jobs_of.ensures.desks) kinds c.in-Ok-run_all.ensures.faults c.in-Ok-run_all.ensures.served in
    let all : c.all_served.result ≡ list_all (λ (back : Back). is_all back.done.end) backs = c.all_served.ensures ∙ ap (list_all (λ (back : Back). is_all back.done.end)) c.deref.ensures.value in
    all_served c.args.site desks l h h' c.in-Ok.ensures.how s s'
    (length-map c.args.desks.items g.D.Desk.shown ∙ c.requires.workers) ended.0 ended.1 (ended.2 ∙ (sym all ∙ c.if-all_served.true))

pub returns : goal.returns
returns g c =
    let P : Type 0 = Post g.row.H-L.Denot g.row.G-A.Denot in
    let Job : Type 0 = WorkerJob g.row.H-L.Denot g.row.G-A.Denot g.row.C.Denot g.row.D.Denot g.D.Desk in
    let Back : Type 0 = WorkerBack g.row.H-L.Denot g.row.G-A.Denot g.row.C.Denot g.row.D.Denot in
    let l = listen_shown c.args.asked.now in
    let desks = map g.D.Desk.shown c.args.desks.items in
    let h : HostsShown = record { connections = g.H.Host.shown c.args.host.now; sockets = g.G.SocketHost.shown c.args.socket_host.now } in
    let h' : HostsShown = record { connections = g.H.Host.shown c.open_posts.new.host; sockets = g.G.SocketHost.shown c.open_posts.new.socket_host } in
    let s : SpawnerShown = record { faults = g.S.Spawner.faults c.args.spawner.now; served = g.S.Spawner.served c.args.spawner.now } in
    let s' : SpawnerShown = record { faults = g.S.Spawner.faults c.run_all.new.spawner; served = g.S.Spawner.served c.run_all.new.spawner } in
    let shown = post_shown g.H.L.Listener.shown g.G.A.WsAccept.shown in
    let jobs = c.in-Ok-jobs_of.jobs.items in
    let backs = c.in-Ok-run_all.backs.items in
    let posts_are = c.in-Ok-jobs_of.ensures.posts in
    let kinds = sym (map-map (λ (p : P). is_for_sockets (shown p)) (λ (job : Job). job.post) jobs) ∙ (ap (map (λ (p : P). is_for_sockets (shown p))) posts_are ∙ c.in-Ok.ensures.kinds) in
    let ended = have_ended {J = Job} {K = Back} c.args.site c.args.asked.now.connections (λ job. arc_value job.site) (λ job. job.connections) (λ job. shown job.post)
    (λ job. record { clock = g.C.Clock.moments job.clock; desk = g.D.Desk.shown job.desk }) (λ back. shown back.post)
    (λ back. record { clock = g.C.Clock.moments back.clock; desk = g.D.Desk.shown back.desk }) (λ back. back.done) desks _ s s' jobs backs c.in-Ok-run_all.ensures.each c.in-Ok-jobs_of.ensures.each
    (sym (map-map g.D.Desk.shown (λ (job : Job). job.desk) jobs) ∙ ap (map g.D.Desk.shown) c.in-Ok-jobs_of.ensures.desks) kinds c.in-Ok-run_all.ensures.faults c.in-Ok-run_all.ensures.served in
    let all : c.all_served.result ≡ list_all (λ (back : Back). is_all back.done.end) backs = c.all_served.ensures ∙ ap (list_all (λ (back : Back). is_all back.done.end)) c.deref.ensures.value in
    not_all c.args.site desks l h h' c.in-Ok.ensures.how s s'
    (length-map c.args.desks.items g.D.Desk.shown ∙ c.requires.workers) ended.0 ended.1 (ended.2 ∙ (sym all ∙ c.if-all_served.false))
