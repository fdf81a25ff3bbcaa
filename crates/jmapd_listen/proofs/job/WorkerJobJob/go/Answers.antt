use Rattle.std.proofs.Common.{◌≡◌, ap, sym, ◌∙◌, length, subst, rules}
use Rattle.std.specs.Arc.{arc_value}
use Rattle.listen_workers.specs.Posts.{WorksAt}
use Rattle.listen_workers.specs.PostsShown.{post_shown}
use Rattle.listen_workers.specs.Working.{Tools}
use Rattle.spec_site.specs.Configuration.{Site}
use Rattle.jmapd_listen.proofs.JobLemmas.{whole}
use Rattle.jmapd_listen.proofs.job.WorkerJobJob.go.Goals as goal

pub work-done-requires-after_bounds : goal.work-done-requires-after_bounds
work-done-requires-after_bounds g c κs within =
    let job = c.args.self in
    let site_is : c.deref.result.now ≡ arc_value job.site = search rules in
    job.unused.0 ∙ ap (λ (s : Site). length s.accounts) (sym site_is)

pub returns : goal.returns
returns g c =
    let job = c.args.self in
    let p = post_shown g.L.Listener.shown g.A.WsAccept.shown job.post in
    let p' = post_shown g.L.Listener.shown g.A.WsAccept.shown c.work-done.new.post in
    let t : Tools = record { clock = g.C.Clock.moments job.clock; desk = g.D.Desk.shown job.desk } in
    let u : Tools = record { clock = g.C.Clock.moments c.work-done.new.clock; desk = g.D.Desk.shown c.work-done.new.desk } in
    let site_is : c.deref.result.now ≡ arc_value job.site = search rules in
    whole (arc_value job.site) job.connections t u c.work-done.result p p' job.unused.1 job.within.1 (subst (λ (s : Site). WorksAt s job.connections p p' t u c.work-done.result) site_is c.work-done.ensures)
