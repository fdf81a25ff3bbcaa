use Rattle.std.proofs.Common.{◌≡◌, inl, rules}
use Rattle.account_desk.specs.SoleDesk.{shown_of}
use Rattle.account_desk.specs.FreshDesk.{fresh_desk}
use Rattle.jmapd_run.proofs.Connecting.{never_spent, served_so}
use Rattle.jmapd_run.proofs.stdio.run_stdio.Goals as goal

pub status_of-requires : goal.status_of-requires
status_of-requires g c =
    let fresh : shown_of c.in-Ok.desk ≡ fresh_desk c.args.site.now = search rules in
    never_spent c.serve_connection-served.ensures fresh

pub returns : goal.returns
returns g c =
    let fresh : shown_of c.in-Ok.desk ≡ fresh_desk c.args.site.now = search rules in
    inl (served_so
    {x = record { input = g.S.Source.shown c.args.input.now; output = g.K.Sink.shown c.args.output.now; clock = g.C.Clock.moments c.args.clock.now }}
    {x' = record { input = g.S.Source.shown c.serve_connection-served.new.source; output = g.K.Sink.shown c.serve_connection-served.new.sink; clock = g.C.Clock.moments c.serve_connection-served.new.clock }}
    fresh c.all_entries_are_its_own.ensures c.serve_connection-served.ensures c.status_of.ensures)
