use Rattle.std.proofs.Common.{refl, sym, ap, ◌∙◌}
use Rattle.std.specs.Prelude.{option_map}
use Rattle.command_line.specs.Shown.{command_shown, listen_shown}
use Rattle.jmapd_listen.proofs.ProgramLemmas.{listens, of_listen, of_run, streamed_all}
use Rattle.jmapd_listen.proofs.program.run_program.Goals as goal

pub returns-in-Some-clause-runs : goal.returns-in-Some-clause-runs
returns-in-Some-clause-runs g c =
    let command = option_map command_shown c.in-Ok.command in
    of_listen _ _ _ _ _ _ _ _ _ c.listen.result (listen_shown c.in-Some.asked)
    (sym c.in-Ok.ensures ∙ listens command (listen_shown c.in-Some.asked) (sym c.listen_in.ensures ∙ ap (option_map listen_shown) c.in-Some.is)) refl c.listen.ensures.listens

pub returns-in-None-clause-runs : goal.returns-in-None-clause-runs
returns-in-None-clause-runs g c =
    let command = option_map command_shown c.in-Ok.command in
    of_run _ _ _ _ _ _ _ _ _ c.run.result command (sym c.in-Ok.ensures) (streamed_all command (sym c.listen_in.ensures ∙ ap (option_map listen_shown) c.in-None.is)) refl refl c.run.ensures.runs
