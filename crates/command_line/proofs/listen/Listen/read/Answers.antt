use Rattle.std.proofs.Common.{ap, ◌∙◌}
use Rattle.clap.specs.Words.{app_of, is_simple_and_free}
use Rattle.command_line.proofs.Values.{listen_found, listen_is_free}
use Rattle.command_line.proofs.listen.Listen.read.Goals as goal

pub matches_in-requires : goal.matches_in-requires
matches_in-requires c = ap is_simple_and_free c.in_ok-command.ensures ∙ listen_is_free

pub returns : goal.returns
returns c =
    let found = rw c.in-Some.is at c.in_ok-matches.ensures.taken in
    c.with.ensures ∙ listen_found (app_of c.in_ok-command.command) _ c.in-Some.matches _ _ _ _ _ _ _ c.in_ok-command.ensures found.0 found.1 c.get_str.ensures c.get_str-2.ensures c.get_str-3.ensures c.get_str-4.ensures c.get_str-5.ensures
    c.get_str-6.ensures c.get_str-7.ensures
