use Rattle.std.proofs.Common.{ap, sym, ◌∙◌, option_map}
use Rattle.clap.specs.Words.{app_of, is_simple_and_free}
use Rattle.command_line.specs.Commands.{stdio}
use Rattle.command_line.proofs.Values.{stdio_found, stdio_is_free}
use Rattle.command_line.proofs.command.read_stdio.Goals as goal

pub matches_in-requires : goal.matches_in-requires
matches_in-requires c = ap is_simple_and_free c.in_ok-command.ensures ∙ stdio_is_free

pub returns-in-Some-get_str : goal.returns-in-Some-get_str
returns-in-Some-get_str c =
    let found = rw c.in-Some.is at c.in_ok-matches.ensures.taken in
    ap (λ name. option_map stdio (option_map (λ s. s.now) name)) (sym c.in-Some-get_str.is)
    ∙ stdio_found (app_of c.in_ok-command.command) _ c.in-Some.matches _ c.in_ok-command.ensures found.0 found.1 c.get_str.ensures

pub returns : goal.returns
returns c =
    let found = rw c.in-Some.is at c.in_ok-matches.ensures.taken in
    ap (λ name. option_map stdio (option_map (λ s. s.now) name)) (sym c.in-None.is)
    ∙ stdio_found (app_of c.in_ok-command.command) _ c.in-Some.matches _ c.in_ok-command.ensures found.0 found.1 c.get_str.ensures
