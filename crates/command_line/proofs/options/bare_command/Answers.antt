use Rattle.std.proofs.Common.{◌≡◌, ap, ◌∙◌, true}
use Rattle.clap.specs.Words.{Shape, app_of}
use Rattle.clap.specs.Simple.{on_top, app_of_fields}
use Rattle.command_line.proofs.options.bare_command.Goals as goal

pub returns : goal.returns
returns c =
    let no_program = λ (s : Shape). record s { no_binary_name = true } in
    let no_help = λ (s : Shape). record s { disable_help_flag = true } in
    let no_version = λ (s : Shape). record s { disable_version_flag = true } in
    let first : app_of c.no_binary_name.result ≡ on_top no_program (app_of c.new.result) = ap app_of_fields c.no_binary_name.ensures in
    let second : app_of c.disable_help_flag.result ≡ on_top no_help (app_of c.no_binary_name.result) = ap app_of_fields c.disable_help_flag.ensures in
    let third : app_of c.disable_version_flag.result ≡ on_top no_version (app_of c.disable_help_flag.result) = ap app_of_fields c.disable_version_flag.ensures in
    third ∙ ap (on_top no_version) (second ∙ ap (on_top no_help) (first ∙ ap (on_top no_program) c.new.ensures.app))
