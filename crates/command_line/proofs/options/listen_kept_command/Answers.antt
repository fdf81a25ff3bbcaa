use Rattle.std.proofs.Common.{ap, codes, true, ◌∙◌}
use Rattle.std.proofs.lemmas.Result.{IfOk-weaker}
use Rattle.clap.specs.Words.{with_rule}
use Rattle.command_line.specs.Commands.{option_named}
use Rattle.command_line.specs.ListenKeptWords.{listen_kept_app}
use Rattle.command_line.proofs.options.listen_kept_command.Goals as goal

pub returns : goal.returns
unfolding listen_kept_app
returns c =
    IfOk-weaker c.with_option.result _ _ (λ command e. e ∙ ap (λ app. with_rule app (option_named (codes "journals") true)) c.in_ok-listen_command.ensures) c.with_option.ensures
