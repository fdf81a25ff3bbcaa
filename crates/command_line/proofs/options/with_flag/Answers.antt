use Rattle.std.proofs.Common.{ap, ◌∙◌}
use Rattle.clap.specs.Words.{app_of, with_rule}
use Rattle.command_line.proofs.options.with_flag.Goals as goal

pub returns : goal.returns
returns c = c.in_ok-arg.ensures.shape c.flag_named.ensures.local ∙ ap (with_rule (app_of c.args.command)) c.flag_named.ensures.rule
