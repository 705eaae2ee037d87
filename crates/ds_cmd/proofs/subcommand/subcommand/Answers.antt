use Rattle.std.proofs.Common.{◌∙◌, ap, map}
use Rattle.clap.specs.Words.{App, rule_of}
use Rattle.ds_cmd.proofs.Chained.{args_in_turn, with_rules}
use Rattle.ds_cmd.proofs.subcommand.subcommand.Goals as goal

pub returns : goal.returns
returns c = args_in_turn _ _ _ c.in_ok-command.ensures c.requires
    ∙ ap (λ (a : App). with_rules a.top (map rule_of c.args.args.items)) c.new.ensures.app
