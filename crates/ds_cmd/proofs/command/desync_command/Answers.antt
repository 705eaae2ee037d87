use Rattle.std.proofs.Common.{◌∙◌, ap, ap₂, subst, sym, true}
use Rattle.clap.specs.Words.{Shape}
use Rattle.clap.specs.Simple.{app_of_fields, on_top}
use Rattle.ds_cmd.proofs.Chained.{ArePlain, all_plain, subcommands_in_turn, with_all}
use Rattle.ds_cmd.proofs.command.desync_command.Goals as goal

pub returns : goal.returns
returns c =
    let start = ap app_of_fields c.subcommand_required.ensures
    ∙ ap (on_top (λ (s : Shape). record s { subcommand_required = true })) c.new.ensures.app in
    let shapes = c.in_ok-commands.ensures in
    subcommands_in_turn _ _ _ c.in_ok-top.ensures (subst ArePlain (sym shapes) all_plain)
    ∙ ap₂ with_all start shapes
