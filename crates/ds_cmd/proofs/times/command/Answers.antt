use Rattle.std.proofs.Common.{◌∷◌, ◌∙◌, ap, ap₂, map, refl, subst, sym}
use Rattle.clap.specs.Words.{rule_of}
use Rattle.ds_cmd.specs.Argument.{AreLocal}
use Rattle.ds_cmd.proofs.Chained.{shaped}
use Rattle.ds_cmd.proofs.times.command.Goals as goal

pub subcommand-requires : goal.subcommand-requires
subcommand-requires c = subst AreLocal (sym c.in_ok-args.ensures.items)
    (c.word.ensures.local, (c.word-2.ensures.local, (c.word-3.ensures.local, (c.option.ensures.local, (c.option-2.ensures.local, (c.option-3.ensures.local, (c.option-4.ensures.local, tt)))))))

pub returns : goal.returns
returns c = shaped _ _ _ _ c.subcommand.ensures (ap (map rule_of) c.in_ok-args.ensures.items
    ∙ (ap₂ ◌∷◌ c.word.ensures.rule (ap₂ ◌∷◌ c.word-2.ensures.rule (ap₂ ◌∷◌ c.word-3.ensures.rule
    (ap₂ ◌∷◌ c.option.ensures.rule (ap₂ ◌∷◌ c.option-2.ensures.rule (ap₂ ◌∷◌ c.option-3.ensures.rule
    (ap₂ ◌∷◌ c.option-4.ensures.rule refl))))))))
