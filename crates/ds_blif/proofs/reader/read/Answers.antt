use Rattle.std.proofs.Common.{subst, sym, List}
use Rattle.ds_design.specs.Source.{IsBlif}
use Rattle.ds_design.specs.declared.blif.BlifModel.{BlifModel}
use Rattle.ds_blif.proofs.WellFormed.{well_formed}
use Rattle.ds_blif.proofs.reader.read.Goals as goal

pub of-requires : goal.of-requires
of-requires c = subst (λ (models : List BlifModel). IsBlif models) (sym c.in_ok-models.ensures)
    (well_formed c.args.lines.now c.in_ok-check.ensures)
