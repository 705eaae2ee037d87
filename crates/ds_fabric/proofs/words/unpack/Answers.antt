use Rattle.std.proofs.Common.{◌∙◌, sym, arith}
use Rattle.std.proofs.lemmas.List.{ext_get_or}
use Rattle.ds_base.specs.declared.value.Value.TheVariants.{Zero}
use Rattle.ds_fabric.proofs.words.unpack.Goals as goal

pub returns-clause-value : goal.returns-clause-value
returns-clause-value c values same packed = let inv = c.loop-i.invariant in
    ext_get_or Zero c.loop-i.row values (inv.0 ∙ sym same) (λ k below. inv.1 values same packed k
    (omega (arith, c.loop-i-test.false, c.loop-i.auto.i-end, c.requires, inv.0))
    (omega (arith, inv.0, same)))
