use Rattle.std.proofs.Common.{◌∙◌, sym, ap, arith}
use Rattle.ds_astg.specs.Read.{lacks as lacks_in}
use Rattle.ds_astg.specs.declared.place.Place.{Place}
use Rattle.ds_astg.proofs.GraphOfText.{lacking-next}
use Rattle.ds_astg.proofs.graph.lacking.Goals as goal

pub loop-i-preserved : goal.loop-i-preserved
loop-i-preserved c = c.loop-i.invariant ∙ lacking-next c.args.places.now.keys c.args.places.now.places c.loop-i.i
    (omega (arith, c.len-i-end.ensures.value, c.loop-i-test.true)) (omega (arith, c.len-i-end.ensures.within, c.loop-i-test.true))
    (ap (λ (p : Place). lacks_in p) (sym c.place-place.ensures) ∙ (sym c.lacks.ensures ∙ c.if-lacks.false))
