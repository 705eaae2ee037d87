use Rattle.ds_app.proofs.PeriodLines.{one_line_more}
use Rattle.ds_app.proofs.period_text.put_potentials.Goals as goal

pub loop-v-preserved : goal.loop-v-preserved
loop-v-preserved c = one_line_more c.args.graph.now c.args.potentials.now c.loop-v.v c.new.result
    c.args.text.now.items c.loop-v.text.items c.put_potential.new.text.items c.loop-v.invariant
    c.new.ensures c.in_ok-put_potential.ensures
