use Rattle.std.proofs.Common.{◌≡◌, ◌∙◌, ◌<◌, ◌*◌, ℕ, ap, arith, subst, sym}
use Rattle.ds_design.specs.Trace.{values_text}
use Rattle.ds_latch.specs.Node.{number_of}
use Rattle.ds_latch.specs.declared.node.Node.TheVariants.{Slave}
use Rattle.ds_outside.proofs.Pens.{puts_on, with_put}
use Rattle.ds_rows.specs.Log.{at_place}
use Rattle.ds_rows.specs.declared.homes.Home.{Home}
use Rattle.ds_rule.specs.Run.{Run}
use Rattle.ds_rule.specs.Words.{width}
use Rattle.ds_run.specs.LatchRows.{rows_stored}
use Rattle.ds_run.proofs.Stops.{home_at, line_is}
use Rattle.ds_run.proofs.stopped.put_register.Goals as goal

pub put_stored_values-requires-clause-near : goal.put_stored_values-requires-clause-near
put_stored_values-requires-clause-near g c =
    let home : Home = c.index-home.result.now in
    let (here, same) = home_at c.args.latches.now c.args.left.now.homes.items c.requires.homes
    c.args.r c.requires.inside home c.index-home.ensures in
    let near : number_of (Slave home.cluster) < c.args.left.now.fired.shown.view.run.design_nodes =
    c.requires.words.near home.cluster here.is_cluster in
    omega (arith, near, c.latch-slave.ensures)

pub put_stored_values-requires-clause-inside : goal.put_stored_values-requires-clause-inside
put_stored_values-requires-clause-inside g c =
    let home : Home = c.index-home.result.now in
    let run : Run = c.args.left.now.fired.shown.view.run in
    let (here, same) = home_at c.args.latches.now c.args.left.now.homes.items c.requires.homes
    c.args.r c.requires.inside home c.index-home.ensures in
    let is : c.latch-slave.result ≡ number_of (Slave home.cluster) = omega (arith, c.latch-slave.ensures) in
    let wide = c.requires.words.wide home.cluster here.is_cluster in
    subst (λ (l : ℕ). home.place < 32 * width run l) (sym is)
    (omega (arith, here.inside, wide))

pub returns : goal.returns
returns g c =
    let home : Home = c.index-home.result.now in
    let (here, same) = home_at c.args.latches.now c.args.left.now.homes.items c.requires.homes
    c.args.r c.requires.inside home c.index-home.ensures in
    let is : c.latch-slave.result ≡ number_of (Slave home.cluster) = omega (arith, c.latch-slave.ensures) in
    let told = ap (λ (l : ℕ). values_text (at_place home.place
    (rows_stored c.args.left.now.fired l))) is in
    with_put (line_is c.args.latches.now c.args.left.now.fired c.args.left.now.homes.items c.args.r
    c.design.result.now home (c.design.ensures.design ∙ c.netlist.ensures.netlist) same)
    (puts_on (puts_on (puts_on c.put_register_name.ensures c.put.ensures)
    (with_put told c.put_stored_values.ensures)) c.put-2.ensures)
