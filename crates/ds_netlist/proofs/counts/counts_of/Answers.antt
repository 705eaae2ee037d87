use Rattle.std.proofs.Common.{arith, refl}
use Rattle.ds_netlist.proofs.Multiplicity.{counted_more, item_at, item_low, times_few}
use Rattle.ds_netlist.proofs.counts.counts_of.Goals as goal

pub overflow_add-index_mut : goal.overflow_add-index_mut
overflow_add-index_mut c =
    let net_is = item_at c.args.nets.now c.loop-net.net-index c.net-item.result c.index.result c.loop-net-test.true c.net-item.is c.index.ensures in
    let low = item_low c.args.count c.args.nets.now c.loop-net.net-index c.index.result c.loop-net-test.true net_is c.requires.inside in
    let value_is = item_at c.loop-net.counts.items c.index.result c.index_mut.result.now c.index_mut.result.now (omega (arith, c.loop-net.invariant.size)) c.index_mut.ensures.value refl in
    omega (arith, value_is, c.loop-net.invariant.each c.index.result low, times_few c.index.result c.args.nets.now c.loop-net.net-index)

pub loop-net-preserved : goal.loop-net-preserved
loop-net-preserved c =
    let net_is = item_at c.args.nets.now c.loop-net.net-index c.net-item.result c.index.result c.loop-net-test.true c.net-item.is c.index.ensures in
    let low = item_low c.args.count c.args.nets.now c.loop-net.net-index c.index.result c.loop-net-test.true net_is c.requires.inside in
    let value_is = item_at c.loop-net.counts.items c.index.result c.index_mut.result.now c.index_mut.result.now (omega (arith, c.loop-net.invariant.size)) c.index_mut.ensures.value refl in
    counted_more c.args.count c.args.nets.now c.loop-net.counts.items c.loop-net.net-index c.index.result c.index_mut.result.now
    c.loop-net-test.true net_is low value_is c.loop-net.invariant
