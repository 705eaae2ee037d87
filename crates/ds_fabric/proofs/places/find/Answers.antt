use Rattle.std.proofs.Common.{arith}
use Rattle.ds_fabric.proofs.Standing.{found_alone, found_placed, stands_there}
use Rattle.ds_fabric.proofs.places.find.Goals as goal

pub returns-then-places-eq0 : goal.returns-then-places-eq0
returns-then-places-eq0 c = let q = c.requires.indexed in let t = c.requires.there in
    found_alone q.0 q.1 c.args.nodes.now c.args.places.now t.0 c.args.node q.2 c.if-places-eq0.true t.1

pub bounds-places-node : goal.bounds-places-node
bounds-places-node c = let q = c.requires.indexed in let t = c.requires.there in
    let f = found_placed q.0 q.1 c.args.nodes.now c.args.places.now t.0 c.args.node q.2 c.if-places-eq0.false t.1 in
    omega (arith, f.1)

pub offset_bounds-places-node : goal.offset_bounds-places-node
offset_bounds-places-node c = let q = c.requires.indexed in let t = c.requires.there in
    let f = found_placed q.0 q.1 c.args.nodes.now c.args.places.now t.0 c.args.node q.2 c.if-places-eq0.false t.1 in
    let long = q.2.long (omega (arith, f.1)) in omega (arith, f.1, long, q.2.small.0)

pub overflow_sub-result : goal.overflow_sub-result
overflow_sub-result c = let q = c.requires.indexed in let t = c.requires.there in
    let f = found_placed q.0 q.1 c.args.nodes.now c.args.places.now t.0 c.args.node q.2 c.if-places-eq0.false t.1 in
    omega (arith, f.0)

pub returns-else-places-eq0 : goal.returns-else-places-eq0
returns-else-places-eq0 c = let q = c.requires.indexed in let t = c.requires.there in
    let f = found_placed q.0 q.1 c.args.nodes.now c.args.places.now t.0 c.args.node q.2 c.if-places-eq0.false t.1 in
    stands_there c.args.nodes.now c.args.places.now t.0 c.args.node f.0 t.1
