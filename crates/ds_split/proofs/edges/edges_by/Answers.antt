use Rattle.std.proofs.Common.{◌≡◌, ◌<◌, ◌≤◌, ◌+◌, ◌*◌, ℕ, List, length, refl, sym, ◌∙◌, ap, subst, arith}
use Rattle.ds_latch.specs.Node.{nodes}
use Rattle.ds_latch.specs.declared.latches.Edge.{Edge}
use Rattle.ds_split.specs.Edges.{IsFoundBelow, AreEdges}
use Rattle.ds_split.specs.Split.{split_into}
use Rattle.ds_split.proofs.DataEdges.{too_many, found_all}
use Rattle.ds_split.proofs.edges.edges_by.Goals as goal

pub returns-then-len-most-clause-fault : goal.returns-then-len-most-clause-fault
returns-then-len-most-clause-fault c = let (count, _) = c.requires.nodes.listed in
    let few : length c.args.clusters.now < 262144 = c.requires.nodes.few in
    let many : 1048576 < 2 * nodes (split_into c.args.netlist.now c.args.clusters.now) + 2 * length c.loop-i.search.edges =
    omega (arith, c.if-len-most.true, c.len.ensures) in
    (refl, too_many (split_into c.args.netlist.now c.args.clusters.now) (2 * c.loop-i.i + 2) c.loop-i.search c.loop-i.invariant.found many)

pub loop-i-preserved : goal.loop-i-preserved
loop-i-preserved c =
    let e : 2 * c.loop-i.i + 4 ≡ 2 * (c.loop-i.i + 1) + 2 = omega arith in record {
      found = subst (λ (k : ℕ). IsFoundBelow (split_into c.args.netlist.now c.args.clusters.now) k c.add.new.search) e c.in_ok-add.ensures.ok;
      same = c.in_ok-add.ensures.same ∙ c.loop-i.invariant.same;
    }

pub returns-then-len-most-2-clause-fault : goal.returns-then-len-most-2-clause-fault
returns-then-len-most-2-clause-fault c = let (count, _) = c.requires.nodes.listed in
    let few : length c.args.clusters.now < 262144 = c.requires.nodes.few in
    let many : 1048576 < 2 * nodes (split_into c.args.netlist.now c.args.clusters.now) + 2 * length c.loop-i.search.edges =
    omega (arith, c.if-len-most-2.true, c.len-2.ensures) in
    (refl, too_many (split_into c.args.netlist.now c.args.clusters.now) (2 * c.loop-i.i + 2) c.loop-i.search c.loop-i.invariant.found many)

pub returns-clause-ok : goal.returns-clause-ok
returns-clause-ok c = let (count, _) = c.requires.nodes.listed in
    let few : length c.args.clusters.now < 262144 = c.requires.nodes.few in
    let all : 2 * c.loop-i.i + 2 ≡ nodes (split_into c.args.netlist.now c.args.clusters.now) = omega (arith, ap length c.members-i-end.ensures) in
    let found : IsFoundBelow (split_into c.args.netlist.now c.args.clusters.now) (nodes (split_into c.args.netlist.now c.args.clusters.now)) c.loop-i.search =
    subst (λ (k : ℕ). IsFoundBelow (split_into c.args.netlist.now c.args.clusters.now) k c.loop-i.search) all c.loop-i.invariant.found in
    let room : 2 * nodes (split_into c.args.netlist.now c.args.clusters.now) + 2 * length c.loop-i.search.edges ≤ 1048576 =
    omega (arith, c.if-len-most-2.false, c.len-2.ensures) in
    subst (λ (edges : List Edge). AreEdges (split_into c.args.netlist.now c.args.clusters.now) edges) (sym (c.of.ensures ∙ c.into_edges.ensures))
    (found_all (split_into c.args.netlist.now c.args.clusters.now) c.loop-i.search found room)
