use Rattle.std.proofs.Common.{◌≡◌, ◌<◌, ℕ, ◌+◌, ◌*◌, List, length, replicate, refl, sym, ◌∙◌, ap, subst, arith}
use Rattle.std.specs.Prelude.{All, Contains}
use Rattle.ds_design.specs.Circuit.{Circuit}
use Rattle.ds_latch.specs.Node.{nets_of}
use Rattle.ds_latch.specs.declared.node.Node.TheVariants.{In, Slave}
use Rattle.ds_split.specs.Nets.{AreProducersBelow, AreMarked}
use Rattle.ds_split.specs.Split.{split_into}
use Rattle.ds_split.proofs.NodeNets.{node_at}
use Rattle.ds_split.proofs.Sources.{nets_within}
use Rattle.ds_split.proofs.Marks.{producers_none, producers_in, producers_slave, producers_all}
use Rattle.ds_split.proofs.producers.producers_of.Goals as goal

pub mark-requires : goal.mark-requires
mark-requires c =
    let count : length c.nets.result.now ≡ length c.args.netlist.now.nets =
    ap length (c.nets.ensures ∙ ap (λ (d : Circuit). d.nets) c.design.ensures.design) in
    let none : AreProducersBelow (split_into c.args.netlist.now c.args.clusters.now) 0 c.in_ok-producers.producers.items =
    subst (λ (ps : List ℕ). AreProducersBelow (split_into c.args.netlist.now c.args.clusters.now) 0 ps)
    (sym (c.in_ok-producers.ensures ∙ ap (λ n. replicate n 0) count))
    (producers_none (split_into c.args.netlist.now c.args.clusters.now) c.requires.accepted c.requires.each_once) in
    let these : c.as_slice.result.now ≡ nets_of (split_into c.args.netlist.now c.args.clusters.now) In =
    c.as_slice.ensures ∙ node_at (split_into c.args.netlist.now c.args.clusters.now) c.args.nets.now c.requires.listed In tt 0 refl c.index-nets-0.result c.index-nets-0.is in
    subst (λ (xs : List ℕ). All (λ net. net < length c.in_ok-producers.producers.items) xs) (sym these)
    (subst (λ (n : ℕ). All (λ net. net < n) (nets_of (split_into c.args.netlist.now c.args.clusters.now) In)) (sym none.one_each)
    (nets_within (split_into c.args.netlist.now c.args.clusters.now) c.requires.accepted c.requires.each_once c.requires.in_range In tt))

pub loop-i-init : goal.loop-i-init
loop-i-init c =
    let count : length c.nets.result.now ≡ length c.args.netlist.now.nets =
    ap length (c.nets.ensures ∙ ap (λ (d : Circuit). d.nets) c.design.ensures.design) in
    let none : AreProducersBelow (split_into c.args.netlist.now c.args.clusters.now) 0 c.in_ok-producers.producers.items =
    subst (λ (ps : List ℕ). AreProducersBelow (split_into c.args.netlist.now c.args.clusters.now) 0 ps)
    (sym (c.in_ok-producers.ensures ∙ ap (λ n. replicate n 0) count))
    (producers_none (split_into c.args.netlist.now c.args.clusters.now) c.requires.accepted c.requires.each_once) in
    let these : c.as_slice.result.now ≡ nets_of (split_into c.args.netlist.now c.args.clusters.now) In =
    c.as_slice.ensures ∙ node_at (split_into c.args.netlist.now c.args.clusters.now) c.args.nets.now c.requires.listed In tt 0 refl c.index-nets-0.result c.index-nets-0.is in
    producers_in (split_into c.args.netlist.now c.args.clusters.now) c.requires.accepted c.requires.each_once c.in_ok-producers.producers.items c.mark.new.producers.items none
    (subst (λ (xs : List ℕ). AreMarked (Contains xs) 1 c.in_ok-producers.producers.items c.mark.new.producers.items) these c.mark.ensures)

pub mark-requires-in-loop-i : goal.mark-requires-in-loop-i
mark-requires-in-loop-i c =
    let inside : c.loop-i.i < length c.args.clusters.now = omega (arith, ap length c.members-i-end.ensures) in
    let these : c.as_slice-in-loop-i.result.now ≡ nets_of (split_into c.args.netlist.now c.args.clusters.now) (Slave c.loop-i.i) =
    c.as_slice-in-loop-i.ensures ∙ node_at (split_into c.args.netlist.now c.args.clusters.now) c.args.nets.now c.requires.listed (Slave c.loop-i.i) inside
    c.index.result (sym (c.index.ensures ∙ c.latch-slave.ensures)) c.index-nets-index.result c.index-nets-index.is in
    subst (λ (xs : List ℕ). All (λ net. net < length c.loop-i.producers.items) xs) (sym these)
    (subst (λ (n : ℕ). All (λ net. net < n) (nets_of (split_into c.args.netlist.now c.args.clusters.now) (Slave c.loop-i.i))) (sym c.loop-i.invariant.one_each)
    (nets_within (split_into c.args.netlist.now c.args.clusters.now) c.requires.accepted c.requires.each_once c.requires.in_range (Slave c.loop-i.i) inside))

pub loop-i-preserved : goal.loop-i-preserved
loop-i-preserved c =
    let inside : c.loop-i.i < length c.args.clusters.now = omega (arith, ap length c.members-i-end.ensures) in
    let these : c.as_slice-in-loop-i.result.now ≡ nets_of (split_into c.args.netlist.now c.args.clusters.now) (Slave c.loop-i.i) =
    c.as_slice-in-loop-i.ensures ∙ node_at (split_into c.args.netlist.now c.args.clusters.now) c.args.nets.now c.requires.listed (Slave c.loop-i.i) inside
    c.index.result (sym (c.index.ensures ∙ c.latch-slave.ensures)) c.index-nets-index.result c.index-nets-index.is in
    producers_slave (split_into c.args.netlist.now c.args.clusters.now) c.requires.accepted c.requires.each_once c.loop-i.i c.loop-i.producers.items c.mark-in-loop-i.new.producers.items inside c.loop-i.invariant
    (subst (λ (xs : List ℕ). AreMarked (Contains xs) (2 * c.loop-i.i + 3 + 1) c.loop-i.producers.items c.mark-in-loop-i.new.producers.items) these
    (subst (λ (k : ℕ). AreMarked (Contains c.as_slice-in-loop-i.result.now) (k + 1) c.loop-i.producers.items c.mark-in-loop-i.new.producers.items)
    (c.number.ensures ∙ c.latch-slave.ensures) c.mark-in-loop-i.ensures))

pub returns : goal.returns
returns c =
    let all : c.loop-i.i ≡ length c.args.clusters.now = omega (arith, ap length c.members-i-end.ensures) in
    producers_all (split_into c.args.netlist.now c.args.clusters.now) c.requires.accepted c.requires.each_once c.loop-i.producers.items
    (subst (λ (n : ℕ). AreProducersBelow (split_into c.args.netlist.now c.args.clusters.now) (2 * n + 3) c.loop-i.producers.items) all c.loop-i.invariant)
