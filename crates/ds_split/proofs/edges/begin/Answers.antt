use Rattle.std.proofs.Common.{◌≡◌, ◌<◌, ℕ, List, length, refl, sym, ◌∙◌, ap, subst}
use Rattle.std.specs.Prelude.{All}
use Rattle.ds_design.specs.Circuit.{Circuit}
use Rattle.ds_latch.specs.Node.{nets_of, nodes}
use Rattle.ds_latch.specs.declared.node.Node.TheVariants.{Out}
use Rattle.ds_split.specs.Edges.{IsFoundBelow}
use Rattle.ds_split.specs.Search.{Found, HasMet, IsCause}
use Rattle.ds_split.specs.Split.{split_into}
use Rattle.ds_split.proofs.NodeNets.{node_at}
use Rattle.ds_split.proofs.Sources.{nets_within}
use Rattle.ds_split.proofs.DataEdges.{begun_with, found_none, consumed_out}
use Rattle.ds_split.proofs.edges.begin.Goals as goal

pub consume-requires-clause-nets : goal.consume-requires-clause-nets
consume-requires-clause-nets c =
    let these : c.as_slice.result.now ≡ nets_of (split_into c.args.netlist.now c.args.clusters.now) Out =
    c.as_slice.ensures ∙ node_at (split_into c.args.netlist.now c.args.clusters.now) c.args.nets.now c.requires.nodes.listed Out tt 1 refl c.index-nets-1.result c.index-nets-1.is in
    subst (λ (d : Circuit). All (λ net. net < length d.nets) c.as_slice.result.now) (sym c.requires.finder)
    (subst (λ (xs : List ℕ). All (λ net. net < length c.args.netlist.now.nets) xs) (sym these)
    (nets_within (split_into c.args.netlist.now c.args.clusters.now) c.requires.nodes.accepted c.requires.nodes.each_once c.requires.nodes.in_range Out tt))

pub consume-requires-clause-producers : goal.consume-requires-clause-producers
consume-requires-clause-producers c =
    ap (λ (f : Found). length f.producers) c.in_ok-search.ensures
    ∙ (c.in_ok-producers.ensures.one_each ∙ ap (λ (d : Circuit). length d.nets) (sym c.requires.finder))

pub consume-requires-clause-before : goal.consume-requires-clause-before
consume-requires-clause-before c = let (count, _) = c.requires.nodes.listed in
    let begun : c.in_ok-search.search ≡ begun_with c.in_ok-producers.producers.items (nodes (split_into c.args.netlist.now c.args.clusters.now)) =
    c.in_ok-search.ensures ∙ ap (begun_with c.in_ok-producers.producers.items) count in
    let found : IsFoundBelow (split_into c.args.netlist.now c.args.clusters.now) 1 c.in_ok-search.search =
    subst (λ (f : Found). IsFoundBelow (split_into c.args.netlist.now c.args.clusters.now) 1 f) (sym begun) (found_none (split_into c.args.netlist.now c.args.clusters.now) c.in_ok-producers.producers.items c.in_ok-producers.ensures) in
    found.before

pub returns-clause-ok : goal.returns-clause-ok
returns-clause-ok c = let (count, _) = c.requires.nodes.listed in
    let these : c.as_slice.result.now ≡ nets_of (split_into c.args.netlist.now c.args.clusters.now) Out =
    c.as_slice.ensures ∙ node_at (split_into c.args.netlist.now c.args.clusters.now) c.args.nets.now c.requires.nodes.listed Out tt 1 refl c.index-nets-1.result c.index-nets-1.is in
    let begun : c.in_ok-search.search ≡ begun_with c.in_ok-producers.producers.items (nodes (split_into c.args.netlist.now c.args.clusters.now)) =
    c.in_ok-search.ensures ∙ ap (begun_with c.in_ok-producers.producers.items) count in
    let found : IsFoundBelow (split_into c.args.netlist.now c.args.clusters.now) 1 c.in_ok-search.search =
    subst (λ (f : Found). IsFoundBelow (split_into c.args.netlist.now c.args.clusters.now) 1 f) (sym begun) (found_none (split_into c.args.netlist.now c.args.clusters.now) c.in_ok-producers.producers.items c.in_ok-producers.ensures) in
    consumed_out (split_into c.args.netlist.now c.args.clusters.now) c.args.nets.now c.requires.nodes c.in_ok-search.search c.consume.new.self found
    (subst (λ (xs : List ℕ). HasMet 1 c.in_ok-search.search (IsCause c.args.netlist.now xs) c.consume.new.self) these
    (subst (λ (d : Circuit). HasMet 1 c.in_ok-search.search (IsCause d c.as_slice.result.now) c.consume.new.self) c.requires.finder
    c.in_ok-consume.ensures.ok))
