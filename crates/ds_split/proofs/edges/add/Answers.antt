use Rattle.std.proofs.Common.{◌≡◌, ◌<◌, ℕ, ◌+◌, ◌*◌, List, length, ap, arith, sym, ◌∙◌, subst}
use Rattle.std.specs.Prelude.{All}
use Rattle.ds_design.specs.Circuit.{Circuit}
use Rattle.ds_latch.specs.Node.{nets_of}
use Rattle.ds_latch.specs.declared.node.Node.TheVariants.{Master}
use Rattle.ds_split.specs.Search.{HasMet, IsCause, with_edge}
use Rattle.ds_split.specs.Split.{split_into}
use Rattle.ds_split.proofs.NodeNets.{node_at}
use Rattle.ds_split.proofs.Sources.{nets_within}
use Rattle.ds_split.proofs.DataEdges.{found_cluster}
use Rattle.ds_split.proofs.edges.add.Goals as goal

pub consume-requires-clause-nets : goal.consume-requires-clause-nets
consume-requires-clause-nets c =
    let these : c.as_slice.result.now ≡ nets_of (split_into c.args.netlist.now c.args.clusters.now) (Master c.args.i) =
    c.as_slice.ensures ∙ node_at (split_into c.args.netlist.now c.args.clusters.now) c.args.nets.now c.requires.nodes.listed (Master c.args.i)
    c.requires.inside c.index.result (sym (c.index.ensures ∙ c.latch-master.ensures)) c.index-nets-index.result c.index-nets-index.is in
    subst (λ (d : Circuit). All (λ net. net < length d.nets) c.as_slice.result.now) (sym c.requires.finder)
    (subst (λ (xs : List ℕ). All (λ net. net < length c.args.netlist.now.nets) xs) (sym these)
    (nets_within (split_into c.args.netlist.now c.args.clusters.now) c.requires.nodes.accepted c.requires.nodes.each_once c.requires.nodes.in_range
    (Master c.args.i) c.requires.inside))

pub returns-clause-ok : goal.returns-clause-ok
returns-clause-ok c =
    let these : c.as_slice.result.now ≡ nets_of (split_into c.args.netlist.now c.args.clusters.now) (Master c.args.i) =
    c.as_slice.ensures ∙ node_at (split_into c.args.netlist.now c.args.clusters.now) c.args.nets.now c.requires.nodes.listed (Master c.args.i)
    c.requires.inside c.index.result (sym (c.index.ensures ∙ c.latch-master.ensures)) c.index-nets-index.result c.index-nets-index.is in
    let at : c.number.result ≡ 2 * c.args.i + 2 = c.number.ensures ∙ c.latch-master.ensures in
    let again : c.number-2.result ≡ 2 * c.args.i + 2 = c.number-2.ensures ∙ c.latch-master.ensures in
    let behind : c.number-3.result ≡ 2 * c.args.i + 2 + 1 = omega (c.number-3.ensures, c.latch.ensures, arith) in
    found_cluster (split_into c.args.netlist.now c.args.clusters.now) c.args.nets.now c.requires.nodes c.args.i c.requires.inside
    c.args.search.now c.consume.new.self c.push.new.self c.requires.search
    (subst (λ (xs : List ℕ). HasMet (2 * c.args.i + 2) c.args.search.now (IsCause c.args.netlist.now xs) c.consume.new.self) these
    (subst (λ (d : Circuit). HasMet (2 * c.args.i + 2) c.args.search.now (IsCause d c.as_slice.result.now) c.consume.new.self) c.requires.finder
    (subst (λ (k : ℕ). HasMet k c.args.search.now (IsCause c.args.finder.now c.as_slice.result.now) c.consume.new.self) at
    c.in_ok-consume.ensures.ok)))
    (c.in_ok-push.ensures
    ∙ (ap (λ (k : ℕ). with_edge c.consume.new.self k c.number-3.result) again
    ∙ ap (λ (k : ℕ). with_edge c.consume.new.self (2 * c.args.i + 2) k) behind))
