use Rattle.std.proofs.Common.{◌≡◌, ◌+◌, ◌*◌, ◌≤◌, ◌∙◌, List, Vec, Global, IsPermutation, ap, subst, length, map, arith}
use Rattle.ds_latch.specs.Node.{Split, nodes}
use Rattle.ds_latch.specs.declared.latches.Edge.{Edge}
use Rattle.ds_control.proofs.ListedArcs.{if_ok}
use Rattle.ds_shake.specs.Handshakes.{AreHandshakes}
use Rattle.ds_shake.specs.Steps.{AreNumberedEnds, ends_of_edge}
use Rattle.ds_shake.specs.declared.handshake.Handshake.{Handshake}
use Rattle.ds_shake.specs.declared.edge_ends.EdgeEnds.{EdgeEnds}
use Rattle.ds_shake.proofs.NumberedHandshakes.{are_handshakes, as_many, sorted_long}
use Rattle.ds_shake.proofs.handshake.handshakes.Goals as goal

pub numbered-requires : goal.numbered-requires
numbered-requires c =
    let edges : List Edge = c.edges-edges.result.now in
    let sorted : List EdgeEnds = c.sort_pairs.new.pairs.items in
    let same : IsPermutation (map ends_of_edge edges) sorted = subst (λ (ps : List EdgeEnds). IsPermutation ps sorted) c.in_ok-pairs.ensures c.in_ok-sort_pairs.ensures.same in
    let long : length c.as_slice.result.now ≡ length edges = ap (λ (ps : List EdgeEnds). length ps) c.as_slice.ensures.value ∙ sorted_long edges sorted same in
    omega (long, c.edges-edges.ensures.few, arith)

pub returns-clause-ok : goal.returns-clause-ok
returns-clause-ok c =
    let edges : List Edge = c.edges-edges.result.now in
    let sorted : List EdgeEnds = c.sort_pairs.new.pairs.items in
    let same : IsPermutation (map ends_of_edge edges) sorted = subst (λ (ps : List EdgeEnds). IsPermutation ps sorted) c.in_ok-pairs.ensures c.in_ok-sort_pairs.ensures.same in
    if_ok c.numbered.result (λ (all : Vec Handshake Global). AreNumberedEnds c.as_slice.result.now all.items) (λ (all : Vec Handshake Global). AreHandshakes c.args.latches.now all.items)
    (λ all numbered. are_handshakes c.args.latches.now edges sorted all.items c.edges-edges.ensures.edges c.edges-edges.ensures.once same c.in_ok-sort_pairs.ensures.ok
    (subst (λ (ps : List EdgeEnds). AreNumberedEnds ps all.items) c.as_slice.ensures.value numbered)) c.numbered.ensures

pub returns-clause-few : goal.returns-clause-few
returns-clause-few c =
    let s : Split = c.args.latches.now in
    let edges : List Edge = c.edges-edges.result.now in
    let sorted : List EdgeEnds = c.sort_pairs.new.pairs.items in
    let same : IsPermutation (map ends_of_edge edges) sorted = subst (λ (ps : List EdgeEnds). IsPermutation ps sorted) c.in_ok-pairs.ensures c.in_ok-sort_pairs.ensures.same in
    if_ok c.numbered.result (λ (all : Vec Handshake Global). AreNumberedEnds c.as_slice.result.now all.items) (λ (all : Vec Handshake Global). 2 * nodes s + 2 * length all.items ≤ 1048576)
    (λ all numbered.
    let long : length all.items ≡ length edges = as_many s edges sorted all.items c.edges-edges.ensures.edges c.edges-edges.ensures.once same c.in_ok-sort_pairs.ensures.ok
    (subst (λ (ps : List EdgeEnds). AreNumberedEnds ps all.items) c.as_slice.ensures.value numbered) in
    omega (long, c.edges-edges.ensures.few, arith)) c.numbered.ensures
