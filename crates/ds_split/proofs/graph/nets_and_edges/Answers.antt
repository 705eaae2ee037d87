use Rattle.std.proofs.Common.{List, ℕ, subst, sym}
use Rattle.ds_split.specs.Nets.{HasNets}
use Rattle.ds_split.specs.Split.{split_into}
use Rattle.ds_split.proofs.graph.nets_and_edges.Goals as goal

pub edges_of-requires : goal.edges_of-requires
edges_of-requires c = let (in_range, accepted) = c.requires.design in record {
  in_range = in_range;
  accepted = accepted;
  each_once = c.requires.each_once;
  listed = subst (λ (xs : List (List ℕ)). HasNets (split_into c.args.netlist.now c.args.clusters.now) xs) (sym c.as_slice.ensures) c.in_ok-nets.ensures;
  few = c.requires.few;
}

pub returns-clause-ok : goal.returns-clause-ok
returns-clause-ok c = let (in_range, accepted) = c.requires.design in (
  record {
    in_range = in_range;
    accepted = accepted;
    each_once = c.requires.each_once;
    listed = c.in_ok-nets.ensures;
    few = c.requires.few;
  },
  c.in_ok-edges.ensures.ok,
)
