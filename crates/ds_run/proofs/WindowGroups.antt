-- The groups of the cones of a plan that begins with other registers.
use Rattle.std.proofs.Common.{◌≡◌, ℕ, List, ap, length, map, refl, subst}
use Rattle.std.specs.Prelude.{slice_index_or}
use Rattle.std.specs.List.{range_with_len}
use Rattle.ds_base.specs.Values.{Row}
use Rattle.ds_latch.specs.Node.{IsNode, Split, begun, nets_of, nodes}
use Rattle.ds_latch.specs.declared.node.Node.{Node}
use Rattle.ds_latch.specs.declared.node.Node.TheVariants.{In, Out, Master, Slave}
use Rattle.ds_settle.specs.Cone.{IsCone, Parts as Cone}
use Rattle.ds_split.specs.Cones.{AreCones, cone_place}
use Rattle.ds_split.specs.Settled.{IsSettling}
use Rattle.ds_opening.specs.Foreseen.{node_at}
use Rattle.ds_opening.specs.Groups.{Grouping}
use Rattle.ds_opening.specs.Noted.{AreConeGroups, all_learnt_nets, learnt_nets}
use Rattle.ds_opening.specs.Reads.{AreReads}
use Rattle.ds_run.proofs.RowPieces.{map_same}

-- what others learn of a node is the same
learnt_begun : (s : Split) (row : Row) (n : Node) → learnt_nets s n ≡ learnt_nets (begun s row) n
learnt_begun s row In = refl
learnt_begun s row Out = refl
learnt_begun s row (Master i) = refl
learnt_begun s row (Slave i) = refl

-- so are the cones of the nodes that settle
cones_begun : (s : Split) (row : Row) (cones : List Cone) → AreCones s cones → (n : Node)
    → IsNode (begun s row) n → IsSettling n → (d : Cone)
    → IsCone s.circuit (nets_of (begun s row) n) (slice_index_or cones (cone_place n) d)
cones_begun s row cones are In there settles d = are.each In there settles d
cones_begun s row cones are Out there settles d = are.each Out there settles d
cones_begun s row cones are (Master i) there settles d = are.each (Master i) there settles d
cones_begun s row cones are (Slave i) there settles d = are.each (Slave i) there settles d

-- groups of the cones of a split design are those of the same, begun with other registers
pub groups_begun : (s : Split) (row : Row) (g : Grouping) → AreConeGroups s g
    → AreConeGroups (begun s row) g
groups_begun s row g are = record {
  cones = are.cones;
  are_cones = record {
    one_each = are.are_cones.one_each;
    each = cones_begun s row are.cones are.are_cones;
  };
  are = are.are;
  reads = subst (λ (nets : List (List ℕ)). AreReads s.circuit nets g)
      (map_same (λ (number : ℕ). learnt_nets s (node_at number))
      (λ number. learnt_nets (begun s row) (node_at number))
      (λ number. learnt_begun s row (node_at number)) (range_with_len 0 (nodes s))) are.reads;
}
