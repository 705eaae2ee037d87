-- The nodes, their nets and the data edges do not depend on the initial row and the slack.
use Rattle.std.proofs.Common.{◌≡◌, ℕ, ◌≤◌, List, length, refl, ◌∙◌}
use Rattle.ds_base.specs.Values.{Row}
use Rattle.ds_latch.specs.Node.{Split, IsNode, nets_of, begun, slackened}
use Rattle.ds_latch.specs.declared.node.Node.{Node}
use Rattle.ds_latch.specs.declared.node.Node.TheVariants.{In, Out, Master, Slave}
use Rattle.ds_latch.specs.Order.{IsDataEdge, to_master, to_out, to_slave}
use Rattle.ds_latch.specs.Latches.{AreParts}
use Rattle.ds_latch.specs.declared.latches.Edge.{Edge}

-- the same split design with another initial row and another slack
abbrev pub remade : Split → Row → ℕ → Split
remade s row slack = record { circuit = s.circuit; clusters = s.clusters; initial = row; slack = slack }

module _ (s : Split) (row : Row) (slack : ℕ) where
  pub edge_back : (p c : Node) → IsDataEdge (remade s row slack) p c → IsDataEdge s p c
  edge_back In _ (to_master source is_p inside supplies) = to_master source is_p inside supplies
  edge_back Out _ (to_master source is_p inside supplies) = absurd source
  edge_back (Master d) _ (to_master source is_p inside supplies) = absurd source
  edge_back (Slave d) _ (to_master source is_p inside supplies) = to_master source is_p inside supplies
  edge_back In _ (to_out source is_p supplies) = to_out source is_p supplies
  edge_back Out _ (to_out source is_p supplies) = absurd source
  edge_back (Master d) _ (to_out source is_p supplies) = absurd source
  edge_back (Slave d) _ (to_out source is_p supplies) = to_out source is_p supplies
  edge_back _ _ (to_slave inside) = to_slave inside

  pub edge_on : (p c : Node) → IsDataEdge s p c → IsDataEdge (remade s row slack) p c
  edge_on In _ (to_master source is_p inside supplies) = to_master source is_p inside supplies
  edge_on Out _ (to_master source is_p inside supplies) = absurd source
  edge_on (Master d) _ (to_master source is_p inside supplies) = absurd source
  edge_on (Slave d) _ (to_master source is_p inside supplies) = to_master source is_p inside supplies
  edge_on In _ (to_out source is_p supplies) = to_out source is_p supplies
  edge_on Out _ (to_out source is_p supplies) = absurd source
  edge_on (Master d) _ (to_out source is_p supplies) = absurd source
  edge_on (Slave d) _ (to_out source is_p supplies) = to_out source is_p supplies
  edge_on _ _ (to_slave inside) = to_slave inside

  pub node_back : (n : Node) → IsNode (remade s row slack) n → IsNode s n
  node_back In is = is
  node_back Out is = is
  node_back (Master i) is = is
  node_back (Slave i) is = is

  nets_same : (n : Node) → nets_of s n ≡ nets_of (remade s row slack) n
  nets_same In = refl
  nets_same Out = refl
  nets_same (Master i) = refl
  nets_same (Slave i) = refl

  pub parts_remade : (bits : List (List ℕ)) (edges : List Edge) → slack ≤ 15 → length row ≡ length s.circuit.registers → AreParts s bits edges → AreParts (remade s row slack) bits edges
  parts_remade bits edges low long parts = record {
    split = record { accepted = parts.split.accepted; covered = parts.split.covered; within = parts.split.within; once = parts.split.once; one_value_each = long };
    one_each = parts.one_each;
    nets = λ n is_node. parts.nets n (node_back n is_node) ∙ nets_same n;
    has_edges = λ p c. (λ edge. (parts.has_edges p c).0 (edge_back p c edge), λ e. edge_on p c ((parts.has_edges p c).1 e));
    once = parts.once;
    few = parts.few;
    low = low;
  }

pub parts_begin : (s : Split) (row : Row) (bits : List (List ℕ)) (edges : List Edge) → length row ≡ length s.circuit.registers → AreParts s bits edges → AreParts (begun s row) bits edges
parts_begin s row bits edges long parts = parts_remade s row s.slack bits edges parts.low long parts

pub parts_slacken : (s : Split) (slack : ℕ) (bits : List (List ℕ)) (edges : List Edge) → slack ≤ 15 → AreParts s bits edges → AreParts (slackened s slack) bits edges
parts_slacken s slack bits edges low parts = parts_remade s s.initial slack bits edges low parts.split.one_value_each parts
