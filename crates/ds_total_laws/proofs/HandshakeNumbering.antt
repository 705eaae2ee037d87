-- Data edges that are listed can be numbered by producer and then by consumer.
use Rattle.std.proofs.Common.{◌≡◌, ◌≢◌, List, length, map, refl, AllPairs}
use Rattle.std.specs.List.{range_with_len, zip}
use Rattle.ds_latch.specs.Node.{Split}
use Rattle.ds_latch.specs.Latches.{HasEdges}
use Rattle.ds_latch.specs.declared.latches.Edge.{Edge}
use Rattle.ds_shake.specs.Handshakes.{AreHandshakes}
use Rattle.ds_shake.specs.Steps.{AreNumberedEnds, PairBefore, ends_of_edge}
use Rattle.ds_shake.specs.declared.handshake.Handshake.{Handshake}
use Rattle.ds_shake.specs.declared.edge_ends.EdgeEnds.{EdgeEnds}
use Rattle.ds_shake.proofs.NumberedHandshakes.{all_numbered, are_handshakes, as_many, numbered_pair}
use Rattle.ds_graph_laws.proofs.Sorting.{InOrder}
use Rattle.ds_total_laws.proofs.SortedEnds.{ends_in_order}

-- all ends with their numbers
all_numbers : (pairs : List EdgeEnds) → (all : List Handshake) × AreNumberedEnds pairs all
all_numbers pairs =
    let all : List Handshake = map numbered_pair (zip (range_with_len 0 (length pairs)) pairs) in
    (all, all_numbered pairs all refl)

-- as many handshakes as data edges
pub record Handshaken (s : Split) (edges : List Edge) : Type 0 where
  pub handshakes : List Handshake
  pub are : AreHandshakes s handshakes
  pub as_many : length handshakes ≡ length edges

-- data edges that are listed, each once, have their handshakes
pub handshaken : (s : Split) (edges : List Edge) → HasEdges s edges → AllPairs (λ a b. a ≢ b) edges → Handshaken s edges
handshaken s edges has once =
    let order : InOrder PairBefore (map ends_of_edge edges) = ends_in_order (map ends_of_edge edges) in
    let (all, numbered) = all_numbers order.sorted in record {
      handshakes = all;
      are = are_handshakes s edges order.sorted all has once order.same order.rising numbered;
      as_many = as_many s edges order.sorted all has once order.same order.rising numbered;
    }
