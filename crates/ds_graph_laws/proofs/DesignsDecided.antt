-- A design is accepted or has a fault, and an accepted one has a depth.
use Rattle.std.proofs.Common.{◌≡◌, ◌≢◌, ◌⊎◌, ℕ, List, length, inl, inr, refl, subst, Some, None}
use Rattle.std.specs.Prelude.{Option}
use Rattle.ds_base.specs.Greatest.{greatest}
use Rattle.ds_design.specs.Accepted.{IsAccepted}
use Rattle.ds_design.specs.Circuit.{Circuit}
use Rattle.ds_design.specs.InRange.{IsInRange}
use Rattle.ds_design.specs.Reach.{Feeds}
use Rattle.ds_rank.specs.Order.{HasEdge, IsCycle}
use Rattle.ds_rank.proofs.RelatedOrders.{cycle_by, ranks_by}
use Rattle.ds_netlist.specs.Edges.{AreNetRanks, edges_of, floor_in}
use Rattle.ds_netlist.specs.Fault.{IsNetFault, fault_of}
use Rattle.ds_netlist.specs.declared.fault.NetFault.{NetFault}
use Rattle.ds_netlist.specs.declared.fault.NetFault.TheVariants.{CombinationalCycle, Memory}
use Rattle.ds_netlist.proofs.Checked.{IsPlain}
use Rattle.ds_netlist.proofs.TableEdges.{fed_ends, fed_from, fed_into}
use Rattle.ds_netlist.proofs.Leveled.{accepts, are_levels}
use Rattle.ds_netlist.proofs.FaultyCircuits.{accepted_none, faults_are_refused_lem, is_fault, shown_found}
use Rattle.ds_graph_laws.specs.DecidedDesigns.{DesignsAreDecided, DesignsHaveDepth}
use Rattle.ds_graph_laws.proofs.RanksOrCycle.{ranks_or_cycle}

-- the nets of a design have ranks, or the tables lead in a circle
pub nets_have_ranks_or_cycle : (c : Circuit) → IsInRange c
    → ((ranks : List ℕ) × AreNetRanks c ranks) ⊎ ((nets : List ℕ) × IsCycle (Feeds c) nets)
nets_have_ranks_or_cycle c in_range =
    elim (ranks_or_cycle (edges_of c.tables) (length c.nets) (floor_in c.tables) (fed_ends c.tables (length c.nets) in_range.tables)) [
      | inl (ranks, are) ↦ inl (
        ranks,
        ranks_by (HasEdge (edges_of c.tables)) (Feeds c) (fed_from c.tables) (fed_into c.tables) (length c.nets) (length c.nets) (floor_in c.tables) (floor_in c.tables) ranks refl (λ v low. refl) are,
      )
      | inr (nets, cycle) ↦ inr (nets, cycle_by (HasEdge (edges_of c.tables)) (Feeds c) (fed_from c.tables) nets cycle)
    ]

-- want of memory is not plain, and no cycle
plain_some : (fault : NetFault) → IsPlain fault → fault ≢ Memory
plain_some fault plain same = let wrong : IsPlain Memory = subst IsPlain same plain in wrong

cycle_some : (nets : List ℕ) → CombinationalCycle nets ≢ Memory
cycle_some nets same = cc

module _ (c : Circuit) (in_range : IsInRange c) where
  -- by the first fault but for cycles
  by_fault : (first : Option NetFault) → fault_of c ≡ first
      → IsAccepted c ⊎ ((fault : NetFault) × (fault ≢ Memory) × IsNetFault c fault)
  by_fault (Some fault) shown =
      let found = shown_found c in_range fault shown in
      inr (fault, plain_some fault found.0, is_fault c fault found.0 shown)
  by_fault None none = elim (nets_have_ranks_or_cycle c in_range) [
    | inl (ranks, are) ↦ inl (accepts c in_range none ranks are)
    | inr (nets, cycle) ↦ inr (CombinationalCycle nets, cycle_some nets, (none, cycle))
  ]

-- a design is accepted, or has a fault other than want of memory
pub designs_are_decided : DesignsAreDecided
designs_are_decided c in_range = by_fault c in_range (fault_of c) refl

-- the nets of an accepted design have ranks
pub nets_have_ranks : (c : Circuit) → IsInRange c → IsAccepted c → (ranks : List ℕ) × AreNetRanks c ranks
nets_have_ranks c in_range accepted = elim (nets_have_ranks_or_cycle c in_range) [
  | inl ranked ↦ ranked
  | inr (nets, cycle) ↦ absurd (faults_are_refused_lem c (CombinationalCycle nets) (cycle_some nets) (accepted_none c accepted, cycle) accepted)
]

-- the ranks of its nets are their levels, and the greatest of them is its depth
pub designs_have_depth : DesignsHaveDepth
designs_have_depth c in_range accepted =
    let (ranks, are) = nets_have_ranks c in_range accepted in
    (greatest ranks, record { levels = ranks; are = are_levels c in_range accepted.one_driver ranks are; is = refl })
