-- How the split of a netlist ends.
use Rattle.std.proofs.Common.{◌≡◌, ℕ, ◌+◌, ◌*◌, ◌<◌, ◌≤◌, List, length, inl, inr, refl, arith, subst, ap, sym, ◌∙◌}
use Rattle.std.specs.Prelude.{AllPairs, Contains, ◌≢◌}
use Rattle.ds_base.specs.Limit.{most_of}
use Rattle.ds_base.specs.declared.number.Limit.{Limit}
use Rattle.ds_base.specs.declared.number.Limit.TheVariants.{Arcs, Clusters}
use Rattle.ds_base.specs.declared.number.Mode.{Mode}
use Rattle.ds_design.specs.Circuit.{Circuit}
use Rattle.ds_latch.specs.Node.{Split, nodes, number_of}
use Rattle.ds_latch.specs.Latches.{HasEdges}
use Rattle.ds_latch.specs.declared.latches.Edge.{Edge}
use Rattle.ds_split.specs.Grouped.{IsGroupedClustering, IsGroupedFault}
use Rattle.ds_split.specs.Split.{HasTooManyOrders, IsSplitFault, split_into}
use Rattle.ds_split.specs.declared.fault.SplitFault.{SplitFault}
use Rattle.ds_split.specs.declared.fault.SplitFault.TheVariants.{TooMany}
use Rattle.ds_split.specs.declared.fault.SplitFault.TheVariants as split
use Rattle.ds_split.proofs.DataEdges.{same_edge}
use Rattle.ds_split.proofs.Pigeons.{few_different}
use Rattle.ds_stage.specs.FaultText.{file_line, too_many_text}
use Rattle.ds_stage.specs.Ends.{Never, SaysRefused, SaysSplit, Stops}
use Rattle.ds_stage.specs.SplitStage.{IsSplitLine, parted_stage}
use Rattle.ds_stage.specs.ClustersStage.{clusters_stage}
use Rattle.ds_stage.specs.declared.stop.Stop.{Stop}
use Rattle.ds_stage.specs.declared.stop.Stop.TheVariants.{Refused, Unread, Unwritten, Memory}

-- a line that refuses, by what it is
refused_by : (file : List ℕ) (mode : Mode) (c : Circuit) (groups : List (List ℕ)) (limit : Limit) (stop : Stop)
    → IsSplitLine file mode c groups (file_line file (too_many_text limit)) → SaysRefused (file_line file (too_many_text limit)) stop
    → Stops (parted_stage file mode c groups) Never stop
refused_by file mode c groups limit (Refused line) is says = subst (IsSplitLine file mode c groups) (sym says) is
refused_by file mode c groups limit (Unread line) is says = absurd says
refused_by file mode c groups limit Unwritten is says = absurd says
refused_by file mode c groups limit Memory is says = tt

-- want of memory stops every stage
memory_stops : (file : List ℕ) (mode : Mode) (c : Circuit) (groups : List (List ℕ)) (stop : Stop) → stop ≡ Memory → Stops (parted_stage file mode c groups) Never stop
memory_stops file mode c groups stop is = rw is tt

pub split_stops : (file : List ℕ) (mode : Mode) (c : Circuit) (groups : List (List ℕ)) (clusters : List (List ℕ)) → IsGroupedClustering c mode groups clusters → length clusters ≤ most_of Clusters
    → (fault : SplitFault) (stop : Stop) → IsSplitFault (split_into c clusters) fault → SaysSplit file fault stop → Stops (parted_stage file mode c groups) Never stop
split_stops file mode c groups clusters are few (TooMany limit) stop (is, many) says =
    refused_by file mode c groups limit stop
    (inr (split_into c clusters, record { clusters = clusters; are = are; few = few; is = refl }, many, ap (λ (l : Limit). file_line file (too_many_text l)) is)) says
split_stops file mode c groups clusters are few split.Memory stop is says = memory_stops file mode c groups stop says

-- edges that are few enough are not too many
pub few_orders : (s : Split) (edges : List Edge) → HasEdges s edges → AllPairs (λ a b. a ≢ b) edges → 2 * nodes s + 2 * length edges ≤ 1048576 → ¬ HasTooManyOrders s
few_orders s edges has_edges once few many =
    let less : length many.edges ≤ length edges = few_different many.edges edges many.once (λ e is.
    let (p, c, edge, at) = many.data_edges e is in
    let (j, x, inside, same, (producer, consumer)) = (has_edges p c).0 edge in
    subst (λ (y : Edge). Contains edges y) (same_edge x (number_of p) (number_of c) producer consumer ∙ sym at) (j, inside, same)) in
    let over : most_of Arcs < 2 * nodes s + 2 * length many.edges = many.many in
    omega arith

-- where there are too many clusters, the stage of clusters stops
pub cluster_stops : (file : List ℕ) (mode : Mode) (c : Circuit) (groups : List (List ℕ)) (fault : SplitFault) (stop : Stop)
    → IsGroupedFault c mode groups fault → SaysSplit file fault stop → Stops (clusters_stage file mode c groups) Never stop
cluster_stops file mode c groups (TooMany limit) (Refused line) (is, many) says =
    (many, says ∙ ap (λ (l : Limit). file_line file (too_many_text l)) is)
cluster_stops file mode c groups (TooMany limit) (Unread line) is says = absurd says
cluster_stops file mode c groups (TooMany limit) Unwritten is says = absurd says
cluster_stops file mode c groups (TooMany limit) Memory is says = tt
cluster_stops file mode c groups split.Memory stop is says = rw says tt

-- where it stops, so do the latches
pub clusters_stop : (file : List ℕ) (mode : Mode) (c : Circuit) (groups : List (List ℕ)) (stop : Stop)
    → Stops (clusters_stage file mode c groups) Never stop → Stops (parted_stage file mode c groups) Never stop
clusters_stop file mode c groups (Refused line) is = inl is
clusters_stop file mode c groups (Unread line) is = is
clusters_stop file mode c groups Unwritten is = is
clusters_stop file mode c groups Memory is = tt
