-- A netlist has one plan, and where it has one it is not refused.
use Rattle.std.proofs.Common.{◌≡◌, ◌≢◌, ℕ, ◌≤◌, List, length, Option, None, Some, inl, inr, refl, arith, ap, sym, ◌∙◌, subst}
use Rattle.ds_outside.specs.Held.{Held, untold}
use Rattle.ds_outside.specs.declared.files.Which.TheVariants as which
use Rattle.ds_design.specs.Circuit.{Circuit}
use Rattle.ds_base.specs.Limit.{most_of}
use Rattle.ds_base.specs.declared.number.Limit.TheVariants.{Clusters}
use Rattle.ds_base.specs.declared.number.Mode.{Mode}
use Rattle.ds_latch.specs.Node.{Split, slackened}
use Rattle.ds_split.specs.Grouped.{HasTooManyGrouped, IsGroupedClustering}
use Rattle.ds_split.specs.Split.{HasTooManyOrders, split_into}
use Rattle.ds_split.specs.Laws.{OneGroupedClustering}
use Rattle.ds_stage.specs.GraphText.{astg_text}
use Rattle.ds_stage.specs.Stage.{IsExclusive}
use Rattle.ds_stage.specs.Stages.{lines_stage, read_or_line, result_stage}
use Rattle.ds_stage.specs.SplitStage.{IsInClusters, IsSplitLine, parted_stage, split_stage}
use Rattle.ds_stage.specs.ClustersStage.{clustered_stage, clusters_stage}
use Rattle.ds_stage.specs.GroupsStage.{groups_stage}
use Rattle.ds_astg.specs.Read.{graph_of_lines}
use Rattle.ds_stage.specs.PlanStage.{acceptable_stage, marked_stage, named_stage, plan_stage, planned_stage}
use Rattle.ds_stage.proofs.GroupStages.{groups_exclusive}
use Rattle.ds_stage.proofs.PlanStages.{acceptable_exclusive, own_exclusive}
use Rattle.ds_stage.proofs.ExclusiveStages.{lines_exclusive, result_exclusive, then_exclusive}

-- a circuit has one split by a mode and groups
one_split : OneGroupedClustering → (mode : Mode) (groups : List (List ℕ)) (c : Circuit) (a b : Split) → IsInClusters mode groups c a → IsInClusters mode groups c b → a ≡ b
one_split law mode groups c a b one other = one.is ∙ (ap (split_into c) (law c mode groups one.clusters other.clusters one.are other.are) ∙ sym other.is)

-- few clusters are not too many
few_clusters : OneGroupedClustering → (mode : Mode) (groups : List (List ℕ)) (c : Circuit) (one : List (List ℕ)) → IsGroupedClustering c mode groups one → length one ≤ most_of Clusters
    → ¬ HasTooManyGrouped c mode groups
few_clusters law mode groups c one is few (clusters, are, many) =
    let same : length one ≡ length clusters = ap length (law c mode groups one clusters is are) in
    omega arith

parted_not_refused : OneGroupedClustering → (file : List ℕ) (mode : Mode) (c : Circuit) (groups : List (List ℕ)) (s : Split) (line : List ℕ)
    → (parted_stage file mode c groups).means s → ¬ IsSplitLine file mode c groups line
parted_not_refused law file mode c groups s line is (inl (many, spelt)) = few_clusters law mode groups c is.0.clusters is.0.are is.0.few many
parted_not_refused law file mode c groups s line is (inr (other, also, many, spelt)) =
    is.1 (subst (λ (t : Split). HasTooManyOrders t) (one_split law mode groups c other s also is.0) many)

parted_exclusive : OneGroupedClustering → (file : List ℕ) (mode : Mode) (c : Circuit) (groups : List (List ℕ)) → IsExclusive (parted_stage file mode c groups)
parted_exclusive law file mode c groups = record {
  one = λ a b is also. one_split law mode groups c a b is.0 also.0;
  not_refused = λ a line is refused. parted_not_refused law file mode c groups a line is refused;
}

-- the clusters of a circuit are one thing too
clusters_exclusive : OneGroupedClustering → (file : List ℕ) (mode : Mode) (c : Circuit) (groups : List (List ℕ)) → IsExclusive (clusters_stage file mode c groups)
clusters_exclusive law file mode c groups = record {
  one = λ a b is also. law c mode groups a b is.0 also.0;
  not_refused = λ a line is refused. few_clusters law mode groups c a is.0 is.1 refused.0;
}

pub clustered_exclusive : OneGroupedClustering → (held : List ℕ → Held) (file : List ℕ) (groups : Option (List ℕ)) (mode : Mode) → ((f : List ℕ) → groups ≡ Some f → held f ≢ untold) → (c : Circuit)
    → IsExclusive (clustered_stage held file groups mode c)
clustered_exclusive law held file groups mode told c =
    then_exclusive (groups_stage held groups c) (clusters_stage file mode c) (groups_exclusive held groups told c) (clusters_exclusive law file mode c)

pub split_exclusive : OneGroupedClustering → (held : List ℕ → Held) (file : List ℕ) (groups : Option (List ℕ)) (mode : Mode) → ((f : List ℕ) → groups ≡ Some f → held f ≢ untold) → (c : Circuit)
    → IsExclusive (split_stage held file groups mode c)
split_exclusive law held file groups mode told c =
    then_exclusive (groups_stage held groups c) (parted_stage file mode c) (groups_exclusive held groups told c) (parted_exclusive law file mode c)

named_exclusive : (held : List ℕ → Held) (file : List ℕ) → held file ≢ untold → (s : Split) → IsExclusive (named_stage held file s)
named_exclusive held file told s =
    then_exclusive (lines_stage held which.Graph file) (marked_stage file s) (lines_exclusive held which.Graph file told)
    (λ lines. then_exclusive (result_stage (read_or_line file astg_text (graph_of_lines lines))) (acceptable_stage file s)
    (result_exclusive (read_or_line file astg_text (graph_of_lines lines))) (λ g. acceptable_exclusive file s g))

plan_exclusive : (held : List ℕ → Held) (graph : Option (List ℕ)) → ((file : List ℕ) → graph ≡ Some file → held file ≢ untold) → (s : Split) → IsExclusive (plan_stage held graph s)
plan_exclusive held None told s = own_exclusive s
plan_exclusive held (Some file) told s = named_exclusive held file (told file refl) s

pub planned_exclusive : OneGroupedClustering → (held : List ℕ → Held) (net : List ℕ) (graph groups : Option (List ℕ)) (mode : Mode) (slack : ℕ)
    → ((file : List ℕ) → graph ≡ Some file → held file ≢ untold) → ((file : List ℕ) → groups ≡ Some file → held file ≢ untold) → (c : Circuit)
    → IsExclusive (planned_stage held net graph groups mode slack c)
planned_exclusive law held net graph groups mode slack told grouped c =
    then_exclusive (split_stage held net groups mode c) (λ (s : Split). plan_stage held graph (slackened s slack)) (split_exclusive law held net groups mode grouped c)
    (λ s. plan_exclusive held graph told (slackened s slack))
