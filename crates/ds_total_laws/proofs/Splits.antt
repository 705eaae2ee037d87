-- A design is split into latches, or a limit is passed; then the graph that is wanted has a text, or one is passed.
use Rattle.std.proofs.Common.{ℕ, Bool, List, [], length, Option, None, Some, inl, inr, refl, sym, subst}
use Rattle.std.proofs.lemmas.Bool.{cases_lt}
use Rattle.ds_base.specs.Limit.{most_of}
use Rattle.ds_outside.specs.Held.{Held, bytes}
use Rattle.ds_outside.specs.declared.files.Which.TheVariants as which
use Rattle.ds_design.specs.Groups.{AreDisjoint}
use Rattle.ds_groups.specs.Laws.{HaveWords}
use Rattle.ds_groups.specs.Names.{register_names}
use Rattle.ds_groups.specs.Read.{groups_of}
use Rattle.ds_groups.proofs.Disjoint.{disjoint_of}
use Rattle.ds_split.proofs.Keyed.{none_disjoint}
use Rattle.ds_base.specs.declared.number.Limit.TheVariants.{Arcs, Clusters}
use Rattle.ds_base.specs.declared.number.Mode.{Mode}
use Rattle.ds_marked.specs.Graph.{Graph}
use Rattle.ds_design.specs.Accepted.{IsAccepted}
use Rattle.ds_design.specs.Circuit.{Circuit}
use Rattle.ds_latch.specs.Node.{Split, slackened}
use Rattle.ds_latch.specs.Plan.{IsSplit}
use Rattle.ds_split.specs.Split.{HasTooManyOrders, split_into}
use Rattle.ds_graph_laws.proofs.ControllersExist.{controller_exists}
use Rattle.ds_graph_laws.proofs.DataEdgesListed.{edges_listed}
use Rattle.ds_graph_laws.proofs.SplitsDecided.{orders_decided}
use Rattle.ds_graph_laws.proofs.GroupedClusterings.{grouped_clusterings_exist}
use Rattle.ds_graph_laws.proofs.Slack.{few_at_slack, split_at_slack}
use Rattle.ds_total_laws.proofs.WantedGraphs.{controllers_are_decided}
use Rattle.ds_stage.specs.FaultText.{file_line, too_many_text}
use Rattle.ds_stage.specs.GraphStage.{IsGraphOf, controller_stage}
use Rattle.ds_stage.specs.Stages.{OfBytes, lines_stage, read_or_line, text_stage}
use Rattle.ds_stage.specs.GroupsStage.{group_text, grouped_stage, groups_stage}
use Rattle.ds_stage.specs.ClustersStage.{clustered_stage, clusters_stage}
use Rattle.ds_stage.specs.SplitStage.{IsInClusters, parted_stage, split_stage}
use Rattle.ds_stage.proofs.FileMeaning.{read_meant}
use Rattle.ds_stage.proofs.PlanAccepted.{in_clusters_split}
use Rattle.ds_total_laws.specs.Decided.{IsDecided}
use Rattle.ds_total_laws.specs.FileBytes.{HasBytesIn}
use Rattle.ds_total_laws.proofs.StagesDecided.{lines_decided, result_decided, then_decided}
use Rattle.ds_total_laws.proofs.LineSome.{lines_have_some}

-- a split design that asks for few orders
pub record IsReady (s : Split) : Type 0 where
  pub split : IsSplit s
  pub few : ¬ HasTooManyOrders s

-- it is so at each slack
pub ready_with : (s : Split) (slack : ℕ) → IsReady s → IsReady (slackened s slack)
ready_with s slack ready = record { split = split_at_slack s slack ready.split; few = few_at_slack s slack ready.few }

-- a ready split design has the graph of its required orders
pub graph_there : (s : Split) → IsReady s → (g : Graph) × IsGraphOf s g
graph_there s ready =
    let (g, kept, events, orders, simple) = controller_exists s ready.split.accepted ready.few in
    (g, record { kept = kept; events = events; orders = orders; simple = simple })

-- the graph that is wanted of it has a text, or a limit is passed
pub controller_decided : (file : List ℕ) (shake : Bool) (s : Split) → IsReady s → IsDecided (controller_stage file shake s)
controller_decided file shake s ready =
    let (edges, are, once) = edges_listed s ready.split.accepted in
    controllers_are_decided file shake s edges are once ready.few

-- groups of a file with bytes are disjoint
groups_disjoint : (held : List ℕ → Held) (groups : Option (List ℕ)) → HasBytesIn held groups → (c : Circuit) (gs : List (List ℕ)) → (groups_stage held groups c).means gs
    → AreDisjoint (length c.registers) gs
groups_disjoint held None has_bytes c gs are = none_disjoint (length c.registers) gs are
groups_disjoint held (Some file) (text, is) c gs (lines, read, found) =
    let told : OfBytes (bytes text) (λ t. (text_stage file t).means lines) = subst (λ (h : Held). OfBytes h (λ t. (text_stage file t).means lines)) is read in
    disjoint_of c lines gs (subst HaveWords (sym told.1) (lines_have_some text))
    (read_meant file group_text (groups_of (register_names c) lines) gs found)

-- they are read, or a line refuses them
groups_decided : (held : List ℕ → Held) (groups : Option (List ℕ)) → HasBytesIn held groups → (c : Circuit) → IsDecided (groups_stage held groups c)
groups_decided held None has_bytes c = inl ([], refl)
groups_decided held (Some file) has_bytes c =
    then_decided (lines_stage held which.Groups file) (grouped_stage file c) (lines_decided held which.Groups file has_bytes)
    (λ lines is. result_decided (read_or_line file group_text (groups_of (register_names c) lines)))

module _ (file : List ℕ) (mode : Mode) (c : Circuit) (accepts : IsAccepted c) (gs : List (List ℕ)) (disjoint : AreDisjoint (length c.registers) gs) where
  -- a circuit is split, or it has too many clusters or asks for too many orders
  parted_decided : IsDecided (parted_stage file mode c gs)
  parted_decided =
      let (clusters, are) = grouped_clusterings_exist c mode gs disjoint in
      elim (cases_lt (most_of Clusters) (length clusters)) [
        | inl many ↦ inr (file_line file (too_many_text Clusters), inl ((clusters, are, many), refl))
        | inr few ↦
            (let s : Split = split_into c clusters in
            let is : IsInClusters mode gs c s = record { clusters = clusters; are = are; few = few; is = refl } in
            elim (orders_decided s accepts) [
              | inl many ↦ inr (file_line file (too_many_text Arcs), inr (s, is, many, refl))
              | inr fits ↦ inl (s, (is, fits))
            ])
      ]

  -- it has clusters, or too many
  listed_decided : IsDecided (clusters_stage file mode c gs)
  listed_decided =
      let (clusters, are) = grouped_clusterings_exist c mode gs disjoint in
      elim (cases_lt (most_of Clusters) (length clusters)) [
        | inl many ↦ inr (file_line file (too_many_text Clusters), ((clusters, are, many), refl))
        | inr few ↦ inl (clusters, (are, few))
      ]

module _ (held : List ℕ → Held) (file : List ℕ) (groups : Option (List ℕ)) (mode : Mode) (has_bytes : HasBytesIn held groups) (c : Circuit) (accepts : IsAccepted c) where
  -- a split design that is given is ready
  pub split_ready : (s : Split) → (split_stage held file groups mode c).means s → IsReady s
  split_ready s (gs, are, (is, few)) = record { split = in_clusters_split mode gs c s accepts is; few = few }

  pub split_decided : IsDecided (split_stage held file groups mode c)
  split_decided =
      then_decided (groups_stage held groups c) (parted_stage file mode c) (groups_decided held groups has_bytes c)
      (λ gs are. parted_decided file mode c accepts gs (groups_disjoint held groups has_bytes c gs are))

  pub clustered_decided : IsDecided (clustered_stage held file groups mode c)
  clustered_decided =
      then_decided (groups_stage held groups c) (clusters_stage file mode c) (groups_decided held groups has_bytes c)
      (λ gs are. listed_decided file mode c accepts gs (groups_disjoint held groups has_bytes c gs are))
