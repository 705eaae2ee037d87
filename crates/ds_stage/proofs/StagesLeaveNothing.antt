-- Stages that leave nothing where they stop.
use Rattle.std.proofs.Common.{◌≡◌, ℕ, Bool, true, false, List, [], Option, None, Some, Result, inl, inr, ap, refl, length}
use Rattle.std.proofs.lemmas.List.{append-nil}
use Rattle.ds_outside.specs.Written.{appended}
use Rattle.ds_outside.specs.Held.{Held}
use Rattle.ds_outside.specs.declared.files.Which.{Which}
use Rattle.ds_outside.specs.declared.files.Which.TheVariants.{Net, Vectors, Log, Delays}
use Rattle.ds_outside.specs.declared.files.Which.TheVariants as which
use Rattle.ds_marked.specs.Graph.{Graph}
use Rattle.ds_base.specs.Values.{Row}
use Rattle.ds_base.specs.declared.number.Mode.{Mode}
use Rattle.ds_lines.specs.Line.{Line}
use Rattle.ds_design.specs.declared.blif.BlifModel.{BlifModel}
use Rattle.ds_blif.specs.Text.{models_of_text}
use Rattle.ds_flat.specs.Copies.{flat_of}
use Rattle.ds_design.specs.Circuit.{Circuit, columns}
use Rattle.ds_latch.specs.Node.{Split, nodes, slackened}
use Rattle.ds_latch.specs.Plan.{Planned}
use Rattle.ds_astg.specs.Read.{graph_of_lines}
use Rattle.ds_stage.specs.GraphText.{astg_text}
use Rattle.ds_stage.specs.FaultText.{blif_text, flat_text}
use Rattle.ds_stage.specs.declared.stop.Stop.{Stop}
use Rattle.ds_stage.specs.declared.stop.Stop.TheVariants.{Refused, Unread, Unwritten, Memory}
use Rattle.ds_stage.specs.Stage.{OfFile, Stage, giving, leaves_nothing, then_stage}
use Rattle.ds_stage.specs.Stages.{accepted_stage, design_stage, file_stage, lines_stage, netlist_stage, read_or_line, result_stage, rows_stage, vectors_stage}
use Rattle.ds_groups.specs.Names.{register_names}
use Rattle.ds_groups.specs.Read.{groups_of}
use Rattle.ds_stage.specs.GroupsStage.{group_text, grouped_stage, groups_stage}
use Rattle.ds_stage.specs.ClustersStage.{clustered_stage, clusters_stage}
use Rattle.ds_stage.specs.SplitStage.{parted_stage, split_stage}
use Rattle.ds_stage.specs.GraphStage.{IsGraphOf, controller_stage, drawn_stage, wanted_stage}
use Rattle.ds_astg.specs.Text.{graph_text}
use Rattle.ds_stage.specs.PlanStage.{IsOwnPlan, acceptable_stage, marked_stage, plan_stage, planned_stage}
use Rattle.ds_replay.specs.ReplayText.{IsReplayText}
use Rattle.ds_stage.specs.ReplayStage.{fired_stage, log_stage, replayed_stage}
use Rattle.ds_stage.specs.PeriodStage.{IsPeriodText, delays_stage, given_stage, timed_stage}
use Rattle.ds_stage.specs.Ends.{Stops}

-- with nothing behind it an output is as it was
pub nothing_appended : (old : Option (List ℕ)) → appended old [] ≡ old
nothing_appended None = refl
nothing_appended (Some bytes) = ap Some (append-nil bytes)

-- a stage leaves nothing where it stops, and nothing else
pub record LeavesNothing {A : Type 0} (stage : Stage A) : Type 1 where
  pub may : (failed : OfFile) (stop : Stop) → Stops stage failed stop → stage.leaves failed stop []
  pub only : (failed : OfFile) (stop : Stop) (text : List ℕ) → stage.leaves failed stop text → leaves_nothing stop text

-- where a stage stops, no text is what is left
pub no_text : {A : Type 0} (stage : Stage A) (failed : OfFile) (stop : Stop) → Stops stage failed stop → leaves_nothing stop []
no_text stage failed (Refused line) is = refl
no_text stage failed (Unread line) is = refl
no_text stage failed Unwritten is = is
no_text stage failed Memory is = refl

pub giving_nothing : {A : Type 0} (means : A → Type 0) → LeavesNothing (giving means)
giving_nothing means = record { may = no_text (giving means); only = λ failed stop text is. is }

pub result_nothing : {A : Type 0} (r : Result A (List ℕ)) → LeavesNothing (result_stage r)
result_nothing r = record { may = no_text (result_stage r); only = λ failed stop text is. is }

-- two such stages together
pub then_nothing : {A B : Type 0} (first : Stage A) (next : A → Stage B) → LeavesNothing first → ((a : A) → LeavesNothing (next a)) → LeavesNothing (then_stage first next)
then_nothing {A} {B} first next one all = record {
  may = both;
  only = λ failed stop text either. elim either [
    | inl (may, left) ↦ one.only failed stop text left
    | inr (a, means, left) ↦ (all a).only failed stop text left
  ];
} where
  both : (failed : OfFile) (stop : Stop) → Stops (then_stage first next) failed stop → (then_stage first next).leaves failed stop []
  both failed (Refused line) (inl is) = inl (is, one.may failed (Refused line) is)
  both failed (Refused line) (inr (a, means, is)) = inr (a, means, (all a).may failed (Refused line) is)
  both failed (Unread line) (inl is) = inl (is, one.may failed (Unread line) is)
  both failed (Unread line) (inr (a, means, is)) = inr (a, means, (all a).may failed (Unread line) is)
  both failed Unwritten is = absurd is
  both failed Memory is = inl (tt, one.may failed Memory tt)

pub lines_nothing : (held : List ℕ → Held) (which : Which) (name : List ℕ) → LeavesNothing (lines_stage held which name)
lines_nothing held which name = record { may = no_text (lines_stage held which name); only = λ failed stop text is. is }

design_nothing : (file : List ℕ) (lines : List Line) → LeavesNothing (design_stage file lines)
design_nothing file lines =
    then_nothing (result_stage (read_or_line file blif_text (models_of_text lines))) (λ (models : List BlifModel). result_stage (read_or_line file flat_text (flat_of models)))
    (result_nothing (read_or_line file blif_text (models_of_text lines))) (λ models. result_nothing (read_or_line file flat_text (flat_of models)))

accepted_nothing : (file : List ℕ) (c : Circuit) → LeavesNothing (accepted_stage file c)
accepted_nothing file c = record { may = no_text (accepted_stage file c); only = λ failed stop text is. is }

pub netlist_nothing : (held : List ℕ → Held) (net : List ℕ) → LeavesNothing (netlist_stage held net)
netlist_nothing held net =
    then_nothing (file_stage held net) (accepted_stage net)
    (then_nothing (lines_stage held Net net) (design_stage net) (lines_nothing held Net net) (design_nothing net))
    (accepted_nothing net)

pub vectors_nothing : (held : List ℕ → Held) (vec : List ℕ) (c : Circuit) → LeavesNothing (vectors_stage held vec c)
vectors_nothing held vec c =
    then_nothing (lines_stage held Vectors vec) (rows_stage vec (length (columns c))) (lines_nothing held Vectors vec)
    (λ lines. record { may = no_text (rows_stage vec (length (columns c)) lines); only = λ failed stop text is. is })

pub groups_nothing : (held : List ℕ → Held) (groups : Option (List ℕ)) (c : Circuit) → LeavesNothing (groups_stage held groups c)
groups_nothing held None c = giving_nothing (λ gs. gs ≡ [])
groups_nothing held (Some file) c =
    then_nothing (lines_stage held which.Groups file) (grouped_stage file c) (lines_nothing held which.Groups file)
    (λ lines. result_nothing (read_or_line file group_text (groups_of (register_names c) lines)))

pub clustered_nothing : (held : List ℕ → Held) (file : List ℕ) (groups : Option (List ℕ)) (mode : Mode) (c : Circuit) → LeavesNothing (clustered_stage held file groups mode c)
clustered_nothing held file groups mode c =
    then_nothing (groups_stage held groups c) (clusters_stage file mode c) (groups_nothing held groups c)
    (λ gs. record { may = no_text (clusters_stage file mode c gs); only = λ failed stop text is. is })

pub split_nothing : (held : List ℕ → Held) (file : List ℕ) (groups : Option (List ℕ)) (mode : Mode) (c : Circuit) → LeavesNothing (split_stage held file groups mode c)
split_nothing held file groups mode c =
    then_nothing (groups_stage held groups c) (parted_stage file mode c) (groups_nothing held groups c)
    (λ gs. record { may = no_text (parted_stage file mode c gs); only = λ failed stop text is. is })

marked_nothing : (file : List ℕ) (s : Split) (lines : List Line) → LeavesNothing (marked_stage file s lines)
marked_nothing file s lines =
    then_nothing (result_stage (read_or_line file astg_text (graph_of_lines lines))) (acceptable_stage file s)
    (result_nothing (read_or_line file astg_text (graph_of_lines lines)))
    (λ g. record { may = no_text (acceptable_stage file s g); only = λ failed stop text is. is })

plan_nothing : (held : List ℕ → Held) (graph : Option (List ℕ)) (s : Split) → LeavesNothing (plan_stage held graph s)
plan_nothing held None s = giving_nothing (IsOwnPlan s)
plan_nothing held (Some file) s =
    then_nothing (lines_stage held which.Graph file) (marked_stage file s) (lines_nothing held which.Graph file) (marked_nothing file s)

pub planned_nothing : (held : List ℕ → Held) (net : List ℕ) (graph groups : Option (List ℕ)) (mode : Mode) (slack : ℕ) (c : Circuit) → LeavesNothing (planned_stage held net graph groups mode slack c)
planned_nothing held net graph groups mode slack c =
    then_nothing (split_stage held net groups mode c) (λ (s : Split). plan_stage held graph (slackened s slack))
    (split_nothing held net groups mode c) (λ s. plan_nothing held graph (slackened s slack))

pub log_nothing : (held : List ℕ → Held) (log : List ℕ) (planned : Planned) (vectors : List Row) → LeavesNothing (log_stage held log planned vectors)
log_nothing held log planned vectors =
    then_nothing (lines_stage held Log log) (fired_stage log planned vectors) (lines_nothing held Log log)
    (λ lines. record { may = no_text (fired_stage log planned vectors lines); only = λ failed stop text is. is })

pub replayed_nothing : (held : List ℕ → Held) (log : List ℕ) (transparent : Bool) (planned : Planned) (vectors : List Row) → LeavesNothing (replayed_stage held log transparent planned vectors)
replayed_nothing held log transparent planned vectors =
    then_nothing (log_stage held log planned vectors) (λ (events : List ℕ). giving (IsReplayText transparent planned vectors events))
    (log_nothing held log planned vectors) (λ events. giving_nothing (IsReplayText transparent planned vectors events))

pub timed_nothing : (held : List ℕ → Held) (file : List ℕ) (g : Graph) → LeavesNothing (timed_stage held file g)
timed_nothing held file g =
    then_nothing (delays_stage held file g) (λ (delays : List ℕ). giving (IsPeriodText g delays))
    (then_nothing (lines_stage held Delays file) (given_stage file g) (lines_nothing held Delays file)
    (λ lines. record { may = no_text (given_stage file g lines); only = λ failed stop text is. is }))
    (λ delays. giving_nothing (IsPeriodText g delays))

wanted_nothing : (file : List ℕ) (shake : Bool) (s : Split) → LeavesNothing (wanted_stage file shake s)
wanted_nothing file false s = giving_nothing (IsGraphOf s)
wanted_nothing file true s = record { may = no_text (wanted_stage file true s); only = λ failed stop text is. is }

pub controller_nothing : (file : List ℕ) (shake : Bool) (s : Split) → LeavesNothing (controller_stage file shake s)
controller_nothing file shake s =
    then_nothing (wanted_stage file shake s) (drawn_stage s) (wanted_nothing file shake s)
    (λ g. giving_nothing (λ text. text ≡ graph_text s.circuit.name (nodes s) g))
