-- A stage names a file that it did not read only where a read failed.
use Rattle.std.proofs.Common.{ℕ, Bool, List, Option, None, Some, length, inl, inr}
use Rattle.ds_outside.specs.Held.{Held}
use Rattle.ds_outside.specs.declared.files.Which.{Which}
use Rattle.ds_outside.specs.declared.files.Which.TheVariants.{Net, Vectors, Log}
use Rattle.ds_outside.specs.declared.files.Which.TheVariants as which
use Rattle.ds_lines.specs.Line.{Line}
use Rattle.ds_blif.specs.Text.{models_of_text}
use Rattle.ds_flat.specs.Copies.{flat_of}
use Rattle.ds_design.specs.Circuit.{Circuit, columns}
use Rattle.ds_design.specs.declared.blif.BlifModel.{BlifModel}
use Rattle.ds_stage.specs.GraphText.{astg_text}
use Rattle.ds_stage.specs.FaultText.{blif_text, flat_text}
use Rattle.ds_stage.specs.Stage.{OfFile, Stage, giving, then_stage}
use Rattle.ds_stage.specs.Stages.{accepted_stage, design_stage, file_stage, lines_stage, netlist_stage, read_or_line, result_stage, rows_stage, vectors_stage}
use Rattle.ds_stage.specs.GroupsStage.{grouped_stage, groups_stage}
use Rattle.ds_stage.specs.ClustersStage.{clustered_stage, clusters_stage}
use Rattle.ds_stage.specs.SplitStage.{parted_stage, split_stage}
use Rattle.ds_stage.specs.PlanStage.{acceptable_stage, marked_stage, plan_stage, planned_stage}
use Rattle.ds_replay.specs.ReplayText.{IsReplayText}
use Rattle.ds_stage.specs.ReplayStage.{fired_stage, log_stage, replayed_stage}
use Rattle.ds_base.specs.Values.{Row}
use Rattle.ds_astg.specs.Read.{graph_of_lines}
use Rattle.ds_latch.specs.Plan.{Planned}
use Rattle.ds_base.specs.declared.number.Mode.{Mode}
use Rattle.ds_latch.specs.Node.{Split, slackened}

-- a read of some file failed
pub record IsFailed (failed : OfFile) : Type 0 where
  pub which : Which
  pub name : List ℕ
  pub is : failed which name

-- a stage that names a file says that a read failed
abbrev pub Says : {A : Type 0} → Stage A → OfFile → Type 0
Says stage failed = (line : List ℕ) → stage.unread failed line → IsFailed failed

pub then_says : {A B : Type 0} (first : Stage A) (next : A → Stage B) (failed : OfFile) → Says first failed → ((a : A) → Says (next a) failed) → Says (then_stage first next) failed
then_says first next failed one all line (inl is) = one line is
then_says first next failed one all line (inr (a, means, is)) = all a line is

pub lines_say : (held : List ℕ → Held) (which : Which) (name : List ℕ) (failed : OfFile) → Says (lines_stage held which name) failed
lines_say held which name failed line (rose, spelt) = record { which = which; name = name; is = rose }

design_says : (file : List ℕ) (failed : OfFile) (lines : List Line) → Says (design_stage file lines) failed
design_says file failed lines =
    then_says (result_stage (read_or_line file blif_text (models_of_text lines))) (λ (models : List BlifModel). result_stage (read_or_line file flat_text (flat_of models))) failed
    (λ line none. absurd none) (λ models line none. absurd none)

pub netlist_says : (held : List ℕ → Held) (file : List ℕ) (failed : OfFile) → Says (netlist_stage held file) failed
netlist_says held file failed =
    then_says (file_stage held file) (accepted_stage file) failed
    (then_says (lines_stage held Net file) (design_stage file) failed (lines_say held Net file failed) (design_says file failed))
    (λ c line none. absurd none)

pub vectors_say : (held : List ℕ → Held) (vec : List ℕ) (c : Circuit) (failed : OfFile) → Says (vectors_stage held vec c) failed
vectors_say held vec c failed =
    then_says (lines_stage held Vectors vec) (rows_stage vec (length (columns c))) failed (lines_say held Vectors vec failed) (λ lines line none. absurd none)

-- a file of groups is named only where a read failed
pub groups_say : (held : List ℕ → Held) (groups : Option (List ℕ)) (c : Circuit) (failed : OfFile) → Says (groups_stage held groups c) failed
groups_say held None c failed = λ line none. absurd none
groups_say held (Some file) c failed =
    then_says (lines_stage held which.Groups file) (grouped_stage file c) failed (lines_say held which.Groups file failed) (λ lines line none. absurd none)

pub split_says : (held : List ℕ → Held) (net : List ℕ) (groups : Option (List ℕ)) (mode : Mode) (failed : OfFile) (c : Circuit) → Says (split_stage held net groups mode c) failed
split_says held net groups mode failed c =
    then_says (groups_stage held groups c) (parted_stage net mode c) failed (groups_say held groups c failed) (λ gs line none. absurd none)

pub clustered_says : (held : List ℕ → Held) (net : List ℕ) (groups : Option (List ℕ)) (mode : Mode) (failed : OfFile) (c : Circuit) → Says (clustered_stage held net groups mode c) failed
clustered_says held net groups mode failed c =
    then_says (groups_stage held groups c) (clusters_stage net mode c) failed (groups_say held groups c failed) (λ gs line none. absurd none)

plan_says : (held : List ℕ → Held) (graph : Option (List ℕ)) (failed : OfFile) (s : Split) → Says (plan_stage held graph s) failed
plan_says held None failed s = λ line none. absurd none
plan_says held (Some file) failed s =
    then_says (lines_stage held which.Graph file) (marked_stage file s) failed (lines_say held which.Graph file failed)
    (λ lines. then_says (result_stage (read_or_line file astg_text (graph_of_lines lines))) (acceptable_stage file s) failed (λ line none. absurd none) (λ g line none. absurd none))

pub planned_says : (held : List ℕ → Held) (net : List ℕ) (graph groups : Option (List ℕ)) (mode : Mode) (slack : ℕ) (failed : OfFile) (c : Circuit) → Says (planned_stage held net graph groups mode slack c) failed
planned_says held net graph groups mode slack failed c =
    then_says (split_stage held net groups mode c) (λ (s : Split). plan_stage held graph (slackened s slack)) failed (split_says held net groups mode failed c)
    (λ s. plan_says held graph failed (slackened s slack))

pub replayed_says : (held : List ℕ → Held) (log : List ℕ) (transparent : Bool) (failed : OfFile) (planned : Planned) (vectors : List Row) → Says (replayed_stage held log transparent planned vectors) failed
replayed_says held log transparent failed planned vectors =
    then_says (log_stage held log planned vectors) (λ (events : List ℕ). giving (IsReplayText transparent planned vectors events)) failed
    (then_says (lines_stage held Log log) (fired_stage log planned vectors) failed (lines_say held Log log failed) (λ lines line none. absurd none))
    (λ events line none. absurd none)
