-- A netlist has a plan, or a line names a fault of its graph.
use Rattle.std.proofs.Common.{◌≢◌, ℕ, List, Option, None, Some, inl, inr, refl}
use Rattle.ds_base.specs.declared.number.Mode.{Mode}
use Rattle.ds_outside.specs.Held.{Held}
use Rattle.ds_outside.specs.declared.files.Which.TheVariants as which
use Rattle.ds_lines.specs.Line.{Line}
use Rattle.ds_marked.specs.Graph.{Graph, IsKept}
use Rattle.ds_astg.specs.Read.{graph_of_lines}
use Rattle.ds_design.specs.Accepted.{IsAccepted}
use Rattle.ds_design.specs.Circuit.{Circuit}
use Rattle.ds_latch.specs.Node.{Split, slackened}
use Rattle.ds_accept.specs.declared.fault.AcceptFault.{AcceptFault}
use Rattle.ds_accept.specs.declared.fault.AcceptFault.TheVariants as accept
use Rattle.ds_text_laws.proofs.ReadKept.{read_kept}
use Rattle.ds_graph_laws.proofs.GraphsDecided.{graphs_are_decided}
use Rattle.ds_graph_laws.proofs.PlansExist.{acceptable_graphs_have_plans}
use Rattle.ds_graph_laws.proofs.DataEdgesListed.{edges_listed}
use Rattle.ds_stage.specs.FaultText.{file_line}
use Rattle.ds_stage.specs.GraphText.{IsAcceptText, astg_text}
use Rattle.ds_stage.specs.Stages.{lines_stage, read_or_line, result_stage}
use Rattle.ds_stage.specs.SplitStage.{split_stage}
use Rattle.ds_stage.specs.PlanStage.{acceptable_stage, marked_stage, named_stage, plan_stage, planned_stage}
use Rattle.ds_stage.proofs.FileMeaning.{read_meant}
use Rattle.ds_total_laws.specs.Decided.{IsDecided}
use Rattle.ds_total_laws.specs.FileBytes.{HasBytesIn, HasBytes}
use Rattle.ds_total_laws.proofs.StagesDecided.{lines_decided, result_decided, then_decided}
use Rattle.ds_total_laws.proofs.Splits.{IsReady, graph_there, ready_with, split_decided, split_ready}

-- each fault but want of memory has a text
accept_text_there : (g : Graph) (fault : AcceptFault) → fault ≢ accept.Memory → (text : List ℕ) × IsAcceptText g fault text
accept_text_there g (accept.MissingEvent event) known = (_, refl)
accept_text_there g (accept.MissingOrder from to tokens least numbers) known = (_, refl)
accept_text_there g (accept.TokenFreeCycle events) known = (_, refl)
accept_text_there g accept.Memory known = absurd (known refl)

module _ (held : List ℕ → Held) where
  -- a graph has a plan, or a fault
  acceptable_decided : (file : List ℕ) (s : Split) (g : Graph) → IsReady s → IsKept g → IsDecided (acceptable_stage file s g)
  acceptable_decided file s g ready kept =
      let (edges, are, once) = edges_listed s ready.split.accepted in
      elim (graphs_are_decided s g kept edges are) [
        | inl acceptable ↦
            (let (plan, is, plan_kept) = acceptable_graphs_have_plans s g kept acceptable in
            inl (plan, record { acceptable = acceptable; plan = is; graph_kept = kept; plan_kept = plan_kept }))
        | inr (fault, known, is) ↦
            (let (text, shown) = accept_text_there g fault known in inr (file_line file text, (fault, text, is, shown, refl)))
      ]

  marked_decided : (file : List ℕ) (s : Split) (lines : List Line) → IsReady s → IsDecided (marked_stage file s lines)
  marked_decided file s lines ready =
      then_decided (result_stage (read_or_line file astg_text (graph_of_lines lines))) (acceptable_stage file s)
      (result_decided (read_or_line file astg_text (graph_of_lines lines)))
      (λ g is. acceptable_decided file s g ready (read_kept lines g (read_meant file astg_text (graph_of_lines lines) g is)))

  -- the graph of a file with bytes has a plan, or a fault
  named_decided : (file : List ℕ) (s : Split) → HasBytes (held file) → IsReady s → IsDecided (named_stage held file s)
  named_decided file s has_bytes ready =
      then_decided (lines_stage held which.Graph file) (marked_stage file s) (lines_decided held which.Graph file has_bytes) (λ lines is. marked_decided file s lines ready)

  plan_decided : (graph : Option (List ℕ)) (s : Split) → HasBytesIn held graph → IsReady s → IsDecided (plan_stage held graph s)
  plan_decided None s has_bytes ready =
      let (g, is) = graph_there s ready in
      inl (record { split = s; graph = g }, record { split = refl; graph = is })
  plan_decided (Some file) s has_bytes ready = named_decided file s has_bytes ready

  -- an accepted netlist has a plan, or a line refuses it
  pub planned_decided : (file : List ℕ) (graph groups : Option (List ℕ)) (mode : Mode) (slack : ℕ) → HasBytesIn held graph → HasBytesIn held groups
      → (c : Circuit) → IsAccepted c → IsDecided (planned_stage held file graph groups mode slack c)
  planned_decided file graph groups mode slack has_bytes grouped c accepts =
      then_decided (split_stage held file groups mode c) (λ (s : Split). plan_stage held graph (slackened s slack)) (split_decided held file groups mode grouped c accepts)
      (λ s is. plan_decided graph (slackened s slack) has_bytes (ready_with s slack (split_ready held file groups mode grouped c accepts s is)))
