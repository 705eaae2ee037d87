-- The firings of a record, and of a run that went to its end.
use Rattle.std.proofs.Common.{◌≡◌, ◌∙◌, ℕ, ◌<◌, List, ap, arith, length, subst, sym}
use Rattle.ds_base.specs.Values.{Row}
use Rattle.ds_marked.specs.Graph.{IsLegal, counts_after}
use Rattle.ds_latch.specs.Plan.{IsPlan, Planned}
use Rattle.ds_rule.specs.Laws.{IsGraphOfRun}
use Rattle.ds_rule.specs.Log.{firings}
use Rattle.ds_rule.specs.Rule.{tickets}
use Rattle.ds_rule.specs.Run.{Run, node_of}
use Rattle.ds_rule.proofs.EventLaws.{node_below}
use Rattle.ds_rule.proofs.LegalLogs.{logs_are_legal}
use Rattle.ds_rule.proofs.LogCounts.{length-tickets_in_log}
use Rattle.ds_fabric.specs.Showing.{IsFiredInOrder, Recorder}
use Rattle.ds_run.proofs.Records.{same_long}
use Rattle.ds_run.proofs.RunsAreSound.{run_graph}
use Rattle.ds_run.specs.Firings.{FiringsAreLegal, RecordsAreLegal}
use Rattle.ds_run.specs.RunOfPlan.{IsRunOf}

-- the firings of a record are a legal list, and each event fires as often as it has tickets
pub fired_counts : (p : Planned) (vectors : List Row) (r : Recorder) → IsPlan p.split p.graph
    → IsRunOf p vectors r.shown.view.run → (items : List ℕ)
    → IsFiredInOrder r.shown.view.run (tickets r.shown.view) items
    → IsLegal p.graph (length vectors) items
    × ((v : ℕ) → v < length p.graph.events
    → counts_after (λ _. 0) items v ≡ length (tickets r.shown.view v))
fired_counts p vectors r plan is items fired =
    let run : Run = r.shown.view.run in
    let recorded = fired.recorded in let log : List ℕ = recorded.log in
    let graph : IsGraphOfRun p.graph run = run_graph p vectors run is plan in
    let law = logs_are_legal p.graph run graph log recorded.legal recorded.in_turn in
    let legal : IsLegal p.graph (length vectors) (firings log)
    = subst (λ (n : ℕ). IsLegal p.graph n (firings log)) is.limit_is law.0 in (
      subst (λ (xs : List ℕ). IsLegal p.graph (length vectors) xs) (sym fired.is) legal,
      λ v inside.
          let event : v < length p.graph.events = inside in
          let near : node_of run v < run.nodes
          = node_below run v graph.among (omega (event, graph.events_are, arith)) in
          ap (λ (xs : List ℕ). counts_after (λ _. 0) xs v) fired.is
          ∙ (law.1 v ∙ (sym (length-tickets_in_log v log)
          ∙ ap (λ (xs : List ℕ). length xs) (sym (recorded.all v near)))),
    )

pub records_are_legal_lem : RecordsAreLegal
records_are_legal_lem p vectors r is items fired =
    let run : Run = r.shown.view.run in let one = fired.recorded in (
      (fired_counts p vectors r is.accepted is.planned items fired).0,
      one.long
          ∙ (same_long run one.log is.recorded.log one.in_turn is.recorded.in_turn
          (λ e near. sym (one.all e near) ∙ is.recorded.all e near)
          ∙ sym is.recorded.long),
    )

pub firings_are_legal_lem : FiringsAreLegal
firings_are_legal_lem p vectors r plan is whole items fired =
    let run : Run = r.shown.view.run in
    let graph : IsGraphOfRun p.graph run = run_graph p vectors run is plan in
    let (legal, counts) = fired_counts p vectors r plan is items fired in (
      legal,
      λ v inside.
          let event : v < length p.graph.events = inside in
          let near : node_of run v < run.nodes
          = node_below run v graph.among (omega (event, graph.events_are, arith)) in
          counts v inside ∙ (whole.all v near ∙ is.limit_is),
    )
