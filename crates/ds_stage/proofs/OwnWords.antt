-- Each event of a plan is written as a word of its own.
use Rattle.std.proofs.Common.{◌≡◌, ◌≢◌, ℕ, ◌≤◌, ◌^◌, not, List, length, Option, None, Some, refl, arith, ap, sym, subst}
use Rattle.std.specs.Prelude.{All}
use Rattle.std.specs.List.{list_any}
use Rattle.std.proofs.lemmas.List.Elements.{All-append, All-filter}
use Rattle.ds_base.specs.declared.number.Mode.{Mode}
use Rattle.ds_outside.specs.Held.{Held, untold, absent, bytes}
use Rattle.ds_lines.specs.Line.{Line}
use Rattle.ds_marked.specs.Graph.{Graph}
use Rattle.ds_marked.specs.declared.marked.Event.{Event}
use Rattle.ds_design.specs.Circuit.{Circuit}
use Rattle.ds_latch.specs.Node.{Split, slackened}
use Rattle.ds_latch.specs.Plan.{Planned, split_events}
use Rattle.ds_astg.specs.Read.{graph_of_lines}
use Rattle.ds_accept.specs.Accept.{extra_events, is_same_event}
use Rattle.ds_replay.specs.Printed.{HasOwnWords}
use Rattle.ds_replay.proofs.EventWords.{IsSpelt, all_spelt, nodes_have_own_words, spelt_have_own_words}
use Rattle.ds_stage.proofs.FileMeaning.{read_meant}
use Rattle.ds_stage.specs.GraphText.{astg_text}
use Rattle.ds_stage.specs.Stages.{OfBytes, text_stage}
use Rattle.ds_stage.specs.SplitStage.{IsInClusters}
use Rattle.ds_stage.specs.PlanStage.{IsNamedPlan, IsOwnPlan, planned_stage}
use Rattle.ds_stage.proofs.LineWords.{HaveWords, lines_have_words}
use Rattle.ds_stage.proofs.ReadNames.{graph_spelt}

-- a split design has few clusters
few_clusters : (mode : Mode) (groups : List (List ℕ)) (c : Circuit) (s : Split) (slack : ℕ) → IsInClusters mode groups c s → length (slackened s slack).clusters ≤ 2 ^ 64
few_clusters mode groups c s slack is =
    let few : length is.clusters ≤ 4096 = is.few in
    let same : length s.clusters ≡ length is.clusters = ap (λ (t : Split). length t.clusters) is.is in
    omega arith

-- the plan with the controller graph
own_words : (s : Split) (p : Planned) → length s.clusters ≤ 2 ^ 64 → IsOwnPlan s p → HasOwnWords p.graph
own_words s p few own = nodes_have_own_words s p.graph own.graph.kept few own.graph.events

-- the lines of a file that tells what it holds
file_words : (h : Held) (file : List ℕ) → h ≢ untold → (lines : List Line) → OfBytes h (λ text. (text_stage file text).means lines) → HaveWords lines
file_words untold file told lines means = absurd (told refl)
file_words absent file told lines means = absurd means
file_words (bytes text) file told lines (short, is) = subst HaveWords (sym is) (lines_have_words text)

-- the plan with a graph that is read: the events of the nodes, and others of that graph
named_words : (s : Split) (g : Graph) (p : Planned) → length s.clusters ≤ 2 ^ 64 → All IsSpelt g.events → IsNamedPlan s g p → HasOwnWords p.graph
named_words s g p few spelt named =
    let extra : All IsSpelt (extra_events s g) = All-filter (λ (event : Event). not (list_any (is_same_event event) (split_events s))) IsSpelt g.events spelt in
    spelt_have_own_words p.graph named.plan_kept
    (subst (All IsSpelt) (sym named.plan.events) (All-append IsSpelt (split_events s) (extra_events s g) (all_spelt s few) extra))

pub planned_words : (held : List ℕ → Held) (net : List ℕ) (graph groups : Option (List ℕ)) (mode : Mode) (slack : ℕ)
    → ((file : List ℕ) → graph ≡ Some file → held file ≢ untold)
    → (c : Circuit) (p : Planned) → (planned_stage held net graph groups mode slack c).means p → HasOwnWords p.graph
planned_words held net None groups mode slack told c p (s, (gs, are_groups, (is, few)), own) =
    own_words (slackened s slack) p (few_clusters mode gs c s slack is) own
planned_words held net (Some file) groups mode slack told c p (s, (gs, are_groups, (is, few)), (lines, are, (g, read, named))) =
    let have : HaveWords lines = file_words (held file) file (told file refl) lines are in
    named_words (slackened s slack) g p (few_clusters mode gs c s slack is) (graph_spelt lines g have (read_meant file astg_text (graph_of_lines lines) g read)) named
