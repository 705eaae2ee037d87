-- The marked graph of a run: its events, and what is enabled and consistent at other counts.
use Rattle.std.proofs.Common.{◌≡◌, ℕ, ◌+◌, ◌<◌, ◌≤◌, length, get_or, All, sym, ◌∙◌, ap, subst, arith, inl, inr, true}
use mathlib.Core.Option.{some}
use lib.ListN.{get_elem?}
use Rattle.atomic_table.specs.Table.{State}
use Rattle.std.proofs.lemmas.Bool.{cases_eq}
use Rattle.std.proofs.lemmas.List.{length-replicate}
use Rattle.ds_marked.specs.Graph.{Graph, Agrees, AreEnds, IsEnabled, IsConsistent, IsLive, counted}
use Rattle.ds_marked.specs.declared.marked.Arc.{Arc}
use Rattle.ds_marked.proofs.CountLemmas.{agrees_kept, counted-same, counted-other}
use Rattle.ds_rule.specs.Run.{Run, graph, nameless, events, node_of, turns, count, IsEnabledInRun}
use Rattle.ds_rule.specs.Sound.{IsSound}
use Rattle.ds_rule.specs.Laws.{IsGraphOfRun}
use Rattle.ds_rule.specs.Rule.{firings_shown, holds, seen, event, Fits, Lawful}
use Rattle.ds_rule.specs.declared.view.View.{View}
use Rattle.ds_rule.proofs.EventLaws.{event_below, node_below, node-next, turns_up}

-- the events of the graph are those of the nodes
pub event_there : (run : Run) (e : ℕ) → run.design_nodes ≤ run.nodes → node_of run e < run.nodes
    → e < length (graph run).events
event_there run e among near =
    omega (arith, event_below run e among near, length-replicate (events run) nameless)

pub node_there : (run : Run) (e : ℕ) → run.design_nodes ≤ run.nodes → e < length (graph run).events
    → node_of run e < run.nodes
node_there run e among inside =
    node_below run e among (omega (arith, inside, length-replicate (events run) nameless))

-- a graph with as many events and the same arcs is as live, and its counts are as consistent
module _ (g h : Graph) (events_are : length g.events ≡ length h.events)
    (arcs_are : g.arcs ≡ h.arcs) where
  pub live_as : IsLive h → IsLive g
  live_as live = record {
    ends = subst (AreEnds (length g.events)) (sym arcs_are)
        (subst (λ (n : ℕ). AreEnds n h.arcs) (sym events_are) live.ends);
    rank = live.rank;
    rises = subst (All (λ a. a.tokens ≡ 0 → live.rank a.source < live.rank a.target))
        (sym arcs_are) live.rises;
  }

  pub consistent_as : (limit : ℕ) (count : ℕ → ℕ) → IsConsistent h limit count
      → IsConsistent g limit count
  consistent_as limit count is = record {
    agrees = subst (All (Agrees count)) (sym arcs_are) is.agrees;
    within = λ e inside. is.within e (omega (arith, events_are));
  }

-- the graph that a run is of has as many events as the graph of the run
pub events_as : (g : Graph) (run : Run) → IsGraphOfRun g run
    → length g.events ≡ length (graph run).events
events_as g run is = is.events_are ∙ sym (length-replicate (events run) nameless)

-- an event stays enabled while its own count is the same and those of its sources do not fall
pub enabled_at : (g : Graph) (limit : ℕ) (old new : ℕ → ℕ) (v : ℕ) → new v ≡ old v
    → All (λ arc. arc.target ≡ v → old arc.source ≤ new arc.source) g.arcs
    → IsEnabled g limit old v → IsEnabled g limit new v
enabled_at g limit old new v same up on = record {
  event = on.event;
  below = omega (arith, same, on.below);
  ready = λ k d near into. omega (arith, same, on.ready k d near into, up k d near into);
}

-- what is enabled depends on the firings of its own node and of its sources
pub enabled_same : (run : Run) (f g : ℕ → ℕ) (e : ℕ) → f (node_of run e) ≡ g (node_of run e)
    → All (λ a. a.target ≡ e → f (node_of run a.source) ≡ g (node_of run a.source)) run.arcs
    → IsEnabledInRun run f e → IsEnabledInRun run g e
enabled_same run f g e own sources on =
    enabled_at (graph run) run.limit (count run f) (count run g) e (ap (turns run e) (sym own))
    (λ k d near into. let a : Arc = get_or run.arcs k d in
    omega (arith, ap (turns run a.source) (sources k d near into))) on

-- the same counts of the events are as consistent
pub consistent_same : (run : Run) → IsSound run → (old new : ℕ → ℕ)
    → ((e : ℕ) → node_of run e < run.nodes → new e ≡ old e)
    → IsConsistent (graph run) run.limit old → IsConsistent (graph run) run.limit new
consistent_same run sound old new same is = record {
  agrees = λ k d near. let a : Arc = get_or run.arcs k d in let ends = sound.named k d near in
      omega (arith, same a.source ends.0, same a.target ends.1, is.agrees k d near);
  within = λ e inside.
      omega (arith, same e (node_there run e sound.among inside), is.within e inside);
}

-- one firing more of what is enabled leaves the counts consistent
pub consistent_kept : (g : Graph) (limit : ℕ) (old : ℕ → ℕ) (v : ℕ) → IsEnabled g limit old v
    → IsConsistent g limit old → IsConsistent g limit (counted v old)
consistent_kept g limit old v on is = record {
  agrees = agrees_kept g limit old v on is.agrees;
  within = λ e inside. elim (cases_eq e v) [
    | inl here ↦ omega (arith, counted-same v e old here, ap old here, on.below)
    | inr far ↦ omega (arith, counted-other v e old far, is.within e inside)
  ];
}

-- what a pass has in flight is enabled at the counts that the words show
pub flight_enabled : (run : Run) (s : State ℕ View) → Lawful run s → (id : ℕ) (v : View)
    → get_elem? s.views id ≡ some v → v.live ≡ true → 0 < v.phase
    → IsEnabledInRun run (firings_shown s.words) (event run v)
flight_enabled run s o id v at live flying =
    let f : Fits run s.words o.log o.owner id v = o.views id v at live in
    let up = f.flies flying in let e : ℕ = event run v in
    let own : node_of run e ≡ v.node = node-next run v.node (seen v v.node) in
    enabled_at (graph run) run.limit (count run (seen v)) (count run (firings_shown s.words)) e
    (ap (turns run e) (f.counted (node_of run e) (ap (holds v) own ∙ up.0)))
    (λ k d near into. let a : Arc = get_or run.arcs k d in let u : ℕ = node_of run a.source in
    turns_up run a.source (seen v u) (firings_shown s.words u) (f.known u (o.sound.named k d near).0)) up.2
