-- Firing stores what the record of a run tells.
use Rattle.std.proofs.Common.{◌≡◌, ◌∙◌, ℕ, ◌+◌, ◌<◌, ◌≤◌, zero, suc, List, [], ◌∷◌, length, map, get_or, refl, ap, sym, subst, arith, replicate}
use Rattle.std.specs.List.{range_with_len}
use Rattle.std.proofs.lemmas.List.FromFn.{get_or-range_with_len, length-range_with_len}
use Rattle.ds_base.proofs.ListLemmas.{map_agree}
use Rattle.ds_base.specs.Values.{Row}
use Rattle.ds_marked.specs.Graph.{IsLegal, counts_after}
use Rattle.ds_marked.proofs.Progress.{legal_is_consistent}
use Rattle.ds_latch.specs.Firing.{State, FiresAll, first_row, first_state, held}
use Rattle.ds_latch.specs.Flow.{IsInStep}
use Rattle.ds_latch.specs.Node.{Split, IsNode, closing, number_of, place_of}
use Rattle.ds_latch.specs.declared.node.Node.{Node}
use Rattle.ds_latch.specs.declared.node.Node.TheVariants.{In, Out, Master, Slave}
use Rattle.ds_latch.specs.Numbered.{numbered}
use Rattle.ds_latch.specs.Plan.{IsController, Planned}
use Rattle.ds_latch.proofs.OrderTokens.{accepted_controls}
use Rattle.ds_latch.proofs.Flow.{fires_count, flow_equivalence, some_firing}
use Rattle.ds_rule.specs.Run.{Run, closing as closing_in, events as events_in}
use Rattle.ds_rule.specs.Rule.{first_view, tickets}
use Rattle.ds_rule.specs.Words.{node_values}
use Rattle.ds_rule.proofs.EventLaws.{closing-is}
use Rattle.ds_run.specs.RunOfPlan.{AreValues}
use Rattle.ds_run.specs.Stored.{FabricsShowFirst, RecordsStoreAsFired, ShowsFirst, StoresAsFired}
use Rattle.ds_run.proofs.RecordFirings.{fired_counts}
use Rattle.ds_run.proofs.Records.{record_among, record_near, record_played}

-- firings count as their list does
counts_fired : (s : Split) (vectors : List Row) (old now : State) (events : List ℕ) → FiresAll s vectors old events now
    → now.count ≡ counts_after old.count events
counts_fired s vectors old now [] same = ap (λ (t : State). t.count) same
counts_fired s vectors old now (v ∷ events) (next, fires, rest) =
    counts_fired s vectors next now events rest
    ∙ ap (λ (count : ℕ → ℕ). counts_after count events) (fires_count s vectors old v next fires)

-- the values of a node that a run has are those of the clocked run
told_is : (p : Planned) (vectors : List Row) (run : Run) (values : AreValues p.split vectors run) (n : Node) → IsNode p.split n
    → (turns : ℕ) → turns ≤ length vectors
    → map (node_values run (number_of n)) (range_with_len 1 turns)
    ≡ map (numbered p.split vectors values.state values.nets n) (range_with_len 1 turns)
told_is p vectors run values n is_node turns few =
    map_agree (node_values run (number_of n)) (numbered p.split vectors values.state values.nets n) (range_with_len 1 turns) (λ i d inside.
    let long : length (range_with_len 1 turns) ≡ turns = length-range_with_len 1 turns in
    let at : get_or (range_with_len 1 turns) i d ≡ 1 + i = get_or-range_with_len 1 turns i d (omega arith) in
    values.of_node n is_node (get_or (range_with_len 1 turns) i d) (omega arith))

-- a node has closed no more often than there are vectors
closed_most : (p : Planned) (vectors : List Row) (items : List ℕ) → IsLegal p.graph (length vectors) items
    → (v : ℕ) → v < length p.graph.events → counts_after (λ _. 0) items v ≤ length vectors
closed_most p vectors items legal = (legal_is_consistent p.graph (length vectors) items legal).within

pub records_store_as_fired_lem : RecordsStoreAsFired
records_store_as_fired_lem p vectors r is events fired =
    let s : Split = p.split in
    let run : Run = r.shown.view.run in
    let values : AreValues s vectors run = is.planned.values_are in
    let controls : IsController s p.graph = accepted_controls s p.graph is.accepted in
    let (legal, counts) = fired_counts p vectors r is.accepted is.planned events fired in
    let (now, all) = some_firing s p.graph controls vectors values.state values.nets values.clocked events legal in
    let step : IsInStep s vectors values.state values.nets now =
    flow_equivalence s p.graph controls vectors values.state values.nets values.clocked events legal now all in (
      now,
      record {
        fires = all;
        stores = λ n is_node.
            let near : number_of n < run.design_nodes = record_near p vectors r is n is_node in
            let among : run.design_nodes ≤ run.nodes = record_among p vectors r is in
            let event : closing n < length p.graph.events = omega (arith, is.planned.nodes_are) in
            let told : counts_after (λ _. 0) events (closing n) ≡ length (tickets r.shown.view (closing n)) = counts (closing n) event in
            let few : counts_after (λ _. 0) events (closing n) ≤ length vectors = closed_most p vectors events legal (closing n) event in
            let count : now.count (closing n) ≡ length (tickets r.shown.view (closing_in (number_of n))) =
            ap (λ (count : ℕ → ℕ). count (closing n)) (counts_fired s vectors (first_state s) now events all)
            ∙ (told ∙ ap (λ (e : ℕ). length (tickets r.shown.view e)) (sym (closing-is (number_of n)))) in
            step.stored n is_node
            ∙ (ap (λ (k : ℕ). map (numbered s vectors values.state values.nets n) (range_with_len 1 k)) count
            ∙ sym (told_is p vectors run values n is_node (length (tickets r.shown.view (closing_in (number_of n))))
            (omega (arith, few, told, ap (λ (e : ℕ). length (tickets r.shown.view e)) (closing-is (number_of n))))));
      },
    )

pub stores_as_fired_lem : StoresAsFired
stores_as_fired_lem p vectors r finished_run events fired =
    records_store_as_fired_lem p vectors r (record_played p vectors r finished_run) events fired

-- no event of the first view has a ticket
none_drawn : (count e : ℕ) → get_or (replicate {A = List ℕ} count []) e [] ≡ []
none_drawn zero e = refl
none_drawn (suc count) zero = refl
none_drawn (suc count) (suc e) = none_drawn count e

-- at first a node holds its first row
first_held : (s : Split) (n : Node) → held s (first_state s) n ≡ first_row s n
first_held s n =
    let at : place_of s 0 ≡ 0 = grind arith in
    rw at refl

-- value 0 of a node is its first row
first_value : (p : Planned) (vectors : List Row) (run : Run) (values : AreValues p.split vectors run) (n : Node) → IsNode p.split n
    → numbered p.split vectors values.state values.nets n 0 ≡ first_row p.split n
first_value p vectors run values In is_node = refl
first_value p vectors run values Out is_node = refl
first_value p vectors run values (Master i) is_node = refl
first_value p vectors run values (Slave i) is_node = rw values.clocked.starts refl

shows_first : (p : Planned) (vectors : List Row) (run : Run) → AreValues p.split vectors run → ShowsFirst p.split (first_view run)
shows_first p vectors run values = record {
  none = λ e. none_drawn (events_in run) e;
  rows = λ n is_node. values.of_node n is_node 0 (omega arith) ∙ (first_value p vectors run values n is_node ∙ sym (first_held p.split n));
}

pub fabrics_show_first_lem : FabricsShowFirst
fabrics_show_first_lem p vectors run is f pass begun =
    subst (ShowsFirst p.split) (sym begun.view) (shows_first p vectors run is.values_are)
