-- What the record of a run has of each node.
use Rattle.std.proofs.Common.{◌≡◌, ◌∙◌, ℕ, ◌+◌, ◌<◌, ◌≤◌, List, length, ap, sym, subst, arith, add-one}
use Rattle.std.proofs.lemmas.List.{length-map}
use Rattle.std.specs.Prelude.{slice_index, slice_index_or}
use Rattle.ds_base.specs.Values.{Row}
use Rattle.ds_cover.specs.Cover.{value_at, values_at}
use Rattle.ds_design.specs.Circuit.{data_nets, register_nets}
use Rattle.ds_latch.specs.Node.{IsNode, number_of, members}
use Rattle.ds_latch.specs.declared.node.Node.{Node}
use Rattle.ds_latch.specs.declared.node.Node.TheVariants.{Out, Slave}
use Rattle.ds_latch.specs.Firing.{AreRegisters}
use Rattle.ds_latch.specs.Numbered.{numbered}
use Rattle.ds_latch.specs.Plan.{Planned}
use Rattle.ds_rule.specs.Run.{Run, node_of, closing}
use Rattle.ds_rule.specs.Rule.{tickets}
use Rattle.ds_rule.specs.Words.{node_values as stored_at}
use Rattle.ds_rule.proofs.EventLaws.{node-closing}
use Rattle.ds_fabric.specs.Showing.{Recorder}
use Rattle.ds_run.specs.RunOfPlan.{AreValues}
use Rattle.ds_run.specs.Finished.{IsFinished, HasSlaves}
use Rattle.ds_run.proofs.Records.{record_among, record_near, record_played}

-- no node that opens and closes is behind the last
pub latches_among : (p : Planned) (vectors : List Row) (r : Recorder) → IsFinished p vectors r
    → r.shown.view.run.design_nodes ≤ r.shown.view.run.nodes
latches_among p vectors r finished_run = record_among p vectors r (record_played p vectors r finished_run)

pub node_near : (p : Planned) (vectors : List Row) (r : Recorder) → IsFinished p vectors r → (n : Node)
    → IsNode p.split n → number_of n < r.shown.view.run.design_nodes
node_near p vectors r finished_run n is_node =
    record_near p vectors r (record_played p vectors r finished_run) n is_node

pub node_stored : (p : Planned) (vectors : List Row) (r : Recorder) → IsFinished p vectors r → (n : Node)
    → IsNode p.split n
    → length (tickets r.shown.view (closing (number_of n))) ≡ length vectors
node_stored p vectors r finished_run n is_node =
    let run : Run = r.shown.view.run in
    let near : number_of n < r.shown.view.run.design_nodes = node_near p vectors r finished_run n is_node in
    let home : node_of run (closing (number_of n)) ≡ number_of n =
    node-closing run (number_of n) near in
    let among : r.shown.view.run.design_nodes ≤ r.shown.view.run.nodes =
    latches_among p vectors r finished_run in
    let inside : node_of run (closing (number_of n)) < run.nodes =
    subst (λ (m : ℕ). m < run.nodes) (sym home) (omega arith) in
    finished_run.whole.all (closing (number_of n)) inside ∙ finished_run.planned.limit_is

-- what a record has of a turn is the node's value in the clocked run
pub row_is : (p : Planned) (vectors : List Row) (r : Recorder) → (finished_run : IsFinished p vectors r)
    → (n : Node) → IsNode p.split n → (k : ℕ) → k < length vectors
    → (values : AreValues p.split vectors r.shown.view.run)
    → stored_at r.shown.view.run (number_of n) (k + 1)
    ≡ numbered p.split vectors values.state values.nets n (k + 1)
row_is p vectors r finished_run n is_node k below values = values.of_node n is_node (k + 1) (omega arith)

-- of OUT the outputs of the turn
pub outputs_are : (p : Planned) (vectors : List Row) (r : Recorder)
    → (finished_run : IsFinished p vectors r) → (k : ℕ) → k < length vectors
    → (values : AreValues p.split vectors r.shown.view.run)
    → stored_at r.shown.view.run (number_of Out) (k + 1)
    ≡ values_at (values.nets k) p.split.circuit.outputs
outputs_are p vectors r finished_run k below values =
    row_is p vectors r finished_run Out tt k below values
    ∙ ap (numbered p.split vectors values.state values.nets Out) (add-one k)

-- the registers after a turn are what the slaves have stored in it
pub registers_are : (p : Planned) (vectors : List Row) (r : Recorder)
    → (finished_run : IsFinished p vectors r) → (k : ℕ) → k < length vectors
    → (values : AreValues p.split vectors r.shown.view.run)
    → AreRegisters p.split (λ n. stored_at r.shown.view.run (number_of n) (k + 1))
    (values.state (k + 1))
registers_are p vectors r finished_run k below values = (
  ap length (values.clocked.steps k below)
      ∙ (length-map (data_nets p.split.circuit) (value_at (values.nets k))
      ∙ length-map p.split.circuit.registers (λ g. g.data_net)),
  λ i inside. sym (row_is p vectors r finished_run (Slave i) inside k below values),
)

-- so each slave has its rows
pub has_slaves : (p : Planned) (vectors : List Row) (r : Recorder) → IsFinished p vectors r
    → (turns : ℕ) → turns ≤ length vectors → HasSlaves p.split turns r
has_slaves p vectors r finished_run turns few = record {
  near = λ i inside. node_near p vectors r finished_run (Slave i) inside;
  stored = λ i inside k below. omega (arith, node_stored p vectors r finished_run (Slave i) inside);
  wide = λ i inside. finished_run.planned.lengths_are.of_node (Slave i) inside
      ∙ length-map (members p.split i) (λ q. slice_index_or (register_nets p.split.circuit) q 0);
  full = λ i inside k below.
      ap length (row_is p vectors r finished_run (Slave i) inside k (omega arith)
      finished_run.planned.values_are)
      ∙ length-map (members p.split i) (value_at (finished_run.planned.values_are.state (k + 1)));
}

-- what is read of OUT is there, and has its length
pub out_near : (p : Planned) (vectors : List Row) (r : Recorder) → IsFinished p vectors r
    → number_of Out < r.shown.view.run.design_nodes
out_near p vectors r finished_run = node_near p vectors r finished_run Out tt

pub out_stored : (p : Planned) (vectors : List Row) (r : Recorder) → IsFinished p vectors r → (k : ℕ)
    → k < length vectors
    → k < length (tickets r.shown.view (closing (number_of Out)))
out_stored p vectors r finished_run k below = omega (arith, node_stored p vectors r finished_run Out tt)

pub out_wide : (p : Planned) (vectors : List Row) (r : Recorder) → IsFinished p vectors r
    → slice_index r.shown.view.run.lengths (number_of Out) ≡ length p.split.circuit.outputs
out_wide p vectors r finished_run = finished_run.planned.lengths_are.of_node Out tt
