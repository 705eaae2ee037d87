-- The values that stand for a run are those of the clocked run.
use Rattle.std.proofs.Common.{◌≡◌, ℕ, ◌+◌, ◌*◌, ◌<◌, ◌≤◌, List, [], length, get_or, All, arith, ap, ◌∙◌}
use Rattle.ds_base.specs.Values.{Row}
use Rattle.ds_design.specs.Circuit.{columns}
use Rattle.ds_design.specs.InRange.{IsInRange}
use Rattle.ds_design.specs.Levels.{IsTableOrder}
use Rattle.ds_latch.specs.Node.{Split, number_of, nodes}
use Rattle.ds_latch.specs.declared.node.Node.{Node}
use Rattle.ds_latch.specs.Plan.{IsSplit}
use Rattle.ds_latch.proofs.OrderTokens.{number_below}
use Rattle.ds_rule.specs.Run.{Run}
use Rattle.ds_rule.specs.Words.{node_values}
use Rattle.ds_opening.specs.Foreseen.{foreseen, foreseen_rows, node_at, nets_in, state_before}
use Rattle.ds_opening.proofs.Foreseen.{foresees_run_lem}
use Rattle.ds_opening.proofs.ForeseenRows.{foresees_rows_lem}
use Rattle.ds_run.specs.RunOfPlan.{AreValues}

pub values_are : (s : Split) (order : List ℕ) (vectors : List Row) (run : Run) → IsSplit s
    → IsInRange s.circuit → IsTableOrder s.circuit order
    → All (λ vector. length vector ≡ length (columns s.circuit)) vectors
    → nodes s ≤ run.nodes → run.rows ≡ foreseen_rows s run.nodes order vectors
    → AreValues s vectors run
values_are s order vectors run split range sorted wide among rows_are =
    let laws = foresees_rows_lem s order vectors in
    let at : (l k : ℕ) → l < run.nodes → k ≤ length vectors
    → node_values run l k ≡ foreseen s order vectors (node_at l) k = λ l k below low.
    ap (λ (rows : List Row). get_or rows (k * run.nodes + l) []) rows_are
    ∙ laws.0 run.nodes l k below low in
    record {
      state = state_before s.circuit order s.initial vectors;
      nets = nets_in s.circuit order s.initial vectors;
      clocked = foresees_run_lem s.circuit order range split.accepted sorted s.initial vectors
          split.one_value_each wide;
      of_node = λ n is_node k low. at (number_of n) k (omega (arith, number_below s n is_node)) low
          ∙ ap (λ (m : Node). foreseen s order vectors m k) (laws.1 n);
      of_extra = λ l k past below low. at l k below low ∙ laws.2 l k past;
    }
