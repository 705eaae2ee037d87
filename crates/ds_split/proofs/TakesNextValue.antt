-- What a node takes from its producers' values is its next value.
use Rattle.std.proofs.Common.{◌≡◌, ℕ, suc, ◌+◌, ◌-◌, ◌<◌, List, length, arith, ap, ◌∙◌}
use Rattle.ds_base.specs.Values.{Row}
use Rattle.ds_cover.specs.Cover.{values_at}
use Rattle.ds_design.specs.Run.{IsRun}
use Rattle.ds_latch.specs.Node.{Split, IsNode, nets_of}
use Rattle.ds_latch.specs.declared.node.Node.{Node}
use Rattle.ds_latch.specs.declared.node.Node.TheVariants.{In, Out, Master, Slave}
use Rattle.ds_latch.specs.Order.{IsDataEdge, open_tokens, to_slave}
use Rattle.ds_latch.specs.Plan.{IsSplit}
use Rattle.ds_latch.specs.Numbered.{numbered}
use Rattle.ds_latch.specs.Firing.{IsSettled, opening_read}
use Rattle.ds_latch.proofs.Flow.{Settles, settled_same, settles_master, settles_out}
use Rattle.ds_latch.proofs.TurnValues.{master_value, run_settles}
use Rattle.ds_split.specs.Taken.{ShowsProducers, TakesFrom, TakesNextValue}

-- the number that a consumer reads is the one that the orders of the edge fix
read_number : (p : Node) (opened : ℕ) → suc opened - open_tokens p ≡ opening_read p opened
read_number In opened = let e : suc opened - 0 ≡ opened + 1 = omega arith in e
read_number Out opened = let e : suc opened - 0 ≡ opened + 1 = omega arith in e
read_number (Master i) opened = let e : suc opened - 0 ≡ opened + 1 = omega arith in e
read_number (Slave i) opened = let e : suc opened - 1 ≡ opened = omega arith in e

module _ (s : Split) (split : IsSplit s) (vectors : List Row) (state nets : ℕ → Row) (run : IsRun s.circuit s.initial vectors state nets) where
  abbrev V : Node → ℕ → Row
  V n k = numbered s vectors state nets n k

  module _ (n : Node) (k : ℕ) (below : k < length vectors) (shown : Node → Row) (reads : ShowsProducers s V k shown n) where
    same : (p : Node) → IsNode s p → IsDataEdge s p n → shown p ≡ V p (opening_read p k)
    same p is_p edge = reads p is_p edge ∙ ap (V p) (read_number p k)

    settled : Settles s n → (row : Row) → IsSettled s shown n row → row ≡ values_at (nets k) (nets_of s n)
    settled edges row is = settled_same s split n edges shown (λ p. V p (opening_read p k)) same row (values_at (nets k) (nets_of s n)) is (run_settles s split vectors state nets run n k below)

  pub next_value : (n : Node) → IsNode s n → (k : ℕ) → k < length vectors → (shown : Node → Row) → ShowsProducers s V k shown n
      → (row : Row) → TakesFrom s vectors k shown n row → row ≡ V n (suc k)
  next_value In is_node k below shown reads row is = is
  next_value Out is_node k below shown reads row is = settled Out k below shown reads (settles_out s) row is
  next_value (Master i) is_node k below shown reads row is =
      settled (Master i) k below shown reads (settles_master s i is_node) row is ∙ master_value s split vectors state nets run i is_node k below
  next_value (Slave i) is_node k below shown reads row is = is ∙ (reads (Master i) is_node (to_slave is_node) ∙ ap (V (Master i)) (let e : suc k - 0 ≡ suc k = omega arith in e))

pub takes_next_value_lem : TakesNextValue
takes_next_value_lem s split vectors state nets run n is_node opened below shown reads row is =
    next_value s split vectors state nets run n is_node opened below shown reads row is
