-- Nets that are settled as far as the first tables of an order.
use Rattle.std.specs.Prelude.{◌≡◌, ℕ, ◌<◌, List, length, Contains, slice_index, slice_index_or}
use Rattle.ds_cover.specs.Cover.{value_at, values_at, value_of}
use Rattle.ds_design.specs.Circuit.{Circuit, columns, register_nets, drivers}
use Rattle.ds_design.specs.declared.design.Gate.{Gate}
use Rattle.ds_base.specs.Values.{Row}
use Rattle.ds_base.specs.declared.value.Value.TheVariants.{Zero}

-- all nets but these are as they were
abbrev pub LeavesOthers : List ℕ → Row → Row → Type 0
LeavesOthers these old new = (net : ℕ) → ¬ Contains these net → value_at new net ≡ value_at old net

-- the columns and registers have their bits, nets that nothing drives are 0, and the first n tables
-- of the order have their values
pub record IsSettledTo (c : Circuit) (state vector nets : Row) (order : List ℕ)
    (n : ℕ) : Type 0 where
  pub one_each : length nets ≡ length c.nets
  pub column : values_at nets (columns c) ≡ vector
  pub register : values_at nets (register_nets c) ≡ state
  pub undriven : (net : ℕ) → net < length c.nets → ¬ Contains (drivers c) net
      → value_at nets net ≡ Zero
  pub table : (k : ℕ) (d : Gate) → k < n
      → let t = slice_index_or c.tables (slice_index order k) d in value_at nets t.output
      ≡ value_of t.table nets
