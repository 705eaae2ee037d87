-- The rows that a record has of a latch.
use Rattle.std.specs.Prelude.{ℕ, ◌*◌, take, drop}
use Rattle.ds_base.specs.Values.{Row}
use Rattle.ds_rule.specs.Run.{Run}
use Rattle.ds_rule.specs.Words.{node_values}
pub use Rattle.ds_run.specs.Stored.{rows_stored}

-- the 32 values that are word i of value number k of a node
abbrev pub word_values : Run → ℕ → ℕ → ℕ → Row
word_values run l i k = take 32 (drop (32 * i) (node_values run l k))
