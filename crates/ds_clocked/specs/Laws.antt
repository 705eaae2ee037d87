-- What follows of the definitions alone.
use Rattle.std.specs.Prelude.{◌≡◌, ◌≢◌, ℕ, List, length, slice_index_or}
use Rattle.ds_base.specs.Values.{Row}
use Rattle.ds_design.specs.Circuit.{Circuit, columns, register_nets, data_nets, initial_row}
use Rattle.ds_design.specs.Accepted.{IsAccepted}
use Rattle.ds_design.specs.Run.{row_at, AllStand}
use Rattle.ds_design.specs.Trace.{IsTrace}

-- the byte of a text at a place
abbrev pub byte_at : List ℕ → ℕ → ℕ
byte_at text k = slice_index_or text k 0

-- a text of the same length, with the same byte at each place that did not have `x`
pub record TextStands (old new : List ℕ) : Type 0 where
  pub long : length new ≡ length old
  pub same : (k : ℕ) → byte_at old k ≢ 120 → byte_at new k ≡ byte_at old k

-- the same nets, tables and registers; how the registers start may differ
pub record DifferInStarts (c other : Circuit) : Type 0 where
  pub nets : other.nets ≡ c.nets
  pub columns : columns other ≡ columns c
  pub outputs : other.outputs ≡ c.outputs
  pub tables : other.tables ≡ c.tables
  pub data_nets : data_nets other ≡ data_nets c
  pub register_nets : register_nets other ≡ register_nets c

-- where known values take the place of unknown ones, in initial values or vectors,
-- each `0` and each `1` of the trace stands
abbrev pub KnownCharactersStand : Type 0
KnownCharactersStand = (c other : Circuit) → IsAccepted c → DifferInStarts c other
    → AllStand (initial_row c) (initial_row other)
    → (vectors vectors' : List Row) → length vectors' ≡ length vectors
    → ((k : ℕ) → AllStand (row_at vectors k) (row_at vectors' k))
    → (text text' : List ℕ) → IsTrace c vectors text → IsTrace other vectors' text'
    → TextStands text text'
