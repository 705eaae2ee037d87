-- Registers by the nets that they drive.
use Rattle.std.specs.Prelude.{◌≡◌, ℕ, ◌<◌, List, length, Option, None, Some, slice_index}
use Rattle.std.specs.Prelude.{slice_index_or}
use Rattle.ds_design.specs.declared.design.Net.{Net}
use Rattle.ds_groups.specs.Keys.{IsNetAt, IsNoNet}
use Rattle.ds_groups.specs.Latest.{IsLatest, driven_net}

-- nets, each once, beside each the last register that drives it, and for each register the one
-- before it that drives a net like its own
pub record NetIndex : Type 0 where
  pub nets : List Net
  pub latest : List ℕ
  pub earlier : List (Option ℕ)

-- an index of the first so many registers
pub record IsIndex (nets : List Net) (count : ℕ) (index : NetIndex) : Type 0 where
  pub one_each : length index.latest ≡ length index.nets
  pub once : (j k : ℕ) → j < length index.nets → k < length index.nets
      → driven_net index.nets j ≡ driven_net index.nets k → j ≡ k
  pub found : (net : Net) (k : ℕ) → IsNetAt index.nets net k
      → IsLatest nets count net (Some (slice_index index.latest k))
  pub missing : (net : Net) → IsNoNet index.nets net → IsLatest nets count net None
  pub so_many : length index.earlier ≡ count
  pub before : (r : ℕ) → r < count
      → IsLatest nets r (driven_net nets r) (slice_index_or index.earlier r None)
