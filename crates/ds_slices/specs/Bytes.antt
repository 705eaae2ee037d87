-- Bytes of nets, each with the values of eight turns: bit k of it for turn k of them.
use Rattle.std.specs.Prelude.{◌≡◌, ℕ, ◌+◌, ◌*◌, ◌<◌, List}
use Rattle.ds_cover.specs.Cover.{values_at}
use Rattle.ds_design.specs.Circuit.{Circuit, register_nets}
use Rattle.ds_slices.specs.Turns.{turn_row}
use Rattle.ds_slices.specs.declared.slices.Slices.{Slices}

-- the nets have in them what they have in the words, in the eight turns of a block
abbrev pub AreBytes : List ℕ → List ℕ → ℕ → List ℕ → Type 0
AreBytes words nets block bytes = (k : ℕ) → k < 8
    → turn_row bytes k ≡ values_at (turn_row words (8 * block + k)) nets

-- so have the outputs and what the registers drive
pub record AreTurnBytes (c : Circuit) (slices : Slices) (block : ℕ) : Type 0 where
  pub outputs : AreBytes slices.words.items c.outputs block slices.output_bytes.items
  pub registers : AreBytes slices.words.items (register_nets c) block slices.register_bytes.items
