-- What words are worked out in.
use Rattle.std.specs.Prelude.{◌≡◌, length}
use Rattle.ds_design.specs.Circuit.{Circuit, register_nets}
use Rattle.ds_feedback.specs.Sequence.{IsSequence}
use Rattle.ds_slices.specs.declared.slices.Slices.{Slices}

-- an order of the tables and registers of a circuit, and room for its nets and lines
pub record AreReady (c : Circuit) (slices : Slices) : Type 0 where
  pub order : IsSequence c slices.order.items
  pub words : length slices.words.items ≡ length c.nets
  pub nets : length slices.nets ≡ length c.nets
  pub registers : slices.registers.items ≡ register_nets c
  pub output_bytes : length slices.output_bytes.items ≡ length c.outputs
  pub register_bytes : length slices.register_bytes.items ≡ length c.registers
