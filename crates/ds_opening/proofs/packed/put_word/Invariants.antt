use Rattle.std.proofs.Common.{◌≡◌, length, take, drop}
use Rattle.ds_base.specs.Values.{Row}
use Rattle.ds_base.specs.Word.{number_of_values}
use Rattle.ds_cover.specs.Cover.{values_at}
use Rattle.std.specs.Prelude.{IsTrue}
use Rattle.ds_opening.specs.Packed.{AreAsBefore, Learns}
use Rattle.ds_settle.specs.Settle.{LeavesOthers}
use Rattle.ds_opening.proofs.packed.put_word.Given as goal

abbrev pub invariant-loop-net : goal.invariant-loop-net
invariant-loop-net l = record {
  same : length l.nets ≡ length l.fn.nets;
  learns : (foreseen : Row) → l.fn.word ≡ number_of_values (values_at foreseen l.these)
      → (l.rest ≡ number_of_values (drop l.net-index (values_at foreseen l.these)))
      × Learns foreseen (take l.net-index l.these) l.fn.nets l.nets;
  others : LeavesOthers (take l.net-index l.these) l.fn.nets l.nets;
  stayed : IsTrue l.stayed → AreAsBefore l.fn.nets l.nets;
}
