use Rattle.std.proofs.Common.{◌≡◌, ◌*◌, length, take}
use Rattle.ds_base.specs.Values.{Row}
use Rattle.ds_cover.specs.Cover.{values_at}
use Rattle.std.specs.Prelude.{IsTrue}
use Rattle.ds_opening.specs.Packed.{AreAsBefore, Learns, packed}
use Rattle.ds_settle.specs.Settle.{LeavesOthers}
use Rattle.ds_opening.proofs.packed.put_words.Given as goal

abbrev pub invariant-loop-i : goal.invariant-loop-i
invariant-loop-i l = record {
  same : length l.nets ≡ length l.fn.nets;
  learns : (foreseen : Row) → l.words ≡ packed (values_at foreseen l.these)
      → Learns foreseen (take (32 * l.i) l.these) l.fn.nets l.nets;
  others : LeavesOthers (take (32 * l.i) l.these) l.fn.nets l.nets;
  stayed : IsTrue l.stayed → AreAsBefore l.fn.nets l.nets;
}
