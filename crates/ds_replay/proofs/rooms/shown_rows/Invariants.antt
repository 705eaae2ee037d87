use Rattle.std.proofs.Common.{◌≡◌, ◌<◌, ℕ, [], length, get_or}
use Rattle.ds_replay.specs.OpenLines.{IsShownAt}
use Rattle.ds_replay.proofs.rooms.shown_rows.Given as goal

abbrev pub invariant-loop-number : goal.invariant-loop-number
invariant-loop-number l = record {
  nets : length l.nets ≡ length l.latches.circuit.nets;
  one_each : length l.rows.items ≡ l.number;
  each : (k : ℕ) → k < l.number → IsShownAt l.state k (get_or l.rows.items k []);
}
