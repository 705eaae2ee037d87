use Rattle.std.proofs.Common.{ℕ, ◌≡◌, ◌<◌, get_or}
use Rattle.std.specs.Prelude.{All, Contains}
use Rattle.ds_accept.specs.Masks.{AreAllIn}
use Rattle.ds_accept.proofs.arcs.arcs_by.Given as goal

abbrev pub invariant-loop-event : goal.invariant-loop-event
invariant-loop-event l = record {
  alone : AreAllIn l.arcs.items l.graph.arcs;
  seen : (k : ℕ) → k < l.event-index → All (λ arc. arc.source ≡ get_or l.order k 0 → Contains l.arcs.items arc) l.graph.arcs;
}
