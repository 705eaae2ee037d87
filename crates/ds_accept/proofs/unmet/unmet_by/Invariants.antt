use Rattle.std.proofs.Common.{ℕ, ◌≡◌, ◌<◌, ◌-◌, ◌*◌, ◌^◌, get_or, length, sum}
use Rattle.ds_accept.specs.Masks.{AreWalks, IsReachedAt}
use Rattle.ds_accept.proofs.unmet.unmet_by.Given as goal

abbrev pub invariant-sweeps : goal.invariant-sweeps
invariant-sweeps l = record {
  size : length l.masks ≡ l.search.bound * l.search.events;
  walks : AreWalks l.search.arcs.now l.block.sources.items l.search.events l.search.bound l.masks;
  starts : (b : ℕ) → b < length l.block.sources.items → IsReachedAt l.search.events l.masks 0 (get_or l.block.sources.items b 0) b;
}

abbrev pub decreases-sweeps : goal.decreases-sweeps
decreases-sweeps l = length l.masks * 2 ^ 64 - sum l.masks
