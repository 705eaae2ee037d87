use Rattle.std.proofs.Common.{◌≡◌, ◌<◌, ◌*◌, ℕ, List, [], length, get_or}
use Rattle.std.specs.Prelude.{All}
use Rattle.ds_fire.specs.StoredRows.{Stored}
use Rattle.ds_fire.proofs.kept.histories.Given as goal

abbrev pub invariant-loop-these : goal.invariant-loop-these
invariant-loop-these l = record {
  one_each : length l.stored.items ≡ l.these-index;
  none : All (λ h. h.values ≡ []) l.stored.items;
  room : (j : ℕ) (d : Stored) (e : List ℕ) → j < l.these-index → (get_or l.stored.items j d).room ≡ l.limit * length (get_or l.bits j e);
}
