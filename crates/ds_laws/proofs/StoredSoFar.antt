-- What a state has stored so far are clocked values.
use Rattle.std.proofs.Common.{ℕ, ◌<◌, length, sym, subst}
use Rattle.ds_latch.specs.Headline.{BeginsWith, values_clocked}
use Rattle.ds_latch.specs.Plan.{IsController}
use Rattle.ds_latch.proofs.OrderTokens.{accepted_controls}
use Rattle.ds_latch.proofs.Flow.{InStep, steps_kept}
use Rattle.ds_latch.proofs.Headline.{stored_begins}
use Rattle.ds_laws.specs.Logs.{StatesAreClockedSoFar}

pub states_are_clocked_so_far : StatesAreClockedSoFar
states_are_clocked_so_far p plan vectors state nets run events legal text is =
    let controls : IsController p.split p.graph = accepted_controls p.split p.graph plan in
    let kept : InStep p.split p.graph controls vectors state nets run is.now = steps_kept p.split p.graph controls vectors state nets run events legal is.now is.fires in
    let begins : (r : ℕ) → r < length p.split.circuit.registers → BeginsWith (values_clocked state (length vectors) r) (is.values r) = λ r low.
    let (cluster, place, at, same) = is.stored r low in
    subst (BeginsWith (values_clocked state (length vectors) r)) (sym same) (stored_begins p.split vectors state nets is.now kept.step (length vectors) kept.within r cluster place at) in
    (is.values, begins, is.spelt)
