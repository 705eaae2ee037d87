use Rattle.std.proofs.Common.{◌≢◌, ℕ, ◌<◌, ◌^◌, List, length, All, AllPairs, subst, sym}
use Rattle.ds_design.specs.Circuit.{Circuit}
use Rattle.ds_latch.proofs.Widths.{bits_few}
use Rattle.ds_latch.proofs.latches.Latches.bits.Goals as goal

pub returns-clause-few : goal.returns-clause-few
returns-clause-few c =
    let once : AllPairs (λ a b. a ≢ b) c.design-design.result.now.outputs =
    c.outputs-outputs.ensures.once in
    subst (λ (bits : List (List ℕ)). All (λ nets. length nets < 2 ^ 32) bits)
    (sym c.as_slice.ensures)
    (bits_few _ c.self.invariant.split c.design-design.ensures.in_range
    (subst (λ (d : Circuit). AllPairs (λ a b. a ≢ b) d.outputs) c.design-design.ensures.design once) _
    c.self.invariant.one_each c.self.invariant.nets)
