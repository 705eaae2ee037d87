use Rattle.std.proofs.Common.{◌≡◌, ◌∙◌, ◌<◌, ◌+◌, ◌*◌, ℕ, List, ap, sym, arith, refl, length}
use Rattle.std.proofs.Common.{get_or, length-set, get_or-set_other, min}
use Rattle.ds_base.specs.declared.value.Value.{Value}
use Rattle.ds_base.specs.declared.value.Value.TheVariants.{Zero}
use Rattle.ds_fabric.proofs.Unpacks.{one_set}
use Rattle.ds_fabric.proofs.words.set_word.Goals as goal

pub loop-j-preserved : goal.loop-j-preserved
loop-j-preserved c = let inv = c.loop-j.invariant in let j : ℕ = c.loop-j.j in
    let a : ℕ = 32 * c.args.i in let row : List Value = c.loop-j.row in
    let v : Value = c.of_code.result in let is : c.set.new.self ≡ Rattle.std.proofs.Common.set row
    (a + j) v = c.set.ensures in
    let below : j < c.min-j-end.result = omega (arith, c.loop-j-test.true, c.loop-j.auto.j-end) in
    let low : (j < 32) × (a + j < length c.args.row.now) = (
      omega (arith, below, c.min-j-end.ensures, c.len.ensures),
      omega (arith, below, c.min-j-end.ensures, c.len.ensures),
    ) in (
      ap (λ (xs : List Value). length xs) is ∙ (length-set row (a + j) v ∙ inv.0),
      (λ k h. ap (λ (xs : List Value). get_or xs k Zero) is
          ∙ (get_or-set_other row (a + j) k v Zero (λ e. omega (arith, e)) ∙ inv.1 k h)),
      (λ values same word. let q = inv.2 values same word in
          one_set values row c.set.new.self a j c.loop-j.rest v (omega (arith, low.1, same)) low.0
          (inv.0 ∙ sym same) is c.of_code.ensures q.0 q.1),
    )
