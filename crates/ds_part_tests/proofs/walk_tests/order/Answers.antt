use Rattle.std.proofs.Common.{◌≡◌, ◌∙◌, arith, inl, inr, sym}
use Rattle.std.proofs.lemmas.Bool.{cases_eq}
use Rattle.ds_part_tests.proofs.walk_tests.order.Goals as goal

pub returns : goal.returns
returns c v low = elim (cases_eq v 2) [
  | inl two ↦ (0, omega arith, c.new.ensures ∙ sym two)
  | inr below ↦ elim (cases_eq v 1) [
    | inl one ↦ (1, omega arith, c.new-2.ensures ∙ sym one)
    | inr lowest ↦ (let zero_is : v ≡ 0 = omega arith in (2, omega arith, c.new-3.ensures ∙ sym zero_is))
  ]
]
