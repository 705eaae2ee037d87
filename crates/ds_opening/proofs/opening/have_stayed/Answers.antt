use Rattle.std.proofs.Common.{◌≡◌, ◌∙◌, ℕ, ap, arith, get_or, inl, inr, subst}
use Rattle.std.specs.Prelude.{false, slice_index, slice_index_or, true}
use Rattle.std.proofs.lemmas.Bool.{cases_lt}
use Rattle.std.proofs.lemmas.List.{get_or_default}
use Rattle.ds_opening.proofs.opening.have_stayed.Goals as goal

pub loop-slot-preserved : goal.loop-slot-preserved
loop-slot-preserved c k d low = let (stayed, _) = c.has_stayed.ensures in elim (cases_lt k c.loop-slot.slot-index) [
  | inl early ↦ c.loop-slot.invariant k d early
  | inr past ↦
      (let here : c.loop-slot.slot-index ≡ k = omega (past, low, arith) in
      subst (λ (s : ℕ). (slice_index c.args.scratch.now.turns s ≡ c.args.turn)
      × (slice_index_or c.args.scratch.now.stayed s false ≡ true))
      (get_or_default c.args.slots.now c.loop-slot.slot-index 0 d c.loop-slot-test.true
      ∙ ap (λ (n : ℕ). get_or c.args.slots.now n d) here)
      (stayed c.if-not-has_stayed.false))
]

pub returns : goal.returns
returns c = λ so k d low. c.loop-slot.invariant k d
    (omega (low, c.loop-slot-test.false, c.loop-slot.auto.slot-index-end, arith))
