use Rattle.std.proofs.Common.{◌≡◌, ◌∙◌, ◌-◌, ◌<◌, ℕ, List, length, ap, subst, sym, true}
use Rattle.ds_base.specs.Values.{Row}
use Rattle.ds_base.specs.Scratch.{HoldsTurn, Kept}
use Rattle.ds_settle.specs.Settle.{LeavesOthers}
use Rattle.ds_opening.specs.Packed.{AreAsBefore, Learns}
use Rattle.ds_opening.proofs.Learnt.{held_before, now_noted}
use Rattle.ds_opening.proofs.opening.learn_row.Goals.{then-put_values, else-put_values}
use Rattle.ds_opening.proofs.opening.learn_row.Goals as goal

pub returns-clause-value : goal.returns-clause-value
returns-clause-value c m foreseen at row remembers =
    let old : Kept = c.args.scratch.now in
    let (was_noted, _) = c.is_noted-was_noted.ensures in
    let these : List ℕ = c.args.these.now in
    let nets : Row = c.put_values.new.nets in
    let base : c.nets_mut.result.now ≡ old.nets = c.nets_mut.ensures.value in
    let size : length nets ≡ length old.nets = c.put_values.ensures.same ∙ ap (λ (r : Row). length r) base in
    let learns : Learns foreseen these old.nets nets =
    subst (λ (r : Row). Learns foreseen these r nets) base (c.put_values.ensures.value foreseen row) in
    let others : LeavesOthers these old.nets nets =
    subst (λ (r : Row). LeavesOthers these r nets) base c.put_values.ensures.others in
    let held : c.if-put_values.stayed ≡ true → 1 < c.args.turn → HoldsTurn m nets (c.args.turn - 1) these =
    λ so later. elim c.if-put_values.branch [
      | then-put_values w ↦
          held_before m c.args.turn c.args.slot these foreseen at c.requires.turn old remembers later
          (was_noted (sym w.stayed-is ∙ so)) nets
          (subst (λ (r : Row). AreAsBefore r nets) base (c.put_values.ensures.stayed w.if-put_values.true))
      | else-put_values w ↦ absurd (cc)
    ] in
    now_noted m c.args.turn c.args.slot these foreseen at c.requires.turn old remembers nets size learns others
    c.if-put_values.stayed held c.note.new.self c.note.ensures
