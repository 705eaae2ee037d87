use Rattle.std.proofs.Common.{ℕ, List, Option, Bool, subst, sym, ◌+◌}
use Rattle.std.specs.List.{AllWithin}
use Rattle.std.proofs.lemmas.List.Elements.{AllWithin-more, at_read}
use Rattle.ds_accept.specs.Lowered.{IsLowAt, IsLowering}
use Rattle.ds_accept.proofs.Lower.{lower_both}
use Rattle.ds_accept.proofs.SweepSteps.{one_of, first_of, second_of}
use Rattle.ds_accept.proofs.sums.lower_each.Goals as goal
use Rattle.ds_accept.proofs.sums.lower_each.Goals.{then-changed, else-changed}

pub loop-arc-preserved : goal.loop-arc-preserved
loop-arc-preserved c =
    let i : ℕ = c.loop-arc.arc-index in
    let arcs = c.args.arcs.now in
    let P : List (Option ℕ) → Type 0 = λ sums. AllWithin (IsLowAt sums) arcs 0 i in
    let Q : List (Option ℕ) → Type 0 = λ sums. IsLowAt sums c.arc-item.result in
    let R : List (Option ℕ) → Type 0 = λ sums. AllWithin (IsLowAt sums) arcs 0 (i + 1) in
    let new : List (Option ℕ) = c.lower-more.new.sums.items in
    let both : IsLowering arcs R c.args.sums.now.items new (one_of c.loop-arc.changed c.lower-more.result) =
    lower_both arcs P Q R c.args.sums.now.items c.loop-arc.sums.items new c.loop-arc.changed c.lower-more.result
    (λ p q. AllWithin-more (IsLowAt new) arcs 0 i p (at_read arcs (IsLowAt new) i c.arc-item.result c.loop-arc-test.true c.arc-item.is q))
    c.loop-arc.invariant (c.lower-more.ensures arcs (i, c.loop-arc-test.true, sym c.arc-item.is)) in
    let under : Bool → Type 0 = λ b. IsLowering arcs R c.args.sums.now.items new b in
    elim c.if-changed.branch [
      | then-changed w ↦ subst under (sym (first_of c.loop-arc.changed c.lower-more.result c.if-changed.changed w.changed-is w.if-changed.true)) both
      | else-changed w ↦ subst under (sym (second_of c.loop-arc.changed c.lower-more.result c.if-changed.changed w.changed-is w.if-changed.false)) both
    ]
