use Rattle.std.proofs.Common.{ℕ, List, Bool, subst, sym, ◌+◌}
use Rattle.std.specs.List.{AllWithin}
use Rattle.std.proofs.lemmas.List.Elements.{AllWithin-more, at_read}
use Rattle.ds_accept.specs.Masks.{IsClosedAt, IsSwept}
use Rattle.ds_accept.proofs.SweepSteps.{one_of, first_of, second_of, step_both}
use Rattle.ds_accept.proofs.sweep.sweep_sum.Goals as goal
use Rattle.ds_accept.proofs.sweep.sweep_sum.Goals.{then-changed, else-changed}

pub loop-arc-preserved : goal.loop-arc-preserved
loop-arc-preserved c =
    let i : ℕ = c.loop-arc.arc-index in
    let arcs = c.args.arcs.now in
    let P : List ℕ → Type 0 = λ masks. AllWithin (IsClosedAt c.args.events c.args.bound masks c.args.token_sum) arcs 0 i in
    let Q : List ℕ → Type 0 = λ masks. IsClosedAt c.args.events c.args.bound masks c.args.token_sum c.arc-item.result in
    let R : List ℕ → Type 0 = λ masks. AllWithin (IsClosedAt c.args.events c.args.bound masks c.args.token_sum) arcs 0 (i + 1) in
    let both : IsSwept arcs c.args.events c.args.bound R c.args.masks.now c.sweep_arc-more.new.masks (one_of c.loop-arc.changed c.sweep_arc-more.result) =
    step_both arcs c.args.events c.args.bound P Q R c.args.masks.now c.loop-arc.masks c.sweep_arc-more.new.masks c.loop-arc.changed c.sweep_arc-more.result
    (λ p q. AllWithin-more (IsClosedAt c.args.events c.args.bound c.sweep_arc-more.new.masks c.args.token_sum) arcs 0 i p
    (at_read arcs (IsClosedAt c.args.events c.args.bound c.sweep_arc-more.new.masks c.args.token_sum) i c.arc-item.result c.loop-arc-test.true c.arc-item.is q))
    c.loop-arc.invariant (c.sweep_arc-more.ensures arcs (i, c.loop-arc-test.true, sym c.arc-item.is)) in
    let under : Bool → Type 0 = λ b. IsSwept arcs c.args.events c.args.bound R c.args.masks.now c.sweep_arc-more.new.masks b in
    elim c.if-changed.branch [
      | then-changed w ↦ subst under (sym (first_of c.loop-arc.changed c.sweep_arc-more.result c.if-changed.changed w.changed-is w.if-changed.true)) both
      | else-changed w ↦ subst under (sym (second_of c.loop-arc.changed c.sweep_arc-more.result c.if-changed.changed w.changed-is w.if-changed.false)) both
    ]
