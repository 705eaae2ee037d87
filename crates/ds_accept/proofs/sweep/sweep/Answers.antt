use Rattle.std.proofs.Common.{ℕ, List, Bool, arith, subst, sym, ◌+◌, below_more}
use Rattle.std.specs.Prelude.{All}
use Rattle.ds_accept.specs.Masks.{IsClosedAt, IsSwept, AreAllClosed}
use Rattle.ds_accept.proofs.SweepSteps.{one_of, first_of, second_of, step_both}
use Rattle.ds_accept.proofs.sweep.sweep.Goals as goal
use Rattle.ds_accept.proofs.sweep.sweep.Goals.{then-changed, else-changed}

pub loop-token_sum-preserved : goal.loop-token_sum-preserved
loop-token_sum-preserved c =
    let i : ℕ = c.loop-token_sum.token_sum in
    let arcs = c.args.arcs.now in
    let P : List ℕ → Type 0 = AreAllClosed arcs c.args.events c.args.bound i in
    let Q : List ℕ → Type 0 = λ masks. All (IsClosedAt c.args.events c.args.bound masks i) arcs in
    let R : List ℕ → Type 0 = AreAllClosed arcs c.args.events c.args.bound (i + 1) in
    let both : IsSwept arcs c.args.events c.args.bound R c.args.masks.now c.sweep_sum-more.new.masks (one_of c.loop-token_sum.changed c.sweep_sum-more.result) =
    step_both arcs c.args.events c.args.bound P Q R c.args.masks.now c.loop-token_sum.masks c.sweep_sum-more.new.masks c.loop-token_sum.changed c.sweep_sum-more.result
    (λ p q. below_more (λ token_sum. All (IsClosedAt c.args.events c.args.bound c.sweep_sum-more.new.masks token_sum) arcs) i p q)
    c.loop-token_sum.invariant.step c.sweep_sum-more.ensures in
    let under : Bool → Type 0 = λ b. IsSwept arcs c.args.events c.args.bound R c.args.masks.now c.sweep_sum-more.new.masks b in
    record {
      step = elim c.if-changed.branch [
        | then-changed w ↦ subst under (sym (first_of c.loop-token_sum.changed c.sweep_sum-more.result c.if-changed.changed w.changed-is w.if-changed.true)) both
        | else-changed w ↦ subst under (sym (second_of c.loop-token_sum.changed c.sweep_sum-more.result c.if-changed.changed w.changed-is w.if-changed.false)) both
      ];
      fits = λ i. omega (arith, c.type_inv.masks i);
    }
