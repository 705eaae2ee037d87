use Rattle.std.proofs.Common.{◌∙◌, ◌<◌, ◌≤◌, ◌^◌, ℕ, length, subst, sym, ap, Err}
use Rattle.ds_rank.specs.Order.{HasEdge}
use Rattle.ds_rank.specs.Search.{EndsAreNodes}
use Rattle.ds_period.proofs.CycleByRanks.{are_zeros, ranked, zeros_room}
use Rattle.ds_period.proofs.rounds.circle_along.Goals as goal

pub least_ranks-requires-clause-ends : goal.least_ranks-requires-clause-ends
least_ranks-requires-clause-ends c =
    let zeros = are_zeros c.as_slice.result.now c.args.count (c.as_slice.ensures.value ∙ c.in_ok-floors.ensures) in
    subst (λ (n : ℕ). EndsAreNodes n c.args.edges.now) (sym zeros.size) c.requires.ends

pub least_ranks-requires-clause-few : goal.least_ranks-requires-clause-few
least_ranks-requires-clause-few c =
    let zeros = are_zeros c.as_slice.result.now c.args.count (c.as_slice.ensures.value ∙ c.in_ok-floors.ensures) in
    subst (λ (n : ℕ). n < 2 ^ 32) (sym zeros.size) c.requires.few

pub least_ranks-requires-clause-room : goal.least_ranks-requires-clause-room
least_ranks-requires-clause-room c =
    zeros_room c.as_slice.result.now c.args.count
    (are_zeros c.as_slice.result.now c.args.count (c.as_slice.ensures.value ∙ c.in_ok-floors.ensures)) c.requires.few

pub returns-in-Ok : goal.returns-in-Ok
returns-in-Ok c =
    ranked (HasEdge c.args.edges.now) c.as_slice.result.now c.in-Ok.field-0.items c.args.count
    (are_zeros c.as_slice.result.now c.args.count (c.as_slice.ensures.value ∙ c.in_ok-floors.ensures))
    c.in-Ok.ensures.ok.above c.in-Ok.ensures.few

pub returns-in-Err-Cycle : goal.returns-in-Err-Cycle
returns-in-Err-Cycle c =
    let zeros = are_zeros c.as_slice.result.now c.args.count (c.as_slice.ensures.value ∙ c.in_ok-floors.ensures) in (
      c.in-Err-Cycle.ensures.cycle c.in-Err-Cycle.nodes (ap Err c.in-Err-Cycle.field-0-is),
      subst (λ (n : ℕ). length c.in-Err-Cycle.nodes.items ≤ n) zeros.size
          (c.in-Err-Cycle.ensures.size c.in-Err-Cycle.nodes (ap Err c.in-Err-Cycle.field-0-is)),
    )
