use Rattle.std.proofs.Common.{◌+◌, ◌*◌, ◌<◌, ℕ, length, get_or, ap, arith}
use Rattle.ds_fabric.specs.declared.history.History.{History}
use Rattle.ds_fabric.proofs.history.History.ticket.Goals as goal

-- the ticket stands where it is read
stands : (c : goal.After-ticket_place-place) → c.args.k * c.args.self.now.step
    + c.args.self.now.first + c.ticket_place-place.result < length c.args.words.now
stands c = let (run, event, is, in_it, below) = c.requires in omega (
  arith,
  in_it.there c.args.k below,
  c.ticket_place-place.ensures run event is,
)

pub overflow_mul-result : goal.overflow_mul-result
overflow_mul-result c = omega (arith, stands c)

pub overflow_add-result : goal.overflow_add-result
overflow_add-result c = omega (arith, stands c)

pub overflow_add-result-2 : goal.overflow_add-result-2
overflow_add-result-2 c = omega (arith, stands c)

pub bounds-words-k : goal.bounds-words-k
bounds-words-k c = let (run, event, is, in_it, below) = c.requires in omega (
  arith,
  in_it.there c.args.k below,
  c.ticket_place-place.ensures run event is,
)

pub offset_bounds-words-k : goal.offset_bounds-words-k
offset_bounds-words-k c = let (run, event, is, in_it, below) = c.requires in omega (
  arith,
  in_it.there c.args.k below,
  c.ticket_place-place.ensures run event is,
)

pub returns : goal.returns
returns c run event is = let h : History = c.args.self.now in let k : ℕ = c.args.k in
    ap (λ (x : ℕ). get_or c.args.words.now (k * h.step + h.first + x) 0)
    (c.ticket_place-place.ensures run event is)
