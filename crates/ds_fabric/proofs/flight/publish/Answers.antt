use Rattle.std.proofs.Common.{◌+◌, ◌%◌, ◌^◌, ◌∙◌, ℕ, arith, sym, subst}
use mathlib.Core.Option.{none}
use Rattle.atomic_table.specs.Table.{step, Allows}
use Rattle.ds_rule.specs.Run.{Run}
use Rattle.ds_rule.specs.Rule.{Lawful}
use Rattle.ds_rule.specs.Plays.{Sat, drew, published}
use Rattle.ds_rule.proofs.PlaceLaws.{counts_inside}
use Rattle.ds_rule.proofs.Draws.{draws}
use Rattle.ds_fabric.proofs.Flights.{few, lands}
use Rattle.ds_fabric.proofs.flight.publish.Goals as goal

pub fetch_add-ticket-requires : goal.fetch_add-ticket-requires
fetch_add-ticket-requires g c = let q = c.args.context.now.built.over in
    let m : Sat = c.args.seat.now.me in let id : ℕ = c.args.seat.now.id in
    let run : Run = c.args.context.now.run.now in let n : ℕ = c.args.context.now.board.now.table_id.slots in
    let P : Run → Type 0 = λ r. Allows (Lawful r) n id m 0 (λ y. (y + 1) % 2 ^ 64)
    (drew (step n 0 1 0 none) m) in (
      c.requires.table,
      omega (arith, q.sized, counts_inside run 0 (omega arith)),
      subst P (sym q.keyed) (draws run n id m c.requires.flight.live c.requires.flight.phase),
    )

pub overflow_add-due : goal.overflow_add-due
overflow_add-due g c =
    omega (arith, c.requires.flight.near, c.args.context.now.built.over.sound.few)

pub overflow_add-due-2 : goal.overflow_add-due-2
overflow_add-due-2 g c = let f = c.requires.flight in
    omega (
      arith,
      few c.args.context.now.run.now c.args.seat.now.me.0 c.args.due.node
          c.args.due.fired c.args.context.now.built.over.sound.short f.count f.enabled,
    )

pub store-requires : goal.store-requires
store-requires g c = let (table, _, (me, _)) = c.fetch_add-ticket.ensures in let q = c.args.context.now.built.over in let l : ℕ = c.args.due.node in
    let m : Sat = c.args.seat.now.me in let run : Run = c.args.context.now.run.now in
    let n : ℕ = c.args.context.now.board.now.table_id.slots in
    let t : ℕ = c.fetch_add-ticket.result in let F : ℕ = c.args.due.fired in
    let id : ℕ = c.fetch_add-ticket.new.seat.id in
    let P : Run → Sat → Type 0 = λ r x. Allows (Lawful r) n id x (l + 1)
    (λ _. F + 1) (λ _. published (step n (l + 1) (F + 1) 0 none) x (F + 1)) in (
      table ∙ c.requires.table,
      omega (arith, q.sized, counts_inside run (l + 1) (omega (arith, c.requires.flight.near))),
      subst (λ r. P r c.fetch_add-ticket.new.seat.me) (sym q.keyed)
          (subst (P run) (sym me)
          (lands run n id m l F t c.requires.flight c.requires.written)),
    )
