use Rattle.std.proofs.Common.{◌∙◌, ℕ, [], ap, arith, subst, sym, ◌==◌}
use prog.Atomic.{either}
use mathlib.Core.Option.{none}
use Rattle.atomic_table.specs.Table.{step, Allows, Splits}
use Rattle.ds_rule.specs.Run.{Run}
use Rattle.ds_rule.specs.Rule.{Lawful}
use Rattle.ds_rule.specs.Plays.{Sat, with_cut, chose_cut, without_cut, only_cut}
use Rattle.ds_rule.specs.declared.view.View.{View}
use Rattle.ds_rule.proofs.Hands.{chooses_cut, deals}
use Rattle.ds_rule.proofs.PlaceLaws.{counts_inside}
use Rattle.ds_fabric.proofs.seat_steps.deal_seat.Goals as goal

pub compare_exchange-requires : goal.compare_exchange-requires
compare_exchange-requires g c = let (table, q) = c.requires.table in let (live, at_rest) = c.requires.idle in let run : Run = c.args.run.now in
    let n : ℕ = c.args.board.now.table_id.slots in let l : ℕ = c.args.node in
    let P : Run → Type 0 = λ r. Allows (Lawful r) n c.args.seat.now.id c.args.seat.now.me 0
    (λ x. either (x == l) l x) (chose_cut (step n 0 l l none) c.args.seat.now.me) in (
      table,
      omega (arith, q.sized, counts_inside run 0 (omega arith)),
      subst P (sym q.keyed)
          (chooses_cut run n c.args.seat.now.id c.args.seat.now.me l live at_rest),
    )

pub split_seat-requires : goal.split_seat-requires
split_seat-requires g c = let (table, q) = c.requires.table in let (live, at_rest) = c.requires.idle in let (same, _, e) = c.compare_exchange.ensures in
    let run : Run = c.args.run.now in let v : View = c.args.seat.now.me.0 in
    let P : Run → Sat → Type 0 = λ r m. Splits (Lawful r) c.compare_exchange.new.seat.id m.0
    (without_cut m.0) (only_cut m.0) in (
      same ∙ table,
      omega (arith, q.sized, counts_inside run 0 (omega arith)),
      subst (λ r. P r c.compare_exchange.new.seat.me) (sym q.keyed)
          (subst (P run) (sym e) (deals run c.compare_exchange.new.seat.id
          (with_cut v c.args.node) live at_rest c.requires.held)),
    )

pub returns : goal.returns
returns g c = let e = c.compare_exchange.ensures in let s = c.split_seat.ensures in record {
  lent = (s.0 ∙ e.0, s.2 ∙ ap (λ (m : Sat). (without_cut m.0, m.1)) e.2);
  new = (s.3 ∙ e.0, s.4 ∙ ap (λ (m : Sat). (only_cut m.0, [])) e.2);
}
