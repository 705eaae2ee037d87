use Rattle.std.proofs.Common.{rules, ◌≡◌, ◌<◌, ◌∙◌, ◌&&◌, ℕ, get_or, ap, arith, subst, sym, true}
use Rattle.std.proofs.Common.{false}
use Rattle.std.proofs.lemmas.Bool.{false≢true}
use mathlib.Core.Option.{none}
use Rattle.atomic_table.specs.Table.{step, Allows, Joins}
use Rattle.ds_rule.specs.Run.{Run, node_of, turns}
use Rattle.ds_rule.specs.Rule.{Lawful, holds, seen, tickets}
use Rattle.ds_rule.specs.Plays.{Sat, taken_in, observed, spent}
use Rattle.ds_rule.specs.declared.view.View.{View}
use Rattle.ds_rule.proofs.GetElemLemmas.{get-listed}
use Rattle.ds_rule.proofs.Hands.{observes, gathers}
use Rattle.ds_rule.proofs.PlaceLaws.{counts_inside}
use Rattle.ds_fabric.proofs.seat_steps.gather_seats.Goals as goal

pub join_seat-requires : goal.join_seat-requires
join_seat-requires g c = let (table, also, q) = c.requires.table in let (live, alive, no_slot) = c.requires.live in let (at_rest, resting) = c.requires.idle in
    let run : Run = c.args.run.now in
    let v : View = c.args.seat.now.me.0 in let w : View = c.args.other.me.0 in (
      table,
      also,
      no_slot,
      omega (arith, q.sized, counts_inside run 0 (omega arith)),
      subst (λ (r : Run). Joins (Lawful r) c.args.seat.now.id v c.args.other.id w (taken_in v w) spent)
          (sym q.keyed) (gathers run c.args.seat.now.id c.args.other.id v w live alive at_rest resting),
    )

pub load-requires : goal.load-requires
load-requires g c = let (table, _, q) = c.requires.table in let (live, _, _) = c.requires.live in let (at_rest, _) = c.requires.idle in let run : Run = c.args.run.now in
    let n : ℕ = c.args.board.now.table_id.slots in let j = c.join_seat.ensures in
    let P : Run → Type 0 =
    λ r. Allows (Lawful r) n c.join_seat.new.seat.id c.join_seat.new.seat.me 0 (λ y. y)
    (observed (step n 0 0 0 none) c.join_seat.new.seat.me) in (
      j.0 ∙ table,
      omega (arith, q.sized, counts_inside run 0 (omega arith)),
      subst P (sym q.keyed) (observes run n c.join_seat.new.seat.id c.join_seat.new.seat.me 0
          (ap (λ (m : Sat). m.0.live) j.2 ∙ live) (ap (λ (m : Sat). m.0.phase) j.2
          ∙ at_rest)),
    )

pub returns : goal.returns
returns g c = let j = c.join_seat.ensures in let e = c.load.ensures in
    let v : View = c.args.seat.now.me.0 in let w : View = c.args.other.me.0 in
    let C : Sat → Type 0 = λ m. (x : ℕ) → holds m.0 (node_of m.0.run x) ≡ true
    → turns m.0.run x (seen m.0 (node_of m.0.run x)) ≡ Rattle.std.proofs.Common.length
    (tickets m.0 x) in record {
      seat = (e.0 ∙ j.0, e.2.0 ∙ j.2);
      counts = subst C (sym e.2.0) e.2.1;
      distinct = λ l near h h'. let clear : get_or (taken_in v w).clash l false ≡ false =
          subst (λ (m : Sat). get_or m.0.clash l false ≡ false) j.2 (e.2.2 l) in
          false≢true (sym clear ∙ (get-listed (λ x. holds v x && holds w x) v.run.nodes l false near
          ∙ (ap (λ b. b && holds w l) h ∙ h')));
    }
