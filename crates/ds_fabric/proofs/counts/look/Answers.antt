use Rattle.std.proofs.Common.{◌≡◌, ◌+◌, ◌-◌, ◌∙◌, ◌≤◌, ℕ, ap, refl, arith, true, subst, sym}
use mathlib.Core.Option.{none}
use Rattle.atomic_table.specs.Table.{step, Allows}
use Rattle.ds_rule.specs.Run.{Run}
use Rattle.ds_rule.specs.Rule.{Lawful, holds, seen}
use Rattle.ds_rule.specs.Plays.{after_look, looked}
use Rattle.ds_rule.proofs.Looks.{looks}
use Rattle.ds_rule.proofs.PlaceLaws.{counts_inside}
use Rattle.ds_fabric.proofs.counts.look.Goals as goal

pub load-requires : goal.load-requires
load-requires g c = let (live, at_rest) = c.requires.idle in let q = c.args.context.now.built.over in let run : Run = c.args.context.now.run.now in
    let P : Run → Type 0 =
    λ r. Allows (Lawful r) c.args.context.now.board.now.table_id.slots c.args.seat.now.id c.args.seat.now.me
    (c.args.node + 1) (λ y. y) (looked (step c.args.context.now.board.now.table_id.slots
    (c.args.node + 1) 0 0 none) c.args.seat.now.me) in (
      c.requires.table,
      omega (arith, q.sized, counts_inside run (c.args.node + 1) (omega (arith, c.requires.near))),
      subst P (sym q.keyed)
          (looks run _ _ _ c.args.node _ refl c.requires.near live at_rest),
    )

pub returns : goal.returns
returns g c =
    let v = c.args.seat.now.me.0 in let r = c.load.result in let e = c.load.ensures in
    let k : c.args.node + 1 - 1 ≡ c.args.node = omega arith in record {
      table = e.0;
      me = e.2.0 ∙ ap (λ (l : ℕ). (after_look v l r, c.args.seat.now.me.1)) k;
      own = subst (λ (l : ℕ). holds v l ≡ true → r ≡ seen v l) k e.2.1;
      up = subst (λ (l : ℕ). seen v l ≤ r) k e.2.2;
    }
