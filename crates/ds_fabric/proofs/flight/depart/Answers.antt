use Rattle.std.proofs.Common.{◌≡◌, ◌+◌, ◌-◌, ◌∙◌, ℕ, ap, arith, sym, subst, refl}
use mathlib.Core.Option.{none}
use Rattle.atomic_table.specs.Table.{step, Allows}
use Rattle.ds_rule.specs.Run.{Run, next, IsEnabledInRun}
use Rattle.ds_rule.specs.Rule.{Lawful, seen}
use Rattle.ds_rule.specs.Plays.{Sat, after_depart, departed}
use Rattle.ds_rule.proofs.PlaceLaws.{counts_inside}
use Rattle.ds_rule.proofs.Looks.{departs}
use Rattle.ds_fabric.specs.Base.{IsInFlight}
use Rattle.ds_fabric.proofs.flight.depart.Goals as goal

pub load-requires : goal.load-requires
load-requires g c = let (live, at_rest, _) = c.requires.idle in let q = c.args.context.now.built.over in let run : Run = c.args.context.now.run.now in
    let n : ℕ = c.args.context.now.board.now.table_id.slots in let l : ℕ = c.args.due.node in
    let h = c.requires.held in
    let P : Run → Type 0 = λ r. Allows (Lawful r) n c.args.seat.now.id c.args.seat.now.me (l + 1)
    (λ y. y) (departed (step n (l + 1) 0 0 none) c.args.seat.now.me) in (
      c.requires.table,
      omega (arith, q.sized, counts_inside run (l + 1) (omega (arith, h.1))),
      subst P (sym q.keyed) (departs run n c.args.seat.now.id c.args.seat.now.me l
          (l + 1) refl h.1 live at_rest h.0
          (subst (λ (f : ℕ). IsEnabledInRun run (seen c.args.seat.now.me.0)
          (next run l f)) h.2 c.requires.ready)),
    )

-- the word of the node's count, less one
same : (l : ℕ) → l + 1 - 1 ≡ l
same l = omega arith

-- what the load leaves
left : (l : ℕ) (m m' : Sat) → m' ≡ (after_depart m.0 (l + 1 - 1), m.1)
    → m' ≡ (after_depart m.0 l, m.1)
left l m m' is = is ∙ ap (λ (x : ℕ). (after_depart m.0 x, m.1)) (same l)

pub returns-clause-me : goal.returns-clause-me
returns-clause-me g c = let (_, _, me) = c.load.ensures in
    left c.args.due.node c.args.seat.now.me c.load.new.seat.me me

pub returns-clause-flight : goal.returns-clause-flight
returns-clause-flight g c = let (live, _, run_is) = c.requires.idle in let (_, near, count) = c.requires.held in
    let (_, _, me) = c.load.ensures in let l : ℕ = c.args.due.node in
    let m : Sat = c.args.seat.now.me in let run : Run = c.args.context.now.run.now in
    subst (λ (x : Sat). IsInFlight run x.0 l c.args.due.fired)
    (sym (left l m c.load.new.seat.me me)) (record {
      live = live;
      phase = refl;
      node_is = refl;
      run_is = run_is;
      count = count;
      near = near;
      enabled = c.requires.ready;
    })

pub returns-clause-unwritten : goal.returns-clause-unwritten
returns-clause-unwritten g c = let (_, _, me) = c.load.ensures in ap (λ (x : Sat). x.0.written)
    (left c.args.due.node c.args.seat.now.me c.load.new.seat.me me)
