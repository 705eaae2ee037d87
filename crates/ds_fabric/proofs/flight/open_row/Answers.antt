use Rattle.std.proofs.Common.{◌∙◌, ℕ, Bool, ap, arith, length, sym}
use Rattle.ds_rule.specs.Run.{Run}
use Rattle.ds_rule.specs.Rows.{supply_but}
use Rattle.ds_fabric.proofs.flight.open_row.Goals as goal

pub read_rows-requires-clause-flight : goal.read_rows-requires-clause-flight
read_rows-requires-clause-flight g c = let (opening, away) = c.requires.flight in (opening, away.run_is)

pub compute-requires-clause-node : goal.compute-requires-clause-node
compute-requires-clause-node g c = let (node, _) = c.requires.within in omega (
  arith,
  node,
  c.new.ensures,
  ap (λ (r : Run). r.design_nodes) c.args.context.now.computes,
)

pub compute-requires-clause-turn : goal.compute-requires-clause-turn
compute-requires-clause-turn g c = let (opening, _) = c.requires.flight in let (_, turn) = c.requires.within in (
  omega (arith, opening.number),
  omega (arith, turn, ap (λ (r : Run). r.limit) c.args.context.now.computes),
)

pub compute-requires-clause-from : goal.compute-requires-clause-from
compute-requires-clause-from g c =
    let k : ℕ = c.args.opening.turn in let at : Run = g.C.Compute.run c.args.context.now.openings.now in
    let learnt : ℕ → Bool = λ p. g.C.Compute.has_learnt c.args.context.now.openings.now
    c.args.scratch.now p k in
    c.as_slice-from.ensures.value ∙ (c.read_rows.ensures.value
    ∙ (ap (λ (r : Run). supply_but r learnt c.args.opening.node k (length r.edges))
    (sym c.args.context.now.computes)
    ∙ ap (λ (l : ℕ). supply_but at learnt l k (length at.edges)) (sym c.new.ensures)))

pub returns-clause-remembers : goal.returns-clause-remembers
returns-clause-remembers g c = c.compute.ensures.remembers
