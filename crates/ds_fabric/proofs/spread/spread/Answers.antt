use Rattle.std.proofs.Common.{◌∙◌, ◌≡◌, ◌<◌, ◌≤◌, ◌+◌, ◌*◌, ℕ, List, sym, arith, subst}
use Rattle.std.proofs.Common.{◌⊎◌, inl, inr, ⊎_elim, ◌%◌}
use mathlib.Core.Logic.{dite}
use mathlib.Core.Option.{some}
use native.Mathlib.Decide.{ℕ_discrete, dec_lt}
use lib.ListN.{get_elem?}
use Rattle.ds_rule.specs.Run.{Run, node_of, turns}
use Rattle.ds_rule.proofs.EventLaws.{node-low, node-high}
use Rattle.ds_fabric.specs.HistoryList.{ticket_in}
use Rattle.ds_fabric.specs.Spread.{IsInside}
use Rattle.ds_fabric.specs.declared.history.History.{History}
use Rattle.ds_fabric.proofs.spread.spread.Goals as goal

-- the node of each event that is put
first-here : (run : Run) (l n e : ℕ) → n ≡ run.design_nodes → l < n → e ≡ 2 * l → node_of run e ≡ l
first-here run l n e is low e-is = omega (arith, node-low run e (omega arith))

second-here : (run : Run) (l n e : ℕ) → n ≡ run.design_nodes → l < n → e ≡ 2 * l + 1
    → node_of run e ≡ l
second-here run l n e is low e-is = omega (arith, node-low run e (omega arith))

one-here : (run : Run) (l n e : ℕ) → n ≡ run.design_nodes → n ≤ l → e ≡ l + n → node_of run e ≡ l
one-here run l n e is high e-is = omega (arith, node-high run e (omega arith))

-- and there are no others
two-alone : (run : Run) (l n e : ℕ) → n ≡ run.design_nodes → l < n → node_of run e ≡ l
    → (e ≡ 2 * l) ⊎ (e ≡ 2 * l + 1)
two-alone run l n e is low here = dite (dec_lt e (2 * run.design_nodes))
    (λ y. let h = node-low run e y in
    dite (ℕ_discrete (e % 2) 0) (λ even. inl (omega arith)) (λ odd. inr (omega arith)))
    (λ n. absurd (omega (arith, node-high run e (omega arith))))

one-alone : (run : Run) (l n e : ℕ) → n ≡ run.design_nodes → n ≤ l → node_of run e ≡ l → e ≡ l + n
one-alone run l n e is high here = dite (dec_lt e (2 * run.design_nodes))
    (λ y. absurd (omega (arith, node-low run e y)))
    (λ n. omega (arith, node-high run e (omega arith)))

pub put-requires : goal.put-requires
put-requires c = let (run, can) = c.requires.can in (
  run,
  can.design_nodes_is,
  can.inside c.new.result (first-here run c.args.history.now.node
      c.args.design_nodes c.new.result can.design_nodes_is c.if-history-design_nodes.true
      c.new.ensures),
)

pub put-requires-then-history-design_nodes : goal.put-requires-then-history-design_nodes
put-requires-then-history-design_nodes c = let (run, can) = c.requires.can in
    let e : ℕ = c.new-then-history-design_nodes.result in (
      run,
      can.design_nodes_is,
      subst (λ (x : ℕ). IsInside run c.args.history.now c.args.words.now e x)
          (sym c.put.ensures.long)
          (can.inside e (second-here run c.args.history.now.node c.args.design_nodes e
          can.design_nodes_is c.if-history-design_nodes.true
          c.new-then-history-design_nodes.ensures)),
    )

pub put-requires-else-history-design_nodes : goal.put-requires-else-history-design_nodes
put-requires-else-history-design_nodes c = let (run, can) = c.requires.can in
    let e : ℕ = c.new-else-history-design_nodes.result in (
      run,
      can.design_nodes_is,
      can.inside e (one-here run c.args.history.now.node c.args.design_nodes e
          can.design_nodes_is (omega (arith, c.if-history-design_nodes.false))
          c.new-else-history-design_nodes.ensures),
    )

pub returns-then-history-design_nodes-clause-filled : goal.returns-then-history-design_nodes-clause-filled
returns-then-history-design_nodes-clause-filled c run can e here k below =
    let h : History = c.args.history.now in let ws : List ℕ = c.args.words.now in
    let l : ℕ = h.node in let n : ℕ = c.args.design_nodes in
    let d : ℕ = c.new.result in let d' : ℕ = c.new-then-history-design_nodes.result in
    let low = c.if-history-design_nodes.true in
    let on = first-here run l n d can.design_nodes_is low c.new.ensures in
    let on' = second-here run l n d' can.design_nodes_is low
    c.new-then-history-design_nodes.ensures in
    ⊎_elim
    (λ first. let is : e ≡ d = first ∙ sym c.new.ensures in
    c.put-then-history-design_nodes.ensures.kept run can.design_nodes_is (ticket_in run h ws e k) e
    (subst (λ (x : ℕ). get_elem? c.put.new.out (ticket_in run h ws x k) ≡ some x) (sym is)
    (c.put.ensures.filled run can.design_nodes_is k
    (subst (λ (x : ℕ). k < turns run x h.fired) is below)))
    (λ m below-m same. can.distinct d' e on' here
    (λ z. omega (arith, z, first, c.new-then-history-design_nodes.ensures)) m k below-m below
    same))
    (λ second. let is : e ≡ d' = second ∙ sym c.new-then-history-design_nodes.ensures in
    subst (λ (x : ℕ). get_elem? c.put-then-history-design_nodes.new.out (ticket_in run h ws x k)
    ≡ some x) (sym is) (c.put-then-history-design_nodes.ensures.filled run can.design_nodes_is k
    (subst (λ (x : ℕ). k < turns run x h.fired) is below)))
    (two-alone run l n e can.design_nodes_is low here)

pub returns-then-history-design_nodes-clause-kept : goal.returns-then-history-design_nodes-clause-kept
returns-then-history-design_nodes-clause-kept c run is t x at nowhere =
    let l : ℕ = c.args.history.now.node in let n : ℕ = c.args.design_nodes in
    let d : ℕ = c.new.result in let d' : ℕ = c.new-then-history-design_nodes.result in
    let low = c.if-history-design_nodes.true in
    c.put-then-history-design_nodes.ensures.kept run is t x
    (c.put.ensures.kept run is t x at
    (λ k below. nowhere d k (first-here run l n d is low c.new.ensures) below))
    (λ k below. nowhere d' k
    (second-here run l n d' is low c.new-then-history-design_nodes.ensures) below)

pub returns-else-history-design_nodes-clause-filled : goal.returns-else-history-design_nodes-clause-filled
returns-else-history-design_nodes-clause-filled c run can e here k below =
    let h : History = c.args.history.now in let ws : List ℕ = c.args.words.now in
    let l : ℕ = h.node in let n : ℕ = c.args.design_nodes in
    let d : ℕ = c.new-else-history-design_nodes.result in
    let high : n ≤ l = omega (arith, c.if-history-design_nodes.false) in
    let is : e ≡ d = one-alone run l n e can.design_nodes_is high here
    ∙ sym c.new-else-history-design_nodes.ensures in
    subst (λ (x : ℕ). get_elem? c.put-else-history-design_nodes.new.out (ticket_in run h ws x k)
    ≡ some x) (sym is) (c.put-else-history-design_nodes.ensures.filled run can.design_nodes_is k
    (subst (λ (x : ℕ). k < turns run x h.fired) is below))

pub returns-else-history-design_nodes-clause-kept : goal.returns-else-history-design_nodes-clause-kept
returns-else-history-design_nodes-clause-kept c run is t x at nowhere =
    let l : ℕ = c.args.history.now.node in let n : ℕ = c.args.design_nodes in
    let d : ℕ = c.new-else-history-design_nodes.result in
    let high : n ≤ l = omega (arith, c.if-history-design_nodes.false) in
    c.put-else-history-design_nodes.ensures.kept run is t x at
    (λ k below. nowhere d k
    (one-here run l n d is high c.new-else-history-design_nodes.ensures) below)
