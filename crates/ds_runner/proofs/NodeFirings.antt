-- The firings of nodes are those of their events, and passes that come together bring their tickets.
use Rattle.std.proofs.Common.{◌≡◌, ℕ, zero, suc, ◌+◌, ◌-◌, ◌*◌, ◌<◌, ◌≤◌, cond, true, false, Bool, [], length}
use Rattle.std.proofs.Common.{sym, refl, ap, ◌∙◌, subst, arith}
use mathlib.Core.Logic.{dite}
use native.Mathlib.Decide.{ℕ_discrete}
use Rattle.ds_rule.specs.Run.{Run, events, node_of, turns}
use Rattle.ds_rule.specs.Rule.{holds, seen, tickets}
use Rattle.ds_rule.specs.Plays.{taken_in}
use Rattle.ds_rule.specs.declared.view.View.{View}
use Rattle.ds_rule.proofs.EventLaws.{events-is, event_below, node-high, node-low, node_below, turns-high, turns-low}
use Rattle.ds_rule.proofs.GetElemLemmas.{get-listed}
use Rattle.ds_fabric.specs.Base.{Base}
use Rattle.ds_fabric.specs.Showing.{IsCounted, Showing}
use Rattle.ds_runner.specs.TurnstileRule.{Alone, sum_below}
use Rattle.ds_runner.proofs.TurnstileRuleLemmas.{sum_same}
use Rattle.ds_runner.specs.Work.{all_tickets, tickets_below}
use Rattle.ds_runner.proofs.FiniteSums.{sum-next}

-- how often each event has fired, where each node has fired so many times
abbrev turns_of : Run → (ℕ → ℕ) → ℕ → ℕ
turns_of run f e = turns run e (f (node_of run e))

-- of the first latches, the firings of both events together are those of the node
latch_events : (run : Run) (f : ℕ → ℕ) (n : ℕ) → n ≤ run.design_nodes
    → sum_below (turns_of run f) (2 * n) ≡ sum_below f n
latch_events run f zero low = refl
latch_events run f (suc n) low = let T : ℕ → ℕ = turns_of run f in
    let twice : 2 * suc n ≡ 2 * n + 1 + 1 = omega arith in
    let here : node_of run (2 * n) ≡ n = node-low run (2 * n) (omega arith) ∙ omega arith in
    let there : node_of run (2 * n + 1) ≡ n = node-low run (2 * n + 1) (omega arith) ∙ omega arith in
    let one : turns run (2 * n) (f (node_of run (2 * n))) ≡ turns run (2 * n) (f n) =
    ap (λ m. turns run (2 * n) (f m)) here in
    let other : turns run (2 * n + 1) (f (node_of run (2 * n + 1))) ≡ turns run (2 * n + 1) (f n) =
    ap (λ m. turns run (2 * n + 1) (f m)) there in
    let before : sum_below T (2 * n) ≡ sum_below f n = latch_events run f n (omega arith) in
    ap (sum_below T) twice ∙ omega (
      arith,
      sum-next T (2 * n + 1),
      sum-next T (2 * n),
      one,
      other,
      turns-low run (2 * n) (f n) (omega arith),
      turns-low run (2 * n + 1) (f n) (omega arith),
      before,
    )

-- and of those behind them
more_events : (run : Run) (f : ℕ → ℕ) (n : ℕ)
    → sum_below (turns_of run f) (2 * run.design_nodes + n) ≡ sum_below f (run.design_nodes + n)
more_events run f zero = let twice : 2 * run.design_nodes + 0 ≡ 2 * run.design_nodes = omega arith in
    let once : run.design_nodes ≡ run.design_nodes + 0 = omega arith in
    ap (sum_below (turns_of run f)) twice
    ∙ (latch_events run f run.design_nodes (omega arith) ∙ ap (sum_below f) once)
more_events run f (suc n) = let T : ℕ → ℕ = turns_of run f in
    let e : ℕ = 2 * run.design_nodes + n in
    let next : 2 * run.design_nodes + suc n ≡ 2 * run.design_nodes + n + 1 = omega arith in
    let next' : run.design_nodes + suc n ≡ run.design_nodes + n + 1 = omega arith in
    let here : node_of run (2 * run.design_nodes + n) ≡ run.design_nodes + n =
    node-high run (2 * run.design_nodes + n) (omega arith) ∙ omega arith in
    let one : turns run (2 * run.design_nodes + n) (f (node_of run (2 * run.design_nodes + n)))
    ≡ turns run (2 * run.design_nodes + n) (f (run.design_nodes + n)) =
    ap (λ m. turns run (2 * run.design_nodes + n) (f m)) here in
    omega (
      arith,
      ap (sum_below T) next,
      ap (sum_below f) next',
      sum-next T (2 * run.design_nodes + n),
      sum-next f (run.design_nodes + n),
      one,
      turns-high run (2 * run.design_nodes + n) (f (run.design_nodes + n)) (omega arith),
      more_events run f n,
    )

-- the events of all nodes fire as often as the nodes
pub events-nodes : (run : Run) (f : ℕ → ℕ) → run.design_nodes ≤ run.nodes
    → sum_below (λ e. turns run e (f (node_of run e))) (events run) ≡ sum_below f run.nodes
events-nodes run f among = let n : ℕ = run.nodes - run.design_nodes in
    let all : events run ≡ 2 * run.design_nodes + n = omega (arith, events-is run) in
    let nodes : run.design_nodes + n ≡ run.nodes = omega arith in
    ap (sum_below (turns_of run f)) all ∙ (more_events run f n ∙ ap (sum_below f) nodes)

-- the tickets of a pass are the firings of the nodes, where this holds of each event
pub tickets-nodes : (run : Run) (v : View) (f : ℕ → ℕ) → run.design_nodes ≤ run.nodes → v.run ≡ run
    → ((e : ℕ) → node_of run e < run.nodes → length (tickets v e) ≡ turns run e (f (node_of run e)))
    → all_tickets v ≡ sum_below f run.nodes
tickets-nodes run v f among is each = ap (λ (x : Run). tickets_below v (events x)) is
    ∙ (sum_same (λ e. length (tickets v e)) (λ e. turns run e (f (node_of run e))) (events run)
    (λ e low. each e (node_below run e among low))
    ∙ events-nodes run f among)

-- a pass took in one that holds node n alone, which brings the tickets of its node
pub taken_tickets : (b : Base) (v v' : View) (p : Showing) (n : ℕ) (f : ℕ → ℕ) → b.run.design_nodes ≤ b.run.nodes → v.run ≡ b.run
    → v' ≡ taken_in v p.view → Alone b.table_id b.run n p → IsCounted p.view → f n ≡ seen p.view n
    → ((e : ℕ) → n + 1 ≤ node_of b.run e → node_of b.run e < b.run.nodes
    → length (tickets v e) ≡ turns b.run e (f (node_of b.run e)))
    → (e : ℕ) → n ≤ node_of b.run e → node_of b.run e < b.run.nodes
    → length (tickets v' e) ≡ turns b.run e (f (node_of b.run e))
taken_tickets b v v' p n f among is joined alone counted fired each e near far =
    let run : Run = b.run in
    let low : e < events v.run = omega (arith, event_below run e among far, ap events is) in
    let now : tickets v' e ≡ cond (holds p.view (node_of v.run e)) (tickets p.view e) (tickets v e) =
    ap (λ (x : View). tickets x e) joined
    ∙ get-listed (λ x. cond (holds p.view (node_of v.run x)) (tickets p.view x) (tickets v x)) (events v.run) e [] low in
    let here : node_of v.run e ≡ node_of run e = ap (λ (r : Run). node_of r e) is in
    dite (ℕ_discrete (node_of run e) n)
    (λ own.
    let has : holds p.view (node_of v.run e) ≡ true =
    ap (holds p.view) (here ∙ own) ∙ alone.2 in
    let own-run : turns run e (seen p.view (node_of run e)) ≡ length (tickets p.view e) =
    subst (λ (r : Run). holds p.view (node_of r e) ≡ true → turns r e (seen p.view (node_of r e)) ≡ length (tickets p.view e))
    alone.1 (counted e) (ap (holds p.view) own ∙ alone.2) in
    let same : f (node_of run e) ≡ seen p.view (node_of run e) = ap f own ∙ (fired ∙ ap (seen p.view) (sym own)) in
    ap length (now ∙ ap (λ (h : Bool). cond h (tickets p.view e) (tickets v e)) has)
    ∙ (sym own-run ∙ ap (turns run e) (sym same)))
    (λ apart.
    let has : holds p.view (node_of v.run e) ≡ false = ap (holds p.view) here ∙ alone.4 (node_of run e) apart in
    ap length (now ∙ ap (λ (h : Bool). cond h (tickets p.view e) (tickets v e)) has)
    ∙ each e (omega arith) far)
