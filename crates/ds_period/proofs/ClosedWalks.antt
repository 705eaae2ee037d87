-- Arcs as edges, and what a walk that closes shows of ranks.
use Rattle.std.proofs.Common.{◌≡◌, ◌∙◌, ◌≤◌, ◌+◌, ◌↔◌, ℕ, List, [], ◌∷◌, false, true, map, arith, refl, ap, zero, suc}
use Rattle.std.specs.Prelude.{Any, IsTrue}
use Rattle.ds_marked.specs.Graph.{AreEnds, Graph}
use Rattle.ds_marked.specs.declared.marked.Arc.{Arc}
use Rattle.ds_rank.specs.Order.{HasEdge, IsCycle, IsWalk, source_at, target_at}
use Rattle.ds_rank.specs.Search.{EndsAreNodes}
use Rattle.ds_rank.specs.Free.{edge_of_arc}
use Rattle.ds_period.specs.Timing.{HasCycle, Leads}

-- an edge is an arc
pub leads_from : (arcs : List Arc) (u v : ℕ) → HasEdge (map edge_of_arc arcs) u v → Any (λ arc. (arc.source ≡ u) × (arc.target ≡ v)) arcs
leads_from [] u v (k, inside, source, target) = absurd (omega arith)
leads_from (x ∷ xs) u v (zero, inside, source, target) = (0, x, omega arith, refl, (source, target))
leads_from (x ∷ xs) u v (suc k, inside, source, target) =
    let (j, y, lt, is, p) = leads_from xs u v (k, omega arith, source, target) in (suc j, y, omega arith, is, p)

-- an arc is an edge
pub edge_by : (arcs : List Arc) (u v : ℕ) → Any (λ arc. (arc.source ≡ u) × (arc.target ≡ v)) arcs → HasEdge (map edge_of_arc arcs) u v
edge_by [] u v (k, x, inside, is, p) = absurd (omega arith)
edge_by (y ∷ ys) u v (zero, x, inside, is, (source, target)) =
    (0, omega arith, ap (λ (a : Arc). a.source) is ∙ source, ap (λ (a : Arc). a.target) is ∙ target)
edge_by (y ∷ ys) u v (suc k, x, inside, is, p) =
    let (j, lt, source, target) = edge_by ys u v (k, x, omega arith, is, p) in (suc j, omega arith, source, target)

-- the ends of the edges are events
pub ends_of : (arcs : List Arc) (n : ℕ) → AreEnds n arcs → EndsAreNodes n (map edge_of_arc arcs)
ends_of arcs n ends k inside =
    let (j, x, lt, is, (source, target)) = leads_from arcs (source_at (map edge_of_arc arcs) k) (target_at (map edge_of_arc arcs) k) (k, inside, refl, refl) in
    let low = ends j x lt in
    omega (arith, ap (λ (a : Arc). a.source) is, ap (λ (a : Arc). a.target) is, source, target, low.0, low.1)

-- along a walk ranks rise
walk_rises : (R : ℕ → ℕ → Type 0) (rank : ℕ → ℕ) → ((u v : ℕ) → R u v → rank u + 1 ≤ rank v)
    → (a : ℕ) (xs : List ℕ) (b : ℕ) → IsWalk R a xs b → rank a + 1 ≤ rank b
walk_rises R rank rises a [] b leads = rises a b leads
walk_rises R rank rises a (x ∷ xs) b (leads, rest) =
    let here = rises a x leads in let there = walk_rises R rank rises x xs b rest in omega arith

-- so no walk closes where they rise along each arc
pub none_closes : (g : Graph) (rank : ℕ → ℕ) → ((u v : ℕ) → Leads g u v → rank u + 1 ≤ rank v) → ¬ HasCycle g
none_closes g rank rises (start, events, walk) =
    let up = walk_rises (Leads g) rank rises start events start walk in absurd (omega (arith, up))

-- a cycle closes
pub cycle_closes : (g : Graph) (events : List ℕ) → IsCycle (Leads g) events → HasCycle g
cycle_closes g [] bad = absurd bad
cycle_closes g (x ∷ xs) cycle = (x, xs, cycle.0)

-- the test is false where there is none
pub none_there : (g : Graph) → ¬ HasCycle g → IsTrue false ↔ HasCycle g
none_there g none = (λ is. absurd (let e : false ≡ true = is in cc), λ cycle. absurd (none cycle))

-- and true where there is one
pub some_there : (g : Graph) → HasCycle g → IsTrue true ↔ HasCycle g
some_there g cycle = (λ is. cycle, λ there. refl)
