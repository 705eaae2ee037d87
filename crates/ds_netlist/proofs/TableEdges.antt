-- The edges of the tables lead from their inputs to their outputs.
use Rattle.std.proofs.Common.{◌≡◌, ◌⊎◌, ◌<◌, ℕ, List, [], ◌∷◌, ◌++◌, arith, refl, zero, suc, sym, subst, inl, inr}
use Rattle.std.specs.List.{All, Contains}
use Rattle.std.proofs.lemmas.List.Elements.{All-contains}
use Rattle.ds_design.specs.declared.design.Gate.{Gate}
use Rattle.ds_rank.specs.declared.edge.Edge.{Edge}
use Rattle.ds_rank.specs.Order.{HasEdge, source_at, target_at}
use Rattle.ds_rank.specs.Search.{EndsAreNodes}
use Rattle.ds_netlist.specs.Edges.{FeedsIn, edges_into, edges_of}

-- an edge behind the first one
there : (e : Edge) (edges : List Edge) (u v : ℕ) → HasEdge edges u v → HasEdge (e ∷ edges) u v
there e edges u v (k, inside, source, target) = (suc k, omega arith, source, target)

-- an edge of joined lists is in one of them
joined : (xs ys : List Edge) (u v : ℕ) → HasEdge (xs ++ ys) u v → HasEdge xs u v ⊎ HasEdge ys u v
joined [] ys u v h = inr h
joined (x ∷ xs) ys u v (zero, inside, source, target) = inl (0, omega arith, source, target)
joined (x ∷ xs) ys u v (suc k, inside, source, target) = elim (joined xs ys u v (k, omega arith, source, target)) [
  | inl h ↦ inl (there x xs u v h)
  | inr h ↦ inr h
]

-- an edge of the first list
in_left : (xs ys : List Edge) (u v : ℕ) → HasEdge xs u v → HasEdge (xs ++ ys) u v
in_left [] ys u v (k, inside, source, target) = absurd (omega arith)
in_left (x ∷ xs) ys u v (zero, inside, source, target) = (0, omega arith, source, target)
in_left (x ∷ xs) ys u v (suc k, inside, source, target) =
    there x (xs ++ ys) u v (in_left xs ys u v (k, omega arith, source, target))

-- an edge of the second list
in_right : (xs ys : List Edge) (u v : ℕ) → HasEdge ys u v → HasEdge (xs ++ ys) u v
in_right [] ys u v h = h
in_right (x ∷ xs) ys u v h = there x (xs ++ ys) u v (in_right xs ys u v h)

-- an edge into the output comes from an input
into_from : (output : ℕ) (inputs : List ℕ) (u v : ℕ) → HasEdge (edges_into output inputs) u v
    → Contains inputs u × (output ≡ v)
into_from output [] u v (k, inside, source, target) = absurd (omega arith)
into_from output (x ∷ xs) u v (zero, inside, source, target) = ((0, omega arith, source), target)
into_from output (x ∷ xs) u v (suc k, inside, source, target) =
    let ((i, lt, is), same) = into_from output xs u v (k, omega arith, source, target) in
    ((suc i, omega arith, is), same)

-- each input has an edge into the output
into_of : (output : ℕ) (inputs : List ℕ) (u : ℕ) → Contains inputs u → HasEdge (edges_into output inputs) u output
into_of output [] u (k, inside, is) = absurd (omega arith)
into_of output (x ∷ xs) u (zero, inside, is) = (0, omega arith, is, refl)
into_of output (x ∷ xs) u (suc k, inside, is) =
    there (record { source = x; target = output }) (edges_into output xs) u output (into_of output xs u (k, omega arith, is))

-- an edge of the tables leads from an input of a table to its output
pub fed_from : (tables : List Gate) (u v : ℕ) → HasEdge (edges_of tables) u v → FeedsIn tables u v
fed_from [] u v (k, inside, source, target) = absurd (omega arith)
fed_from (t ∷ ts) u v h = elim (joined (edges_into t.output t.table.inputs) (edges_of ts) u v h) [
  | inl e ↦ (0, t, omega arith, refl, into_from t.output t.table.inputs u v e)
  | inr e ↦ let (k, x, inside, is, p) = fed_from ts u v e in (suc k, x, omega arith, is, p)
]

-- each input of a table has an edge to its output
pub fed_into : (tables : List Gate) (u v : ℕ) → FeedsIn tables u v → HasEdge (edges_of tables) u v
fed_into [] u v (k, x, inside, is, p) = absurd (omega arith)
fed_into (t ∷ ts) u v (zero, x, inside, is, (feeds, output)) =
    in_left (edges_into t.output t.table.inputs) (edges_of ts) u v
    (subst (λ (w : ℕ). HasEdge (edges_into t.output t.table.inputs) u w) (rw is output)
    (into_of t.output t.table.inputs u (rw is feeds)))
fed_into (t ∷ ts) u v (suc k, x, inside, is, p) =
    in_right (edges_into t.output t.table.inputs) (edges_of ts) u v (fed_into ts u v (k, x, omega arith, is, p))

-- the ends of the edges are nets
pub fed_ends : (tables : List Gate) (n : ℕ)
    → All (λ t. All (λ net. net < n) t.table.inputs × (t.output < n)) tables → EndsAreNodes n (edges_of tables)
fed_ends tables n h k inside =
    let (j, t, lt, is, (feeds, output)) = fed_from tables (source_at (edges_of tables) k) (target_at (edges_of tables) k) (k, inside, refl, refl) in
    let nets = h j t lt in (
      All-contains (λ net. net < n) t.table.inputs (source_at (edges_of tables) k) (rw is at nets.0) feeds,
      rw (sym output, ← is) nets.1,
    )
