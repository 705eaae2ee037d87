-- The edges of the arcs without tokens are these arcs.
use Rattle.std.proofs.Common.{◌≡◌, ◌≢◌, ◌∙◌, ◌<◌, ℕ, List, [], ◌∷◌, ◌++◌, arith, refl, zero, suc, sym, ap, subst, inl, inr}
use Rattle.std.specs.List.{All, Any}
use Rattle.std.proofs.lemmas.Bool.{cases_eq}
use Rattle.ds_marked.specs.declared.marked.Arc.{Arc}
use Rattle.ds_rank.specs.declared.edge.Edge.{Edge}
use Rattle.ds_rank.specs.Order.{HasEdge, source_at, target_at}
use Rattle.ds_rank.specs.Search.{EndsAreNodes}
use Rattle.ds_rank.specs.Free.{edge_of_arc, free_part, with_free}

-- an arc without tokens leads from u to v
abbrev pub Leads : List Arc → ℕ → ℕ → Type 0
Leads arcs u v = Any (λ arc. (arc.source ≡ u) × (arc.target ≡ v) × (arc.tokens ≡ 0)) arcs

-- an arc without tokens is an edge
pub free_yes : (arc : Arc) (arcs : List Arc) → arc.tokens ≡ 0 → free_part (arc ∷ arcs) ≡ edge_of_arc arc ∷ free_part arcs
free_yes arc arcs e = rw e refl

-- an arc with tokens is none
pub free_no : (arc : Arc) (arcs : List Arc) → arc.tokens ≢ 0 → free_part (arc ∷ arcs) ≡ free_part arcs
free_no arc arcs ne = some arc.tokens ne
  where
    some : (tokens : ℕ) → tokens ≢ 0 → with_free tokens arc (free_part arcs) ≡ free_part arcs
    some zero ne = absurd (ne refl)
    some (suc tokens) ne = refl

-- the edges of joined lists
pub free_join : (xs ys : List Arc) → free_part (xs ++ ys) ≡ free_part xs ++ free_part ys
free_join [] ys = refl
free_join (arc ∷ xs) ys = elim (cases_eq arc.tokens 0) [
  | inl e ↦ free_yes arc (xs ++ ys) e ∙ ap (λ (es : List Edge). edge_of_arc arc ∷ es) (free_join xs ys)
      ∙ ap (λ (es : List Edge). es ++ free_part ys) (sym (free_yes arc xs e))
  | inr ne ↦ free_no arc (xs ++ ys) ne ∙ free_join xs ys
      ∙ ap (λ (es : List Edge). es ++ free_part ys) (sym (free_no arc xs ne))
]

-- an edge behind the first one
edge_there : (e : Edge) (edges : List Edge) (u v : ℕ) → HasEdge edges u v → HasEdge (e ∷ edges) u v
edge_there e edges u v (k, inside, source, target) = (suc k, omega arith, source, target)

-- an arc behind the first one
arc_there : (arc : Arc) (arcs : List Arc) (u v : ℕ) → Leads arcs u v → Leads (arc ∷ arcs) u v
arc_there arc arcs u v (k, x, inside, is, p) = (suc k, x, omega arith, is, p)

-- an edge of a first arc without tokens, or one behind it
here : (arc : Arc) (arcs : List Arc) (u v : ℕ) → (HasEdge (free_part arcs) u v → Leads arcs u v)
    → arc.tokens ≡ 0 → HasEdge (edge_of_arc arc ∷ free_part arcs) u v → Leads (arc ∷ arcs) u v
here arc arcs u v rest e (zero, inside, source, target) = (0, arc, omega arith, refl, (source, target, e))
here arc arcs u v rest e (suc k, inside, source, target) = arc_there arc arcs u v (rest (k, omega arith, source, target))

-- an edge is an arc without tokens
pub free_from : (arcs : List Arc) (u v : ℕ) → HasEdge (free_part arcs) u v → Leads arcs u v
free_from [] u v (k, inside, source, target) = absurd (omega arith)
free_from (arc ∷ arcs) u v h = elim (cases_eq arc.tokens 0) [
  | inl e ↦ here arc arcs u v (free_from arcs u v) e (subst (λ (es : List Edge). HasEdge es u v) (free_yes arc arcs e) h)
  | inr ne ↦ arc_there arc arcs u v (free_from arcs u v (subst (λ (es : List Edge). HasEdge es u v) (free_no arc arcs ne) h))
]

-- an arc without tokens is an edge
pub free_into : (arcs : List Arc) (u v : ℕ) → Leads arcs u v → HasEdge (free_part arcs) u v
free_into [] u v (k, x, inside, is, p) = absurd (omega arith)
free_into (arc ∷ arcs) u v (zero, x, inside, is, p) =
    let e : arc.tokens ≡ 0 = rw is p.2 in
    rw (free_yes arc arcs e) (0, omega arith, rw is p.0, rw is p.1)
free_into (arc ∷ arcs) u v (suc k, x, inside, is, p) =
    let rest = free_into arcs u v (k, x, omega arith, is, p) in
    elim (cases_eq arc.tokens 0) [
      | inl e ↦ rw (free_yes arc arcs e) (edge_there (edge_of_arc arc) (free_part arcs) u v rest)
      | inr ne ↦ rw (free_no arc arcs ne) rest
    ]

-- the ends of the edges are events
pub free_ends : (arcs : List Arc) (n : ℕ) → All (λ arc. (arc.source < n) × (arc.target < n)) arcs → EndsAreNodes n (free_part arcs)
free_ends arcs n h k inside =
    let (j, x, lt, is, p) = free_from arcs (source_at (free_part arcs) k) (target_at (free_part arcs) k) (k, inside, refl, refl) in
    let ends = h j x lt in
    (rw (sym p.0, ← is) ends.0, rw (sym p.1, ← is) ends.1)
