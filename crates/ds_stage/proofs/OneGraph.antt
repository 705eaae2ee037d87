-- A split design has one graph of its required orders.
use Rattle.std.proofs.Common.{◌≡◌, ◌∙◌, ◌⊎◌, ℕ, zero, suc, ◌<◌, List, [], ◌∷◌, length, get_or, inl, inr, refl, arith, ap, ap₂, sym, subst}
use Rattle.std.specs.Prelude.{AllPairs}
use Rattle.ds_marked.specs.Graph.{Graph, IsArc, StandsBefore}
use Rattle.ds_marked.specs.declared.marked.Arc.{Arc}
use Rattle.ds_marked.specs.declared.marked.Event.{Event}
use Rattle.ds_control.specs.Control.{EndsDiffer}
use Rattle.ds_latch.specs.Node.{Split}
use Rattle.ds_stage.specs.GraphStage.{IsGraphOf}

-- some arc
abbrev any : Arc
any = record { source = 0; target = 0; tokens = 0 }

-- an arc stands before another one, with other ends
abbrev Below : Arc → Arc → Type 0
Below a b = (a.source < b.source) ⊎ ((a.source ≡ b.source) × (a.target < b.target))

below : (a b : Arc) → StandsBefore a b → EndsDiffer a b → Below a b
below a b (inl less) differ = inl less
below a b (inr (same, inl less)) differ = inr (same, less)
below a b (inr (same, inr (also, few))) differ = absurd (differ (same, also))

not_self : (a : Arc) → ¬ Below a a
not_self a (inl less) = omega arith
not_self a (inr (same, less)) = omega arith

not_both : (a b : Arc) → Below a b → ¬ Below b a
not_both a b (inl less) (inl more) = omega arith
not_both a b (inl less) (inr (same, more)) = omega arith
not_both a b (inr (same, less)) (inl more) = omega arith
not_both a b (inr (same, less)) (inr (also, more)) = omega arith

-- an arc is among these
abbrev Has : List Arc → Arc → Type 0
Has [] a = ⊥
Has (x ∷ xs) a = (x ≡ a) ⊎ Has xs a

-- each stands before all later ones
abbrev Rising : List Arc → Type 0
Rising [] = Unit {0}
Rising (x ∷ xs) = ((a : Arc) → Has xs a → Below x a) × Rising xs

same_arcs : (xs ys : List Arc) → Rising xs → Rising ys → ((a : Arc) → Has xs a → Has ys a) → ((a : Arc) → Has ys a → Has xs a) → xs ≡ ys
same_arcs [] [] up down to from = refl
same_arcs [] (y ∷ ys) up down to from = absurd (from y (inl refl))
same_arcs (x ∷ xs) [] up down to from = absurd (to x (inl refl))
same_arcs (x ∷ xs) (y ∷ ys) (first, up) (head, down) to from =
    let same : x ≡ y = elim (to x (inl refl)) [
      | inl e ↦ sym e
      | inr later ↦ elim (from y (inl refl)) [
        | inl e ↦ e
        | inr other ↦ absurd (not_both x y (first y other) (head x later))
      ]
    ] in
    ap₂ (λ (a : Arc) (rest : List Arc). a ∷ rest) same
    (same_arcs xs ys up down
    (λ a is. elim (to a (inr is)) [
      | inl e ↦ absurd (not_self x (subst (λ (b : Arc). Below x b) (sym e ∙ sym same) (first a is)))
      | inr later ↦ later
    ])
    (λ a is. elim (from a (inr is)) [
      | inl e ↦ absurd (not_self y (subst (λ (b : Arc). Below y b) (sym e ∙ same) (head a is)))
      | inr later ↦ later
    ]))

has_at : (xs : List Arc) (k : ℕ) (d : Arc) → k < length xs → Has xs (get_or xs k d)
has_at [] k d inside = absurd (omega arith)
has_at (x ∷ xs) zero d inside = inl refl
has_at (x ∷ xs) (suc k) d inside = inr (has_at xs k d (omega arith))

at_has : (xs : List Arc) (a : Arc) → Has xs a → (k : ℕ) × (k < length xs) × (get_or xs k a ≡ a)
at_has [] a is = absurd is
at_has (x ∷ xs) a (inl e) = (0, omega arith, e)
at_has (x ∷ xs) a (inr is) = let (k, inside, e) = at_has xs a is in (suc k, omega arith, e)

rising : (xs : List Arc) → AllPairs StandsBefore xs → AllPairs EndsDiffer xs → Rising xs
rising [] sorted differ = tt
rising (x ∷ xs) sorted differ = (
  λ a is.
      let (k, inside, e) = at_has xs a is in
      subst (λ (b : Arc). Below x b) e (below x (get_or xs k a) (sorted 0 (suc k) a (omega arith) (omega arith)) (differ 0 (suc k) a (omega arith) (omega arith))),
  rising xs (λ i j d less inside. sorted (suc i) (suc j) d (omega arith) (omega arith)) (λ i j d less inside. differ (suc i) (suc j) d (omega arith) (omega arith)),
)

arc_same : (a b : Arc) → a.source ≡ b.source → a.target ≡ b.target → a.tokens ≡ b.tokens → a ≡ b
arc_same a b e f h =
    ap (λ (n : ℕ). record { source = n; target = a.target; tokens = a.tokens }) e
    ∙ (ap (λ (n : ℕ). record { source = b.source; target = n; tokens = a.tokens }) f
    ∙ ap (λ (n : ℕ). record { source = b.source; target = b.target; tokens = n }) h)

is_arc : (g : Graph) (a : Arc) → Has g.arcs a → IsArc g a.source a.target a.tokens
is_arc g a is = let (k, inside, e) = at_has g.arcs a is in (k, a, inside, e, (refl, refl, refl))

has_arc : (g : Graph) (a : Arc) → IsArc g a.source a.target a.tokens → Has g.arcs a
has_arc g a (k, x, inside, at, (source, target, tokens)) =
    subst (λ (b : Arc). Has g.arcs b) (at ∙ arc_same x a source target tokens) (has_at g.arcs k x inside)

-- an arc of one graph is one of the other
moved : (s : Split) (g h : Graph) → IsGraphOf s g → IsGraphOf s h → (a : Arc) → Has g.arcs a → Has h.arcs a
moved s g h one other a is = has_arc h a ((other.orders a.source a.target a.tokens).0 ((one.orders a.source a.target a.tokens).1 (is_arc g a is)))

pub one_graph : (s : Split) (g h : Graph) → IsGraphOf s g → IsGraphOf s h → g ≡ h
one_graph s g h one other =
    let arcs : g.arcs ≡ h.arcs =
    same_arcs g.arcs h.arcs (rising g.arcs one.kept.sorted one.simple) (rising h.arcs other.kept.sorted other.simple) (moved s g h one other) (moved s h g other one) in
    ap₂ (λ (es : List Event) (kept : List Arc). record { events = es; arcs = kept }) (one.events ∙ sym other.events) arcs
