-- First parts of the orders of nodes.
use Rattle.std.proofs.Common.{◌≡◌, ℕ, zero, suc, ◌+◌, ◌-◌, ◌<◌, List, [], ◌∷◌, ◌++◌, ap, sym, ◌∙◌, arith, append_assoc}
use Rattle.std.proofs.Common.{Result, Ok, Err, OnErr}
use Rattle.ds_marked.specs.declared.marked.Arc.{Arc}
use Rattle.ds_control.specs.Orders.{closing_arc, opening_arc, node_arcs}
use Rattle.ds_control.specs.Part.{PushesPart}
use Rattle.ds_control.proofs.TwoForEach.{flat_map_next}

-- what holds anyway holds beside an error
pub on_any : {T E : Type 0} (r : Result T E) (P : Type 0) → P → OnErr r P
on_any (Ok x) P p = tt
on_any (Err e) P p = p

-- the orders of more nodes begin with those of fewer, and then come those of the next one
node_rest : (i k : ℕ) → (rest : List Arc) × (node_arcs (i + 1 + k) ≡ node_arcs i ++ closing_arc i ∷ opening_arc i ∷ rest)
node_rest i zero = ([], ap node_arcs (let e : i + 1 + 0 ≡ i + 1 = omega arith in e) ∙ flat_map_next (λ n. closing_arc n ∷ opening_arc n ∷ []) i)
node_rest i (suc k) =
    let (rest, is) = node_rest i k in
    let j : ℕ = i + 1 + k in
    let two : List Arc = closing_arc j ∷ opening_arc j ∷ [] in (
      rest ++ two,
      ap node_arcs (let e : i + 1 + suc k ≡ j + 1 = omega arith in e)
          ∙ (flat_map_next (λ n. closing_arc n ∷ opening_arc n ∷ []) j
          ∙ (ap (λ (xs : List Arc). xs ++ two) is
          ∙ append_assoc (node_arcs i) (closing_arc i ∷ opening_arc i ∷ rest) two)),
    )

next_rest : (i n : ℕ) → i < n → (rest : List Arc) × (node_arcs n ≡ node_arcs i ++ closing_arc i ∷ opening_arc i ∷ rest)
next_rest i n low =
    let (rest, is) = node_rest i (n - (i + 1)) in
    (rest, ap node_arcs (let e : n ≡ i + 1 + (n - (i + 1)) = omega (low, arith) in e) ∙ is)

-- the orders of so many nodes were put behind
pub nodes_pushed : (old new : List Arc) (i n : ℕ) → i < n → new ≡ old ++ node_arcs i → PushesPart old new (node_arcs n)
nodes_pushed old new i n low is =
    let (rest, all) = next_rest i n low in record {
      part = node_arcs i;
      rest = closing_arc i ∷ opening_arc i ∷ rest;
      items_are = all;
      new_is = is;
    }

-- and the first one of the next node
pub closing_pushed : (old new : List Arc) (i n : ℕ) (a : Arc) → i < n → new ≡ (old ++ node_arcs i) ++ a ∷ [] → a ≡ closing_arc i → PushesPart old new (node_arcs n)
closing_pushed old new i n a low is first =
    let (rest, all) = next_rest i n low in record {
      part = node_arcs i ++ closing_arc i ∷ [];
      rest = opening_arc i ∷ rest;
      items_are = all ∙ sym (append_assoc (node_arcs i) (closing_arc i ∷ []) (opening_arc i ∷ rest));
      new_is = is ∙ (append_assoc old (node_arcs i) (a ∷ []) ∙ ap (λ (x : Arc). old ++ (node_arcs i ++ x ∷ [])) first);
    }
