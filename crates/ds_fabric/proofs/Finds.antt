-- The history of a node, found by its place.
use Rattle.std.proofs.Common.{◌≡◌, ◌∙◌, ◌<◌, ℕ, List, ap, get_or, length, sym, subst}
use mathlib.Core.Option.{some}
use lib.ListN.{get_elem?}
use Rattle.atomic_table.proofs.Lists.{at_index}
use Rattle.ds_rule.proofs.GetElemLemmas.{at_below, same_at}
use Rattle.ds_fabric.specs.declared.history.History.{History}
use Rattle.ds_fabric.specs.Indexed.{IsIndexed, IsHistoryAt}

-- the same of the same lists
pub indexed_same : (m r : ℕ) (ns zs : List History) (ps qs : List ℕ) → zs ≡ ns → qs ≡ ps
    → IsIndexed m r (length ns) ns ps → IsIndexed m r (length zs) zs qs
indexed_same m r ns zs ps qs a b o =
    subst (λ (xs : List History). IsIndexed m r (length xs) xs qs) (sym a)
    (subst (λ (ys : List ℕ). IsIndexed m r (length ns) ns ys) (sym b) o)

pub stands_same : (ns zs : List History) (l node : ℕ) → zs ≡ ns → l ≡ node
    → (i : ℕ) × (h : History) × (get_elem? ns i ≡ some h) × (h.node ≡ node) → (i : ℕ)
    × IsHistoryAt zs i l
stands_same ns zs l node a b f = (
  f.0,
  (
    f.1,
    subst (λ (xs : List History). get_elem? xs f.0 ≡ some f.1) (sym a) f.2,
    f.3
        ∙ sym b,
  ),
)

-- the history that stands there is the node's
pub at_node : (zs : List History) (i l node : ℕ) → l ≡ node → IsHistoryAt zs i l
    → (h : History) × (get_elem? zs i ≡ some h) × (h.node ≡ node)
at_node zs i l node e f = (f.0, f.1, f.2 ∙ e)

pub stands_below : (ns zs : List History) (i l : ℕ) → zs ≡ ns → IsHistoryAt zs i l → i < length ns
stands_below ns zs i l e f =
    at_below ns i f.0 (subst (λ (xs : List History). get_elem? xs i ≡ some f.0) e f.1)

-- the history that was found is that of the node, in the list that was looked through
pub found_at : (ns zs : List History) (i l node : ℕ) → zs ≡ ns → l ≡ node → IsHistoryAt zs i l
    → IsHistoryAt ns i node
found_at ns zs i l node e n f =
    (f.0, subst (λ (xs : List History). get_elem? xs i ≡ some f.0) e f.1, f.2 ∙ n)

-- the history that was found is one of the pass
pub there : (ns zs : List History) (i l : ℕ) (h : History) → zs ≡ ns → (x : History)
    × (get_elem? zs i ≡ some x) × (x.node ≡ l)
    → h ≡ get_or ns i h → get_elem? ns i ≡ some h
there ns zs i l h e f is =
    at_index ns i h (at_below ns i f.0 (subst
    (λ (xs : List History). get_elem? xs i ≡ some f.0) e f.1)) is

-- the node of the history that was found
pub node-found : (ns zs : List History) (i l node : ℕ) (h : History) → zs ≡ ns → l ≡ node
    → get_elem? ns i ≡ some h
    → (x : History) × (get_elem? zs i ≡ some x) × (x.node ≡ l) → h.node ≡ node
node-found ns zs i l node h e n at f =
    ap (λ (x : History). x.node) (same_at ns i h f.0 at
    (subst (λ (xs : List History). get_elem? xs i ≡ some f.0) e f.1)) ∙ (f.2 ∙ n)
