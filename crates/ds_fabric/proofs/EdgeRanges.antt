-- The edges of a node are those of a range.
use Rattle.std.proofs.Common.{◌≡◌, ◌≢◌, ◌∙◌, ◌<◌, ◌≤◌, ◌+◌, ◌-◌, ℕ, zero, suc, List, [], ◌∷◌, ◌++◌}
use Rattle.std.proofs.Common.{length, get_or, Bool, true, false}
use Rattle.std.proofs.Common.{ap, sym, subst, arith, refl, slice_index_or, length-append}
use mathlib.Core.Logic.{dite}
use mathlib.Core.Option.{some}
use lib.ListN.{get_elem?}
use native.Mathlib.Decide.{ℕ_discrete, dec_lt}
use Rattle.atomic_table.proofs.Lists.{at_index, at_last}
use Rattle.ds_rule.specs.Run.{Run}
use Rattle.ds_rule.specs.Sound.{IsSound, edge_at}
use Rattle.ds_rule.specs.Rows.{row, supply_but}
use Rattle.ds_rule.proofs.GetElemLemmas.{at_get, get-first}
use Rattle.ds_rule.proofs.RowLaws.{supply_but-past, supply_but-into, supply_but-known}
use Rattle.ds_rule.proofs.RowLaws.{edge-there}
use Rattle.ds_rule.specs.declared.table_run.DataEdge.{DataEdge}
use Rattle.ds_fabric.specs.Ranged.{IsFrom, AreFirstEdges}

-- a number that was read off a list
pub read-off : (xs : List ℕ) (i r : ℕ) → i < length xs → r ≡ slice_index_or xs i r
    → get_or xs i 0 ≡ r
read-off xs i r h is = at_get xs i r 0 (at_index xs i r h is)

-- the first edge of a node, read off
pub from_read : (run : Run) (firsts : List ℕ) (l r : ℕ) → AreFirstEdges run firsts → l ≤ run.nodes
    → r ≡ slice_index_or firsts l r → IsFrom run l r
from_read run firsts l r a h is =
    subst (IsFrom run l) (read-off firsts l r (omega (arith, a.long)) is) (a.each l h)

-- the edges of a node end behind where they begin
pub in_order : (run : Run) (l a b : ℕ) → IsFrom run l a → IsFrom run (l + 1) b → a ≤ b
in_order run l a b p q = dite (dec_lt b a)
    (λ less. let low = p.below b less in let high =
    q.above b (Rattle.std.proofs.Common.le_refl b) (omega (arith, p.near)) in
    absurd (omega arith)) (λ more. omega arith)

-- an edge of the range is one of the node
pub in_range : (run : Run) (l a b i : ℕ) → IsFrom run l a → IsFrom run (l + 1) b → a ≤ i → i < b
    → (i < length run.edges) × ((edge_at run i).consumer ≡ l)
in_range run l a b i p q from to = let near : i < length run.edges = omega (arith, q.near) in
    (near, (let low = q.below i to in let high = p.above i from near in omega arith))

pub supply_but-none : (run : Run) (learnt : ℕ → Bool) (l k n : ℕ)
    → ((j : ℕ) → j < n → (edge_at run j).consumer ≢ l) → supply_but run learnt l k n ≡ []
supply_but-none run learnt l k zero far = refl
supply_but-none run learnt l k (suc n) far = let e : suc n ≡ n + 1 = omega arith in
    ap (supply_but run learnt l k) e
    ∙ (supply_but-past run learnt l k n (far n (omega arith))
    ∙ supply_but-none run learnt l k n (λ j h. far j (omega arith)))

pub supply_but-rest : (run : Run) (learnt : ℕ → Bool) (l k m d : ℕ)
    → ((j : ℕ) → m ≤ j → j < m + d → (edge_at run j).consumer ≢ l)
    → supply_but run learnt l k (m + d) ≡ supply_but run learnt l k m
supply_but-rest run learnt l k m zero far = let e : m + 0 ≡ m = omega arith in
    ap (supply_but run learnt l k) e
supply_but-rest run learnt l k m (suc d) far = let e : m + suc d ≡ m + d + 1 = omega arith in
    ap (supply_but run learnt l k) e
    ∙ (supply_but-past run learnt l k (m + d) (far (m + d) (omega arith) (omega arith))
    ∙ supply_but-rest run learnt l k m d (λ j p q. far j p (omega arith)))

-- nothing is read before the range, and nothing behind it
pub before_range : (run : Run) (learnt : ℕ → Bool) (l k a : ℕ) → IsFrom run l a
    → supply_but run learnt l k a ≡ []
before_range run learnt l k a p = supply_but-none run learnt l k a
    (λ j h e. (let low = p.below j h in omega arith))

pub behind_range : (run : Run) (learnt : ℕ → Bool) (l k b : ℕ) → IsFrom run (l + 1) b
    → supply_but run learnt l k (length run.edges) ≡ supply_but run learnt l k b
behind_range run learnt l k b q = let n : ℕ = length run.edges in
    let e : b + (n - b) ≡ n = omega (arith, q.near) in
    ap (supply_but run learnt l k) (sym e) ∙ supply_but-rest run learnt l k b (n - b) (λ j p h c.
    (let high = q.above j p (omega (arith, q.near)) in omega arith))

-- the first edge from `at` on whose consumer is not below the node
pub stops : (run : Run) (node i : ℕ) → IsSound run → i < length run.edges
    → ((k : ℕ) → k < i → (edge_at run k).consumer < node) → node ≤ (edge_at run i).consumer
    → IsFrom run node i
stops run node i sound near before here = record {
  near = omega arith;
  below = before;
  above = λ k p h. (let up = sound.by_consumer i k p h in omega arith);
}

-- the first edge of one node more
pub firsts_more : (run : Run) (node at : ℕ) (firsts firsts' : List ℕ) → length firsts ≡ node
    → ((x : ℕ) → x < node → IsFrom run x (get_or firsts x 0)) → IsFrom run node at
    → firsts' ≡ firsts ++ at ∷ []
    → (length firsts' ≡ node + 1)
    × ((x : ℕ) → x < node + 1 → IsFrom run x (get_or firsts' x 0))
    × (at ≤ length run.edges) × ((k : ℕ) → k < at → (edge_at run k).consumer < node + 1)
firsts_more run node at firsts firsts' long each is more =
    let last : get_or (firsts ++ at ∷ []) node 0 ≡ at =
    at_get (firsts ++ at ∷ []) node at 0 (at_last firsts at node long) in (
      ap (λ (xs : List ℕ). length xs) more ∙ omega (arith, length-append firsts (at ∷ []), long),
      λ x h. subst (λ (xs : List ℕ). IsFrom run x (get_or xs x 0)) (sym more)
          (dite (ℕ_discrete x node)
          (λ e. subst (λ (y : ℕ). IsFrom run y (get_or (firsts ++ at ∷ []) y 0)) (sym e)
          (subst (IsFrom run node) (sym last) is))
          (λ n. subst (IsFrom run x) (sym (get-first firsts (at ∷ []) x (omega arith)))
          (each x (omega arith)))),
      is.near,
      λ k h. (let low = is.below k h in omega arith),
    )

-- an edge that was read
pub edge_read : (run : Run) (es : List DataEdge) (i : ℕ) (e : DataEdge) → es ≡ run.edges
    → i < length es
    → e ≡ slice_index_or es i e → (get_elem? run.edges i ≡ some e) × (edge_at run i ≡ e)
edge_read run es i e es-is h is =
    let at : get_elem? run.edges i ≡ some e =
    subst (λ (xs : List DataEdge). get_elem? xs i ≡ some e) es-is (at_index es i e h is) in
    (at, at_get run.edges i e (record { producer = 0; consumer = 0; tokens = 0 }) at)

pub edge_same : (run : Run) (es : List DataEdge) (i : ℕ) (d : DataEdge) → es ≡ run.edges
    → i < length es
    → get_or es i d ≡ edge_at run i
edge_same run es i d is h =
    ap (λ (xs : List DataEdge). get_or xs i d) is
    ∙ at_get run.edges i (edge_at run i) d (edge-there run i
    (omega (arith, ap (λ (xs : List DataEdge). length xs) is)))

-- an edge that was read, in the range of a node
pub record EdgeOf (run : Run) (l i : ℕ) (e : DataEdge) : Type 0 where
  pub near : i < length run.edges
  pub at : get_elem? run.edges i ≡ some e
  pub same : edge_at run i ≡ e
  pub into : e.consumer ≡ l

pub edge_of : (run : Run) (firsts : List ℕ) (es : List DataEdge) (l a b i : ℕ) (e : DataEdge)
    → AreFirstEdges run firsts → l < run.nodes → a ≡ slice_index_or firsts l a
    → b ≡ slice_index_or firsts (l + 1) b → es ≡ run.edges
    → a ≤ i → i < b → e ≡ slice_index_or es i e → EdgeOf run l i e
edge_of run firsts es l a b i e fs near a-is b-is es-is from to is =
    let p = from_read run firsts l a fs (omega (arith, near)) a-is in
    let q = from_read run firsts (l + 1) b fs (omega (arith, near)) b-is in
    let r = in_range run l a b i p q from to in
    let at : get_elem? run.edges i ≡ some e =
    subst (λ (xs : List DataEdge). get_elem? xs i ≡ some e) es-is
    (at_index es i e (omega (arith, r.0, ap (λ (xs : List DataEdge). length xs) es-is)) is) in
    let same : edge_at run i ≡ e = at_get run.edges i e
    (record { producer = 0; consumer = 0; tokens = 0 }) at in record {
      near = r.0;
      at = at;
      same = same;
      into = ap (λ (x : DataEdge). x.consumer) (sym same) ∙ r.1;
    }

-- what is read grows by the number of the producer and its row
pub grows : (run : Run) (learnt : ℕ → Bool) (l k i : ℕ) (e : DataEdge) → EdgeOf run l i e
    → learnt e.producer ≡ false
    → supply_but run learnt l k (i + 1)
    ≡ supply_but run learnt l k i ++ e.producer ∷ row run e.producer (k - e.tokens)
grows run learnt l k i e h new =
    supply_but-into run learnt l k i (ap (λ (x : DataEdge). x.consumer) h.same ∙ h.into)
    (ap (λ (x : DataEdge). learnt x.producer) h.same ∙ new)
    ∙ ap (λ (x : DataEdge). supply_but run learnt l k i
    ++ x.producer ∷ row run x.producer (k - x.tokens)) h.same

-- or by nothing, where the row is learnt
pub passes : (run : Run) (learnt : ℕ → Bool) (l k i : ℕ) (e : DataEdge) → EdgeOf run l i e
    → learnt e.producer ≡ true
    → supply_but run learnt l k (i + 1) ≡ supply_but run learnt l k i
passes run learnt l k i e h told = supply_but-known run learnt l k i
    (ap (λ (x : DataEdge). learnt x.producer) h.same ∙ told)
