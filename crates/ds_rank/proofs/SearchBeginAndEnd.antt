-- The beginning and the end of a search.
use Rattle.std.proofs.Common.{◌≢◌, ◌∷◌, ◌∙◌, ◌≡◌, ◌<◌, ◌≤◌, ◌+◌, ◌-◌, ◌^◌, ℕ, List, [], length, get_or, inl, inr, arith, subst, sym, refl, zero, suc}
use Rattle.std.proofs.Math.ListN.{replicate}
use Rattle.std.proofs.lemmas.List.{get_or-replicate, length-replicate}
use Rattle.std.proofs.lemmas.List.Folds.{sum_by-replicate}
use Rattle.std.proofs.lemmas.List.Sums.{sum_by-le}
use Rattle.std.proofs.lemmas.Bool.{cases_eq}
use Rattle.std.specs.List.{slice_index, slice_index_or}
use Rattle.ds_base.specs.Greatest.{greatest}
use Rattle.ds_rank.specs.declared.edge.Edge.{Edge}
use Rattle.ds_rank.specs.Order.{HasEdge, IsRanks, source_at, target_at}
use Rattle.ds_rank.specs.Search.{EndsAreNodes, HasRoom, IsLast, IsLinkedTo, IsSearch, State, one_if_done, one_if_on}

-- the node at the end of the path is on the path
pub top : (edges : List Edge) (floors : List ℕ) (s : State) → IsSearch edges floors s
    → (node : ℕ) → 0 < length s.path → get_or s.path (length s.path - 1) 0 ≡ node
    → (node < length floors) × (get_or s.color node 0 ≡ 1)
top edges floors s h node some last =
    let on = h.on_path (length s.path - 1) (omega arith) in (rw (sym last) on.0, rw (sym last) on.1)

-- the edge to look at leads into the node
pub edge_in : (edges : List Edge) (floors : List ℕ) (s : State) → IsSearch edges floors s
    → (node p : ℕ) → node < length floors → get_or s.next node 0 ≡ p + 1
    → (p < length edges) × (target_at edges p ≡ node)
edge_in edges floors s h node p inside at = (
  omega (arith, h.inside node inside),
  let back : p + 1 - 1 ≡ p = omega arith in
      let own : target_at edges (get_or s.next node 0 - 1) ≡ node = h.own node inside (omega arith) in
      subst (λ (k : ℕ). target_at edges k ≡ node) (rw at back) own,
)

-- the edge to look at next: it and its source are there, and it leads into the end of the path
pub record IsNext (edges : List Edge) (floors : List ℕ) (s : State) (node p : ℕ) : Type 0 where
  pub at : get_or s.next node 0 ≡ p + 1
  pub known : node < length floors
  pub edge : p < length edges
  pub source : source_at edges p < length floors
  pub leads : HasEdge edges (source_at edges p) node
  pub on : get_or s.color node 0 ≡ 1

pub next_edge : {edges : List Edge} {floors : List ℕ} {s : State} {node : ℕ} → EndsAreNodes (length floors) edges → IsSearch edges floors s → IsLast s.path node
    → (k : ℕ) → k ≡ get_or s.next node 0 → k ≢ 0 → IsNext edges floors s node (k - 1)
next_edge {edges = edges} {floors = floors} {s = s} {node = node} ends h last k is some =
    let on = top edges floors s h node last.0 last.1 in
    let at : get_or s.next node 0 ≡ k - 1 + 1 = omega arith in
    let edge = edge_in edges floors s h node (k - 1) on.0 at in
    record { at = at; known = on.0; edge = edge.0; source = (ends (k - 1) edge.0).0; leads = (k - 1, edge.0, refl, edge.1); on = on.1 }

-- each node has the color of the nodes that are not met
color_two : (n v : ℕ) → v < n → get_or (replicate {A = ℕ} n 2) v 0 ≡ 2
color_two n v lt = get_or-replicate n v 2 0 lt

-- one at most
done_le : (color : ℕ) → one_if_done color ≤ 1
done_le zero = omega arith
done_le (suc color) = omega arith

on_le : (color : ℕ) → one_if_on color ≤ 1
on_le zero = omega arith
on_le (suc zero) = omega arith
on_le (suc (suc color)) = omega arith

-- no number is above the greatest
below_greatest : (xs : List ℕ) (v : ℕ) → get_or xs v 0 ≤ greatest xs
below_greatest [] v = omega arith
below_greatest (x ∷ xs) zero = omega arith
below_greatest (x ∷ xs) (suc v) = let rest = below_greatest xs v in omega arith

-- no node is met yet
pub begun : (edges : List Edge) (floors heads link : List ℕ) → length heads ≡ length floors
    → IsLinkedTo (length floors) edges (length edges) heads link
    → IsSearch edges floors (record { link = link; next = heads; color = replicate (length floors) 2; ranks = floors; path = [] })
begun edges floors heads link size linked = record {
  sizes = (linked.size, size, length-replicate (length floors) 2, refl);
  back = linked.back;
  same = linked.same;
  none = linked.none;
  inside = linked.head_inside;
  own = linked.head_own;
  past = λ v j lt low high is. absurd (linked.head_none v j lt low high is);
  floor = λ v lt. omega arith;
  tight = λ v lt. inl refl;
  done = λ v lt is. (let two = color_two (length floors) v lt in absurd (omega arith));
  range = λ v lt. (let two = color_two (length floors) v lt in omega arith);
  on_path = λ i lt. absurd (omega arith);
  chain = λ i lt. absurd (omega arith);
  distinct = λ i j ij lt. absurd (omega arith);
  listed = λ v lt is. (let two = color_two (length floors) v lt in absurd (omega arith));
  few = λ v lt. omega (arith, below_greatest floors v);
  few_done = λ v lt is. (let two = color_two (length floors) v lt in absurd (omega arith));
  on_count = sym (sum_by-replicate one_if_on (length floors) 2 ∙ omega arith);
}

-- every node is done
pub ended : (edges : List Edge) (floors : List ℕ) (s : State) → IsSearch edges floors s
    → ((k : ℕ) → k < length edges → target_at edges k < length floors)
    → ((v : ℕ) → v < length floors → get_or s.color v 0 ≡ 0) → IsRanks (HasEdge edges) (length floors) (slice_index floors) s.ranks
ended edges floors s h ends all = record {
  size = h.sizes.3;
  least = h.floor;
  above = λ u v (k, inside, source, target).
      let lt : v < length floors = subst (λ (x : ℕ). x < length floors) target (ends k inside) in
      let zero = h.done v lt (all v lt) in
      let up = (h.past v k lt (omega arith) inside target).1 in
      subst (λ (x : ℕ). get_or s.ranks x 0 + 1 ≤ get_or s.ranks v 0) source up;
  tight = λ v lt. elim (h.tight v lt) [
    | inl e ↦ inl e
    | inr (j, inside, is, c, e) ↦ inr (source_at edges j, (j, inside, refl, is), e)
  ];
}

-- a rank is below the number of nodes and the greatest floor
pub ended_few : (edges : List Edge) (floors : List ℕ) (s : State) → IsSearch edges floors s
    → ((v : ℕ) → v < length floors → get_or s.color v 0 ≡ 0)
    → (v : ℕ) → v < length floors → get_or s.ranks v 0 < length floors + greatest floors
ended_few edges floors s h all v lt =
    let most = sum_by-le one_if_done 1 s.color (λ k d inside. done_le (slice_index_or s.color k d)) in
    omega (arith, h.few_done v lt (all v lt), h.sizes)

-- the path has no more nodes than there are
pub path_few : (edges : List Edge) (floors : List ℕ) (s : State) → IsSearch edges floors s
    → length s.path ≤ length floors
path_few edges floors s h =
    let most = sum_by-le one_if_on 1 s.color (λ k d inside. on_le (slice_index_or s.color k d)) in
    omega (arith, h.on_count, h.sizes)

-- where no node is on the path, one that is met is done
pub met_done : (edges : List Edge) (floors : List ℕ) (s : State) → IsSearch edges floors s
    → s.path ≡ [] → (v : ℕ) → v < length floors → get_or s.color v 0 ≢ 2 → get_or s.color v 0 ≡ 0
met_done edges floors s h empty v lt apart = elim (cases_eq (get_or s.color v 0) 1) [
  | inl one ↦ let (i, inside, at) = h.listed v lt one in
      let none : i < 0 = subst (λ (xs : List ℕ). i < length xs) empty inside in absurd (omega arith)
  | inr other ↦ omega (arith, h.range v lt)
]

-- where each floor leaves room for as many more as there are nodes, so does the greatest
greatest_room : (xs : List ℕ) (n most : ℕ) → n ≤ most → ((v : ℕ) → v < length xs → get_or xs v 0 + n ≤ most) → greatest xs + n ≤ most
greatest_room [] n most base each = omega arith
greatest_room (x ∷ xs) n most base each =
    let rest = greatest_room xs n most base (λ v lt. each (suc v) (omega arith)) in
    let first : x + n ≤ most = each 0 (omega arith) in
    omega arith

-- the rank of a node that is done leaves room for one more
pub room_above : (edges : List Edge) (floors : List ℕ) (s : State) → IsSearch edges floors s → HasRoom floors
    → (v : ℕ) → v < length floors → get_or s.color v 0 ≡ 0 → get_or s.ranks v 0 + 1 < 2 ^ 64
room_above edges floors s h room v lt done =
    let most = sum_by-le one_if_done 1 s.color (λ k d inside. done_le (slice_index_or s.color k d)) in
    let any = room v lt in
    let up = greatest_room floors (length floors) 18446744073709551615 (omega arith) (λ w inside. let r = room w inside in omega arith) in
    omega (arith, h.few_done v lt done, most, h.sizes)
