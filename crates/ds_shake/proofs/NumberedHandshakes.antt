-- The sorted ends of the data edges, numbered, are the handshakes.
use Rattle.std.proofs.Common.{◌≡◌, ◌≢◌, ℕ, ◌+◌, ◌<◌, ◌≤◌, List, [], ◌∷◌, length, get_or, map, refl, sym, ◌∙◌, ap, subst, zero, suc, arith, inl, inr, AllPairs, Contains, IsPermutation}
use Rattle.std.specs.Prelude.{Any}
use Rattle.std.specs.List.{range_with_len, zip}
use Rattle.std.proofs.lemmas.List.{get_or-map, length-map}
use Rattle.std.proofs.lemmas.List.Sorted.{Contains-permutation, IsPermutation-sym, length_permutation}
use Rattle.ds_base.proofs.ListLemmas.{get_or-self}
use Rattle.ds_latch.specs.Node.{Split, number_of}
use Rattle.ds_latch.specs.declared.node.Node.{Node}
use Rattle.ds_latch.specs.Order.{IsDataEdge}
use Rattle.ds_latch.specs.Latches.{HasEdges}
use Rattle.ds_latch.specs.declared.latches.Edge.{Edge}
use Rattle.ds_control.proofs.Permuted.{pairs_permuted}
use Rattle.ds_shake.specs.Handshakes.{AreHandshakes, HandshakeBefore}
use Rattle.ds_shake.specs.Steps.{AreNumberedEnds, PairBefore, ends_of, ends_of_edge}
use Rattle.ds_shake.specs.declared.handshake.Handshake.{Handshake}
use Rattle.ds_shake.specs.declared.edge_ends.EdgeEnds.{EdgeEnds}

same_edge : (x y : Edge) → x.producer ≡ y.producer → x.consumer ≡ y.consumer → x ≡ y
same_edge x y e f = ap (λ (p : ℕ). let r : Edge = record { producer = p; consumer = x.consumer } in r) e ∙ ap (λ (q : ℕ). let r : Edge = record { producer = y.producer; consumer = q } in r) f

pub same_pair : (x y : EdgeEnds) → x.producer ≡ y.producer → x.consumer ≡ y.consumer → x ≡ y
same_pair x y e f = ap (λ (p : ℕ). let r : EdgeEnds = record { producer = p; consumer = x.consumer } in r) e ∙ ap (λ (q : ℕ). let r : EdgeEnds = record { producer = y.producer; consumer = q } in r) f

-- an item of a mapped list is that of some item
pub from_map : {X Y : Type 0} (f : X → Y) (xs : List X) (y : Y) (d : X) → Contains (map f xs) y → Any (λ x. f x ≡ y) xs
from_map f xs y d (k, inside, is) =
    let low : k < length xs = rw (← length-map xs f) inside in
    (k, get_or xs k d, low, get_or-self xs k d low, sym (get_or-map f xs k d y low) ∙ is)

pub to_map : {X Y : Type 0} (f : X → Y) (xs : List X) (x : X) → Contains xs x → Contains (map f xs) (f x)
to_map f xs x (k, inside, is) = (k, rw (length-map xs f) inside, get_or-map f xs k x (f x) inside ∙ ap f is)

some_edge : Edge
some_edge = record { producer = 0; consumer = 0 }

some_handshake : Handshake
some_handshake = record { number = 0; producer = 0; consumer = 0 }

-- ends with a number
abbrev pub numbered_pair : ℕ × EdgeEnds → Handshake
numbered_pair p = record { number = p.0; producer = p.1.producer; consumer = p.1.consumer }

-- the ends, with the numbers from one on
abbrev numbered_from : ℕ → List EdgeEnds → List Handshake
numbered_from number pairs = map numbered_pair (zip (range_with_len number (length pairs)) pairs)

ends_from : (pairs : List EdgeEnds) (number : ℕ) → map ends_of (numbered_from number pairs) ≡ pairs
ends_from [] number = refl
ends_from (p ∷ pairs) number = ap (λ (ps : List EdgeEnds). p ∷ ps) (ends_from pairs (number + 1))

number_at : (pairs : List EdgeEnds) (number k : ℕ) (d : Handshake) → k < length pairs → (get_or (numbered_from number pairs) k d).number ≡ number + k
number_at [] number k d low = absurd (omega (low, arith))
number_at (p ∷ pairs) number zero d low = omega arith
number_at (p ∷ pairs) number (suc k) d low = number_at pairs (number + 1) k d (omega (low, arith)) ∙ omega arith

-- each with the number of its place
pub all_numbered : (pairs : List EdgeEnds) (all : List Handshake) → all ≡ map numbered_pair (zip (range_with_len 0 (length pairs)) pairs) → AreNumberedEnds pairs all
all_numbered pairs all is =
    let ends : map ends_of all ≡ pairs = ap (map ends_of) is ∙ ends_from pairs 0 in
    let size : length all ≡ length pairs = sym (length-map all ends_of) ∙ ap (λ (ps : List EdgeEnds). length ps) ends in
    record {
      ends = ends;
      numbered = λ k inside d. ap (λ (hs : List Handshake). (get_or hs k d).number) is ∙ (number_at pairs 0 k d (omega (size, inside, arith)) ∙ omega arith);
    }

-- sorting keeps how many there are
pub sorted_long : (edges : List Edge) (sorted : List EdgeEnds) → IsPermutation (map ends_of_edge edges) sorted → length sorted ≡ length edges
sorted_long edges sorted same = length_permutation (map ends_of_edge edges) sorted same ∙ length-map edges ends_of_edge

module _ (s : Split) (edges : List Edge) (sorted : List EdgeEnds) (all : List Handshake) (has : HasEdges s edges) (once : AllPairs (λ a b. a ≢ b) edges)
    (same : IsPermutation (map ends_of_edge edges) sorted) (stand : AllPairs PairBefore sorted) (numbered : AreNumberedEnds sorted all) where
  -- the ends stand among those of the edges exactly where they stand among the sorted ones
  to_all : (p c : Node) → IsDataEdge s p c → Any (λ h. (h.producer ≡ number_of p) × (h.consumer ≡ number_of c)) all
  to_all p c edge =
      let (k, e, inside, is, (pe, ce)) = (has p c).0 edge in
      let at : Contains sorted (ends_of_edge e) = Contains-permutation (map ends_of_edge edges) sorted (ends_of_edge e) same (to_map ends_of_edge edges e (k, inside, is)) in
      let (j, h, below, found, ends) = from_map ends_of all (ends_of_edge e) some_handshake (subst (λ (ps : List EdgeEnds). Contains ps (ends_of_edge e)) (sym numbered.ends) at) in
      (j, h, below, found, (ap (λ (x : EdgeEnds). x.producer) ends ∙ pe, ap (λ (x : EdgeEnds). x.consumer) ends ∙ ce))

  from_all : (p c : Node) → Any (λ h. (h.producer ≡ number_of p) × (h.consumer ≡ number_of c)) all → IsDataEdge s p c
  from_all p c (j, h, below, found, (pe, ce)) =
      let at : Contains sorted (ends_of h) = subst (λ (ps : List EdgeEnds). Contains ps (ends_of h)) numbered.ends (to_map ends_of all h (j, below, found)) in
      let (k, e, inside, is, ends) = from_map ends_of_edge edges (ends_of h) some_edge (Contains-permutation sorted (map ends_of_edge edges) (ends_of h) (IsPermutation-sym (map ends_of_edge edges) sorted same) at) in
      (has p c).1 (k, e, inside, is, (ap (λ (x : EdgeEnds). x.producer) ends ∙ pe, ap (λ (x : EdgeEnds). x.consumer) ends ∙ ce))

  pairs_differ : AllPairs (λ a b. a ≢ b) (map ends_of_edge edges)
  pairs_differ i j d below inside e =
      let high : j < length edges = rw (← length-map edges ends_of_edge) inside in
      let one : get_or (map ends_of_edge edges) i d ≡ ends_of_edge (get_or edges i some_edge) = get_or-map ends_of_edge edges i some_edge d (omega (below, high, arith)) in
      let two : get_or (map ends_of_edge edges) j d ≡ ends_of_edge (get_or edges j some_edge) = get_or-map ends_of_edge edges j some_edge d high in
      let is : ends_of_edge (get_or edges i some_edge) ≡ ends_of_edge (get_or edges j some_edge) = sym one ∙ (e ∙ two) in
      once i j some_edge below high (same_edge (get_or edges i some_edge) (get_or edges j some_edge) (ap (λ (x : EdgeEnds). x.producer) is) (ap (λ (x : EdgeEnds). x.consumer) is))

  sorted_differ : AllPairs (λ a b. a ≢ b) sorted
  sorted_differ = pairs_permuted (λ a b. a ≢ b) (λ x y ne e. ne (sym e)) (map ends_of_edge edges) sorted same pairs_differ

  strict : (a b : Handshake) → PairBefore (ends_of a) (ends_of b) → ends_of a ≢ ends_of b → HandshakeBefore a b
  strict a b (inl low) ne = inl low
  strict a b (inr (e, low)) ne = inr (e, differ a.consumer b.consumer low (λ f. ne (same_pair (ends_of a) (ends_of b) e f)))
    where
      differ : (x y : ℕ) → x ≤ y → x ≢ y → x < y
      differ x y low ne = omega (low, ne, arith)

  all_sorted : AllPairs HandshakeBefore all
  all_sorted i j d below inside =
      let size : length sorted ≡ length all = ap (λ (ps : List EdgeEnds). length ps) (sym numbered.ends) ∙ length-map all ends_of in
      let high : j < length sorted = omega (size, inside, arith) in
      let one : get_or sorted i (ends_of d) ≡ ends_of (get_or all i d) = ap (λ (ps : List EdgeEnds). get_or ps i (ends_of d)) (sym numbered.ends) ∙ get_or-map ends_of all i d (ends_of d) (omega (below, inside, arith)) in
      let two : get_or sorted j (ends_of d) ≡ ends_of (get_or all j d) = ap (λ (ps : List EdgeEnds). get_or ps j (ends_of d)) (sym numbered.ends) ∙ get_or-map ends_of all j d (ends_of d) inside in
      strict (get_or all i d) (get_or all j d)
      (subst (λ (x : EdgeEnds). PairBefore x (ends_of (get_or all j d))) one (subst (PairBefore (get_or sorted i (ends_of d))) two (stand i j (ends_of d) below high)))
      (λ e. sorted_differ i j (ends_of d) below high (one ∙ (e ∙ sym two)))

  pub are_handshakes : AreHandshakes s all
  are_handshakes = record {
    edges = λ p c. (to_all p c, from_all p c);
    sorted = all_sorted;
    numbered = numbered.numbered;
  }

  -- there are as many handshakes as edges
  pub as_many : length all ≡ length edges
  as_many = sym (length-map all ends_of) ∙ (ap (λ (ps : List EdgeEnds). length ps) numbered.ends ∙ sorted_long edges sorted same)
