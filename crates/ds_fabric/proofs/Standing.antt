-- The places of the histories of a pass, as histories come and go.
use Rattle.std.proofs.Common.{◌≡◌, ◌≢◌, ◌∙◌, ◌<◌, ◌≤◌, ◌+◌, ◌-◌, ℕ, List, [], ◌∷◌}
use Rattle.std.proofs.Common.{length, get_or, set, replicate, cond}
use Rattle.std.proofs.Common.{ap, sym, subst, arith, refl, length-set, get_or-set_same}
use Rattle.std.proofs.Common.{get_or-set_other, eq-eqb, ne_eqb}
use Rattle.std.proofs.lemmas.List.{length-replicate}
use mathlib.Core.Logic.{dite}
use mathlib.Core.Option.{some}
use native.Mathlib.Decide.{ℕ_discrete, dec_lt}
use lib.ListN.{get_elem?}
use Rattle.atomic_table.proofs.Lists.{at_longer, at_set, set_else}
use Rattle.std.proofs.Common.{◌++◌, ⊎_elim}
use Rattle.ds_rule.proofs.GetElemLemmas.{at_either, set_there, at_below, at_get, at_or, same_at, only_item}
use Rattle.ds_rule.proofs.GetElemLemmas.{there_is, replicate-default, get-beyond}
use Rattle.ds_fabric.specs.declared.history.History.{History}
use Rattle.ds_rule.specs.Run.{Run}
use Rattle.ds_fabric.specs.Indexed.{IsOneEach, IsIndexed, IsHistoryAt, IsWithout, IsTakenOut, came}
use Rattle.ds_fabric.specs.Showing.{Blank}

-- an element that was read
there : (xs : List History) (i : ℕ) (h : History) → i < length xs → get_or xs i h ≡ h
    → get_elem? xs i ≡ some h
there xs i h near is = at_or xs i h near ∙ ap some is

-- a place that is not 0 is there
pub place_inside : (ps : List ℕ) (l : ℕ) → 0 < get_or ps l 0 → l < length ps
place_inside ps l h = dite (dec_lt l (length ps)) (λ y. y)
    (λ n. absurd (omega (arith, get-beyond ps l 0 (omega arith))))

-- where there is room for one history alone, it is the first
pub found_alone : (m r : ℕ) (ns : List History) (ps : List ℕ) (i node : ℕ)
    → IsIndexed m r (length ns) ns ps
    → length ps ≡ 0 → IsHistoryAt ns i node → IsHistoryAt ns 0 node
found_alone m r ns ps i node o none st =
    let z : i ≡ 0 = omega (arith, at_below ns i st.0 st.1, o.few, o.one none) in
    subst (λ (j : ℕ). IsHistoryAt ns j node) z st

-- the place of a node tells where its history stands
pub found_placed : (m r : ℕ) (ns : List History) (ps : List ℕ) (i node : ℕ)
    → IsIndexed m r (length ns) ns ps
    → (length ps ≡ 0 → ⊥) → IsHistoryAt ns i node → (get_or ps node 0 ≡ i + 1) × (node < length ps)
found_placed m r ns ps i node o there st =
    let is : get_or ps node 0 ≡ i + 1 = ap (λ (x : ℕ). get_or ps x 0) (sym st.2)
    ∙ o.placed i st.0 (at_below ns i st.0 st.1) st.1 (omega arith) in
    (is, place_inside ps node (omega arith))

pub stands_there : (ns : List History) (ps : List ℕ) (i node : ℕ) → get_or ps node 0 ≡ i + 1
    → IsHistoryAt ns i node
    → IsHistoryAt ns (get_or ps node 0 - 1) node
stands_there ns ps i node is st =
    let z : get_or ps node 0 - 1 ≡ i = omega (arith, is) in
    subst (λ (j : ℕ). IsHistoryAt ns j node) (sym z) st

-- one history alone
pub one_alone : (m r node : ℕ) (h : History) (ps : List ℕ) → (m < 4294967296) × (r < 4294967296)
    → node < m → 0 < r → h.node ≡ node
    → ps ≡ set (replicate m 0) node 1 → IsIndexed m r 1 (h ∷ []) ps
one_alone m r node h ps small near room is ps-is =
    let long : length ps ≡ m = ap (λ (xs : List ℕ). length xs) ps-is
    ∙ (length-set (replicate m 0) node 1 ∙ length-replicate {A = ℕ} m 0) in
    let here : get_or ps node 0 ≡ 1 = ap (λ (xs : List ℕ). get_or xs node 0) ps-is
    ∙ get_or-set_same (replicate m 0) node 1 0 (omega (arith, length-replicate {A = ℕ} m 0)) in
    let far : (l : ℕ) → l ≢ node → get_or ps l 0 ≡ 0 =
    λ l n. ap (λ (xs : List ℕ). get_or xs l 0) ps-is
    ∙ (get_or-set_other (replicate m 0) node l 1 0 n ∙ replicate-default {A = ℕ} m l 0) in record {
      small = small;
      few = omega arith;
      one = λ z. absurd (omega arith);
      long = λ _. long;
      placed = λ i x below at _. let a = only_item h x i at in
          ap (λ (y : History). get_or ps y.node 0) (sym a.1)
          ∙ (ap (λ (y : ℕ). get_or ps y 0) is ∙ omega (arith, here, a.0));
      back = λ l pos. dite (ℕ_discrete l node)
          (λ e. let v : get_or ps l 0 ≡ 1 = ap (λ (y : ℕ). get_or ps y 0) e ∙ here in (
            omega (arith, v),
            subst (λ (j : ℕ). IsHistoryAt (h ∷ []) j l) (let z : 0 ≡ get_or ps l 0 - 1 =
                omega (arith, v) in z) (h, refl, is ∙ sym e),
          ))
          (λ n. absurd (omega (arith, far l n)));
    }

pub none_alone : (m r node : ℕ) (h : History) (ps : List ℕ) → (m < 4294967296) × (r < 4294967296)
    → r ≡ 1 → ps ≡ []
    → IsIndexed m r 1 (h ∷ []) ps
none_alone m r node h ps small room is = subst (IsIndexed m r 1 (h ∷ [])) (sym is) (record {
  small = small;
  few = omega arith;
  one = λ _. omega arith;
  long = λ pos. absurd (omega arith);
  placed = λ i x below at pos. absurd (omega arith);
  back = λ l pos. absurd (omega arith);
})

-- one history more is noted
pub noted_more : (m r i n : ℕ) (ns : List History) (ps : List ℕ) (h : History) → IsOneEach ns
    → IsIndexed m r i ns ps
    → get_elem? ns i ≡ some h → n ≡ i + 1 → n ≤ r → h.node < m → (length ps ≡ 0 → ⊥)
    → IsIndexed m r n ns (set ps h.node n)
noted_more m r i n ns ps h distinct o at n-is room near there =
    let long : length ps ≡ m = o.long (omega arith) in let k : ℕ = h.node in
    let here : get_or (set ps k n) k 0 ≡ n = get_or-set_same ps k n 0 (omega arith) in record {
      small = o.small;
      few = room;
      one = λ z. absurd (there (sym (length-set ps k n) ∙ z));
      long = λ _. length-set ps k n ∙ long;
      placed = λ j g below at' _. dite (ℕ_discrete j i)
          (λ e. let same : h ≡ g = same_at ns i h g at
          (subst (λ (x : ℕ). get_elem? ns x ≡ some g) e at') in
          ap (λ (x : History). get_or (set ps k n) x.node 0) (sym same) ∙ (here ∙ omega arith))
          (λ ne. get_or-set_other ps k g.node n 0 (λ z. ne (distinct j i g h at' at z))
          ∙ o.placed j g (omega arith) at' (omega arith));
      back = λ l pos. dite (ℕ_discrete l k)
          (λ e. let v : get_or (set ps k n) l 0 ≡ n = ap (λ (x : ℕ). get_or (set ps k n) x 0) e
          ∙ here in (
            omega (arith, v),
            subst (λ (x : ℕ). IsHistoryAt ns x l)
                (let z : i ≡ get_or (set ps k n) l 0 - 1 = omega (arith, v) in z) (h, at, sym e),
          ))
          (λ ne. let v : get_or (set ps k n) l 0 ≡ get_or ps l 0 = get_or-set_other ps k l n 0 ne in
          let b = o.back l (omega (arith, v)) in
          (omega (arith, v, b.0), subst (λ (x : ℕ). IsHistoryAt ns (x - 1) l) (sym v) b.1));
    }

-- nothing is noted where there are no places
pub noted_none : (m r i n : ℕ) (ns : List History) (ps : List ℕ) → IsIndexed m r i ns ps
    → length ps ≡ 0 → n ≤ r
    → IsIndexed m r n ns ps
noted_none m r i n ns ps o none room = record {
  small = o.small;
  few = room;
  one = o.one;
  long = o.long;
  placed = λ j g below at pos. absurd (omega arith);
  back = λ l pos. absurd (omega (arith, place_inside ps l pos));
}

-- the places after a history was taken out, but for that of the one that came to its place
cleared : (m r at : ℕ) (xs ys : List History) (ps qs : List ℕ) (h : History) → IsOneEach xs
    → IsWithout xs ys at
    → IsIndexed m r (length xs) xs ps → get_elem? xs at ≡ some h → (length ps ≡ 0 → ⊥)
    → length qs ≡ length ps
    → ((l : ℕ) → l ≢ h.node → (at < length ys → (y : History) → get_elem? ys at ≡ some y
    → l ≢ y.node) → get_or qs l 0 ≡ get_or ps l 0)
    → (at < length ys → (y : History) → get_elem? ys at ≡ some y → get_or qs y.node 0 ≡ at + 1)
    → ((at < length ys → (y : History) → get_elem? ys at ≡ some y → h.node ≢ y.node)
    → get_or qs h.node 0 ≡ 0)
    → IsIndexed m r (length ys) ys qs
cleared m r at xs ys ps qs h distinct w o there-h there long same moved gone =
    let n : ℕ = length ys in
    let other : at < n → (y : History) → get_elem? ys at ≡ some y → (get_elem? xs n ≡ some y)
    × (h.node ≢ y.node) = λ less y at-y.
    let old : get_elem? xs n ≡ some y = subst (λ (j : ℕ). get_elem? xs j ≡ some y)
    (ap (λ b. cond b n at) (eq-eqb at at refl)) (w.from at y at-y) in
    (old, λ e. (let z = distinct at n h y there-h old e in omega arith)) in
    let zero-h : get_or qs h.node 0 ≡ 0 = gone (λ less y at-y. (other less y at-y).1) in record {
      small = o.small;
      few = omega (arith, o.few, w.shorter);
      one = λ z. absurd (there (sym long ∙ z));
      long = λ _. long ∙ o.long (omega arith);
      placed = λ j g below at-j _. dite (ℕ_discrete j at)
          (λ e. moved (omega arith) g (subst (λ (x : ℕ). get_elem? ys x ≡ some g) e at-j)
          ∙ omega arith)
          (λ ne. let old : get_elem? xs j ≡ some g =
          subst (λ (x : ℕ). get_elem? xs x ≡ some g) (ap (λ b. cond b n j) (ne_eqb j at ne))
          (w.from j g at-j) in
          same g.node (λ e. ne (distinct j at g h old there-h e))
          (λ less y at-y e. (let z = distinct j n g y old (other less y at-y).0 e in omega arith))
          ∙ o.placed j g (omega (arith, w.shorter)) old (omega arith));
      back = λ l pos. dite (ℕ_discrete l h.node)
          (λ e. absurd (omega (arith, ap (λ (x : ℕ). get_or qs x 0) e, zero-h)))
          (λ nh. dite (dec_lt at n)
          (λ less. let y = there_is ys at less in dite (ℕ_discrete l y.0.node)
          (λ e. let v : get_or qs l 0 ≡ at + 1 = ap (λ (x : ℕ). get_or qs x 0) e
          ∙ moved less y.0 y.1 in (
            omega (arith, v),
            subst (λ (x : ℕ). IsHistoryAt ys x l) (let z : at ≡ get_or qs l 0 - 1 =
                omega (arith, v) in z) (y.0, y.1, sym e),
          ))
          (λ ny. let v : get_or qs l 0 ≡ get_or ps l 0 =
          same l nh (λ _ y' at-y e. ny (e ∙ ap (λ (x : History). x.node)
          (sym (same_at ys at y.0 y' y.1 at-y)))) in
          let b = o.back l (omega (arith, v)) in let g : History = b.1.0 in
          let p : ℕ = get_or ps l 0 - 1 in
          let not-at : p ≢ at = λ e. nh (sym b.1.2 ∙ ap (λ (x : History). x.node)
          (same_at xs at g h (subst (λ (x : ℕ). get_elem? xs x ≡ some g) e b.1.1) there-h)) in
          let not-n : p ≢ n = λ e. ny (sym b.1.2 ∙ ap (λ (x : History). x.node)
          (same_at xs n g y.0 (subst (λ (x : ℕ). get_elem? xs x ≡ some g) e b.1.1)
          (other less y.0 y.1).0)) in
          let low : p < n = omega (arith, b.0, w.shorter, not-n) in (
            omega (arith, v),
            subst (λ (x : ℕ). IsHistoryAt ys (x - 1) l) (sym v) (
              g,
              w.stay p g b.1.1 not-at low,
              b.1.2,
            ),
          )))
          (λ more. let v : get_or qs l 0 ≡ get_or ps l 0 = same l nh (λ less. absurd (more less)) in
          let b = o.back l (omega (arith, v)) in let g : History = b.1.0 in
          let p : ℕ = get_or ps l 0 - 1 in
          let not-at : p ≢ at = λ e. nh (sym b.1.2 ∙ ap (λ (x : History). x.node)
          (same_at xs at g h (subst (λ (x : ℕ). get_elem? xs x ≡ some g) e b.1.1) there-h)) in
          let low : p < n = omega (arith, b.0, w.shorter, not-at, at_below xs at h there-h) in (
            omega (arith, v),
            subst (λ (x : ℕ). IsHistoryAt ys (x - 1) l) (sym v) (
              g,
              w.stay p g b.1.1 not-at low,
              b.1.2,
            ),
          )));
    }

-- the places after a history was taken out, and another came to its place
pub taken_inside : (m r at : ℕ) (xs ys : List History) (ps : List ℕ) (h y : History) → IsOneEach xs
    → IsWithout xs ys at
    → IsIndexed m r (length xs) xs ps → get_elem? xs at ≡ some h → (length ps ≡ 0 → ⊥)
    → get_elem? ys at ≡ some y
    → h.node < length ps → y.node < length ps
    → IsIndexed m r (length ys) ys (set (set ps h.node 0) y.node (at + 1))
taken_inside m r at xs ys ps h y distinct w o there-h there at-y near-h near-y =
    let one : List ℕ = set ps h.node 0 in
    let only : (z : History) → get_elem? ys at ≡ some z
    → z.node ≡ y.node = λ z e. ap (λ (x : History). x.node) (same_at ys at z y e at-y) in
    cleared m r at xs ys ps (set one y.node (at + 1)) h distinct w o there-h there
    (length-set one y.node (at + 1) ∙ length-set ps h.node 0)
    (λ l nh ny. get_or-set_other one y.node l (at + 1) 0 (ny (at_below ys at y at-y) y at-y)
    ∙ get_or-set_other ps h.node l 0 0 nh)
    (λ _ z e. ap (λ (x : ℕ). get_or (set one y.node (at + 1)) x 0) (only z e)
    ∙ get_or-set_same one y.node (at + 1) 0 (omega (arith, length-set ps h.node 0)))
    (λ ny. get_or-set_other one y.node h.node (at + 1) 0 (ny (at_below ys at y at-y) y at-y)
    ∙ get_or-set_same ps h.node 0 0 near-h)

-- the same where it was the last one
pub taken_last : (m r at : ℕ) (xs ys : List History) (ps : List ℕ) (h : History) → IsOneEach xs
    → IsWithout xs ys at
    → IsIndexed m r (length xs) xs ps → get_elem? xs at ≡ some h → (length ps ≡ 0 → ⊥)
    → (at < length ys → ⊥)
    → h.node < length ps → IsIndexed m r (length ys) ys (set ps h.node 0)
taken_last m r at xs ys ps h distinct w o there-h there last near-h =
    cleared m r at xs ys ps (set ps h.node 0) h distinct w o there-h there (length-set ps h.node 0)
    (λ l nh ny. get_or-set_other ps h.node l 0 0 nh) (λ less. absurd (last less))
    (λ _. get_or-set_same ps h.node 0 0 near-h)

-- and where there are no places
pub taken_none : (m r at : ℕ) (xs ys : List History) (ps : List ℕ) → IsWithout xs ys at
    → IsIndexed m r (length xs) xs ps
    → length ps ≡ 0 → IsIndexed m r (length ys) ys ps
taken_none m r at xs ys ps w o none = record {
  small = o.small;
  few = omega (arith, o.few, w.shorter);
  one = o.one;
  long = o.long;
  placed = λ j g below at-j pos. absurd (omega arith);
  back = λ l pos. absurd (omega (arith, place_inside ps l pos));
}

-- what `swap_remove` leaves
pub removed : (xs ys : List History) (at : ℕ) → length ys + 1 ≡ length xs → at < length xs
    → ((d : History) → at < length ys → get_or ys at d ≡ get_or xs (length ys) d)
    → ((k : ℕ) (d : History) → k ≢ at → k < length ys → get_or ys k d ≡ get_or xs k d)
    → IsWithout xs ys at
removed xs ys at long inside moved same = record {
  shorter = long;
  from = λ j h e. let below = at_below ys j h e in dite (ℕ_discrete j at)
      (λ is. subst (λ (x : ℕ). get_elem? xs x ≡ some h)
      (sym (ap (λ b. cond b (length ys) j) (eq-eqb j at is)))
      (there xs (length ys) h (omega arith) (sym (moved h (omega arith))
      ∙ at_get ys at h h (subst (λ (x : ℕ). get_elem? ys x ≡ some h) is e))))
      (λ n. subst (λ (x : ℕ). get_elem? xs x ≡ some h)
      (sym (ap (λ b. cond b (length ys) j) (ne_eqb j at n)))
      (there xs j h (omega arith) (sym (same j h n below) ∙ at_get ys j h h e)));
  stay = λ j h e n below. there ys j h below (same j h n below ∙ at_get xs j h h e);
  last = λ h e below. there ys at h below (moved h below ∙ at_get xs (length ys) h h e);
}

-- the node that was taken out, and the one that came to its place, have places
pub inside_old : (m r at node : ℕ) (old ys : List History) (ps : List ℕ) → IsTakenOut old ys at node
    → IsIndexed m r (length old) old ps → (length ps ≡ 0 → ⊥) → node < length ps
inside_old m r at node old ys ps l o some-there =
    (found_placed m r old ps at node o some-there (l.history, l.there, l.node_is)).1

pub inside_new : (m r at node : ℕ) (old ys : List History) (ps : List ℕ) (y : History)
    → IsTakenOut old ys at node
    → IsIndexed m r (length old) old ps → (length ps ≡ 0 → ⊥) → get_elem? ys at ≡ some y
    → y.node < length ps
inside_new m r at node old ys ps y l o some-there e =
    (found_placed m r old ps (came at (length ys) at) y.node o some-there (
      y,
      l.without.from at y e,
      refl,
    )).1

-- the places of all nodes, in order
pub all_placed : (run : Run) (r step : ℕ) (nodes : List History) (ps : List ℕ)
    → run.nodes < 4294967296 → r ≡ run.nodes
    → Blank run run.nodes step nodes → length ps ≡ run.nodes
    → ((i : ℕ) → i < run.nodes → get_or ps i 0 ≡ i + 1)
    → IsIndexed run.nodes r (length nodes) nodes ps
all_placed run r step nodes ps small room blank long each = record {
  small = (omega arith, omega arith);
  few = omega (arith, blank.long);
  one = λ z. omega arith;
  long = λ _. long;
  placed = λ i h below at _. ap (λ (x : ℕ). get_or ps x 0) (blank.each i h at).node
      ∙ each i (omega (arith, blank.long));
  back = λ l pos. let near = place_inside ps l pos in let v = each l (omega arith) in
      let f = there_is nodes l (omega (arith, blank.long)) in (
        omega (arith, v, blank.long),
        subst (λ (x : ℕ). IsHistoryAt nodes x l)
            (let z : l ≡ get_or ps l 0 - 1 = omega (arith, v) in
            z) (f.0, f.1, (blank.each l f.0 f.1).node),
      );
}

-- more histories behind those that have their places
pub longer : (m r n : ℕ) (ns os zs : List History) (ps : List ℕ) → IsIndexed m r (length ns) ns ps
    → n ≡ length ns → zs ≡ ns ++ os
    → IsIndexed m r n zs ps
longer m r n ns os zs ps o n-is zs-is =
    let first : (i : ℕ) (h : History) → i < length ns → get_elem? (ns ++ os) i ≡ some h
    → get_elem? ns i ≡ some h = λ i h below at.
    ⊎_elim (λ p. p) (λ p. absurd (omega (arith, p.1))) (at_either ns os i h at) in
    subst (λ (l : List History). IsIndexed m r n l ps) (sym zs-is) (record {
      small = o.small;
      few = omega (arith, o.few);
      one = o.one;
      long = o.long;
      placed = λ i h below at pos. o.placed i h (omega arith) (first i h (omega arith) at) pos;
      back = λ l pos. let b = o.back l pos in let st = b.1 in
          (omega (arith, b.0), (st.0, at_longer ns os (get_or ps l 0 - 1) st.0 st.1, st.2));
    })

-- a history put back in its place
pub put_back : (m r i : ℕ) (ns : List History) (h k : History) (ps : List ℕ)
    → IsIndexed m r (length ns) ns ps
    → get_elem? ns i ≡ some h → k.node ≡ h.node
    → IsIndexed m r (length (set ns i k)) (set ns i k) ps
put_back m r i ns h k ps o at is = let long : length (set ns i k) ≡ length ns = length-set ns i k in
    record {
      small = o.small;
      few = omega (arith, o.few);
      one = o.one;
      long = o.long;
      placed = λ j g below at-j pos. ⊎_elim
          (λ t. ap (λ (x : History). get_or ps x.node 0) (sym t.1) ∙ (ap (λ (x : ℕ). get_or ps x 0) is
          ∙ (o.placed i h (at_below ns i h at) at pos ∙ ap (λ (x : ℕ). x + 1) (sym t.0))))
          (λ t. o.placed j g (omega arith) t.1 pos)
          (at_set ns i j k g at-j);
      back = λ l pos. let b = o.back l pos in let st = b.1 in let p : ℕ = get_or ps l 0 - 1 in (
        omega (arith, b.0),
        dite (ℕ_discrete p i)
            (λ e. (
              k,
              subst (λ (x : ℕ). get_elem? (set ns i k) x ≡ some k) (sym e)
                  (set_there ns i h k at),
              is ∙ (ap (λ (x : History). x.node) (same_at ns i h st.0 at
                  (subst (λ (x : ℕ). get_elem? ns x ≡ some st.0) e st.1)) ∙ st.2),
            ))
            (λ n. (st.0, set_else ns i p k n ∙ st.1, st.2)),
      );
    }
