-- What a pass has in memory after it took in another.
use Rattle.std.proofs.Common.{◌≡◌, ℕ, ◌+◌, ◌<◌, ◌≤◌, true, false, List, ◌++◌, length, max}
use Rattle.std.proofs.Common.{sym, refl, ap, ◌∙◌, subst, arith, length-append, vec_capacity}
use Rattle.std.proofs.Common.{⊎_elim, ◌⊎◌, inl, inr, cond, ◌||◌}
use Rattle.std.proofs.lemmas.Bool.{false≢true}
use Rattle.std.proofs.Math.Bool.{or-true, true-or}
use mathlib.Core.Option.{some}
use lib.ListN.{get_elem?}
use Rattle.atomic_table.proofs.Lists.{at_longer}
use Rattle.ds_rule.specs.Run.{Run, events, node_of, turns}
use Rattle.ds_rule.specs.Rule.{holds, tickets, seen}
use Rattle.ds_rule.specs.Plays.{Sat, taken_in}
use Rattle.ds_rule.specs.declared.view.View.{View}
use Rattle.ds_rule.proofs.GetElemLemmas.{has_below, by_bool, at_either, at_second, length-listed}
use Rattle.ds_rule.proofs.EventLaws.{turns_apart, event_below}
use Rattle.ds_rule.proofs.Hands.{both-holds, both-tickets}
use Rattle.ds_fabric.specs.declared.history.History.{History}
use Rattle.ds_fabric.specs.declared.histories.Histories.{Histories}
use Rattle.ds_fabric.specs.Flight.{HasRoomFor}
use Rattle.ds_fabric.specs.HistoryList.{list_of_words, list_room}
use Rattle.ds_fabric.specs.Indexed.{IsIndexed, IsOneEach, AreBelow}
use Rattle.ds_fabric.specs.Joined.{AreJoined, IsGathering}
use Rattle.ds_fabric.specs.Showing.{Keeps, IsPass, AreSideBySide, IsCounted}
use Rattle.ds_fabric.proofs.Dealing.{words_own, room_own, words_together, room_together, tells_same}
use Rattle.ds_fabric.proofs.PassMemory.{tells_moved, near-node}
use Rattle.ds_fabric.proofs.Standing.{longer}

-- the list of a history among others is that which it had
abbrev HasItsList : Histories → Histories → History → Type 0
HasItsList s t h = (list_of_words s h ≡ list_of_words t h) × (list_room s h ≡ list_room t h)

its_list : (s t : Histories) (h : History) → t.apart ≡ s.apart
    → (s.apart ≡ false → t.together ≡ s.together) → HasItsList s t h
its_list s t h same one = by_bool (HasItsList s t h) s.apart
    (λ y. (
      words_own s h y ∙ sym (words_own t h (same ∙ y)),
      room_own s h y ∙ sym (room_own t h (same ∙ y)),
    ))
    (λ n. (
      words_together s h n
          ∙ (ap (λ w. w.items) (sym (one n)) ∙ sym (words_together t h (same ∙ n))),
      room_together s h n
          ∙ (ap (λ w. vec_capacity w) (sym (one n)) ∙ sym (room_together t h (same ∙ n))),
    ))

-- a pass whose histories use one list holds all nodes, so that no other pass has a history
module _ (me he : Sat) (s o : Histories) (k : Keeps me s) (g : Keeps he o)
    (run : he.0.run ≡ me.0.run)
    (clear : (l : ℕ) → l < me.0.run.nodes → holds me.0 l ≡ true → holds he.0 l ≡ true → ⊥) where
  no-first : (i : ℕ) (h : History) → get_elem? s.nodes.items i ≡ some h → o.apart ≡ false → ⊥
  no-first i h at one = let has = (k.listed i h at).has in
      let near = near-node me s h.node k has in
      clear h.node near has (g.all one h.node (omega (arith, near, ap (λ (r : Run). r.nodes) run)))

  no-second : (i : ℕ) (h : History) → get_elem? o.nodes.items i ≡ some h → s.apart ≡ false → ⊥
  no-second i h at one = let has = (g.listed i h at).has in
      let near = near-node he o h.node g has in
      let near' : h.node < me.0.run.nodes = omega (arith, near, ap (λ (r : Run). r.nodes) run) in
      clear h.node near' (k.all one h.node near') has

  -- each node has one history in both
  pub both_distinct : IsOneEach (s.nodes.items ++ o.nodes.items)
  both_distinct a b x y p q e = let ns : List History = s.nodes.items in
      let os : List History = o.nodes.items in
      let no : (l : ℕ) → holds me.0 l ≡ true → holds he.0 l ≡ true → ⊥ =
      λ l h h'. clear l (near-node me s l k h) h h' in ⊎_elim
      (λ p'. ⊎_elim (λ q'. k.distinct a b x y p' q' e)
      (λ q'. absurd (no y.node (subst (λ l. holds me.0 l ≡ true) e (k.listed a x p').has)
      (g.listed q'.0 y q'.2).has)) (at_either ns os b y q))
      (λ p'. ⊎_elim (λ q'. absurd (no x.node (subst (λ l. holds me.0 l ≡ true) (sym e)
      (k.listed b y q').has) (g.listed p'.0 x p'.2).has))
      (λ q'. p'.1 ∙ (ap (λ (z : ℕ). length ns + z) (g.distinct p'.0 q'.0 x y p'.2 q'.2 e)
      ∙ sym q'.1)) (at_either ns os b y q))
      (at_either ns os a x p)

  both_below : AreBelow (s.nodes.items ++ o.nodes.items) me.0.run.nodes
  both_below i h at = ⊎_elim
      (λ p. near-node me s h.node k (k.listed i h p).has)
      (λ p. omega (
        arith,
        near-node he o h.node g (g.listed p.0 h p.2).has,
        ap (λ (r : Run). r.nodes) run,
      ))
      (at_either s.nodes.items o.nodes.items i h at)

  module _ (t : Histories) (j : AreJoined s o t) where
    apart-first : o.apart ≡ true → t.apart ≡ s.apart
    apart-first y = j.apart ∙ ap (λ b. cond b s.apart false) y

    apart-none : o.apart ≡ false → t.apart ≡ false
    apart-none n = j.apart ∙ ap (λ b. cond b s.apart false) n

    list-first : (i : ℕ) (h : History) → get_elem? s.nodes.items i ≡ some h → HasItsList s t h
    list-first i h at = by_bool (HasItsList s t h) o.apart
        (λ y. its_list s t h (apart-first y) (λ _. j.kept y))
        (λ n. absurd (no-first i h at n))

    list-second : (i : ℕ) (h : History) → get_elem? o.nodes.items i ≡ some h → HasItsList o t h
    list-second i h at = by_bool (HasItsList o t h) o.apart
        (λ y. by_bool (HasItsList o t h) s.apart
        (λ z. its_list o t h (apart-first y ∙ (z ∙ sym y))
        (λ n. absurd (false≢true (sym n ∙ y))))
        (λ n. absurd (no-second i h at n)))
        (λ n. its_list o t h (apart-none n ∙ sym n) (λ _. j.taken n))

    -- where the histories of both use one list, those of one do
    which_one : t.apart ≡ false → (o.apart ≡ false) ⊎ ((o.apart ≡ true) × (s.apart ≡ false))
    which_one one = by_bool ((o.apart ≡ false) ⊎ ((o.apart ≡ true) × (s.apart ≡ false))) o.apart
        (λ y. inr (y, sym (apart-first y) ∙ one))
        (λ n. inl n)

    both_beside : t.apart ≡ false → AreSideBySide t.nodes.items
    both_beside one a b x y p q n = let ns : List History = s.nodes.items in
        let os : List History = o.nodes.items in
        let p' = at_either ns os a x
        (subst (λ (l : List History). get_elem? l a ≡ some x) j.nodes p) in
        let q' = at_either ns os b y
        (subst (λ (l : List History). get_elem? l b ≡ some y) j.nodes q) in
        ⊎_elim
        (λ z. ⊎_elim (λ u. absurd (no-first a x u z))
        (λ u. ⊎_elim (λ w. absurd (no-first b y w z))
        (λ w. g.beside z u.0 w.0 x y u.2 w.2
        (λ e. n (u.1 ∙ (ap (λ (m : ℕ). length ns + m) e ∙ sym w.1)))) q') p')
        (λ z. ⊎_elim (λ u. ⊎_elim (λ w. k.beside z.1 a b x y u w n)
        (λ w. absurd (no-second w.0 y w.2 z.1)) q')
        (λ u. absurd (no-second u.0 x u.2 z.1)) p')
        (which_one one)

    -- what a pass has in memory after it took in another
    pub gathers_keep : (me' : Sat) → me' ≡ (taken_in me.0 he.0, me.1) → IsCounted me'.0
        → Keeps me' t
    gathers_keep me' is counts =
        let v : View = me.0 in let w : View = he.0 in let u : View = taken_in v w in
        let R : Run = v.run in
        let nodes : List History = s.nodes.items in let others : List History = o.nodes.items in
        let long-w : length w.holds ≡ R.nodes = g.held_long ∙ ap (λ (r : Run). r.nodes) run in
        let has : (l : ℕ) → holds u l ≡ (holds v l || holds w l) =
        λ l. both-holds v w l k.held_long long-w in
        let near-v : (l : ℕ) → holds v l ≡ true → l < R.nodes =
        λ l h. omega (arith, has_below v.holds l h, k.held_long) in
        let near-w : (l : ℕ) → holds w l ≡ true → l < R.nodes =
        λ l h. omega (arith, has_below w.holds l h, long-w) in
        let not-w : (l : ℕ) → holds v l ≡ true → holds w l ≡ false =
        λ l h. by_bool (holds w l ≡ false) (holds w l) (λ y. absurd (clear l (near-v l h) h y))
        (λ n. n) in
        let tick : (e l : ℕ) → node_of R e ≡ l → l < R.nodes
        → tickets u e ≡ cond (holds w l) (tickets w e) (tickets v e) = λ e l on h.
        both-tickets v w e (event_below R e k.among (omega arith))
        ∙ ap (λ (x : ℕ). cond (holds w x) (tickets w e) (tickets v e)) on in
        let first-t : (e l : ℕ) → node_of R e ≡ l → holds v l ≡ true
        → tickets u e ≡ tickets v e = λ e l on h. tick e l on (near-v l h)
        ∙ ap (λ b. cond b (tickets w e) (tickets v e)) (not-w l h) in
        let second-t : (e l : ℕ) → node_of R e ≡ l → holds w l ≡ true
        → tickets u e ≡ tickets w e = λ e l on h. tick e l on (near-w l h)
        ∙ ap (λ b. cond b (tickets w e) (tickets v e)) h in
        let yes-first : (l : ℕ) → holds v l ≡ true → holds u l ≡ true = λ l h. has l
        ∙ (ap (λ b. b || holds w l) h ∙ true-or (holds w l)) in
        let yes-second : (l : ℕ) → holds w l ≡ true → holds u l ≡ true = λ l h. has l
        ∙ (ap (λ b. holds v l || b) h ∙ or-true (holds v l)) in
        let which : (l : ℕ) → holds u l ≡ true → (holds v l ≡ true)
        ⊎ (holds w l ≡ true) = λ l h. by_bool ((holds v l ≡ true)
        ⊎ (holds w l ≡ true)) (holds v l) (λ y. inl y)
        (λ n. inr (ap (λ b. b || holds w l) (sym n) ∙ (sym (has l) ∙ h))) in
        let counted : IsCounted u = subst (λ (m : Sat). IsCounted m.0) is counts in
        let counted-w : (e : ℕ) → holds w (node_of R e) ≡ true
        → turns R e (seen w (node_of R e)) ≡ length (tickets w e) =
        subst (λ (r : Run). (e : ℕ) → holds w (node_of r e) ≡ true
        → turns r e (seen w (node_of r e)) ≡ length (tickets w e)) run g.counts in
        let first-s : (l : ℕ) → holds v l ≡ true → seen u l ≡ seen v l =
        λ l h. turns_apart R l (seen u l) (seen v l) (λ e on.
        ap (λ (x : ℕ). turns R e (seen u x)) (sym on)
        ∙ (counted e (ap (holds u) on ∙ yes-first l h)
        ∙ (ap length (first-t e l on h) ∙ (sym (k.counts e (ap (holds v) on ∙ h))
        ∙ ap (λ (x : ℕ). turns R e (seen v x)) on)))) in
        let second-s : (l : ℕ) → holds w l ≡ true
        → seen u l ≡ seen w l = λ l h. turns_apart R l (seen u l) (seen w l) (λ e on.
        ap (λ (x : ℕ). turns R e (seen u x)) (sym on)
        ∙ (counted e (ap (holds u) on ∙ yes-second l h)
        ∙ (ap length (second-t e l on h) ∙ (sym (counted-w e (ap (holds w) on ∙ h))
        ∙ ap (λ (x : ℕ). turns R e (seen w x)) on)))) in
        let split : (i : ℕ) (x : History) → get_elem? t.nodes.items i ≡ some x
        → (get_elem? nodes i ≡ some x)
        ⊎ ((n : ℕ) × (i ≡ length nodes + n) × (get_elem? others n ≡ some x)) =
        λ i x e. at_either nodes others i x
        (subst (λ (l : List History). get_elem? l i ≡ some x) j.nodes e) in
        let joined : (i : ℕ) (x : History) → get_elem? (nodes ++ others) i ≡ some x
        → get_elem? t.nodes.items i ≡ some x =
        λ i x e. subst (λ (l : List History). get_elem? l i ≡ some x) (sym j.nodes) e in
        let P : Sat → Type 0 = λ m. Keeps m t in
        subst P (sym is) (record {
          no_slot = k.no_slot;
          live = k.live;
          idle = k.idle;
          held_long = length-listed (λ l. holds v l || holds w l) R.nodes;
          tickets_long = length-listed
              (λ e. cond (holds w (node_of R e)) (tickets w e) (tickets v e)) (events R);
          seen_long = length-listed (λ l. max (seen v l) (seen w l)) R.nodes;
          among = k.among;
          counts = counted;
          listed = λ i x e. ⊎_elim
              (λ p. let q = k.listed i x p in let m = list-first i x p in
              tells_same u x (list_of_words s x) (list_of_words t x) (list_room s x) (list_room t x) m.0 m.1
              (tells_moved v u x (list_of_words s x) (list_room s x) q refl (yes-first x.node q.has)
              (first-s x.node q.has) (λ n on. first-t n x.node on q.has)))
              (λ p. let q = g.listed p.0 x p.2 in let m = list-second p.0 x p.2 in
              tells_same u x (list_of_words o x) (list_of_words t x) (list_room o x) (list_room t x) m.0 m.1
              (tells_moved w u x (list_of_words o x) (list_room o x) q (sym run)
              (yes-second x.node q.has) (second-s x.node q.has)
              (λ n on. second-t n x.node (ap (λ (r : Run). node_of r n) (sym run) ∙ on) q.has)))
              (split i x e);
          found = λ l hl. ⊎_elim
              (λ h. let f = k.found l h in
              (f.0, f.1, joined f.0 f.1 (at_longer nodes others f.0 f.1 f.2), f.3))
              (λ h. let f = g.found l h in let i : ℕ = length nodes + f.0 in
              (i, f.1, joined i f.1 (at_second nodes others f.0 f.1 f.2), f.3))
              (which l hl);
          distinct = subst IsOneEach (sym j.nodes) both_distinct;
          beside = both_beside;
          all = λ one l near. ⊎_elim
              (λ z. yes-second l (g.all z l (omega (arith, near, ap (λ (r : Run). r.nodes) run))))
              (λ z. yes-first l (k.all z.1 l near))
              (which_one one);
        })

-- what the places of a pass need once it took in another
pub gathered : (me he : Sat) (room : ℕ) (s o : Histories) → IsPass me room s → Keeps he o
    → he.0.run ≡ me.0.run
    → ((l : ℕ) → l < me.0.run.nodes → holds me.0 l ≡ true → holds he.0 l ≡ true → ⊥)
    → length s.nodes.items + length o.nodes.items ≤ room
    → IsGathering me.0.run.nodes room s o
gathered me he room s o q g run clear fits =
    let ns : List History = s.nodes.items in let os : List History = o.nodes.items in record {
      indexed = longer me.0.run.nodes room (length ns) ns os (ns ++ os) s.places.items q.indexed
          refl refl;
      within = omega (arith, length-append ns os);
      below = both_below me he s o q.keeps g run clear;
      distinct = both_distinct me he s o q.keeps g run clear;
      roomy = q.roomy;
      few = omega (arith, length-append ns os, q.few);
    }

-- the pass that took in another
pub gathered_pass : (me he me' : Sat) (room room' : ℕ) (s o t : Histories) → IsPass me room s
    → IsPass he room' o → he.0.run ≡ me.0.run
    → ((l : ℕ) → l < me.0.run.nodes → holds me.0 l ≡ true → holds he.0 l ≡ true → ⊥)
    → me' ≡ (taken_in me.0 he.0, me.1) → IsCounted me'.0 → AreJoined s o t
    → IsIndexed me.0.run.nodes room (length t.nodes.items) t.nodes.items t.places.items
    → IsPass me' room t
gathered_pass me he me' room room' s o t q r run clear is counts j i =
    let ns : List History = s.nodes.items in let os : List History = o.nodes.items in
    let same : me.0.run ≡ me'.0.run = sym (ap (λ (m : Sat). m.0.run) is) in
    let wide : (l : ℕ) → HasRoomFor me.0.run l s.buffers → HasRoomFor me'.0.run l t.buffers =
    λ l b. subst (λ (x : Run). HasRoomFor x l t.buffers) same (record {
      from = omega (arith, b.from, j.buffers.from);
      told = omega (arith, b.told, j.buffers.told);
    }) in
    let wide' : (l : ℕ) → HasRoomFor he.0.run l o.buffers → HasRoomFor me'.0.run l t.buffers =
    λ l b. subst (λ (x : Run). HasRoomFor x l t.buffers) (run ∙ same) (record {
      from = omega (arith, b.from, j.buffers.from_other);
      told = omega (arith, b.told, j.buffers.told_other);
    }) in
    record {
      keeps = gathers_keep me he s o q.keeps r.keeps run clear t j me' is counts;
      indexed = subst (λ (x : Run).
          IsIndexed x.nodes room (length t.nodes.items) t.nodes.items t.places.items) same i;
      roomy = omega (arith, q.roomy, j.nodes_room);
      few = q.few;
      buffers = λ n h at. ⊎_elim
          (λ p. wide h.node (q.buffers n h p))
          (λ p. wide' h.node (r.buffers p.0 h p.2))
          (at_either ns os n h (subst (λ (l : List History). get_elem? l n ≡ some h) j.nodes at));
    }
