-- What passes have in memory after a deal: each history in a list of its own, and then one history
-- in a pass of its own.
use Rattle.std.proofs.Common.{◌≡◌, ◌≢◌, ℕ, zero, suc, ◌+◌, ◌-◌, ◌*◌, ◌<◌, ◌≤◌, Bool, true, false}
use Rattle.std.proofs.Common.{List, [], ◌∷◌, ◌++◌, length, take, drop, get_or, replicate, cond}
use Rattle.std.proofs.Common.{sym, refl, ap, ◌∙◌, subst, arith, suc-mul, length-append, length-set}
use Rattle.std.proofs.Common.{get_or-set_other, get_or-set_same, eq-eqb, ne_eqb, vec_capacity}
use Rattle.std.proofs.Common.{⊎_elim}
use Rattle.std.proofs.lemmas.List.{length-take-le, length-drop, get_or-take, get_or-drop}
use Rattle.std.proofs.lemmas.List.{length-replicate}
use Rattle.std.proofs.lemmas.Bool.{false≢true}
use Rattle.std.proofs.Math.Nat.{mul-le-mul_right}
use mathlib.Core.Logic.{dite}
use mathlib.Core.Option.{some}
use native.Mathlib.Decide.{ℕ_discrete, dec_lt}
use lib.ListN.{get_elem?}
use Rattle.ds_rule.specs.Run.{Run, node_of}
use Rattle.ds_rule.specs.Sound.{IsSound}
use Rattle.ds_rule.specs.Rule.{holds, tickets, seen}
use Rattle.ds_rule.specs.Plays.{Sat, with_cut, without_cut, only_cut}
use Rattle.ds_rule.specs.declared.view.View.{View}
use Rattle.ds_rule.proofs.GetElemLemmas.{same_at, at_below, there_is, replicate-default, has_below}
use Rattle.ds_rule.proofs.GetElemLemmas.{only_item, by_bool, get-first, get-second, at_either}
use Rattle.ds_fabric.specs.declared.buffers.Buffers.{Buffers}
use Rattle.ds_fabric.specs.declared.history.History.{History}
use Rattle.ds_fabric.specs.declared.histories.Histories.{Histories}
use Rattle.ds_fabric.specs.Flight.{HasRoomFor}
use Rattle.ds_fabric.specs.HistoryList.{stride_of, turns_told, StandByTurn, list_of_words, list_room}
use Rattle.ds_fabric.specs.Indexed.{came, IsWithout, IsIndexed, IsHistoryAt}
use Rattle.ds_fabric.specs.Separated.{IsCopy, IsOwn, AreSeparated, AreWide, words_until}
use Rattle.ds_fabric.specs.Showing.{Tells, Keeps, IsPass}
use Rattle.ds_fabric.proofs.HistoryLayout.{stride_above, told_small}
use Rattle.ds_fabric.proofs.PassMemory.{tells_moved}

-- the words of one turn that the list has
module _ (words : List ℕ) (h : History) (inside : h.first + h.stride ≤ h.step) where
  long_turn : (k : ℕ) → (k + 1) * h.step ≤ length words
      → length (take h.stride (drop (k * h.step + h.first) words)) ≡ h.stride
  long_turn k whole = let p : ℕ = k * h.step + h.first in
      length-take-le h.stride (drop p words)
      (omega (arith, length-drop p words, suc-mul k h.step, whole, inside))

  -- the words of so many turns, one behind the other
  pub long_until : (n : ℕ) → n * h.step ≤ length words
      → length (words_until words h n) ≡ n * h.stride
  long_until zero whole = omega arith
  long_until (suc n) whole = let p : ℕ = n * h.step + h.first in omega (
    arith,
    length-append (words_until words h n) (take h.stride (drop p words)),
    long_until n (omega (arith, whole, suc-mul n h.step)),
    long_turn n (omega (arith, whole, suc-mul n h.step)),
    suc-mul n h.stride,
  )

  pub get_until : (n k o : ℕ) → n * h.step ≤ length words → k < n → o < h.stride
      → get_or (words_until words h n) (k * h.stride + o) 0
      ≡ get_or words (k * h.step + h.first + o) 0
  get_until zero k o whole near low = absurd (omega arith)
  get_until (suc n) k o whole near low =
      let old : List ℕ = words_until words h n in let p : ℕ = n * h.step + h.first in
      let more : List ℕ = take h.stride (drop p words) in
      let whole' : n * h.step ≤ length words = omega (arith, whole, suc-mul n h.step) in
      let long = long_until n whole' in dite (ℕ_discrete k n)
      (λ e. let at : k * h.stride + o ≡ n * h.stride + o =
      ap (λ (x : ℕ). x * h.stride + o) e in
      let from : p + o ≡ k * h.step + h.first + o =
      ap (λ (x : ℕ). x * h.step + h.first + o) (sym e) in
      ap (λ (x : ℕ). get_or (old ++ more) x 0) at
      ∙ (get-second old more (n * h.stride) o (sym long)
      ∙ (get_or-take h.stride (drop p words) o 0 low
      ∙ (get_or-drop p words o 0 ∙ ap (λ (x : ℕ). get_or words x 0) from))))
      (λ ne. let less : suc k ≤ n = omega arith in
      get-first old more (k * h.stride + o) (omega (
        arith,
        long,
        suc-mul k h.stride,
        mul-le-mul_right {m = suc k} {n = n} h.stride less,
      ))
      ∙ get_until n k o whole' (omega arith) low)

-- what stood in one list turn by turn stands so in a list of its own
pub own_stands : (limit : ℕ) (h : History) (words own : List ℕ) (room : ℕ) (told : List ℕ)
    → StandByTurn words h.first h.stride h.step told → IsOwn limit h words own room
    → StandByTurn own 0 h.stride h.stride told
own_stands limit h words own room told s is = let n : ℕ = is.turns in
    let long : length own ≡ n * h.stride = ap (λ (l : List ℕ). length l) is.items
    ∙ long_until words h s.inside n is.whole in record {
      inside = omega arith;
      whole = λ k below. let less : k + 1 ≤ n = omega (arith, is.all k (s.whole k below)) in
          omega (arith, long, mul-le-mul_right {m = k + 1} {n = n} h.stride less);
      same = λ k o low below. let near = is.all k (s.whole k (omega arith)) in
          let e : k * h.stride + 0 + o ≡ k * h.stride + o = omega arith in
          ap (λ (x : ℕ). get_or own x 0) e
          ∙ (ap (λ (l : List ℕ). get_or l (k * h.stride + o) 0) is.items
          ∙ (get_until words h s.inside n k o is.whole near low ∙ s.same k o low below));
    }

-- a history that got a list of its own tells the same
pub copy_tells : (v : View) (limit : ℕ) (g h : History) (words : List ℕ) (room : ℕ)
    → limit ≡ v.run.limit → Tells v g words room → IsCopy limit words g h
    → Tells v h h.own.items (vec_capacity h.own)
copy_tells v limit g h words room limit-is o p =
    let own : List ℕ = h.own.items in
    let told : List ℕ = turns_told v.run (tickets v) g.node (seen v g.node) in record {
      has = subst (λ (l : ℕ). holds v l ≡ true) (sym p.node) o.has;
      fired = p.fired ∙ (o.fired ∙ ap (seen v) (sym p.node));
      stride = p.stride ∙ (o.stride ∙ ap (stride_of v.run) (sym p.node));
      turns = subst (λ (l : ℕ). StandByTurn own h.first h.stride h.step
          (turns_told v.run (tickets v) l (seen v l))) (sym p.node)
          (subst (λ (x : ℕ). StandByTurn own x h.stride h.step told) (sym p.first)
          (subst (λ (x : ℕ). StandByTurn own 0 x h.step told) (sym p.stride)
          (subst (λ (x : ℕ). StandByTurn own 0 g.stride x told) (sym p.step)
          (own_stands limit g words own (vec_capacity h.own) told o.turns p.own))));
      fits = omega (
        arith,
        p.own.fits,
        ap (λ (x : ℕ). v.run.limit * x) p.step,
        ap (λ (x : ℕ). x * g.stride) limit-is,
      );
    }

-- histories with lists of their own, and such with one list
pub words_own : (s : Histories) (h : History) → s.apart ≡ true → list_of_words s h ≡ h.own.items
words_own s h e = ap (λ b. cond b h.own.items s.together.items) e

pub room_own : (s : Histories) (h : History) → s.apart ≡ true → list_room s h ≡ vec_capacity h.own
room_own s h e = ap (λ b. cond b (vec_capacity h.own) (vec_capacity s.together)) e

pub words_together : (s : Histories) (h : History) → s.apart ≡ false
    → list_of_words s h ≡ s.together.items
words_together s h e = ap (λ b. cond b h.own.items s.together.items) e

pub room_together : (s : Histories) (h : History) → s.apart ≡ false
    → list_room s h ≡ vec_capacity s.together
room_together s h e = ap (λ b. cond b (vec_capacity h.own) (vec_capacity s.together)) e

-- the same history in two lists that are one
pub tells_same : (v : View) (h : History) (ws xs : List ℕ) (n m : ℕ) → ws ≡ xs → n ≡ m
    → Tells v h ws n → Tells v h xs m
tells_same v h ws xs n m a b t =
    subst (λ (y : ℕ). Tells v h xs y) b (subst (λ (l : List ℕ). Tells v h l n) a t)

-- a history in the list of its own, among others
pub tells_own : (v : View) (s t : Histories) (h : History) → s.apart ≡ true → t.apart ≡ true
    → Tells v h (list_of_words s h) (list_room s h) → Tells v h (list_of_words t h) (list_room t h)
tells_own v s t h a b = tells_same v h (list_of_words s h) (list_of_words t h) (list_room s h) (list_room t h)
    (words_own s h a ∙ sym (words_own t h b)) (room_own s h a ∙ sym (room_own t h b))

-- what a pass keeps has a length of 64 bits
pub wide : (me : Sat) (limit : ℕ) (s : Histories) → limit ≡ me.0.run.limit → IsSound me.0.run
    → Keeps me s → AreWide limit s
wide me limit s limit-is sound k i h at = let o = k.listed i h at in let run : Run = me.0.run in
    record {
      some_word = omega (arith, o.stride, stride_above run h.node);
      inside = o.turns.inside;
      small = omega (
        arith,
        told_small run h.node sound,
        ap (λ (x : ℕ). limit * x) o.stride,
        ap (λ (x : ℕ). x * stride_of run h.node) limit-is,
      );
    }

-- the same nodes at the same places
copied_indexed : (m r : ℕ) (gs hs : List History) (ps : List ℕ) → length hs ≡ length gs
    → ((i : ℕ) (g h : History) → get_elem? gs i ≡ some g → get_elem? hs i ≡ some h
    → h.node ≡ g.node)
    → IsIndexed m r (length gs) gs ps → IsIndexed m r (length hs) hs ps
copied_indexed m r gs hs ps long same o = record {
  small = o.small;
  few = omega (arith, o.few, long);
  one = o.one;
  long = o.long;
  placed = λ i h below at pos. let near : i < length gs = omega arith in
      let g = there_is gs i near in
      ap (λ (x : ℕ). get_or ps x 0) (same i g.0 h g.1 at) ∙ o.placed i g.0 near g.1 pos;
  back = λ l pos. let b = o.back l pos in let i : ℕ = get_or ps l 0 - 1 in
      let h = there_is hs i (omega (arith, at_below gs i b.1.0 b.1.1, long)) in
      (omega (arith, b.0, long), (h.0, h.1, same i b.1.0 h.0 b.1.1 h.1 ∙ b.1.2));
}

-- histories that got lists of their own
copied : (me : Sat) (room limit : ℕ) (s t : Histories) → limit ≡ me.0.run.limit → IsPass me room s
    → s.apart ≡ false → AreSeparated limit s t → IsPass me room t
copied me room limit s t limit-is q one x =
    let v : View = me.0 in let k = q.keeps in let c = x.copies one in
    let gs : List History = s.nodes.items in let hs : List History = t.nodes.items in
    let old : (i : ℕ) (h : History) → get_elem? hs i ≡ some h
    → (g : History) × (get_elem? gs i ≡ some g) = λ i h at.
    there_is gs i (omega (arith, at_below hs i h at, c.long)) in
    let same : (i : ℕ) (g h : History) → get_elem? gs i ≡ some g → get_elem? hs i ≡ some h
    → h.node ≡ g.node = λ i g h a b. (c.each i g h a b).node in
    record {
      keeps = record {
        no_slot = k.no_slot;
        live = k.live;
        idle = k.idle;
        held_long = k.held_long;
        tickets_long = k.tickets_long;
        seen_long = k.seen_long;
        among = k.among;
        counts = k.counts;
        listed = λ i h at. let g = old i h at in
            let p = c.each i g.0 h g.1 at in
            tells_same v h h.own.items (list_of_words t h) (vec_capacity h.own) (list_room t h)
            (sym (words_own t h x.apart)) (sym (room_own t h x.apart))
            (copy_tells v limit g.0 h s.together.items (vec_capacity s.together) limit-is
            (tells_same v g.0 (list_of_words s g.0) s.together.items (list_room s g.0)
            (vec_capacity s.together) (words_together s g.0 one) (room_together s g.0 one)
            (k.listed i g.0 g.1)) p);
        found = λ l hl. let f = k.found l hl in
            let h = there_is hs f.0 (omega (arith, at_below gs f.0 f.1 f.2, c.long)) in
            (f.0, h.0, h.1, same f.0 f.1 h.0 f.2 h.1 ∙ f.3);
        distinct = λ i j h h' a b e. let g = old i h a in let g' = old j h' b in
            k.distinct i j g.0 g'.0 g.1 g'.1
            (sym (same i g.0 h g.1 a) ∙ (e ∙ same j g'.0 h' g'.1 b));
        beside = λ e. absurd (false≢true (sym e ∙ x.apart));
        all = λ e. absurd (false≢true (sym e ∙ x.apart));
      };
      indexed = subst (λ (ps : List ℕ). IsIndexed v.run.nodes room (length hs) hs ps)
          (sym (ap (λ w. w.items) x.places))
          (copied_indexed v.run.nodes room gs hs s.places.items c.long same q.indexed);
      roomy = omega (arith, q.roomy, x.nodes_room);
      few = q.few;
      buffers = λ i h at. let g = old i h at in
          subst (λ (b : Buffers). HasRoomFor v.run h.node b) (sym x.buffers)
          (subst (λ (l : ℕ). HasRoomFor v.run l s.buffers) (sym (same i g.0 h g.1 at))
          (q.buffers i g.0 g.1));
    }

pub separated : (me : Sat) (room limit : ℕ) (s t : Histories) → limit ≡ me.0.run.limit
    → IsPass me room s → AreSeparated limit s t → IsPass me room t
separated me room limit s t limit-is q x = by_bool (IsPass me room t) s.apart
    (λ y. subst (λ (z : Histories). IsPass me room z) (sym (x.before y)) q)
    (λ n. copied me room limit s t limit-is q n x)

-- where the history came from that stands at j: never from the place that was left, and from two
-- places never to one
came-not : (i n j : ℕ) → i < n + 1 → j < n → came i n j ≢ i
came-not i n j inside h e = dite (ℕ_discrete j i)
    (λ same. absurd (omega (arith, ap (λ b. cond b n j) (eq-eqb j i same), e)))
    (λ far. far (sym (ap (λ b. cond b n j) (ne_eqb j i far)) ∙ e))

came_apart : (i n j k : ℕ) → j < n → k < n → came i n j ≡ came i n k → j ≡ k
came_apart i n j k p q e = dite (ℕ_discrete j i)
    (λ a. dite (ℕ_discrete k i) (λ b. a ∙ sym b)
    (λ b. absurd (omega (
      arith,
      ap (λ x. cond x n j) (eq-eqb j i a),
      ap (λ x. cond x n k) (ne_eqb k i b),
      e,
    ))))
    (λ a. dite (ℕ_discrete k i)
    (λ b. absurd (omega (
      arith,
      ap (λ x. cond x n j) (ne_eqb j i a),
      ap (λ x. cond x n k) (eq-eqb k i b),
      e,
    )))
    (λ b. sym (ap (λ x. cond x n j) (ne_eqb j i a)) ∙ (e ∙ ap (λ x. cond x n k) (ne_eqb k i b))))

-- what a pass has in memory after a node left it
pub deals_left : (me me' : Sat) (s t : Histories) (i node : ℕ) (h : History)
    → s.apart ≡ true → t.apart ≡ true
    → Keeps me s → get_elem? s.nodes.items i ≡ some h → h.node ≡ node
    → me' ≡ (without_cut (with_cut me.0 node), me.1)
    → IsWithout s.nodes.items t.nodes.items i → Keeps me' t
deals_left me me' s t i node h own own' k at same is out =
    let nodes : List History = s.nodes.items in let ys : List History = t.nodes.items in
    let v : View = me.0 in let w : View = without_cut (with_cut v node) in
    let old = k.listed i h at in let n : ℕ = length ys in
    let has-it : holds v node ≡ true = subst (λ y. holds v y ≡ true) same old.has in
    let near : node < length v.holds = has_below v.holds node has-it in
    let else-same : (l : ℕ) → l ≢ node → holds w l ≡ holds v l =
    λ l n. get_or-set_other v.holds node l false false n in
    let gone : holds w node ≡ false = get_or-set_same v.holds node false false near in
    let not-it : (l : ℕ) → holds w l ≡ true → l ≢ node =
    λ l hl e. false≢true (sym gone ∙ (ap (holds w) (sym e) ∙ hl)) in
    let had : (l : ℕ) → holds w l ≡ true → holds v l ≡ true =
    λ l hl. sym (else-same l (not-it l hl)) ∙ hl in
    let inside : i < n + 1 = omega (arith, at_below nodes i h at, out.shorter) in
    let P : Sat → Type 0 = λ m. Keeps m t in
    subst P (sym is) (record {
      no_slot = k.no_slot;
      live = k.live;
      idle = k.idle;
      held_long = length-set v.holds node false ∙ k.held_long;
      tickets_long = k.tickets_long;
      seen_long = k.seen_long;
      among = k.among;
      counts = λ e hl. k.counts e (had (node_of v.run e) hl);
      listed = λ j g e. let at' = out.from j g e in let o = k.listed (came i n j) g at' in
          tells_own w s t g own own'
          (tells_moved v w g (list_of_words s g) (list_room s g) o refl (else-same g.node
          (λ z. came-not i n j inside (at_below ys j g e)
          (k.distinct (came i n j) i g h at' at (z ∙ sym same))) ∙ o.has) refl (λ x on. refl));
      found = λ l hl. let f = k.found l (had l hl) in
          let far : f.0 ≢ i = λ e. not-it l hl (sym f.3
          ∙ (ap (λ (x : History). x.node) (same_at nodes i f.1 h
          (subst (λ j. get_elem? nodes j ≡ some f.1) e f.2) at) ∙ same)) in
          dite (dec_lt f.0 n)
          (λ low. (f.0, f.1, out.stay f.0 f.1 f.2 far low, f.3))
          (λ high. let z : f.0 ≡ n = omega (arith, at_below nodes f.0 f.1 f.2, out.shorter) in (
            i,
            f.1,
            out.last f.1 (subst (λ (j : ℕ). get_elem? nodes j ≡ some f.1) z f.2)
                (omega arith),
            f.3,
          ));
      distinct = λ a b g g' p q e. came_apart i n a b (at_below ys a g p) (at_below ys b g' q)
          (k.distinct (came i n a) (came i n b) g g' (out.from a g p) (out.from b g' q) e);
      beside = λ e. absurd (false≢true (sym e ∙ own'));
      all = λ e. absurd (false≢true (sym e ∙ own'));
    })

-- what the new pass has in memory
pub deals_right : (me me' : Sat) (s t : Histories) (i node : ℕ) (h : History)
    → s.apart ≡ true → t.apart ≡ true → Keeps me s
    → get_elem? s.nodes.items i ≡ some h → h.node ≡ node
    → me' ≡ (only_cut (with_cut me.0 node), []) → t.nodes.items ≡ h ∷ [] → Keeps me' t
deals_right me me' s t i node h own own' k at same is items =
    let v : View = me.0 in let w : View = only_cut (with_cut v node) in
    let old = k.listed i h at in
    let has-it : holds v node ≡ true = subst (λ y. holds v y ≡ true) same old.has in
    let blank : List Bool = replicate (length v.holds) false in
    let near : node < length blank = omega (
      arith,
      length-replicate (length v.holds) false,
      has_below v.holds node has-it,
    ) in
    let here : holds w node ≡ true = get_or-set_same blank node true false near in
    let only : (l : ℕ) → holds w l ≡ true → l ≡ node = λ l hl. dite (ℕ_discrete l node) (λ e. e)
    (λ n. absurd (false≢true (sym (get_or-set_other blank node l true false n
    ∙ replicate-default (length v.holds) l false) ∙ hl))) in
    let had : (l : ℕ) → holds w l ≡ true → holds v l ≡ true = λ l hl. ap (holds v) (only l hl)
    ∙ has-it in
    let one : (j : ℕ) (g : History) → get_elem? t.nodes.items j ≡ some g → (j ≡ 0) × (h ≡ g) =
    λ j g e. only_item h g j (subst (λ (l : List History). get_elem? l j ≡ some g) items e) in
    let P : Sat → Type 0 = λ m. Keeps m t in
    subst P (sym is) (record {
      no_slot = refl;
      live = k.live;
      idle = k.idle;
      held_long = length-set blank node true ∙ (length-replicate (length v.holds) false
          ∙ k.held_long);
      tickets_long = k.tickets_long;
      seen_long = k.seen_long;
      among = k.among;
      counts = λ e hl. k.counts e (had (node_of v.run e) hl);
      listed = λ j g e.
          subst (λ (x : History). Tells w x (list_of_words t x) (list_room t x)) (one j g e).1
          (tells_own w s t h own own' (tells_moved v w h (list_of_words s h) (list_room s h) old refl
          (ap (holds w) same ∙ here) refl (λ x on. refl)));
      found = λ l hl. (
        0,
        h,
        ap (λ (l : List History). get_elem? l 0) items,
        same ∙ sym (only l hl),
      );
      distinct = λ a b g g' p q e. (one a g p).0 ∙ sym (one b g' q).0;
      beside = λ e. absurd (false≢true (sym e ∙ own'));
      all = λ e. absurd (false≢true (sym e ∙ own'));
    })

-- the history of a node stands where it stood before the histories got lists of their own
pub still_at : (limit i node : ℕ) (s t : Histories) → AreSeparated limit s t
    → IsHistoryAt s.nodes.items i node → IsHistoryAt t.nodes.items i node
still_at limit i node s t x f = by_bool (IsHistoryAt t.nodes.items i node) s.apart
    (λ y. subst (λ (z : Histories). IsHistoryAt z.nodes.items i node) (sym (x.before y)) f)
    (λ n. let c = x.copies n in
    let h = there_is t.nodes.items i (omega (arith, at_below s.nodes.items i f.0 f.1, c.long)) in
    (h.0, h.1, (c.each i f.0 h.0 f.1 h.1).node ∙ f.2))

-- a pass that a node left
pub left_pass : (me me' : Sat) (room : ℕ) (s t : Histories) (i node : ℕ) (h : History)
    → s.apart ≡ true → t.apart ≡ true → IsPass me room s
    → get_elem? s.nodes.items i ≡ some h → h.node ≡ node
    → me' ≡ (without_cut (with_cut me.0 node), me.1)
    → IsWithout s.nodes.items t.nodes.items i
    → IsIndexed me.0.run.nodes room (length t.nodes.items) t.nodes.items t.places.items
    → vec_capacity t.nodes ≡ vec_capacity s.nodes → t.buffers ≡ s.buffers → IsPass me' room t
left_pass me me' room s t i node h own own' q at same is out o roomy buffers =
    let after : Sat = (without_cut (with_cut me.0 node), me.1) in
    subst (λ (m : Sat). IsPass m room t) (sym is) (record {
      keeps = deals_left me after s t i node h own own' q.keeps at same refl out;
      indexed = o;
      roomy = omega (arith, roomy, q.roomy);
      few = q.few;
      buffers = λ j g e. subst (λ (b : Buffers). HasRoomFor me.0.run g.node b) (sym buffers)
          (q.buffers (came i (length t.nodes.items) j) g (out.from j g e));
    })

-- the pass to which it went
pub dealt_pass : (me me' : Sat) (run : Run) (room : ℕ) (s t : Histories) (i node : ℕ) (h : History)
    → run ≡ me.0.run → s.apart ≡ true → t.apart ≡ true → Keeps me s
    → get_elem? s.nodes.items i ≡ some h → h.node ≡ node
    → me' ≡ (only_cut (with_cut me.0 node), []) → t.nodes.items ≡ h ∷ []
    → IsIndexed run.nodes room 1 (h ∷ []) t.places.items → room ≤ vec_capacity t.nodes
    → HasRoomFor run node t.buffers → IsPass me' room t
dealt_pass me me' run room s t i node h run-is own own' k at same is items o roomy buffers =
    let after : Sat = (only_cut (with_cut me.0 node), []) in
    let R : Run = me.0.run in let ps : List ℕ = t.places.items in
    subst (λ (m : Sat). IsPass m room t) (sym is) (record {
      keeps = deals_right me after s t i node h own own' k at same refl items;
      indexed = subst (λ (l : List History). IsIndexed R.nodes room (length l) l ps) (sym items)
          (subst (λ (r : Run). IsIndexed r.nodes room 1 (h ∷ []) ps) run-is o);
      roomy = roomy;
      few = o.small.1;
      buffers = λ j g e.
          let one = only_item h g j
          (subst (λ (l : List History). get_elem? l j ≡ some g) items e) in
          subst (λ (x : History). HasRoomFor R x.node t.buffers) one.1
          (subst (λ (l : ℕ). HasRoomFor R l t.buffers) (sym same)
          (subst (λ (r : Run). HasRoomFor r node t.buffers) run-is buffers));
    })

-- one copy more
pub copied_more : (limit n : ℕ) (words : List ℕ) (gs hs zs : List History) (g h : History)
    → length hs ≡ n
    → ((i : ℕ) (a b : History) → get_elem? gs i ≡ some a → get_elem? hs i ≡ some b
    → IsCopy limit words a b)
    → get_elem? gs n ≡ some g → IsCopy limit words g h → zs ≡ hs ++ h ∷ []
    → (i : ℕ) (a b : History) → get_elem? gs i ≡ some a → get_elem? zs i ≡ some b
    → IsCopy limit words a b
copied_more limit n words gs hs zs g h long old at copy is i a b at-a at-b = ⊎_elim
    (λ p. old i a b at-a p)
    (λ p. let o = only_item h b p.0 p.2 in let e : i ≡ n = omega (arith, p.1, o.0, long) in
    subst (λ (x : History). IsCopy limit words a x) o.1
    (subst (λ (x : History). IsCopy limit words x h)
    (same_at gs n g a at (subst (λ (j : ℕ). get_elem? gs j ≡ some a) e at-a)) copy))
    (at_either hs (h ∷ []) i b (subst (λ (l : List History). get_elem? l i ≡ some b) is at-b))
