-- Steps of a sweep: one arc, and one step behind another.
use Rattle.std.proofs.Common.{◌≡◌, ◌≢◌, ◌∙◌, ◌⊎◌, ◌<◌, ◌≤◌, ◌+◌, ◌*◌, ◌/◌, ℕ, List, length, get_or, inl, inr, arith, subst, sym, refl, ap, sum, get_or-set_same, get_or-set_other, length-set, Bool, true, false, bit_or}
use Rattle.std.proofs.Math.ListN.{set}
use Rattle.std.specs.Int.{bit_at}
use Rattle.std.specs.Prelude.{Contains}
use Rattle.std.proofs.lemmas.Bool.{cases_eq, false≢true}
use Rattle.std.proofs.lemmas.List.{set-get_or}
use Rattle.std.proofs.lemmas.List.Sums.{sum_by-set}
use Rattle.std.proofs.lemmas.Nat.{div-mul-add, mul-add-lt, le_or_l}
use Rattle.std.proofs.lemmas.Nat.Bits.{bit_at_or, bit_at-lt}
use Rattle.ds_marked.specs.Graph.{Walk, along, IsArc}
use Rattle.ds_marked.specs.declared.marked.Arc.{Arc}
use Rattle.ds_accept.specs.Masks.{AreWalks, IsClosedAt, IsSwept, along_arcs}

-- a place is that of one event and one sum of tokens
pub one_place : (n l v m w : ℕ) → v < n → w < n → l * n + v ≡ m * n + w → (l ≡ m) × (v ≡ w)
one_place n l v m w a b e =
    let same : l ≡ m = sym (div-mul-add l n v a) ∙ (ap (λ (x : ℕ). x / n) e ∙ div-mul-add m n w b) in
    let here : l * n + v ≡ l * n + w = e ∙ ap (λ (k : ℕ). k * n + w) (sym same) in
    (same, omega arith)

-- a bit of two words or'd is one of theirs
or_bit : (a b i : ℕ) → bit_at (bit_or a b) i ≡ 1 → (bit_at a i ≡ 1) ⊎ (bit_at b i ≡ 1)
or_bit a b i e = elim (cases_eq (bit_at a i) 1) [
  | inl is ↦ inl is
  | inr ne ↦
      (let low : bit_at a i < 2 = bit_at-lt a i in
      let none : bit_at a i ≡ 0 = below_two (bit_at a i) low ne in
      inr (with_none (bit_at a i) (bit_at b i) none (sym (bit_at_or a b i) ∙ e)))
]
  where
    below_two : (x : ℕ) → x < 2 → x ≢ 1 → x ≡ 0
    below_two x low ne = omega arith

    with_none : (x y : ℕ) → x ≡ 0 → Rattle.std.specs.Prelude.max x y ≡ 1 → y ≡ 1
    with_none x y none e = omega arith

or_left : (a b i : ℕ) → bit_at a i ≡ 1 → bit_at (bit_or a b) i ≡ 1
or_left a b i e = bit_at_or a b i ∙ greater (bit_at a i) (bit_at b i) e (bit_at-lt b i)
  where
    greater : (x y : ℕ) → x ≡ 1 → y < 2 → Rattle.std.specs.Prelude.max x y ≡ 1
    greater x y e low = omega arith

or_right : (a b i : ℕ) → bit_at b i ≡ 1 → bit_at (bit_or a b) i ≡ 1
or_right a b i e = bit_at_or a b i ∙ greater (bit_at a i) (bit_at b i) e (bit_at-lt a i)
  where
    greater : (x y : ℕ) → y ≡ 1 → x < 2 → Rattle.std.specs.Prelude.max x y ≡ 1
    greater x y e low = omega arith

-- whether one of two has changed
abbrev pub one_of : Bool → Bool → Bool
one_of true b = true
one_of false b = b

pub first_of : (a b c : Bool) → c ≡ a → a ≡ true → c ≡ one_of a b
first_of a b c is e = is ∙ (e ∙ sym (ap (λ (a : Bool). one_of a b) e))

pub second_of : (a b c : Bool) → c ≡ b → a ≡ false → c ≡ one_of a b
second_of a b c is e = is ∙ sym (ap (λ (a : Bool). one_of a b) e)

-- the places of the events and the sums of tokens
pub place_lt : (n bound l v : ℕ) → l < bound → v < n → l * n + v < bound * n
place_lt n bound l v low near = let h : l * n + v < n * bound = mul-add-lt l n v bound low near in omega (arith, h)

module _ (arcs : List Arc) (events bound : ℕ) where
  -- one step behind another
  pub step_both : (P Q R : List ℕ → Type 0) (old mid new : List ℕ) (a b : Bool) → (P new → Q new → R new)
      → IsSwept arcs events bound P old mid a → IsSwept arcs events bound Q mid new b → IsSwept arcs events bound R old new (one_of a b)
  step_both P Q R old mid new true true join s t = record {
    size = t.size ∙ s.size;
    walks = λ src w. t.walks src (s.walks src w);
    kept = λ i b h. t.kept i b (s.kept i b h);
    more = λ e. (let x : sum old < sum mid = s.more refl in let y : sum mid < sum new = t.more refl in omega arith);
    same = λ e. absurd (false≢true (sym e));
    stays = λ e. absurd (false≢true (sym e));
  }
  step_both P Q R old mid new true false join s t = record {
    size = t.size ∙ s.size;
    walks = λ src w. t.walks src (s.walks src w);
    kept = λ i b h. t.kept i b (s.kept i b h);
    more = λ e. (let x : sum old < sum mid = s.more refl in let y : sum new ≡ sum mid = ap (λ (xs : List ℕ). sum xs) (t.same refl) in omega arith);
    same = λ e. absurd (false≢true (sym e));
    stays = λ e. absurd (false≢true (sym e));
  }
  step_both P Q R old mid new false true join s t = record {
    size = t.size ∙ s.size;
    walks = λ src w. t.walks src (s.walks src w);
    kept = λ i b h. t.kept i b (s.kept i b h);
    more = λ e. (let x : sum mid ≡ sum old = ap (λ (xs : List ℕ). sum xs) (s.same refl) in let y : sum mid < sum new = t.more refl in omega arith);
    same = λ e. absurd (false≢true (sym e));
    stays = λ e. absurd (false≢true (sym e));
  }
  step_both P Q R old mid new false false join s t = record {
    size = t.size ∙ s.size;
    walks = λ src w. t.walks src (s.walks src w);
    kept = λ i b h. t.kept i b (s.kept i b h);
    more = λ e. absurd (false≢true e);
    same = λ e. t.same refl ∙ s.same refl;
    stays = λ e. join (subst P (sym (t.same refl)) (s.stays refl)) (t.stays refl);
  }

-- one arc at one sum of tokens
module _ (arcs : List Arc) (events bound token_sum : ℕ) (arc : Arc) (old : List ℕ) (in_arcs : Contains arcs arc) (source : arc.source < events) (target : arc.target < events)
    (size : length old ≡ bound * events) (near : token_sum + arc.tokens < bound) (inside : (token_sum + arc.tokens) * events + arc.target < length old) where
  abbrev from : ℕ
  from = token_sum * events + arc.source

  abbrev to : ℕ
  to = (token_sum + arc.tokens) * events + arc.target

  abbrev word : ℕ
  word = bit_or (get_or old to 0) (get_or old from 0)

  abbrev next : List ℕ
  next = set old to word

  at_to : get_or next to 0 ≡ word
  at_to = get_or-set_same old to word 0 inside

  at_other : (i : ℕ) → i ≢ to → get_or next i 0 ≡ get_or old i 0
  at_other i ne = get_or-set_other old to i word 0 ne

  walks : (sources : List ℕ) → AreWalks arcs sources events bound old → AreWalks arcs sources events bound next
  walks sources have l v b low near_v reached = elim (cases_eq (l * events + v) to) [
    | inl e ↦
        (let same : (l ≡ token_sum + arc.tokens) × (v ≡ arc.target) = one_place events l v (token_sum + arc.tokens) arc.target near_v target e in
        let has : bit_at word b ≡ 1 = ap (λ (x : ℕ). bit_at x b) (sym at_to) ∙ (ap (λ (i : ℕ). bit_at (get_or next i 0) b) (sym e) ∙ reached) in
        elim (or_bit (get_or old to 0) (get_or old from 0) b has) [
          | inl was ↦ have l v b low near_v (ap (λ (i : ℕ). bit_at (get_or old i 0) b) e ∙ was)
          | inr new ↦
              (let before = have token_sum arc.source b (omega arith) source new in
              let is_arc : IsArc (along_arcs arcs) arc.source arc.target arc.tokens = (in_arcs.0, arc, in_arcs.1, in_arcs.2, (refl, refl, refl)) in
              let walk : Walk (along_arcs arcs) (get_or sources b 0) arc.target (token_sum + arc.tokens) = along before.1 is_arc in (
                before.0,
                subst (λ (l : ℕ). Walk (along_arcs arcs) (get_or sources b 0) v l) (sym same.0)
                    (subst (λ (v : ℕ). Walk (along_arcs arcs) (get_or sources b 0) v (token_sum + arc.tokens)) (sym same.1) walk),
              ))
        ])
    | inr ne ↦ have l v b low near_v (ap (λ (x : ℕ). bit_at x b) (sym (at_other (l * events + v) ne)) ∙ reached)
  ]

  kept : (i b : ℕ) → bit_at (get_or old i 0) b ≡ 1 → bit_at (get_or next i 0) b ≡ 1
  kept i b h = elim (cases_eq i to) [
    | inl e ↦ ap (λ (i : ℕ). bit_at (get_or next i 0) b) e ∙ (ap (λ (x : ℕ). bit_at x b) at_to
        ∙ or_left (get_or old to 0) (get_or old from 0) b (ap (λ (i : ℕ). bit_at (get_or old i 0) b) (sym e) ∙ h))
    | inr ne ↦ ap (λ (x : ℕ). bit_at x b) (at_other i ne) ∙ h
  ]

  more : word ≢ get_or old to 0 → sum old < sum next
  more ne =
      let total : sum next + get_or old to 0 ≡ sum old + word = sum_by-set (λ n. n) old to word 0 inside in
      let up : get_or old to 0 ≤ word = le_or_l (get_or old to 0) (get_or old from 0) in
      omega arith

  same : word ≡ get_or old to 0 → next ≡ old
  same e = ap (λ (x : ℕ). set old to x) e ∙ set-get_or old to 0

  closed : word ≡ get_or old to 0 → IsClosedAt events bound old token_sum arc
  closed e low b reached = ap (λ (x : ℕ). bit_at x b) (sym e) ∙ or_right (get_or old to 0) (get_or old from 0) b reached

  pub step_arc : (new : List ℕ) (changed : Bool) → new ≡ set old to word → (changed ≡ true → word ≢ get_or old to 0) → (changed ≡ false → word ≡ get_or old to 0)
      → IsSwept arcs events bound (λ masks. IsClosedAt events bound masks token_sum arc) old new changed
  step_arc new changed is differs equal = subst (λ (new : List ℕ). IsSwept arcs events bound (λ masks. IsClosedAt events bound masks token_sum arc) old new changed) (sym is) (record {
    size = length-set old to word;
    walks = walks;
    kept = kept;
    more = λ e. more (differs e);
    same = λ e. same (equal e);
    stays = λ e. subst (λ (masks : List ℕ). IsClosedAt events bound masks token_sum arc) (sym (same (equal e))) (closed (equal e));
  })

-- the same, at places that are given by equations
pub step_arc_at : (arcs : List Arc) (events bound token_sum : ℕ) (arc : Arc) (old : List ℕ) (in_arcs : Contains arcs arc) → arc.source < events → arc.target < events
    → length old ≡ bound * events → token_sum + arc.tokens < bound
    → (f t : ℕ) (new : List ℕ) (changed : Bool) → new ≡ set old t (bit_or (get_or old t 0) (get_or old f 0))
    → (changed ≡ true → bit_or (get_or old t 0) (get_or old f 0) ≢ get_or old t 0) → (changed ≡ false → bit_or (get_or old t 0) (get_or old f 0) ≡ get_or old t 0)
    → f ≡ token_sum * events + arc.source → t ≡ (token_sum + arc.tokens) * events + arc.target
    → IsSwept arcs events bound (λ masks. IsClosedAt events bound masks token_sum arc) old new changed
step_arc_at arcs events bound token_sum arc old in_arcs source target size near f t new changed is differs equal at_f at_t =
    step_arc arcs events bound token_sum arc old in_arcs source target size near (subst (λ (n : ℕ). (token_sum + arc.tokens) * events + arc.target < n) (sym size) (place_lt events bound (token_sum + arc.tokens) arc.target near target)) new changed
    (subst (λ (t : ℕ). new ≡ set old t (bit_or (get_or old t 0) (get_or old (token_sum * events + arc.source) 0))) at_t
    (subst (λ (f : ℕ). new ≡ set old t (bit_or (get_or old t 0) (get_or old f 0))) at_f is))
    (subst (λ (t : ℕ). changed ≡ true → bit_or (get_or old t 0) (get_or old (token_sum * events + arc.source) 0) ≢ get_or old t 0) at_t
    (subst (λ (f : ℕ). changed ≡ true → bit_or (get_or old t 0) (get_or old f 0) ≢ get_or old t 0) at_f differs))
    (subst (λ (t : ℕ). changed ≡ false → bit_or (get_or old t 0) (get_or old (token_sum * events + arc.source) 0) ≡ get_or old t 0) at_t
    (subst (λ (f : ℕ). changed ≡ false → bit_or (get_or old t 0) (get_or old f 0) ≡ get_or old t 0) at_f equal))
