-- Classes that move, one after another.
use Rattle.std.proofs.Common.{◌≡◌, ◌≢◌, ◌∙◌, ℕ, ◌<◌, ◌≤◌, List, [], ◌∷◌, ◌++◌, length, get_or}
use Rattle.std.proofs.Common.{refl, sym, ap, subst, arith, inl, inr}
use Rattle.std.specs.Prelude.{All, Contains}
use Rattle.std.proofs.Math.ListN.{set}
use Rattle.std.proofs.lemmas.Bool.{cases_lt}
use Rattle.std.proofs.lemmas.List.{get_or-set_other, get_or-set_same, get_or_past}
use Rattle.std.proofs.lemmas.List.{length-set}
use Rattle.std.proofs.lemmas.List.Elements.{Contains-append_left}
use Rattle.std.proofs.lemmas.List.Elements.{Contains-push, Contains-push_cases}
use Rattle.ds_base.proofs.ListLemmas.{cases_Contains, get_or-default}
use Rattle.ds_opening.specs.Classes.{AreMoved, AreSplit, IsMovedTo, IsSplitBy}

-- what stands in a list, or 0 past its end, has what all of it have
pub at_any : (P : ℕ → Type 0) (xs : List ℕ) → All P xs → P 0 → (k : ℕ) → P (get_or xs k 0)
at_any P xs all zero k = elim (cases_lt k (length xs)) [
  | inl inside ↦ all k 0 inside
  | inr past ↦ subst P (sym (get_or_past xs k 0 past)) zero
]

pub no_nil : (x : ℕ) → ¬ Contains [] x
no_nil x (k, inside, is) = absurd (let h : k < 0 = inside in omega (h, arith))

module _ (first : ℕ) (old : List ℕ) (all_low : All (λ n. n < first) old) where
  pub split_none : (moved : List ℕ) → AreMoved first moved → AreSplit first [] old old moved
  split_none moved m = record {
    one_each = refl;
    moves = m;
    kept = λ k free. refl;
    left = λ k has. absurd (no_nil k has);
  }

  module _ (some : 0 < first) where
    old_low : (k : ℕ) → get_or old k 0 < first
    old_low k = at_any (λ n. n < first) old all_low some k

    -- one table more
    pub split_more : (done new moved moved' : List ℕ) (table to : ℕ)
        → AreSplit first done old new moved → table < length old → ¬ Contains done table
        → IsMovedTo first moved (get_or new table 0) to moved'
        → AreSplit first (done ++ table ∷ []) old (set new table to) moved'
    split_more done new moved moved' table to so_far inside fresh step =
        let class_is : get_or new table 0 ≡ get_or old table 0 = so_far.kept table fresh in
        let size : length new ≡ length old = so_far.one_each in
        let far : first ≤ get_or moved' (get_or old table 0) 0 =
        subst (λ (q : ℕ). first ≤ get_or moved' q 0) class_is step.moved in
        let at_table : get_or (set new table to) table 0 ≡ get_or moved' (get_or old table 0) 0 =
        get_or-set_same new table to 0 (omega (inside, size, arith))
        ∙ (step.is ∙ ap (λ (q : ℕ). get_or moved' q 0) class_is) in
        record {
          one_each = length-set new table to ∙ so_far.one_each;
          moves = step.are;
          kept = λ k free.
              get_or-set_other new table k to 0
              (λ e. free (subst (Contains (done ++ table ∷ [])) (sym e) (Contains-push done table)))
              ∙ so_far.kept k (λ has. free (Contains-append_left done (table ∷ []) k has));
          left = λ k has. elim (Contains-push_cases done table k has) [
            | inl early ↦
                (let (far_k, is_k) = so_far.left k early in
                let stays : get_or moved' (get_or old k 0) 0 ≡ get_or moved (get_or old k 0) 0 =
                step.stays (get_or old k 0) (old_low k) far_k in
                let other : get_or (set new table to) k 0 ≡ get_or new k 0 =
                get_or-set_other new table k to 0 (λ e. fresh (subst (Contains done) e early)) in
                (subst (λ (n : ℕ). first ≤ n) (sym stays) far_k, other ∙ (is_k ∙ sym stays)))
            | inr e ↦
                subst (λ (n : ℕ). (first ≤ get_or moved' (get_or old n 0) 0)
                × (get_or (set new table to) n 0 ≡ get_or moved' (get_or old n 0) 0))
                e (far, at_table)
          ];
        }

    -- once these tables have moved
    module _ (these new moved : List ℕ) (s : AreSplit first these old new moved) where
      stayed : (k : ℕ) → ¬ Contains these k → get_or new k 0 < first
      stayed k free = subst (λ (n : ℕ). n < first) (sym (s.kept k free)) (old_low k)

      gone : (k : ℕ) → Contains these k → first ≤ get_or new k 0
      gone k has = subst (λ (n : ℕ). first ≤ n) (sym (s.left k has).1) (s.left k has).0

      differ : (a b : ℕ) → Contains these a → ¬ Contains these b → get_or new a 0 ≢ get_or new b 0
      differ a b has free e =
          let up : first ≤ get_or new a 0 = gone a has in
          let low : get_or new b 0 < first = stayed b free in
          absurd (omega (up, low, e, arith))

      pub split_all : IsSplitBy these old new
      split_all a b near_a near_b = elim (cases_Contains these a) [
        | inl has_a ↦ elim (cases_Contains these b) [
          | inl has_b ↦ (
            λ e. (
              s.moves.distinct (get_or old a 0) (get_or old b 0) (old_low a) (old_low b) (s.left a has_a).0
                  (sym (s.left a has_a).1 ∙ (e ∙ (s.left b has_b).1)),
              (λ x. has_b, λ x. has_a),
            ),
            λ both. (s.left a has_a).1
                ∙ (ap (λ (q : ℕ). get_or moved q 0) both.0 ∙ sym (s.left b has_b).1),
          )
          | inr free_b ↦ (
            λ e. absurd (differ a b has_a free_b e),
            λ both. absurd (free_b (both.1.0 has_a)),
          )
        ]
        | inr free_a ↦ elim (cases_Contains these b) [
          | inl has_b ↦ (
            λ e. absurd (differ b a has_b free_a (sym e)),
            λ both. absurd (free_a (both.1.1 has_b)),
          )
          | inr free_b ↦ (
            λ e. (
              sym (s.kept a free_a) ∙ (e ∙ s.kept b free_b),
              (λ has. absurd (free_a has), λ has. absurd (free_b has)),
            ),
            λ both. s.kept a free_a ∙ (both.0 ∙ sym (s.kept b free_b)),
          )
        ]
      ]

      pub all_below : All (λ n. n < length moved) new
      all_below k d inside =
          let more : first ≤ length moved = s.moves.longer in
          let same : get_or new k d ≡ get_or new k 0 = get_or-default new k d 0 inside in
          elim (cases_Contains these k) [
            | inl has ↦
                (let low : get_or moved (get_or old k 0) 0 < length moved =
                at_any (λ n. n < length moved) moved s.moves.low (omega (some, more, arith)) (get_or old k 0) in
                let is : get_or new k 0 ≡ get_or moved (get_or old k 0) 0 = (s.left k has).1 in
                omega (same, is, low, arith))
            | inr free ↦
                (let low : get_or new k 0 < first = stayed k free in omega (same, low, more, arith))
          ]
