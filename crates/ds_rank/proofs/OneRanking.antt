-- A relation gives one list of ranks at most.
use Rattle.std.proofs.Common.{◌≡◌, inl, inr, ℕ, zero, suc, ◌+◌, ◌<◌, ◌≤◌, List, length, slice_index, sym, ◌∙◌, arith}
use Rattle.std.proofs.lemmas.Bool.{cases_lt}
use Rattle.std.proofs.lemmas.List.{get_or_past}
use Rattle.std.proofs.lemmas.Grind.{same_number_lists}
use Rattle.ds_rank.specs.Order.{IsRanks}
use Rattle.ds_rank.specs.Laws.{OneListOfRanks}
use Rattle.ds_rank.specs.Rank.{HasFreeArc}

module _ (R : ℕ → ℕ → Type 0) (count : ℕ) (floor : ℕ → ℕ) where
  -- ranks are no greater than others
  at_most : (one other : List ℕ) → IsRanks R count floor one → IsRanks R count floor other
      → (room v : ℕ) → slice_index one v < room → slice_index one v ≤ slice_index other v
  at_most one other is also zero v low = absurd (omega (low, arith))
  at_most one other is also (suc room) v low = elim (cases_lt v count) [
    | inl inside ↦ elim (is.tight v inside) [
      | inl e ↦ (let least : floor v ≤ slice_index other v = also.least v inside in omega (e, least, arith))
      | inr (u, leads, e) ↦ (
          let before : slice_index one u ≤ slice_index other u = at_most one other is also room u (omega (low, e, arith)) in
          let above : slice_index other u + 1 ≤ slice_index other v = also.above u v leads in
          omega (before, above, e, arith))
    ]
    | inr past ↦ (
        let none : slice_index one v ≡ 0 = get_or_past one v 0 (rw is.size past) in
        omega (none, arith))
  ]

  pub one_list : (one other : List ℕ) → IsRanks R count floor one → IsRanks R count floor other → one ≡ other
  one_list one other is also = same_number_lists one other (is.size ∙ sym also.size) (λ k inside.
      let up : slice_index one k ≤ slice_index other k = at_most one other is also (slice_index one k + 1) k (omega arith) in
      let down : slice_index other k ≤ slice_index one k = at_most other one also is (slice_index other k + 1) k (omega arith) in
      omega (up, down, arith))

pub one_list_of_ranks_lem : OneListOfRanks
one_list_of_ranks_lem g one other is also = one_list (HasFreeArc g) (length g.events) (λ _. 0) one other is also
