-- Registers of which disjoint groups take some have clusters.
use Rattle.std.proofs.Common.{◌≡◌, ◌⊎◌, inl, inr, ℕ, ◌<◌, List, [], length, get_or, subst}
use Rattle.std.specs.Prelude.{Contains}
use Rattle.ds_base.proofs.ListLemmas.{cases_Any, cases_Contains, get_or-self}
use Rattle.ds_base.specs.declared.number.Mode.{Mode}
use Rattle.ds_design.specs.Circuit.{Circuit}
use Rattle.ds_design.specs.Groups.{AreDisjoint}
use Rattle.ds_split.specs.Cluster.{HaveBoth}
use Rattle.ds_split.specs.Grouped.{BelongTogether, IsInGroup}
use Rattle.ds_split.specs.Groups.{group}
use Rattle.ds_split.proofs.Keyed.{both_at}
use Rattle.ds_graph_laws.specs.TotalSplits.{GroupedClusteringsExist}
use Rattle.ds_graph_laws.proofs.Clusterings.{IsDecided, agree_decided, groupings_exist}

module _ (c : Circuit) (mode : Mode) (groups : List (List ℕ)) (count : ℕ) (disjoint : AreDisjoint count groups) where
  -- a group has the register or none has
  cases_taken : (r : ℕ) → IsInGroup groups r ⊎ (¬ IsInGroup groups r)
  cases_taken r = cases_Any (λ (registers : List ℕ). Contains registers r) (λ registers. cases_Contains registers r) groups

  cases_two : (a b : ℕ) (registers : List ℕ) → (Contains registers a × Contains registers b) ⊎ (¬ (Contains registers a × Contains registers b))
  cases_two a b registers = elim (cases_Contains registers a) [
    | inl one ↦ elim (cases_Contains registers b) [
      | inl other ↦ inl (one, other)
      | inr none ↦ inr (λ both. none both.1)
    ]
    | inr none ↦ inr (λ both. none both.0)
  ]

  cases_both : (a b : ℕ) → HaveBoth groups a b ⊎ (¬ HaveBoth groups a b)
  cases_both a b = cases_Any (λ (registers : List ℕ). Contains registers a × Contains registers b) (cases_two a b) groups

  -- what a group has both of it has each of
  first_taken : (a b : ℕ) → HaveBoth groups a b → IsInGroup groups a
  first_taken a b (i, registers, low, at, (one, other)) = (i, registers, low, at, one)

  second_taken : (a b : ℕ) → HaveBoth groups a b → IsInGroup groups b
  second_taken a b (i, registers, low, at, (one, other)) = (i, registers, low, at, other)

  itself : (a : ℕ) → BelongTogether c mode groups a a
  itself a = elim (cases_taken a) [
    | inl taken ↦ (let (i, registers, low, at, is) = taken in inl (i, registers, low, at, (is, is)))
    | inr free ↦ inr (free, free, (agree_decided c mode).itself a)
  ]

  turn : (a b : ℕ) → BelongTogether c mode groups a b → BelongTogether c mode groups b a
  turn a b (inl (i, registers, low, at, (one, other))) = inl (i, registers, low, at, (other, one))
  turn a b (inr (one, other, agree)) = inr (other, one, (agree_decided c mode).turn a b agree)

  then_both : (a b d : ℕ) → HaveBoth groups a b → HaveBoth groups b d → HaveBoth groups a d
  then_both a b d one other =
      let (i, low, a_in, b_in) = both_at groups a b one in
      let (j, also, b_too, d_in) = both_at groups b d other in
      let same : j ≡ i = disjoint.once j i b b_too b_in in
      (i, group groups i, low, get_or-self groups i [] low, (a_in, subst (λ (k : ℕ). Contains (group groups k) d) same d_in))

  then_belong : (a b d : ℕ) → BelongTogether c mode groups a b → BelongTogether c mode groups b d → BelongTogether c mode groups a d
  then_belong a b d (inl one) (inl other) = inl (then_both a b d one other)
  then_belong a b d (inl one) (inr (free, free_d, also)) = absurd (free (second_taken a b one))
  then_belong a b d (inr (free_a, free_b, agree)) (inl other) = absurd (free_b (first_taken b d other))
  then_belong a b d (inr (free_a, free_b, agree)) (inr (free, free_d, also)) = inr (free_a, free_d, (agree_decided c mode).then a b d agree also)

  cases_belong : (a b : ℕ) → BelongTogether c mode groups a b ⊎ (¬ BelongTogether c mode groups a b)
  cases_belong a b = elim (cases_both a b) [
    | inl both ↦ inl (inl both)
    | inr none ↦ elim (cases_taken a) [
      | inl taken ↦ inr (λ belong. elim belong [ inl both ↦ none both | inr rest ↦ rest.0 taken ])
      | inr free ↦ elim (cases_taken b) [
        | inl taken ↦ inr (λ belong. elim belong [ inl both ↦ none both | inr rest ↦ rest.1 taken ])
        | inr free_too ↦ elim ((agree_decided c mode).cases a b) [
          | inl agree ↦ inl (inr (free, free_too, agree))
          | inr differ ↦ inr (λ belong. elim belong [ inl both ↦ none both | inr rest ↦ differ rest.2 ])
        ]
      ]
    ]
  ]

  pub belong_decided : IsDecided (BelongTogether c mode groups)
  belong_decided = record { itself = itself; turn = turn; then = then_belong; cases = cases_belong }

pub grouped_clusterings_exist : GroupedClusteringsExist
grouped_clusterings_exist c mode groups disjoint =
    groupings_exist (BelongTogether c mode groups) (belong_decided c mode groups (length c.registers) disjoint) (length c.registers)
