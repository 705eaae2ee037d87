-- The registers of a circuit have clusters: each in turn joins the cluster to which it belongs, or begins a new one.
use Rattle.std.proofs.Common.{◌≡◌, ◌≢◌, ◌⊎◌, inl, inr, ℕ, zero, suc, ◌+◌, ◌<◌, List, [], ◌∷◌, length, refl, sym, ◌∙◌, ap, subst, arith}
use Rattle.std.specs.Prelude.{Any, Contains}
use Rattle.std.proofs.lemmas.Bool.{cases_eq}
use Rattle.ds_base.proofs.ListLemmas.{cases_Any}
use Rattle.ds_base.specs.declared.number.Mode.{Mode}
use Rattle.ds_base.specs.declared.number.Mode.TheVariants.{Each, One, Bus}
use Rattle.ds_design.specs.Circuit.{Circuit}
use Rattle.ds_design.specs.declared.design.Net.{Net}
use Rattle.ds_split.specs.Cluster.{Agree, IsClustering, IsGrouping, bus_of}
use Rattle.ds_split.specs.Groups.{AreGroups, group, with_member}
use Rattle.ds_split.proofs.Groupings.{grouping}
use Rattle.ds_split.proofs.Groups.{next_register}
use Rattle.ds_split.proofs.Loops.{in_group, no_groups}
use Rattle.ds_graph_laws.proofs.Chosen.{cases_below}

-- two lists of numbers are the same or are not
pub cases_list : (xs ys : List ℕ) → (xs ≡ ys) ⊎ (xs ≢ ys)
cases_list [] [] = inl refl
cases_list [] (y ∷ ys) = inr (λ e. let h : 0 ≡ suc (length ys) = ap length e in absurd (omega arith))
cases_list (x ∷ xs) [] = inr (λ e. let h : suc (length xs) ≡ 0 = ap length e in absurd (omega arith))
cases_list (x ∷ xs) (y ∷ ys) = elim (cases_eq x y) [
  | inl e ↦ elim (cases_list xs ys) [
    | inl f ↦ inl (ap (λ z. z ∷ xs) e ∙ ap (λ zs. y ∷ zs) f)
    | inr other ↦ inr (λ same. let f : xs ≡ ys = cc in other f)
  ]
  | inr other ↦ inr (λ same. let e : x ≡ y = cc in other e)
]

-- two nets are the same or are not
pub cases_net : (a b : Net) → (a ≡ b) ⊎ (a ≢ b)
cases_net a b = elim (cases_eq a.copy b.copy) [
  | inl e ↦ elim (cases_list a.name b.name) [
    | inl f ↦ inl (ap (λ (n : ℕ). let x : Net = record { copy = n; name = a.name } in x) e ∙ ap (λ (n : List ℕ). let x : Net = record { copy = b.copy; name = n } in x) f)
    | inr other ↦ inr (λ same. other (ap (λ (x : Net). x.name) same))
  ]
  | inr other ↦ inr (λ same. other (ap (λ (x : Net). x.copy) same))
]

-- which registers belong together, and that it is decided
pub record IsDecided (belong : ℕ → ℕ → Type 0) : Type 0 where
  pub itself : (a : ℕ) → belong a a
  pub turn : (a b : ℕ) → belong a b → belong b a
  pub then : (a b d : ℕ) → belong a b → belong b d → belong a d
  pub cases : (a b : ℕ) → belong a b ⊎ (¬ belong a b)

module _ (belong : ℕ → ℕ → Type 0) (is : IsDecided belong) where
  -- a register belongs into the cluster at a place
  abbrev BelongsAt : List (List ℕ) → ℕ → ℕ → Type 0
  BelongsAt groups r i = Any (λ x. belong x r) (group groups i)

  at : (groups : List (List ℕ)) (r i x : ℕ) → Contains (group groups i) x → belong x r → BelongsAt groups r i
  at groups r i x (k, inside, same) belongs = (k, x, inside, same, belongs)

  module _ (r : ℕ) (groups : List (List ℕ)) (are : AreGroups belong r groups) where
    join : (place : ℕ) → place < length groups → BelongsAt groups r place → AreGroups belong (r + 1) (with_member groups place r)
    join place low (k, x, inside, same, belongs) =
        next_register belong is.turn r groups are place (omega arith) (is.itself r)
        (λ y member. is.then y x r (are.together place y x member (k, inside, same)) belongs)
        (λ j y member also. are.apart j place y x member (k, inside, same) (is.then y r x also (is.turn x r belongs)))

    begin : ((i : ℕ) → i < length groups → ¬ BelongsAt groups r i) → AreGroups belong (r + 1) (with_member groups (length groups) r)
    begin none =
        next_register belong is.turn r groups are (length groups) (omega arith) (is.itself r)
        (λ y member. absurd (let low : length groups < length groups = in_group groups (length groups) y member in omega arith))
        (λ j y member also. absurd (none j (in_group groups j y member) (at groups r j y member also)))

    next : (more : List (List ℕ)) × AreGroups belong (r + 1) more
    next = elim (cases_below (BelongsAt groups r) (λ i. cases_Any (λ (x : ℕ). belong x r) (λ x. is.cases x r) (group groups i)) (length groups)) [
      | inl (place, low, belongs) ↦ (with_member groups place r, join place low belongs)
      | inr none ↦ (with_member groups (length groups) r, begin none)
    ]

  all_groups : (count : ℕ) → (groups : List (List ℕ)) × AreGroups belong count groups
  all_groups zero = ([], no_groups belong)
  all_groups (suc r) =
      let (groups, are) = all_groups r in
      let (more, also) = next r groups are in
      let e : r + 1 ≡ suc r = omega arith in
      (more, subst (λ (n : ℕ). AreGroups belong n more) e also)

  -- so many registers have clusters
  pub groupings_exist : (count : ℕ) → (clusters : List (List ℕ)) × IsGrouping belong count clusters
  groupings_exist count = let (groups, are) = all_groups count in (groups, grouping belong count groups are)

-- it is decided which registers belong together by a mode
pub agree_decided : (c : Circuit) (mode : Mode) → IsDecided (Agree c mode)
agree_decided c Each = record {
  itself = λ a. refl;
  turn = λ a b e. sym e;
  then = λ a b d e f. e ∙ f;
  cases = λ a b. cases_eq a b;
}
agree_decided c One = record {
  itself = λ a. tt;
  turn = λ a b e. tt;
  then = λ a b d e f. tt;
  cases = λ a b. inl tt;
}
agree_decided c Bus = record {
  itself = λ a. refl;
  turn = λ a b e. sym e;
  then = λ a b d e f. e ∙ f;
  cases = λ a b. cases_net (bus_of c a) (bus_of c b);
}

-- the registers of a circuit have clusters
pub clusterings_exist : (c : Circuit) (mode : Mode) → (clusters : List (List ℕ)) × IsClustering c mode clusters
clusterings_exist c mode = groupings_exist (Agree c mode) (agree_decided c mode) (length c.registers)
