-- The levels of an accepted circuit are one.
use Rattle.std.proofs.Common.{◌≡◌, ℕ, zero, suc, ◌+◌, ◌<◌, List, get_or, slice_index, map, sym, ap, ◌∙◌, arith, inl, inr, subst}
use Rattle.std.specs.Prelude.{All}
use Rattle.std.proofs.lemmas.Bool.{cases_eq}
use Rattle.std.proofs.lemmas.List.Elements.{All-contains}
use Rattle.ds_base.specs.Greatest.{greatest}
use Rattle.ds_base.proofs.ListLemmas.{cases_Any, Any-from_map, lists_same, map_agree}
use Rattle.ds_design.specs.Circuit.{Circuit}
use Rattle.ds_design.specs.Accepted.{IsAccepted}
use Rattle.ds_design.specs.Levels.{AreLevels, IsDepth}
use Rattle.ds_design.specs.declared.design.Gate.{Gate}

module _ (c : Circuit) (accepted : IsAccepted c) (one other : List ℕ) (first : AreLevels c one)
    (second : AreLevels c other) where
  abbrev IsOne : ℕ → Type 0
  IsOne net = slice_index one net ≡ slice_index other net

  -- a table whose inputs have one level drives a net with one level
  through_table : (t : Gate) → All IsOne t.table.inputs
      → slice_index one t.output ≡ greatest (map (slice_index one) t.table.inputs) + 1
      → slice_index other t.output ≡ greatest (map (slice_index other) t.table.inputs) + 1
      → IsOne t.output
  through_table t inputs here there =
      let same : map (slice_index one) t.table.inputs ≡ map (slice_index other) t.table.inputs =
      map_agree (slice_index one) (slice_index other) t.table.inputs inputs in
      here ∙ (ap (λ (ls : List ℕ). greatest ls + 1) same ∙ sym there)

  level_below : (fuel : ℕ) (net : ℕ) → accepted.rank net < fuel → IsOne net
  level_below zero net low = absurd (omega arith)
  level_below (suc fuel) net low =
      elim (cases_Any (λ (t : Gate). t.output ≡ net) (λ t. cases_eq t.output net) c.tables) [
        | inl (k, t, inside, is, drives) ↦
            (let rises : All (λ i. accepted.rank i < accepted.rank t.output) t.table.inputs =
            All-contains (λ t. All (λ i. accepted.rank i < accepted.rank t.output) t.table.inputs)
            c.tables t accepted.rises (k, inside, is) in
            let same_rank : accepted.rank t.output ≡ accepted.rank net = ap accepted.rank drives in
            let inputs : All IsOne t.table.inputs =
            λ j d below. level_below fuel (get_or t.table.inputs j d)
            (let lower : accepted.rank (get_or t.table.inputs j d) < accepted.rank t.output =
            rises j d below in omega arith) in
            subst IsOne drives (through_table t inputs
            (All-contains (λ t. slice_index one t.output
            ≡ greatest (map (slice_index one) t.table.inputs) + 1) c.tables t first.driven
            (k, inside, is))
            (All-contains (λ t. slice_index other t.output
            ≡ greatest (map (slice_index other) t.table.inputs) + 1) c.tables t second.driven
            (k, inside, is))))
        | inr no_table ↦
            first.not_driven net (λ d. no_table (Any-from_map (λ (t : Gate). t.output) c.tables net d))
            ∙ sym (second.not_driven net
            (λ d. no_table (Any-from_map (λ (t : Gate). t.output) c.tables net d)))
      ]

  pub one_levels : one ≡ other
  one_levels = lists_same one other 0 (first.one_each ∙ sym second.one_each)
      (λ net. level_below (suc (accepted.rank net)) net (omega arith))

pub one_depth : (c : Circuit) → IsAccepted c → (depth other : ℕ) → IsDepth c depth
    → IsDepth c other → depth ≡ other
one_depth c accepted depth other first second =
    first.is ∙ (ap greatest (one_levels c accepted first.levels second.levels first.are second.are)
    ∙ sym second.is)
