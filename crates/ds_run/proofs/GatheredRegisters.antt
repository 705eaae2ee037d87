-- Registers that are put together from the rows of clusters.
use Rattle.std.proofs.Common.{◌≡◌, ◌∙◌, ◌+◌, ◌<◌, ℕ, List, [], length, inl, inr, arith, ap, sym, subst}
use Rattle.std.specs.Prelude.{Contains}
use Rattle.std.proofs.lemmas.Bool.{cases_eq, cases_lt}
use Rattle.std.proofs.lemmas.List.{get_or_default, get_or_past}
use Rattle.ds_base.proofs.ListLemmas.{lists_same}
use Rattle.ds_base.specs.Values.{Row}
use Rattle.ds_base.specs.declared.value.Value.TheVariants.{Zero}
use Rattle.ds_cover.specs.Cover.{value_at, values_at}
use Rattle.ds_latch.specs.Node.{Split, members, number_of}
use Rattle.ds_latch.specs.declared.node.Node.TheVariants.{Slave}
use Rattle.ds_latch.specs.Plan.{IsSplit}
use Rattle.ds_latch.specs.Firing.{AreRegisters}
use Rattle.ds_opening.specs.Packed.{Learns}
use Rattle.ds_rule.specs.Run.{Run}
use Rattle.ds_rule.specs.Words.{node_values as stored_at}

-- one cluster more is right
pub one_cluster : (s : Split) (run : Run) (k i : ℕ) → i < length s.clusters → (these : List ℕ)
    → these ≡ members s i
    → (part : Row) → part ≡ stored_at run (number_of (Slave i)) (k + 1) → (old new : Row)
    → ((row : Row) → values_at row these ≡ part → Learns row these old new)
    → (other : Row) → AreRegisters s (λ n. stored_at run (number_of n) (k + 1)) other
    → ((j : ℕ) → j < i → (r : ℕ) → Contains (members s j) r → value_at old r ≡ value_at other r)
    → (j : ℕ) → j < i + 1 → (r : ℕ) → Contains (members s j) r → value_at new r ≡ value_at other r
one_cluster s run k i inside these are part is old new spread other shows right j below r has =
    let shown : values_at other these ≡ part =
    ap (values_at other) are ∙ (shows.1 i inside ∙ sym is) in
    elim (cases_eq j i) [
      | inl e ↦ spread other shown r
          (inl (subst (λ (rs : List ℕ). Contains rs r) (ap (members s) e ∙ sym are) has))
      | inr ne ↦ spread other shown r (inr (right j (omega arith) r has))
    ]

-- registers that are right in each cluster are the whole row
pub gathered_all : (s : Split) → IsSplit s → (row other : Row)
    → length row ≡ length s.circuit.registers → length other ≡ length s.circuit.registers
    → ((i : ℕ) → i < length s.clusters → (r : ℕ) → Contains (members s i) r
    → value_at row r ≡ value_at other r) → row ≡ other
gathered_all s split row other long long' right =
    lists_same row other Zero (long ∙ sym long')
    (λ r. elim (cases_lt r (length s.circuit.registers)) [
      | inl is_register ↦
          (let (d, cluster, inside, is, in_cluster) = split.covered r is_register in
          let same : cluster ≡ members s d =
          sym is ∙ get_or_default s.clusters d cluster [] inside in
          right d inside r (subst (λ (rs : List ℕ). Contains rs r) same in_cluster))
      | inr past ↦ get_or_past row r Zero (omega arith)
          ∙ sym (get_or_past other r Zero (omega arith))
    ])
