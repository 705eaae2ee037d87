-- Registers in clusters, and the buses of registers.
use Rattle.std.proofs.Common.{◌≡◌, ◌≢◌, inl, inr, ℕ, ◌+◌, ◌<◌, List, [], ◌∷◌, ◌++◌, length, get_or, map, refl, sym, ◌∙◌, ap, subst, arith, length-append}
use Rattle.std.specs.Prelude.{Contains, ⊤}
use Rattle.std.proofs.lemmas.Bool.{cases_lt}
use Rattle.std.proofs.lemmas.List.{get_or_past, get_or-map, length-set}
use Rattle.std.proofs.lemmas.List.Elements.{Contains-get_or}
use Rattle.ds_base.proofs.AppendedPairs.{get_or-left, get_or-right}
use Rattle.ds_design.specs.Circuit.{Circuit}
use Rattle.ds_design.specs.declared.design.Net.{Net}
use Rattle.ds_design.specs.declared.design.Register.{Register}
use Rattle.ds_split.specs.Cluster.{bus_of, bus_of_net, no_net}
use Rattle.ds_split.specs.Groups.{group, AreGroups}

-- only a cluster that is there has registers
pub in_group : (groups : List (List ℕ)) (i x : ℕ) → Contains (group groups i) x → i < length groups
in_group groups i x is = elim (cases_lt i (length groups)) [
  | inl low ↦ low
  | inr high ↦ (
      let (k, inside, at) = subst (λ (g : List ℕ). Contains g x) (get_or_past groups i [] high) is in
      absurd (let h : k < 0 = inside in omega arith))
]

-- the bus of a register
pub drives : (c : Circuit) (i : ℕ) (register : Register) → i < length c.registers
    → register ≡ get_or c.registers i register → bus_of_net (get_or c.nets register.output no_net) ≡ bus_of c i
drives c i register inside is =
    let at : get_or (map (λ r. r.output) c.registers) i 0 ≡ (get_or c.registers i register).output =
    get_or-map (λ (r : Register). r.output) c.registers i register 0 inside in
    ap (λ net. bus_of_net (get_or c.nets net no_net)) (ap (λ (r : Register). r.output) is ∙ sym at)

-- no register has a cluster yet
pub no_groups : (belong : ℕ → ℕ → Type 0) → AreGroups belong 0 []
no_groups belong = record {
  covered = λ r low. absurd (omega arith);
  within = λ i r is. absurd (let low : i < 0 = in_group [] i r is in omega arith);
  together = λ i a b is also. absurd (let low : i < 0 = in_group [] i a is in omega arith);
  apart = λ i j a b is also belongs. absurd (let low : i < 0 = in_group [] i a is in omega arith);
  some = λ i low. absurd (omega arith);
  rising = λ i j k d below inside. absurd (let e : length (group [] i) ≡ 0 = ap length (get_or_past {X = List ℕ} [] i [] (omega arith)) in omega arith);
  by_first = λ i j below low. absurd (omega arith);
}
