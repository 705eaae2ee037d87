-- Registers that have their homes.
use Rattle.std.proofs.Common.{◌≡◌, ◌∙◌, ℕ, ◌+◌, ◌<◌, List, [], length, get_or, inl, inr, ap, sym, subst, arith}
use Rattle.std.specs.Prelude.{All}
use Rattle.std.proofs.lemmas.Bool.{cases_eq}
use Rattle.std.proofs.lemmas.List.{get_or_default}
use Rattle.ds_latch.specs.Node.{Split, members}
use Rattle.ds_latch.specs.Headline.{StandsAt}
use Rattle.ds_latch.specs.Plan.{IsSplit}
use Rattle.ds_rows.specs.Homes.{AreHomes, AreHoused, ArePlaced, IsHome, IsIn, IsPlacedOrKept, no_home}
use Rattle.ds_rows.specs.declared.homes.Home.{Home}

-- the registers of a cluster are among the circuit's
pub members_within : (s : Split) → IsSplit s → (i : ℕ) → i < length s.clusters → All (λ r. r < length s.circuit.registers) (members s i)
members_within s split i inside = split.within i [] inside

-- a register that is placed in its cluster has its home
placed_home : (s : Split) (i r : ℕ) (home : Home) → i < length s.clusters → IsIn (members s i) i r home → IsHome s r home
placed_home s i r home inside (at, low, is) =
    subst (λ (k : ℕ). StandsAt s r k home.place) (sym at) (record { is_cluster = inside; inside = low; here = is })

-- one cluster more
pub housed_more : (s : Split) (i : ℕ) (old new : List Home) → i < length s.clusters → ArePlaced (members s i) i new
    → ((r : ℕ) → IsPlacedOrKept (members s i) i r (get_or old r no_home) (get_or new r no_home))
    → ((j : ℕ) → j < i → AreHoused s old j) → (j : ℕ) → j < i + 1 → AreHoused s new j
housed_more s i old new inside placed kept before j low = elim (cases_eq j i) [
  | inl e ↦ subst (λ (k : ℕ). AreHoused s new k) (sym e) (λ k d at. placed_home s i (get_or (members s i) k d) (get_or new (get_or (members s i) k d) no_home) inside (placed k d at))
  | inr ne ↦ (λ k d at.
      let r : ℕ = get_or (members s j) k d in
      elim (kept (get_or (members s j) k d)) [
        | inl same ↦ subst (λ (home : Home). IsHome s r home) (sym same) (before j (omega arith) k d at)
        | inr moved ↦ placed_home s i r (get_or new r no_home) inside moved
      ])
]

-- all clusters
pub housed_all : (s : Split) → IsSplit s → (homes : List Home) → length homes ≡ length s.circuit.registers
    → ((j : ℕ) → j < length s.clusters → AreHoused s homes j) → AreHomes s homes
housed_all s split homes one_each housed = record {
  one_each = one_each;
  each = λ r low.
      let (i, registers, inside, at, (k, here, is)) = split.covered r low in
      let same : members s i ≡ registers = get_or_default s.clusters i [] registers inside ∙ at in
      let found : get_or (members s i) k r ≡ r = ap (λ (rs : List ℕ). get_or rs k r) same ∙ is in
      subst (λ (n : ℕ). IsHome s n (get_or homes n no_home)) found
      (housed i inside k r (subst (λ (rs : List ℕ). k < length rs) (sym same) here));
}
