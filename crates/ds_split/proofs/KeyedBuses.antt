-- Keys of buses, and the nets that they stand for.
use Rattle.std.proofs.Common.{◌≡◌, ◌≢◌, inl, inr, ℕ, zero, suc, ◌+◌, ◌<◌, Bool, true, false, List, [], ◌∷◌, ◌++◌, length, get_or, map, refl, sym, ◌∙◌, ap, subst, arith, ◌==◌, if◌then◌else◌}
use Rattle.std.specs.List.{list_any, position_or_len}
use Rattle.std.specs.Str.{bytes_eq}
use Rattle.std.specs.Bool.{Decides}
use Rattle.std.proofs.lemmas.Bool.{cases_Bool}
use Rattle.std.proofs.lemmas.Bool.Decides.{Decides-and, Decides-eqb, not_from_Decides}
use Rattle.std.proofs.lemmas.Slice.Eq.{bytes_eq-Decides}
use Rattle.ds_design.specs.declared.design.Net.{Net}
use Rattle.ds_split.specs.declared.bus.Bus.{Bus}
use Rattle.ds_split.specs.contracts.bus.BusPartialEq.TheImpl as bus_eq
use Rattle.ds_split.specs.Cluster.{no_net}
use Rattle.ds_split.specs.Keys.{net_of_bus, IsPlaced}

-- whether two buses are equal
abbrev pub same_bus : Bus → Bus → Bool
same_bus = (bus_eq.eq-value).it

-- it tells whether they stand for one net
tells : (bus other : Bus) → Decides (same_bus bus other) ((bus.copy ≡ other.copy) × (bus.name.now ≡ other.name.now))
tells bus other = Decides-and (bus.copy == other.copy) (bytes_eq bus.name.now other.name.now)
    (Decides-eqb bus.copy other.copy) (bytes_eq-Decides bus.name.now other.name.now)

one_net : (bus other : Bus) → same_bus bus other ≡ true → net_of_bus other ≡ net_of_bus bus
one_net bus other is =
    let (copy, name) = (tells bus other).0 is in
    ap (λ (n : ℕ). record { copy = n; name = other.name.now }) (sym copy)
    ∙ ap (λ (text : List ℕ). record { copy = bus.copy; name = text }) (sym name)

two_nets : (bus other : Bus) → same_bus bus other ≡ false → net_of_bus other ≢ net_of_bus bus
two_nets bus other is e = not_from_Decides (same_bus bus other) (tells bus other) is
    (sym (ap (λ (n : Net). n.copy) e), sym (ap (λ (n : Net). n.name) e))

-- the keys with a bus at the end where it is not there yet
abbrev pub with_bus : List Bus → Bus → List Bus
with_bus keys bus = if list_any (same_bus bus) keys then keys else keys ++ bus ∷ []

later : (net other : Net) (old new : List Net) (place : ℕ) → other ≢ net → IsPlaced old net new place
    → IsPlaced (other ∷ old) net (other ∷ new) (1 + place)
later net other old new place differs (inl (inside, same, at)) =
    let e : 1 + place ≡ suc place = omega arith in
    inl (omega arith, ap (λ ns. other ∷ ns) same, ap (λ k. get_or (other ∷ old) k no_net) e ∙ at)
later net other old new place differs (inr (last, same, unlike)) = inr (omega arith, ap (λ ns. other ∷ ns) same, before)
  where
    before : (k : ℕ) → k < length (other ∷ old) → get_or (other ∷ old) k no_net ≢ net
    before zero low = differs
    before (suc k) low = unlike k (omega arith)

pub placed : (keys : List Bus) (bus : Bus)
    → IsPlaced (map net_of_bus keys) (net_of_bus bus) (map net_of_bus (with_bus keys bus)) (position_or_len (same_bus bus) keys)
placed [] bus = inr (refl, refl, λ k low. absurd (omega arith))
placed (other ∷ keys) bus = elim (cases_Bool (same_bus bus other)) [
  | inl same ↦ rw same (inl (omega arith, refl, one_net bus other same))
  | inr differs ↦ (
      let new : with_bus (other ∷ keys) bus ≡ other ∷ with_bus keys bus = rw differs (elim (cases_Bool (list_any (same_bus bus) keys)) [
        | inl there ↦ rw there refl
        | inr missing ↦ rw missing refl
      ]) in
      let place : position_or_len (same_bus bus) (other ∷ keys) ≡ 1 + position_or_len (same_bus bus) keys = rw differs refl in
      subst (λ (ks : List Bus). IsPlaced (map net_of_bus (other ∷ keys)) (net_of_bus bus) (map net_of_bus ks) (position_or_len (same_bus bus) (other ∷ keys))) (sym new)
      (subst (λ (n : ℕ). IsPlaced (map net_of_bus (other ∷ keys)) (net_of_bus bus) (map net_of_bus (other ∷ with_bus keys bus)) n) (sym place)
      (later (net_of_bus bus) (net_of_bus other) (map net_of_bus keys) (map net_of_bus (with_bus keys bus)) (position_or_len (same_bus bus) keys)
      (two_nets bus other differs) (placed keys bus))))
]

-- the same where the keys are seen as nets
module _ (keys : List Bus) (bus : Bus) (old new : List Net) (view : map net_of_bus keys ≡ old)
    (all : List Bus) (new_view : map net_of_bus all ≡ new) (place : ℕ) where
  pub placed_in : all ≡ with_bus keys bus → place ≡ position_or_len (same_bus bus) keys → IsPlaced old (net_of_bus bus) new place
  placed_in is at =
      subst (λ (nets : List Net). IsPlaced nets (net_of_bus bus) new place) view
      (subst (λ (nets : List Net). IsPlaced (map net_of_bus keys) (net_of_bus bus) nets place) new_view
      (subst (λ (ks : List Bus). IsPlaced (map net_of_bus keys) (net_of_bus bus) (map net_of_bus ks) place) (sym is)
      (subst (λ (n : ℕ). IsPlaced (map net_of_bus keys) (net_of_bus bus) (map net_of_bus (with_bus keys bus)) n) (sym at) (placed keys bus))))
