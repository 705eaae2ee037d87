-- Keys, and the nets that they stand for.
use Rattle.std.proofs.Common.{◌≡◌, ◌≢◌, inl, inr, ℕ, zero, suc, ◌+◌, ◌<◌, Bool, true, false, List, [], ◌∷◌, ◌++◌, length, get_or, map, refl, sym, ◌∙◌, ap, subst, arith, ◌==◌, if◌then◌else◌, Some, None}
use Rattle.std.specs.List.{list_any, position_or_len}
use Rattle.std.specs.Str.{bytes_eq}
use Rattle.std.specs.Bool.{Decides}
use Rattle.std.specs.List.{position}
use Rattle.std.proofs.lemmas.Bool.{cases_Bool}
use Rattle.std.proofs.lemmas.List.{length-map}
use Rattle.ds_lines.proofs.WordKeys.{position_some, position_none}
use Rattle.std.proofs.lemmas.Bool.Decides.{Decides-and, Decides-eqb, not_from_Decides}
use Rattle.std.proofs.lemmas.Slice.Eq.{bytes_eq-Decides}
use Rattle.ds_design.specs.declared.design.Net.{Net}
use Rattle.ds_groups.specs.declared.key.Key.{Key}
use Rattle.ds_groups.specs.contracts.key.KeyPartialEq.TheImpl as key_eq
use Rattle.ds_groups.specs.Latest.{missing_net}
use Rattle.ds_groups.specs.Keys.{net_of_key, IsNetAt, IsNoNet, IsKeyPlaced}

-- whether two keys are equal
abbrev pub same_key : Key → Key → Bool
same_key = (key_eq.eq-value).it

-- it tells whether they stand for one net
tells : (key other : Key) → Decides (same_key key other) ((key.copy ≡ other.copy) × (key.name.now ≡ other.name.now))
tells key other = Decides-and (key.copy == other.copy) (bytes_eq key.name.now other.name.now)
    (Decides-eqb key.copy other.copy) (bytes_eq-Decides key.name.now other.name.now)

one_net : (key other : Key) → same_key key other ≡ true → net_of_key other ≡ net_of_key key
one_net key other is =
    let (copy, name) = (tells key other).0 is in
    ap (λ (n : ℕ). record { copy = n; name = other.name.now }) (sym copy)
    ∙ ap (λ (text : List ℕ). record { copy = key.copy; name = text }) (sym name)

two_nets : (key other : Key) → same_key key other ≡ false → net_of_key other ≢ net_of_key key
two_nets key other is e = not_from_Decides (same_key key other) (tells key other) is
    (sym (ap (λ (n : Net). n.copy) e), sym (ap (λ (n : Net). n.name) e))

-- the keys with a key at the end where it is not there yet
abbrev pub with_key : List Key → Key → List Key
with_key keys key = if list_any (same_key key) keys then keys else keys ++ key ∷ []

later : (net other : Net) (old new : List Net) (place : ℕ) → other ≢ net → IsKeyPlaced old net new place
    → IsKeyPlaced (other ∷ old) net (other ∷ new) (1 + place)
later net other old new place differs (inl (same, (inside, at))) =
    let e : 1 + place ≡ suc place = omega arith in
    inl (ap (λ ns. other ∷ ns) same, (omega arith, ap (λ k. get_or (other ∷ old) k missing_net) e ∙ at))
later net other old new place differs (inr (last, same, unlike)) = inr (omega arith, ap (λ ns. other ∷ ns) same, before)
  where
    before : (k : ℕ) → k < length (other ∷ old) → get_or (other ∷ old) k missing_net ≢ net
    before zero low = differs
    before (suc k) low = unlike k (omega arith)

pub placed : (keys : List Key) (key : Key)
    → IsKeyPlaced (map net_of_key keys) (net_of_key key) (map net_of_key (with_key keys key)) (position_or_len (same_key key) keys)
placed [] key = inr (refl, refl, λ k low. absurd (omega arith))
placed (other ∷ keys) key = elim (cases_Bool (same_key key other)) [
  | inl same ↦ rw same (inl (refl, (omega arith, one_net key other same)))
  | inr differs ↦ (
      let new : with_key (other ∷ keys) key ≡ other ∷ with_key keys key = rw differs (elim (cases_Bool (list_any (same_key key) keys)) [
        | inl there ↦ rw there refl
        | inr missing ↦ rw missing refl
      ]) in
      let place : position_or_len (same_key key) (other ∷ keys) ≡ 1 + position_or_len (same_key key) keys = rw differs refl in
      subst (λ (ks : List Key). IsKeyPlaced (map net_of_key (other ∷ keys)) (net_of_key key) (map net_of_key ks) (position_or_len (same_key key) (other ∷ keys))) (sym new)
      (subst (λ (n : ℕ). IsKeyPlaced (map net_of_key (other ∷ keys)) (net_of_key key) (map net_of_key (other ∷ with_key keys key)) n) (sym place)
      (later (net_of_key key) (net_of_key other) (map net_of_key keys) (map net_of_key (with_key keys key)) (position_or_len (same_key key) keys)
      (two_nets key other differs) (placed keys key))))
]

-- the same where the keys are seen as nets
module _ (keys : List Key) (key : Key) (old new : List Net) (view : map net_of_key keys ≡ old)
    (all : List Key) (new_view : map net_of_key all ≡ new) (place : ℕ) where
  pub placed_in : all ≡ with_key keys key → place ≡ position_or_len (same_key key) keys → IsKeyPlaced old (net_of_key key) new place
  placed_in is at =
      subst (λ (nets : List Net). IsKeyPlaced nets (net_of_key key) new place) view
      (subst (λ (nets : List Net). IsKeyPlaced (map net_of_key keys) (net_of_key key) nets place) new_view
      (subst (λ (ks : List Key). IsKeyPlaced (map net_of_key keys) (net_of_key key) (map net_of_key ks) place) (sym is)
      (subst (λ (n : ℕ). IsKeyPlaced (map net_of_key keys) (net_of_key key) (map net_of_key (with_key keys key)) n) (sym at) (placed keys key))))

-- a key that is looked up
module _ (keys : List Key) (key : Key) (nets : List Net) (view : map net_of_key keys ≡ nets) where
  pub found_at : (place : ℕ) → position (same_key key) keys ≡ Some place → place < length keys → IsNetAt nets (net_of_key key) place
  found_at place is inside =
      let n : length (map net_of_key keys) ≡ length keys = length-map keys net_of_key in
      let at : place ≡ position_or_len (same_key key) keys = position_some (same_key key) keys place is in
      subst (λ (ns : List Net). IsNetAt ns (net_of_key key) place) view
      (elim (placed keys key) [
        | inl (same, there) ↦ subst (λ (k : ℕ). IsNetAt (map net_of_key keys) (net_of_key key) k) (sym at) there
        | inr (last, more, unlike) ↦ absurd (omega arith)
      ])

  pub not_found : position (same_key key) keys ≡ None → IsNoNet nets (net_of_key key)
  not_found is =
      let n : length (map net_of_key keys) ≡ length keys = length-map keys net_of_key in
      let at : length keys ≡ position_or_len (same_key key) keys = position_none (same_key key) keys is in
      subst (λ (ns : List Net). IsNoNet ns (net_of_key key)) view
      (elim (placed keys key) [
        | inl (same, (inside, there)) ↦ absurd (omega arith)
        | inr (last, more, unlike) ↦ unlike
      ])
