-- The tables of a cone, in another order, over the values of its sources.
use Rattle.std.proofs.Common.{◌≡◌, ◌∙◌, ◌⊎◌, ℕ, ◌<◌, List, [], ◌∷◌, ◌++◌, length, get_or, refl, sym, ap, subst, arith, inl, inr, append_assoc, length-append}
use Rattle.std.specs.Prelude.{All, Contains, ◌↔◌}
use Rattle.std.proofs.Math.Seq.{get_or-append_seam}
use Rattle.std.proofs.lemmas.Bool.{cases_lt}
use Rattle.std.proofs.lemmas.List.{get_or_append_left, get_or_default}
use Rattle.std.proofs.lemmas.List.Elements.{All-contains, All-weaker, Contains-get_or, Contains-push_cases}
use Rattle.ds_base.specs.Values.{Row}
use Rattle.ds_base.proofs.ListLemmas.{Any-from_map, Contains-map, cases_Contains, map_agree}
use Rattle.ds_cover.specs.Cover.{value_at, values_at}
use Rattle.ds_design.specs.Circuit.{Circuit}
use Rattle.ds_design.specs.Levels.{table_nets}
use Rattle.ds_design.specs.Reach.{Feeds}
use Rattle.ds_design.specs.Valuation.{IsValuation}
use Rattle.ds_design.specs.declared.design.Gate.{Gate}
use Rattle.ds_settle.specs.Cone.{AreInOrder, IsCone, Parts as Cone, ReachesSome, net_of, nets_of_tables}
use Rattle.ds_settle.proofs.ConeReach.{reaches_itself, reaches_some_before}
use Rattle.ds_settle.proofs.CircuitTables.{net_is}
use Rattle.ds_opening.specs.Noted.{FindInputs, IsAsForeseen}
use Rattle.ds_opening.specs.Packed.{Learns}

module _ (c : Circuit) (these : List ℕ) (cone : Cone) (is_cone : IsCone c these cone)
    (list : List ℕ) (order : AreInOrder c list)
    (same : (k : ℕ) → (Contains list k ↔ Contains cone.tables k)) where
  -- a net that reaches these and that a table drives is driven by one of the list
  driver_listed : (net m : ℕ) (t : Gate) → m < length c.tables → get_or c.tables m t ≡ t → t.output ≡ net
      → ReachesSome c these net → Contains list m × (net_of c m ≡ net)
  driver_listed net m t near is drives reaches =
      let net_m : net_of c m ≡ net = net_is c m t near ∙ (ap (λ (u : Gate). u.output) is ∙ drives) in
      ((same m).1 ((is_cone.tables m near).1 (subst (ReachesSome c these) (sym net_m) reaches)), net_m)

  module _ (state vector foreseen : Row) (valuation : IsValuation c state vector foreseen) where
    -- what a table reads is a source, or driven by an earlier one
    reads : (done rest : List ℕ) (k : ℕ) → list ≡ done ++ k ∷ rest → (P : ℕ → Type 0) → All P cone.sources
        → ((m : ℕ) → Contains done m → P (net_of c m)) → (d : Gate) → All P (get_or c.tables k d).table.inputs
    reads done rest k cut P sources set d j e low_j =
        let i : ℕ = length done in
        let inside : i < length list = omega (ap (λ (xs : List ℕ). length xs) cut, length-append done (k ∷ rest), arith) in
        let here : get_or list i 0 ≡ k = ap (λ (xs : List ℕ). get_or xs i 0) cut ∙ get_or-append_seam done k rest 0 in
        let low : k < length c.tables = subst (λ (n : ℕ). n < length c.tables) here (order.within i 0 inside) in
        let in_list : Contains list k = subst (Contains list) here (Contains-get_or list i 0 inside) in
        let net : ℕ = get_or (get_or c.tables k d).table.inputs j e in
        let has : Contains (get_or c.tables k d).table.inputs net = Contains-get_or (get_or c.tables k d).table.inputs j e low_j in
        let feeds : Feeds c net (net_of c k) =
        (k, get_or c.tables k d, low, get_or_default c.tables k (get_or c.tables k d) d low, (has, sym (net_is c k d low))) in
        let reaches : ReachesSome c these net =
        reaches_some_before c these net (net_of c k) feeds ((is_cone.tables k low).0 ((same k).0 in_list)) in
        elim (cases_Contains (table_nets c) net) [
          | inl driven ↦
              (let (m, t, near, is, drives) = Any-from_map (λ (t : Gate). t.output) c.tables net driven in
              let ((q, q_in, q_is), net_m) = driver_listed net m t near is drives reaches in
              elim (cases_lt q i) [
                | inl before ↦
                    (let there : get_or list q m ≡ get_or done q m =
                    ap (λ (xs : List ℕ). get_or xs q m) cut ∙ get_or_append_left done (k ∷ rest) m q before in
                    subst P net_m (set m (q, before, sym there ∙ q_is)))
                | inr past ↦
                    (let q_0 : get_or list q 0 ≡ m = get_or_default list q 0 m q_in ∙ q_is in
                    let out : (get_or c.tables m d).output ≡ net = sym (net_is c m d near) ∙ net_m in
                    absurd (order.before i q d past q_in
                    (subst (λ (x : ℕ). Contains (get_or c.tables x d).table.inputs (get_or c.tables (get_or list q 0) d).output) (sym here)
                    (subst (λ (x : ℕ). Contains (get_or c.tables k d).table.inputs (get_or c.tables x d).output) (sym q_0)
                    (subst (Contains (get_or c.tables k d).table.inputs) (sym out) has)))))
              ])
          | inr free ↦ All-contains P cone.sources net sources ((is_cone.sources net).1 (reaches, free))
        ]

    finds_rest : (rest done : List ℕ) → list ≡ done ++ rest → (P : ℕ → Type 0) → All P cone.sources
        → ((m : ℕ) → Contains done m → P (net_of c m)) → FindInputs c foreseen P rest
    finds_rest [] done cut P sources set = tt
    finds_rest (k ∷ rest) done cut P sources set =
        let i : ℕ = length done in
        let inside : i < length list = omega (ap (λ (xs : List ℕ). length xs) cut, length-append done (k ∷ rest), arith) in
        let here : get_or list i 0 ≡ k = ap (λ (xs : List ℕ). get_or xs i 0) cut ∙ get_or-append_seam done k rest 0 in
        let low : k < length c.tables = subst (λ (n : ℕ). n < length c.tables) here (order.within i 0 inside) in (
          λ d. (valuation.table k d low, reads done rest k cut P sources set d),
          finds_rest rest (done ++ k ∷ []) (cut ∙ sym (append_assoc done (k ∷ []) rest))
              (λ net. P net ⊎ (net ≡ net_of c k))
              (All-weaker P (λ net. P net ⊎ (net ≡ net_of c k)) (λ net p. inl p) cone.sources sources)
              (λ m has. elim (Contains-push_cases done k m has) [
                | inl early ↦ inl (set m early)
                | inr e ↦ inr (ap (net_of c) (sym e))
              ]),
        )

    pub cone_finds : (nets : Row) → All (IsAsForeseen foreseen nets) cone.sources → FindInputs c foreseen (IsAsForeseen foreseen nets) list
    cone_finds nets sources = finds_rest list [] refl (IsAsForeseen foreseen nets) sources (λ m has. absurd (nothing m has))
      where
        nothing : (x : ℕ) → ¬ Contains [] x
        nothing x (k, inside, is) = absurd (let h : k < 0 = inside in omega (h, arith))

  -- once they are set, all that reach these are as foreseen
  pub these_learnt : (foreseen old new : Row) → All (IsAsForeseen foreseen old) cone.sources
      → Learns foreseen (nets_of_tables c list) old new → values_at new these ≡ values_at foreseen these
  these_learnt foreseen old new sources learns =
      map_agree (value_at new) (value_at foreseen) these (λ j e low.
      let net : ℕ = get_or these j e in
      let reaches : ReachesSome c these net = reaches_itself c these j e low in
      elim (cases_Contains (table_nets c) net) [
        | inl driven ↦
            (let (m, t, near, is, drives) = Any-from_map (λ (t : Gate). t.output) c.tables net driven in
            let (listed, net_m) = driver_listed net m t near is drives reaches in
            learns net (inl (subst (Contains (nets_of_tables c list)) net_m (Contains-map (net_of c) list m listed))))
        | inr free ↦
            learns net (inr (All-contains (IsAsForeseen foreseen old) cone.sources net sources ((is_cone.sources net).1 (reaches, free))))
      ])
