-- A net's value depends on its sources alone, so a state and a vector have one valuation at most.
use Rattle.std.proofs.Common.{◌≡◌, ℕ, zero, suc, ◌<◌, ◌++◌, length, get_or, refl, arith, ap, sym, ◌∙◌, map, inl, inr, subst}
use Rattle.std.specs.Prelude.{Contains, All}
use Rattle.std.proofs.lemmas.List.{get_or_past}
use Rattle.std.proofs.lemmas.List.Elements.{Contains-append_cases, Contains-append_left, Contains-append_right, Contains-get_or, All-contains}
use Rattle.std.proofs.lemmas.Bool.{cases_eq, cases_lt}
use Rattle.ds_cover.specs.Cover.{Cover, value_at, value_of}
use Rattle.ds_design.specs.Circuit.{Circuit, columns, register_nets, drivers}
use Rattle.ds_design.specs.Accepted.{IsAccepted}
use Rattle.ds_design.specs.Valuation.{IsValuation}
use Rattle.ds_design.specs.Reach.{Reaches, here, through}
use Rattle.ds_design.specs.declared.design.Gate.{Gate}
use Rattle.ds_base.proofs.ListLemmas.{cases_Contains, cases_Any, Any-from_map, agree_from_map, lists_same}
use Rattle.ds_base.specs.Values.{Row}
use Rattle.ds_base.specs.declared.value.Value.{Value}
use Rattle.ds_base.specs.declared.value.Value.TheVariants.{Zero}
use Rattle.ds_cover.proofs.TableValues.{value_agrees}

-- what tables keep of their inputs holds of all nets, where it holds of their sources
module _ (R : Value → Value → Type 0) (zeros : R Zero Zero) (tables : (cover : Cover) (one other : Row) → All (λ net. R (value_at one net) (value_at other net)) cover.inputs → R (value_of cover one) (value_of cover other)) (c : Circuit) (accepted : IsAccepted c) (state vector one : Row) (first : IsValuation c state vector one) (state' vector' other : Row) (second : IsValuation c state' vector' other) where
  abbrev pub AreKept : ℕ → Type 0
  AreKept net = R (value_at one net) (value_at other net)

  abbrev pub SourcesKept : ℕ → Type 0
  SourcesKept net = (source : ℕ) → Contains (columns c ++ register_nets c) source → Reaches c source net → R (value_at one source) (value_at other source)

  kept_at : (net : ℕ) (x y : Value) → value_at one net ≡ x → value_at other net ≡ y → R x y → AreKept net
  kept_at net x y e f r = subst (λ (a : Value). R a (value_at other net)) (sym e) (subst (λ (b : Value). R x b) (sym f) r)

  kept_below : (fuel : ℕ) (net : ℕ) → accepted.rank net < fuel → SourcesKept net → AreKept net
  kept_below zero net low sources = absurd (omega arith)
  kept_below (suc fuel) net low sources =
      elim (cases_Any (λ (t : Gate). t.output ≡ net) (λ t. cases_eq t.output net) c.tables) [
        | inl (k, t, inside, is, drives) ↦
            (let at : Contains c.tables t = (k, inside, is) in
            let here_one : value_at one t.output ≡ value_of t.table one = All-contains (λ t. value_at one t.output ≡ value_of t.table one) c.tables t first.table at in
            let here_other : value_at other t.output ≡ value_of t.table other = All-contains (λ t. value_at other t.output ≡ value_of t.table other) c.tables t second.table at in
            let rises : All (λ i. accepted.rank i < accepted.rank t.output) t.table.inputs = All-contains (λ t. All (λ i. accepted.rank i < accepted.rank t.output) t.table.inputs) c.tables t accepted.rises at in
            let same_rank : accepted.rank t.output ≡ accepted.rank net = ap accepted.rank drives in
            let inputs : All (λ i. R (value_at one i) (value_at other i)) t.table.inputs =
            λ j d below. kept_below fuel (get_or t.table.inputs j d) (let lower : accepted.rank (get_or t.table.inputs j d) < accepted.rank t.output = rises j d below in omega arith)
            (λ source is_source reaches. sources source is_source (through reaches (k, t, inside, is, (Contains-get_or t.table.inputs j d below, drives)))) in
            subst AreKept drives (kept_at t.output (value_of t.table one) (value_of t.table other) here_one here_other (tables t.table one other inputs)))
        | inr no_table ↦
            elim (cases_Contains (columns c ++ register_nets c) net) [
              | inl source ↦ sources net source here
              | inr no_source ↦
                  (let free : ¬ Contains (drivers c) net =
                  λ d. elim (Contains-append_cases (columns c ++ map (λ t. t.output) c.tables) (register_nets c) net d) [
                    | inl e ↦ elim (Contains-append_cases (columns c) (map (λ t. t.output) c.tables) net e) [
                      | inl column ↦ no_source (Contains-append_left (columns c) (register_nets c) net column)
                      | inr output ↦ no_table (Any-from_map (λ (t : Gate). t.output) c.tables net output)
                    ]
                    | inr register ↦ no_source (Contains-append_right (columns c) (register_nets c) net register)
                  ] in
                  elim (cases_lt net (length c.nets)) [
                    | inl within ↦ kept_at net Zero Zero (first.undriven net within free) (second.undriven net within free) zeros
                    | inr past ↦ kept_at net Zero Zero
                        (get_or_past one net Zero (let n : length one ≡ length c.nets = first.one_each in omega arith))
                        (get_or_past other net Zero (let n : length other ≡ length c.nets = second.one_each in omega arith))
                        zeros
                  ])
            ]
      ]

  pub kept_from_sources : (net : ℕ) → SourcesKept net → AreKept net
  kept_from_sources net sources = kept_below (suc (accepted.rank net)) net (omega arith) sources

pub depends_on_sources : (c : Circuit) → IsAccepted c → (state vector one : Row) → IsValuation c state vector one → (state' vector' other : Row) → IsValuation c state' vector' other → (net : ℕ) → ((source : ℕ) → Contains (columns c ++ register_nets c) source → Reaches c source net → value_at one source ≡ value_at other source) → value_at one net ≡ value_at other net
depends_on_sources c accepted state vector one first state' vector' other second net sources =
    kept_from_sources (λ x y. x ≡ y) refl value_agrees c accepted state vector one first state' vector' other second net sources

pub one_valuation : (c : Circuit) → IsAccepted c → (state vector one other : Row) → IsValuation c state vector one → IsValuation c state vector other → one ≡ other
one_valuation c accepted state vector one other first second =
    lists_same one other Zero (first.one_each ∙ sym second.one_each)
    (λ net. depends_on_sources c accepted state vector one first state vector other second net
    (λ source is_source reaches.
    elim (Contains-append_cases (columns c) (register_nets c) source is_source) [
      | inl column ↦ agree_from_map (value_at one) (value_at other) (columns c) (first.column ∙ sym second.column) source column
      | inr register ↦ agree_from_map (value_at one) (value_at other) (register_nets c) (first.register ∙ sym second.register) source register
    ]))
