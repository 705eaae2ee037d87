-- A design of words is accepted.
use Rattle.std.proofs.Common.{◌≡◌, ◌≢◌, inl, inr, ℕ, zero, suc, ◌+◌, ◌-◌, ◌<◌, ◌≤◌, ◌==◌, not, List}
use Rattle.std.proofs.Common.{[], ◌∷◌, ◌++◌, length, get_or, refl, sym, ◌∙◌, ap, arith, map, subst}
use Rattle.std.proofs.Common.{drop, length-drop}
use Rattle.std.specs.Prelude.{All, AllPairs, Any, Contains, None, Some, slice_index}
use Rattle.std.specs.List.{filter, filter_map, flat_map, list_any, range_with_len}
use Rattle.std.proofs.lemmas.Bool.{cases_lt}
use Rattle.std.proofs.lemmas.List.{length-map}
use Rattle.std.proofs.lemmas.Simd.{map-map}
use Rattle.std.proofs.lemmas.List.Elements.{All-nil, All-append, All-map, All-same, All-weaker}
use Rattle.std.proofs.lemmas.List.Elements.{Contains-append_left, Contains-append_right}
use Rattle.rand_xoshiro.specs.SplitMix64.{mix_u64}
use Rattle.ds_design.specs.declared.design.Gate.{Gate}
use Rattle.ds_design.specs.declared.design.Register.{Register}
use Rattle.ds_design.specs.declared.design.Edge.TheVariants.{Rising, Falling}
use Rattle.ds_design.specs.Circuit.{control_nets, columns, register_nets, data_nets, drivers, used}
use Rattle.ds_design.specs.Levels.{table_nets}
use Rattle.ds_design.specs.Accepted.{IsAccepted}
use Rattle.ds_demo.specs.Demo.{register_net, data_net_of, gate_of, demo_register}
use Rattle.ds_demo.specs.Demo.{registers_of, design_of, vector_of, seed_words, demo_design}
use Rattle.ds_demo.specs.Demo.{demo_vectors}
use Rattle.ds_demo.specs.Laws.{FitsColumns}
use Rattle.ds_demo.proofs.GeneratorWords.{length-first_words}
use Rattle.ds_demo.proofs.DistinctNumbers.{All-two, All-made, All-flat_map, Contains-none, Contains-made}
use Rattle.ds_demo.proofs.DistinctNumbers.{two_differ, made_differ, pairs-append}
use Rattle.ds_demo.proofs.DemoInRange.{inputs-hold, are_vectors}

-- the table and the register of a number
abbrev gate_at : ℕ → List ℕ → ℕ → Gate
gate_at registers words j = gate_of registers j (slice_index words j)

abbrev register_at : ℕ → List ℕ → ℕ → Register
register_at registers words j = demo_register registers j (slice_index words j)

-- the nets that the registers take, and those that they drive
abbrev taken : ℕ → List ℕ
taken registers = map (data_net_of registers) (range_with_len 0 registers)

abbrev driven_nets : ℕ → List ℕ
driven_nets registers = map register_net (range_with_len 0 registers)

-- registers without a control have no control names
no_controls_from : (f : ℕ → Register) → ((j : ℕ) → (f j).control ≡ None) → (a n : ℕ)
    → filter_map (λ r. r.control) (map f (range_with_len a n)) ≡ []
no_controls_from f none a zero = refl
no_controls_from f none a (suc n) = rw none (no_controls_from f none (a + 1) n)

no_controls : (registers : ℕ) (words : List ℕ) → control_nets (design_of registers words) ≡ []
no_controls registers words =
    no_controls_from (register_at registers words) (λ j. refl) 0 registers

-- the first two nets without the clocks
abbrev columns_beside : List ℕ → List ℕ
columns_beside clocks =
    filter (λ net. not (list_any (λ clock. clock == net) clocks)) (0 ∷ 1 ∷ [])

pub two_columns : (registers : ℕ) (words : List ℕ)
    → columns (design_of registers words) ≡ 0 ∷ 1 ∷ []
two_columns registers words = ap columns_beside (no_controls registers words)

-- what drives: two columns, the tables, the registers
abbrev all_drivers : ℕ → List ℕ
all_drivers registers = ((0 ∷ 1 ∷ []) ++ taken registers) ++ driven_nets registers

drivers-all : (registers : ℕ) (words : List ℕ)
    → drivers (design_of registers words) ≡ all_drivers registers
drivers-all registers words =
    let c = design_of registers words in
    let tables : table_nets c ≡ taken registers =
    map-map (λ (t : Gate). t.output) (gate_at registers words) (range_with_len 0 registers) in
    let outputs : register_nets c ≡ driven_nets registers =
    map-map (λ (r : Register). r.output) (register_at registers words)
    (range_with_len 0 registers) in
    ap (λ (l : List ℕ). (l ++ table_nets c) ++ register_nets c) (two_columns registers words)
    ∙ (ap (λ (l : List ℕ). ((0 ∷ 1 ∷ []) ++ l) ++ register_nets c) tables
    ∙ ap (λ (l : List ℕ). ((0 ∷ 1 ∷ []) ++ taken registers) ++ l) outputs)

-- a number below all nets of the registers is none of them
apart_below : (registers net : ℕ) → net < 2 → All (λ y. net ≢ y) (driven_nets registers)
apart_below registers net below =
    All-made (λ y. net ≢ y) register_net registers (λ j inside e. absurd (omega arith))

apart_taken : (registers net : ℕ) → net < 2 → All (λ y. net ≢ y) (taken registers)
apart_taken registers net below =
    All-made (λ y. net ≢ y) (data_net_of registers) registers (λ j inside e. absurd (omega arith))

apart_driven : (registers i : ℕ) → All (λ y. data_net_of registers i ≢ y) (driven_nets registers)
apart_driven registers i = All-made (λ y. data_net_of registers i ≢ y) register_net registers
    (λ j inside e. absurd (omega arith))

-- no net is driven twice
drivers-differ : (registers : ℕ) → AllPairs (λ x y. x ≢ y) (all_drivers registers)
drivers-differ registers =
    let outputs = driven_nets registers in
    pairs-append ((0 ∷ 1 ∷ []) ++ taken registers) outputs
    (pairs-append (0 ∷ 1 ∷ []) (taken registers) (two_differ 0 1 (λ e. absurd (omega arith)))
    (made_differ (data_net_of registers) registers (λ i j below. omega arith))
    (All-two (λ x. All (λ y. x ≢ y) (taken registers)) 0 1
    (apart_taken registers 0 (omega arith)) (apart_taken registers 1 (omega arith))))
    (made_differ register_net registers (λ i j below. omega arith))
    (All-append (λ x. All (λ y. x ≢ y) outputs) (0 ∷ 1 ∷ []) (taken registers)
    (All-two (λ x. All (λ y. x ≢ y) outputs) 0 1
    (apart_below registers 0 (omega arith)) (apart_below registers 1 (omega arith)))
    (All-made (λ x. All (λ y. x ≢ y) outputs) (data_net_of registers) registers
    (λ i inside. apart_driven registers i)))

is_column : (net : ℕ) → net < 2 → Contains (0 ∷ 1 ∷ []) net
is_column zero below = (0, omega arith, refl)
is_column (suc zero) below = (1, omega arith, refl)
is_column (suc (suc net)) below = absurd (omega arith)

-- each net is driven
driven : (registers net : ℕ) → net < 2 + registers + registers
    → Contains (all_drivers registers) net
driven registers net below =
    let first = (0 ∷ 1 ∷ []) ++ taken registers in
    let outputs = driven_nets registers in
    elim (cases_lt net 2) [
      | inl column ↦ Contains-append_left first outputs net
          (Contains-append_left (0 ∷ 1 ∷ []) (taken registers) net (is_column net column))
      | inr past ↦ elim (cases_lt net (2 + registers)) [
        | inl register ↦ Contains-append_right first outputs net
            (subst (Contains outputs) (let e : register_net (net - 2) ≡ net = omega arith in e)
            (Contains-made register_net registers (net - 2) (omega arith)))
        | inr later ↦
            let j : ℕ = net - 2 - registers in
            let e : data_net_of registers j ≡ net = omega arith in
            Contains-append_left first outputs net
            (Contains-append_right (0 ∷ 1 ∷ []) (taken registers) net
            (subst (Contains (taken registers)) e
            (Contains-made (data_net_of registers) registers j (omega arith))))
      ]
    ]

-- what is used is there
used-below : (registers : ℕ) (words : List ℕ) → 1 ≤ registers
    → All (λ net. net < 2 + registers + registers) (used (design_of registers words))
used-below registers words some =
    let Named : ℕ → Type 0 = λ net. net < 2 + registers + registers in
    let c = design_of registers words in
    let inputs = flat_map (λ t. t.table.inputs) c.tables in
    All-append Named (inputs ++ data_nets c) c.outputs
    (All-append Named inputs (data_nets c)
    (All-flat_map Named (λ t. t.table.inputs) c.tables
    (All-made (λ t. All Named t.table.inputs) (gate_at registers words) registers
    (λ j below. inputs-hold Named registers (slice_index words j) (λ net small. omega arith))))
    (All-map Named (λ r. r.data_net) c.registers
    (All-made (λ r. Named r.data_net) (register_at registers words) registers
    (λ j below. omega arith))))
    (All-two Named _ _ (omega arith) (omega arith))

-- each register takes the rising edge
not_falling : (registers : ℕ) (words : List ℕ)
    → ¬ Any (λ r. r.edge ≡ Some Falling) (registers_of registers registers words)
not_falling registers words (k, r, inside, is, falling) =
    let all : List Register = registers_of registers registers words in
    let rising = All-made (λ r. r.edge ≡ Some Rising) (register_at registers words) registers
    (λ j below. refl) in
    let here : (get_or all k r).edge ≡ Some Rising = rising k r inside in
    absurd (cc)

pub accepted : (registers : ℕ) (words : List ℕ) → 1 ≤ registers
    → IsAccepted (design_of registers words)
accepted registers words some =
    let c = design_of registers words in
    let none = no_controls registers words in
    let same = drivers-all registers words in
    let Outside : ℕ → Type 0 = λ clock. ¬ Contains (table_nets c ++ register_nets c) clock in
    let Unused : ℕ → Type 0 = λ clock. ¬ Contains (used c) clock in
    let Named : ℕ → Type 0 = λ net. net < 2 + registers + registers in
    record {
      one_clock = λ a b clock other. absurd (Contains-none _ none a clock);
      one_edge = λ rising. not_falling registers words;
      clock_not_driven = All-same Outside _ [] none (All-nil Outside);
      clock_not_used = All-same Unused _ [] none (All-nil Unused);
      one_driver = subst (λ (l : List ℕ). AllPairs (λ x y. x ≢ y) l) (sym same)
          (drivers-differ registers);
      all_driven = subst (λ (l : List ℕ). All (Contains l) (used c)) (sym same)
          (All-weaker Named (Contains (all_drivers registers)) (driven registers) (used c)
          (used-below registers words some));
      rank = λ net. net - (registers + 1);
      rises = All-made (λ t. All (λ net. net - (registers + 1) < t.output - (registers + 1))
          t.table.inputs) (gate_at registers words) registers
          (λ j below. inputs-hold (λ net. net - (registers + 1)
          < data_net_of registers j - (registers + 1)) registers (slice_index words j)
          (λ net small. omega arith));
    }

-- the vectors fit the columns
pub vectors_fit : (seed registers turns : ℕ) → turns ≤ 65536 → FitsColumns seed registers turns
unfolding demo_design demo_vectors
vectors_fit seed registers turns few =
    let words = seed_words (registers + turns) seed in
    let all : length words ≡ registers + turns =
    length-first_words mix_u64 (registers + turns) seed in
    let rest : length (drop registers words) ≡ turns = length-drop registers words ∙ omega arith in
    record {
      vectors = are_vectors (drop registers words) (omega arith);
      one_a_turn = length-map (drop registers words) vector_of ∙ rest;
      width = sym (ap length (two_columns registers (seed_words registers seed)));
    }
