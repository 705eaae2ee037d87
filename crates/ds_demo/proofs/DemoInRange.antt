-- The numbers in a design of words name what is there.
use Rattle.std.proofs.Common.{◌≡◌, ◌≢◌, ℕ, ◌+◌, ◌-◌, ◌/◌, ◌^◌, ◌<◌, ◌≤◌, ◌==◌, List, length, map, refl, sym}
use Rattle.std.proofs.Common.{subst, arith, length-append}
use Rattle.std.specs.Prelude.{All, AllPairs, IfSome, slice_index}
use Rattle.std.specs.Int.{bit_at}
use Rattle.std.specs.List.{filter, range_with_len}
use Rattle.std.proofs.lemmas.List.{length-map}
use Rattle.std.proofs.lemmas.List.Elements.{All-map, All-nil}
use Rattle.std.proofs.lemmas.List.FromFn.{length-map-range_with_len}
use Rattle.ds_base.specs.Values.{Row}
use Rattle.ds_design.specs.InRange.{IsInRange}
use Rattle.ds_design.specs.Rows.{AreVectors}
use Rattle.ds_demo.specs.Demo.{data_net_of, demo_nets, source_of, inputs_of, marks_of, demo_rows}
use Rattle.ds_demo.specs.Demo.{gate_of, register_net, demo_register, design_of, vector_of}
use Rattle.ds_demo.specs.Demo.{vectors_of_words}
use Rattle.ds_demo.proofs.DistinctNumbers.{All-two, All-three, All-made, two_differ}

-- each row has three characters
pub rows_of-width : (function : ℕ) → All (λ row. length row ≡ 3) (demo_rows function)
rows_of-width function = All-map (λ (row : List ℕ). length row ≡ 3) marks_of
    (filter (λ n. bit_at function n == 1) (range_with_len 0 8)) (λ k d inside. refl)

-- two nets, and two for each register
length-demo_nets : (registers : ℕ) → length (demo_nets registers) ≡ 2 + registers + registers
length-demo_nets registers = simp (length-append, length-map-range_with_len) (omega arith)

source_of-below : (registers bits : ℕ) → source_of registers bits < registers + 2
source_of-below registers bits = omega arith

-- what a table reads is a column or the net of a register
pub inputs-hold : (P : ℕ → Type 0) (registers word : ℕ) → ((net : ℕ) → net < registers + 2 → P net)
    → All P (inputs_of registers word)
inputs-hold P registers word each =
    All-three P (source_of registers word) (source_of registers (word / 2 ^ 16))
    (source_of registers (word / 2 ^ 32))
    (each (source_of registers word) (source_of-below registers word))
    (each (source_of registers (word / 2 ^ 16)) (source_of-below registers (word / 2 ^ 16)))
    (each (source_of registers (word / 2 ^ 32)) (source_of-below registers (word / 2 ^ 32)))

pub in_range : (registers : ℕ) (words : List ℕ) → 1 ≤ registers → registers ≤ 4096
    → IsInRange (design_of registers words)
in_range registers words some few =
    let nets = demo_nets registers in
    let long : length nets ≡ 2 + registers + registers = length-demo_nets registers in
    let Named : ℕ → Type 0 = λ net. net < length nets in
    let gate = λ (j : ℕ). gate_of registers j (slice_index words j) in
    let register = λ (j : ℕ). demo_register registers j (slice_index words j) in
    record {
      inputs = All-two Named _ _ (omega arith) (omega arith);
      outputs = All-two Named _ _ (omega arith) (omega arith);
      clocks = All-nil Named;
      tables = All-made (λ t. All Named t.table.inputs × (t.output < length nets)) gate registers
          (λ j below. (
            inputs-hold Named registers (slice_index words j)
                (λ net small. omega arith),
            omega arith,
          ));
      registers = All-made (λ r. (r.data_net < length nets) × (r.output < length nets)
          × IfSome r.control Named × (r.initial ≤ 3)) register registers
          (λ j below. (omega arith, omega arith, tt, omega arith));
      inputs_once = two_differ 0 1 (λ e. absurd (omega arith));
      few_nets = omega arith;
      few_tables = omega (arith, length-map-range_with_len gate 0 registers);
      few_registers = omega (arith, length-map-range_with_len register 0 registers);
    }

-- its two outputs are two nets
pub outputs_once : (registers : ℕ) (words : List ℕ) → 1 ≤ registers
    → AllPairs (λ a b. a ≢ b) (design_of registers words).outputs
outputs_once registers words some =
    two_differ (data_net_of registers 0) (register_net (registers - 1)) (λ e. absurd (omega arith))

-- so wide are the rows of a table
pub rows-fit : (rows : List (List ℕ)) (inputs : List ℕ) (function : ℕ) → rows ≡ demo_rows function
    → length inputs ≡ 3 → All (λ row. length row ≡ length inputs) rows
rows-fit rows inputs function is three = rw (is, three) (rows_of-width function)

-- the vectors of words
pub are_vectors : (words : List ℕ) → length words ≤ 65536 → AreVectors (vectors_of_words words)
are_vectors words few = record {
  one_width = All-map (λ (row : Row). length row ≡ 2) vector_of words (λ k d inside. refl);
  few = omega (arith, length-map words vector_of);
}

pub rows-are_vectors : (rows : List Row) (words : List ℕ) → rows ≡ map vector_of words
    → length words ≤ 65536 → AreVectors (record { width = 2; rows = rows })
rows-are_vectors rows words is few =
    subst (λ (l : List Row). AreVectors (record { width = 2; rows = l })) (sym is)
    (are_vectors words few)
