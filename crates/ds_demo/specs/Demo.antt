-- The design and the vectors that a seed gives.
use Rattle.std.specs.Prelude.{ℕ, ◌+◌, ◌-◌, ◌/◌, ◌%◌, ◌^◌, ◌==◌, List, [], ◌∷◌, ◌++◌, None, Some}
use Rattle.std.specs.Prelude.{codes, decimal, drop, map, slice_index, true, if◌then◌else◌}
use Rattle.std.specs.Int.{bit_at}
use Rattle.std.specs.List.{filter, range_with_len}
use Rattle.rand_core.specs.Steps.{first_words}
use Rattle.rand_xoshiro.specs.SplitMix64.{mix_u64}
use Rattle.ds_base.specs.Values.{Row}
use Rattle.ds_base.specs.declared.value.Value.{Value}
use Rattle.ds_base.specs.declared.value.Value.TheVariants.{Zero, One}
use Rattle.ds_cover.specs.Cover.{Cover}
use Rattle.ds_design.specs.declared.design.Net.{Net}
use Rattle.ds_design.specs.declared.design.Gate.{Gate}
use Rattle.ds_design.specs.declared.design.Register.{Register}
use Rattle.ds_design.specs.declared.design.Edge.TheVariants.{Rising}
use Rattle.ds_design.specs.Circuit.{Circuit}
use Rattle.ds_design.specs.Rows.{Rows}

-- the first words of SplitMix64 that begins at the seed, which is what the eight bytes of the
-- seed, the lowest first, give
abbrev pub seed_words : ℕ → ℕ → List ℕ
seed_words count seed = first_words mix_u64 count seed

-- nets of the main model: a letter and a number from 0
abbrev pub nets_named : List ℕ → ℕ → List Net
nets_named letter count =
    map (λ i. record { copy = 0; name = letter ++ decimal i }) (range_with_len 0 count)

-- the columns, the nets of the registers, and those that they take
abbrev pub demo_nets : ℕ → List Net
demo_nets registers = nets_named (codes "x") 2 ++ nets_named (codes "r") registers
    ++ nets_named (codes "d") registers

-- the net that register j drives
abbrev pub register_net : ℕ → ℕ
register_net j = 2 + j

-- the net that register j takes
abbrev pub data_net_of : ℕ → ℕ → ℕ
data_net_of registers j = 2 + registers + j

-- the column or register that the lowest sixteen bits name
abbrev pub source_of : ℕ → ℕ → ℕ
source_of registers bits = bits % 65536 % (registers + 2)

-- what the table of a word reads
abbrev pub inputs_of : ℕ → ℕ → List ℕ
inputs_of registers word = source_of registers word ∷ source_of registers (word / 2 ^ 16)
    ∷ source_of registers (word / 2 ^ 32) ∷ []

-- the characters of the lowest three bits, the lowest first
abbrev pub marks_of : ℕ → List ℕ
marks_of n = (48 + bit_at n 0) ∷ (48 + bit_at n 1) ∷ (48 + bit_at n 2) ∷ []

-- a row for each number below eight at which the function has a 1, rising
abbrev pub demo_rows : ℕ → List (List ℕ)
demo_rows function = map marks_of (filter (λ n. bit_at function n == 1) (range_with_len 0 8))

-- the eight bits of what the table of a word computes
abbrev pub function_of : ℕ → ℕ
function_of word = word / 2 ^ 48 % 256

-- the table of a word
abbrev pub cover_of : ℕ → ℕ → Cover
cover_of registers word = record {
  inputs = inputs_of registers word;
  rows = demo_rows (function_of word);
  on = true;
}

-- the table of register j
abbrev pub gate_of : ℕ → ℕ → ℕ → Gate
gate_of registers j word = record {
  table = cover_of registers word;
  output = data_net_of registers j;
  line = 0;
}

-- register j
abbrev pub demo_register : ℕ → ℕ → ℕ → Register
demo_register registers j word = record {
  data_net = data_net_of registers j;
  output = register_net j;
  edge = Some Rising;
  control = None;
  initial = bit_at word 56;
  line = 0;
}

-- the tables, by the words of their registers
abbrev pub gates_of : ℕ → ℕ → List ℕ → List Gate
gates_of registers count words =
    map (λ j. gate_of registers j (slice_index words j)) (range_with_len 0 count)

-- the registers, by their words
abbrev pub registers_of : ℕ → ℕ → List ℕ → List Register
registers_of registers count words =
    map (λ j. demo_register registers j (slice_index words j)) (range_with_len 0 count)

-- the design of so many registers with these words
abbrev pub design_of : ℕ → List ℕ → Circuit
design_of registers words = record {
  name = codes "demo";
  nets = demo_nets registers;
  inputs = 0 ∷ 1 ∷ [];
  outputs = data_net_of registers 0 ∷ register_net (registers - 1) ∷ [];
  clocks = [];
  tables = gates_of registers registers words;
  registers = registers_of registers registers words;
}

-- the value of a bit
abbrev pub demo_bit_value : ℕ → Value
demo_bit_value bit = if bit == 1 then One else Zero

-- the vector of a word: a bit a column, the lowest first
abbrev pub vector_of : ℕ → Row
vector_of word = demo_bit_value (bit_at word 0) ∷ demo_bit_value (bit_at word 1) ∷ []

-- the vectors of these words
abbrev pub vectors_of_words : List ℕ → Rows
vectors_of_words words = record { width = 2; rows = map vector_of words }

-- the design of a seed: a word a register
unfoldable pub demo_design : ℕ → ℕ → Circuit
demo_design seed registers = design_of registers (seed_words registers seed)

-- the vectors of a seed: a word a turn, after those of the registers
unfoldable pub demo_vectors : ℕ → ℕ → ℕ → Rows
demo_vectors seed registers turns =
    vectors_of_words (drop registers (seed_words (registers + turns) seed))
