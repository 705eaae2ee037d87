-- Numbers of nets stay in range.
use Rattle.std.proofs.Common.{◌≡◌, ◌≢◌, ℕ, zero, suc, ◌+◌, ◌<◌, ◌≤◌, true, false, List, [], ◌∷◌, map, length, get_or}
use Rattle.std.proofs.Common.{Option, None, Some, refl, sym, inl, inr, arith, ◌==◌, eq-eqb, length-append, not}
use Rattle.std.specs.Prelude.{All, AllPairs, IfSome}
use Rattle.std.specs.List.{list_any}
use Rattle.std.specs.Option.{option_map}
use Rattle.std.proofs.lemmas.Bool.{cases_Bool}
use Rattle.std.proofs.lemmas.List.Elements.{All-cons, All-push, All-head, All-tail}
use Rattle.std.proofs.lemmas.List.Quantifiers.{all_pairs_push}
use Rattle.std.proofs.lemmas.List.Sums.{prefix_len-le-length}
use Rattle.ds_design.specs.declared.design.Net.{Net}
use Rattle.ds_design.specs.declared.design.Gate.{Gate}
use Rattle.ds_design.specs.declared.design.Register.{Register}
use Rattle.ds_design.specs.declared.blif.Part.{Part}
use Rattle.ds_design.specs.declared.blif.Part.TheVariants.{Inputs, Outputs, Clock, Table, Latch, Subckt}
use Rattle.ds_design.specs.Source.{IsPart}
use Rattle.ds_design.specs.Circuit.{Circuit}
use Rattle.ds_design.specs.InRange.{IsInRange}
use Rattle.ds_flat.specs.Net.{Scope, Numbered, same_net, has_net, number_of_net, with_net, net_of_name, numbered_nets, numbered_names}
use Rattle.ds_flat.specs.Command.{with_known_number, with_numbers, with_ports, with_part, numbered_latch}
use Rattle.ds_flat.specs.Copies.{empty_design}
use Rattle.ds_flat.proofs.NetNumberLemmas.{length-with_net, length-numbered, latch_grows}
use Rattle.ds_flat.proofs.PassedLimits.{WithinLimits}

place_below : (nets : List Net) (net : Net) → has_net nets net ≡ true → number_of_net nets net < length nets
place_below [] net is = absurd (cc)
place_below (other ∷ nets) net is = elim (cases_Bool (same_net net other)) [
  | inl here ↦ (let e : number_of_net (other ∷ nets) net ≡ 0 = rw here refl in omega arith)
  | inr apart ↦ (
      let e : number_of_net (other ∷ nets) net ≡ 1 + number_of_net nets net = rw apart refl in
      let f = place_below nets net (rw apart at is) in omega arith)
]

-- the number of a net names it
number_below : (nets : List Net) (net : Net) → number_of_net nets net < length (with_net nets net)
number_below nets net = elim (cases_Bool (has_net nets net)) [
  | inl here ↦ rw here (place_below nets net here)
  | inr new ↦ rw new (omega (arith, prefix_len-le-length (λ other. not (same_net net other)) nets, length-append nets (net ∷ [])))
]

-- numbers that are below a number are below a greater one
pub all_grow : (xs : List ℕ) (n m : ℕ) → n ≤ m → All (λ net. net < n) xs → All (λ net. net < m) xs
all_grow xs n m longer all k d inside = let h = all k d inside in omega arith

numbered_below : (nets more : List Net) → All (λ net. net < length (numbered_nets nets more).nets)
    (numbered_nets nets more).numbers
numbered_below nets [] = λ k d inside. absurd (let h : k < 0 = inside in omega arith)
numbered_below nets (net ∷ more) =
    let a = number_below nets net in
    let b = length-numbered (with_net nets net) more in
    All-cons (λ n. n < length (numbered_nets (with_net nets net) more).nets) (number_of_net nets net)
    (numbered_nets (with_net nets net) more).numbers (omega arith) (numbered_below (with_net nets net) more)

-- numbers that are added, each once
with_number_below : (n : ℕ) (ports : List ℕ) (number : ℕ) → All (λ net. net < n) ports → number < n
    → All (λ net. net < n) (with_known_number ports number)
with_number_below n ports number all below = elim (cases_Bool (list_any (λ other. number == other) ports)) [
  | inl here ↦ rw here all
  | inr new ↦ rw new (All-push (λ net. net < n) ports number all below)
]

with_numbers_below : (n : ℕ) (ports numbers : List ℕ) → All (λ net. net < n) ports
    → All (λ net. net < n) numbers → All (λ net. net < n) (with_numbers ports numbers)
with_numbers_below n ports [] all more = all
with_numbers_below n ports (number ∷ numbers) all more =
    with_numbers_below n (with_known_number ports number) numbers
    (with_number_below n ports number all (All-head (λ net. net < n) number numbers more))
    (All-tail (λ net. net < n) number numbers more)

ports_below : (n copy : ℕ) (ports numbers : List ℕ) → All (λ net. net < n) ports
    → All (λ net. net < n) numbers → All (λ net. net < n) (with_ports copy ports numbers)
ports_below n copy ports numbers all more = elim (cases_Bool (copy == 0)) [
  | inl main ↦ rw main (with_numbers_below n ports numbers all more)
  | inr other ↦ rw other all
]

apart_from : (ports : List ℕ) (number : ℕ) → list_any (λ other. number == other) ports ≡ false
    → (k : ℕ) (d : ℕ) → k < length ports → get_or ports k d ≢ number
apart_from [] number new k d inside same = absurd (omega arith)
apart_from (port ∷ ports) number new zero d inside same =
    let e : (number == port) ≡ true = eq-eqb number port (sym same) in
    absurd (let f : true ≡ false = rw e at new in cc)
apart_from (port ∷ ports) number new (suc k) d inside same =
    elim (cases_Bool (number == port)) [
      | inl here ↦ absurd (let f : true ≡ false = rw here at new in cc)
      | inr other ↦ apart_from ports number (rw other at new) k d (omega arith) same
    ]

with_number_once : (ports : List ℕ) (number : ℕ) → AllPairs (λ a b. a ≢ b) ports
    → AllPairs (λ a b. a ≢ b) (with_known_number ports number)
with_number_once ports number once = elim (cases_Bool (list_any (λ other. number == other) ports)) [
  | inl here ↦ rw here once
  | inr new ↦ rw new (all_pairs_push (λ a b. a ≢ b) ports number once (apart_from ports number new))
]

with_numbers_once : (ports numbers : List ℕ) → AllPairs (λ a b. a ≢ b) ports
    → AllPairs (λ a b. a ≢ b) (with_numbers ports numbers)
with_numbers_once ports [] once = once
with_numbers_once ports (number ∷ numbers) once =
    with_numbers_once (with_known_number ports number) numbers (with_number_once ports number once)

ports_once : (copy : ℕ) (ports numbers : List ℕ) → AllPairs (λ a b. a ≢ b) ports
    → AllPairs (λ a b. a ≢ b) (with_ports copy ports numbers)
ports_once copy ports numbers once = elim (cases_Bool (copy == 0)) [
  | inl main ↦ rw main (with_numbers_once ports numbers once)
  | inr other ↦ rw other once
]

-- a table, a register within so many nets
abbrev pub IsGateBelow : ℕ → Gate → Type 0
IsGateBelow n t = All (λ net. net < n) t.table.inputs × (t.output < n)

abbrev pub IsRegisterBelow : ℕ → Register → Type 0
IsRegisterBelow n r = (r.data_net < n) × (r.output < n) × IfSome r.control (λ net. net < n)
    × (r.initial ≤ 3)

gates_grow : (tables : List Gate) (n m : ℕ) → n ≤ m → All (IsGateBelow n) tables
    → All (IsGateBelow m) tables
gates_grow tables n m longer all k d inside =
    let h = all k d inside in
    (all_grow (get_or tables k d).table.inputs n m longer h.0, (let e = h.1 in omega arith))

some_grow : (control : Option ℕ) (n m : ℕ) → n ≤ m → IfSome control (λ net. net < n)
    → IfSome control (λ net. net < m)
some_grow None n m longer is = is
some_grow (Some net) n m longer is = omega arith

registers_grow : (registers : List Register) (n m : ℕ) → n ≤ m → All (IsRegisterBelow n) registers
    → All (IsRegisterBelow m) registers
registers_grow registers n m longer all k d inside =
    let h = all k d inside in (
      (let e = h.0 in omega arith),
      (let e = h.1 in omega arith),
      some_grow (get_or registers k d).control n m longer h.2,
      h.3,
    )

-- what is in range stays there with more nets
pub grown_in_range : (c : Circuit) (nets : List Net) → IsInRange c → length c.nets ≤ length nets
    → length nets ≤ 65536 → IsInRange (record c { nets = nets })
grown_in_range c nets is longer few = record {
  inputs = all_grow c.inputs (length c.nets) (length nets) longer is.inputs;
  outputs = all_grow c.outputs (length c.nets) (length nets) longer is.outputs;
  clocks = all_grow c.clocks (length c.nets) (length nets) longer is.clocks;
  tables = gates_grow c.tables (length c.nets) (length nets) longer is.tables;
  registers = registers_grow c.registers (length c.nets) (length nets) longer is.registers;
  inputs_once = is.inputs_once;
  few_nets = omega arith;
  few_tables = is.few_tables;
  few_registers = is.few_registers;
}

pub use_in_range : (c : Circuit) (scope : Scope) (names : List (List ℕ)) → IsInRange c
    → length (numbered_names scope c.nets names).nets ≤ 65536
    → IsInRange (record c { nets = (numbered_names scope c.nets names).nets })
use_in_range c scope names is few =
    grown_in_range c (numbered_names scope c.nets names).nets is
    (length-numbered c.nets (map (net_of_name scope) names)) few

names_in_range : (c : Circuit) (scope : Scope) (names : List (List ℕ)) → IsInRange c
    → length (numbered_names scope c.nets names).nets ≤ 65536
    → IsInRange (record c { nets = (numbered_names scope c.nets names).nets })
    × All (λ net. net < length (numbered_names scope c.nets names).nets)
    (numbered_names scope c.nets names).numbers
names_in_range c scope names is few =
    (use_in_range c scope names is few, numbered_below c.nets (map (net_of_name scope) names))

latch_below : (nets : List Net) (data_key output_key : Net) (control : Option Net)
    → ((numbered_latch nets data_key output_key control).data_net
    < length (numbered_latch nets data_key output_key control).nets)
    × ((numbered_latch nets data_key output_key control).output
    < length (numbered_latch nets data_key output_key control).nets)
    × IfSome (numbered_latch nets data_key output_key control).control
    (λ net. net < length (numbered_latch nets data_key output_key control).nets)
latch_below nets data_key output_key None =
    let a = number_below nets data_key in
    let b = length-with_net (with_net nets data_key) output_key in
    (omega arith, number_below (with_net nets data_key) output_key, tt)
latch_below nets data_key output_key (Some net) =
    let a = number_below nets data_key in
    let b = length-with_net (with_net nets data_key) output_key in
    let d = number_below (with_net nets data_key) output_key in
    let e = length-with_net (with_net (with_net nets data_key) output_key) net in
    (omega arith, omega arith, number_below (with_net (with_net nets data_key) output_key) net)

latch_longer : (nets : List Net) (data_key output_key : Net) (control : Option Net)
    → length nets ≤ length (numbered_latch nets data_key output_key control).nets
latch_longer nets data_key output_key control =
    let a = length-with_net nets data_key in
    let b = length-with_net (with_net nets data_key) output_key in
    let d = latch_grows nets data_key output_key control in omega arith

-- what is in range stays there with a command
pub part_in_range : (scope : Scope) (line : ℕ) (part : Part) (c : Circuit) → IsInRange c → IsPart part
    → WithinLimits (with_part scope line part c) → IsInRange (with_part scope line part c)
part_in_range scope line (Inputs names) c is fine within =
    let p = names_in_range c scope names is within.nets in
    record {
      inputs = ports_below _ scope.copy c.inputs _ p.0.inputs p.1;
      outputs = p.0.outputs;
      clocks = p.0.clocks;
      tables = p.0.tables;
      registers = p.0.registers;
      inputs_once = ports_once scope.copy c.inputs (numbered_names scope c.nets names).numbers
          is.inputs_once;
      few_nets = p.0.few_nets;
      few_tables = p.0.few_tables;
      few_registers = p.0.few_registers;
    }
part_in_range scope line (Outputs names) c is fine within =
    let p = names_in_range c scope names is within.nets in
    record {
      inputs = p.0.inputs;
      outputs = ports_below _ scope.copy c.outputs _ p.0.outputs p.1;
      clocks = p.0.clocks;
      tables = p.0.tables;
      registers = p.0.registers;
      inputs_once = p.0.inputs_once;
      few_nets = p.0.few_nets;
      few_tables = p.0.few_tables;
      few_registers = p.0.few_registers;
    }
part_in_range scope line (Clock names) c is fine within =
    let p = names_in_range c scope names is within.nets in
    record {
      inputs = p.0.inputs;
      outputs = p.0.outputs;
      clocks = ports_below _ scope.copy c.clocks _ p.0.clocks p.1;
      tables = p.0.tables;
      registers = p.0.registers;
      inputs_once = p.0.inputs_once;
      few_nets = p.0.few_nets;
      few_tables = p.0.few_tables;
      few_registers = p.0.few_registers;
    }
part_in_range scope line (Table text) c is fine within =
    let ins : Numbered = numbered_names scope c.nets text.inputs in
    let output : Net = net_of_name scope text.output in
    let a : length c.nets ≤ length ins.nets = length-numbered c.nets (map (net_of_name scope) text.inputs) in
    let b : length ins.nets ≤ length (with_net ins.nets output) = length-with_net ins.nets output in
    let p = grown_in_range c (with_net ins.nets output) is (omega arith) within.nets in
    record {
      inputs = p.inputs;
      outputs = p.outputs;
      clocks = p.clocks;
      tables = All-push (IsGateBelow (length (with_net ins.nets output))) c.tables _ p.tables (
        all_grow ins.numbers (length ins.nets) (length (with_net ins.nets output)) b
            (numbered_below c.nets (map (net_of_name scope) text.inputs)),
        number_below ins.nets output,
      );
      registers = p.registers;
      inputs_once = p.inputs_once;
      few_nets = p.few_nets;
      few_tables = (let e = within.tables in omega arith);
      few_registers = p.few_registers;
    }
part_in_range scope line (Latch text) c is fine within =
    let data_key : Net = net_of_name scope text.data_net in
    let output_key : Net = net_of_name scope text.output in
    let control : Option Net = option_map (net_of_name scope) text.control in
    let p = grown_in_range c (numbered_latch c.nets data_key output_key control).nets is
    (latch_longer c.nets data_key output_key control) within.nets in
    let q = latch_below c.nets data_key output_key control in
    record {
      inputs = p.inputs;
      outputs = p.outputs;
      clocks = p.clocks;
      tables = p.tables;
      registers = All-push (IsRegisterBelow (length (numbered_latch c.nets data_key output_key
          control).nets)) c.registers _ p.registers (q.0, q.1, q.2, fine);
      inputs_once = p.inputs_once;
      few_nets = p.few_nets;
      few_tables = p.few_tables;
      few_registers = (let e = within.registers in omega arith);
    }
part_in_range scope line (Subckt call) c is fine within = is

pub empty_in_range : (name : List ℕ) → IsInRange (empty_design name)
empty_in_range name = record {
  inputs = λ k d inside. absurd (omega arith);
  outputs = λ k d inside. absurd (omega arith);
  clocks = λ k d inside. absurd (omega arith);
  tables = λ k d inside. absurd (omega arith);
  registers = λ k d inside. absurd (omega arith);
  inputs_once = λ i j d below inside. absurd (omega arith);
  few_nets = omega arith;
  few_tables = omega arith;
  few_registers = omega arith;
}
