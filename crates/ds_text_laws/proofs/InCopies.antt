-- The nets, tables and registers of a flat design are those of its copies.
use Rattle.std.proofs.Common.{◌≡◌, ◌≢◌, ◌∙◌, ◌==◌, ℕ, zero, suc, ◌+◌, ◌<◌, ◌≤◌, Bool, true, false, List, [], ◌∷◌, ◌++◌, map, length, get_or, Option, None, Some, Result, Ok, Err, refl, sym, ap, ap₂, subst, inl, inr, arith, nat_lt, eq-eqb, append_assoc, if◌then◌else◌}
use Rattle.std.specs.Prelude.{AllPairs}
use Rattle.std.specs.List.{flat_map, list_any}
use Rattle.std.specs.Option.{option_map, option_map_or}
use Rattle.std.specs.Str.{bytes_eq}
use Rattle.std.proofs.lemmas.Bool.{cases_Bool}
use Rattle.std.proofs.lemmas.List.{append-nil, map-append}
use Rattle.std.proofs.lemmas.List.Quantifiers.{all_pairs_push}
use Rattle.std.proofs.lemmas.Slice.Eq.{bytes_eq-Decides}
use Rattle.ds_base.specs.Limit.{most_of}
use Rattle.ds_base.specs.declared.number.Limit.TheVariants.{Copies}
use Rattle.ds_design.specs.Circuit.{Circuit}
use Rattle.ds_design.specs.declared.design.Net.{Net}
use Rattle.ds_design.specs.declared.design.Gate.{Gate}
use Rattle.ds_design.specs.declared.design.Register.{Register}
use Rattle.ds_design.specs.declared.blif.BlifModel.{BlifModel}
use Rattle.ds_design.specs.declared.blif.Command.{Command}
use Rattle.ds_design.specs.declared.blif.LatchText.{LatchText}
use Rattle.ds_design.specs.declared.blif.Part.{Part}
use Rattle.ds_design.specs.declared.blif.Part.TheVariants.{Inputs, Outputs, Clock, Table, Latch, Subckt}
use Rattle.ds_design.specs.declared.blif.UseText.{UseText}
use Rattle.ds_lines.specs.declared.at.At.{At}
use Rattle.ds_flat.specs.Net.{Scope, Numbered, has_net, net_of_name, number_of_net, numbered_nets, numbered_names, same_net, with_net}
use Rattle.ds_flat.specs.Command.{latch_names, numbered_latch, with_part}
use Rattle.ds_flat.specs.Copies.{Flat, Opened, ◌>>=◌, actuals_in, copy_unless, empty_design, expand, flat_of, main_copy, model_named, most_depth, next_copy, open_model, open_use, passed_limit, ports_of, take_all, take_command, take_part, unknown_formal, use_in, bindings_in}
use Rattle.ds_text_laws.specs.FlatCopies.{ComeTo, IsOfCopies, InCopy, copied, done, gate_by, names_by, nets_by, number_by, plain, register_by}
use Rattle.ds_flat.proofs.PassedLimits.{passed_by}
use Rattle.ds_flat.specs.declared.fault.FlatKind.{FlatKind}

-- a net is itself
same_self : (net : Net) → same_net net net ≡ true
same_self net =
    let copy : (net.copy == net.copy) ≡ true = eq-eqb net.copy net.copy refl in
    let name : bytes_eq net.name net.name ≡ true = (bytes_eq-Decides net.name net.name).1 refl in
    rw (copy, name) refl

-- nets that keep the numbers of others
record Extend (more nets : List Net) : Type 0 where
  number : (net : Net) → has_net nets net ≡ true → number_of_net more net ≡ number_of_net nets net
  has : (net : Net) → has_net nets net ≡ true → has_net more net ≡ true

extend_self : (nets : List Net) → Extend nets nets
extend_self nets = record { number = λ net is. refl; has = λ net is. is }

extend_both : (most more nets : List Net) → Extend most more → Extend more nets → Extend most nets
extend_both most more nets over under = record {
  number = λ net is. over.number net (under.has net is) ∙ under.number net is;
  has = λ net is. over.has net (under.has net is);
}

push_number : (nets : List Net) (new net : Net) → has_net nets net ≡ true → number_of_net (nets ++ new ∷ []) net ≡ number_of_net nets net
push_number [] new net is = absurd (cc)
push_number (other ∷ nets) new net is = elim (cases_Bool (same_net net other)) [
  | inl here ↦ rw here refl
  | inr apart ↦ rw apart (ap (λ (n : ℕ). 1 + n) (push_number nets new net (rw apart at is)))
]

push_has : (nets : List Net) (new net : Net) → has_net nets net ≡ true → has_net (nets ++ new ∷ []) net ≡ true
push_has [] new net is = absurd (cc)
push_has (other ∷ nets) new net is = elim (cases_Bool (same_net net other)) [
  | inl here ↦ rw here refl
  | inr apart ↦ rw apart (push_has nets new net (rw apart at is))
]

extend_by : (there : Bool) (nets : List Net) (new : Net) → Extend (if there then nets else nets ++ new ∷ []) nets
extend_by true nets new = extend_self nets
extend_by false nets new = record { number = push_number nets new; has = push_has nets new }

extend_with : (nets : List Net) (new : Net) → Extend (with_net nets new) nets
extend_with nets new = extend_by (has_net nets new) nets new

-- a net that is new has the number that it gets
new_number : (nets : List Net) (net : Net) → has_net nets net ≡ false → number_of_net (nets ++ net ∷ []) net ≡ number_of_net nets net
new_number [] net none = rw (same_self net) refl
new_number (other ∷ nets) net none = elim (cases_Bool (same_net net other)) [
  | inl here ↦ absurd (let e : true ≡ false = rw here at none in cc)
  | inr apart ↦ rw apart (ap (λ (n : ℕ). 1 + n) (new_number nets net (rw apart at none)))
]

new_has : (nets : List Net) (net : Net) → has_net (nets ++ net ∷ []) net ≡ true
new_has [] net = rw (same_self net) refl
new_has (other ∷ nets) net = elim (cases_Bool (same_net net other)) [
  | inl here ↦ rw here refl
  | inr apart ↦ rw apart (new_has nets net)
]

number_by_case : (there : Bool) (nets : List Net) (net : Net) → has_net nets net ≡ there
    → number_of_net (if there then nets else nets ++ net ∷ []) net ≡ number_of_net nets net
number_by_case true nets net is = refl
number_by_case false nets net is = new_number nets net is

with_number_is : (nets : List Net) (net : Net) → number_of_net (with_net nets net) net ≡ number_of_net nets net
with_number_is nets net = number_by_case (has_net nets net) nets net refl

has_by_case : (there : Bool) (nets : List Net) (net : Net) → has_net nets net ≡ there
    → has_net (if there then nets else nets ++ net ∷ []) net ≡ true
has_by_case true nets net is = is
has_by_case false nets net is = new_has nets net

with_has : (nets : List Net) (net : Net) → has_net (with_net nets net) net ≡ true
with_has nets net = has_by_case (has_net nets net) nets net refl

-- so a net's number stays as it was given
number_kept : (most nets : List Net) (net : Net) → Extend most (with_net nets net) → number_of_net nets net ≡ number_of_net most net
number_kept most nets net over = sym (over.number net (with_has nets net) ∙ with_number_is nets net)

extend_numbered : (nets more : List Net) → Extend (numbered_nets nets more).nets nets
extend_numbered nets [] = extend_self nets
extend_numbered nets (net ∷ more) =
    extend_both (numbered_nets (with_net nets net) more).nets (with_net nets net) nets (extend_numbered (with_net nets net) more) (extend_with nets net)

numbers_kept : (most nets more : List Net) → Extend most (numbered_nets nets more).nets → (numbered_nets nets more).numbers ≡ map (number_of_net most) more
numbers_kept most nets [] over = refl
numbers_kept most nets (net ∷ more) over =
    let here : Extend most (with_net nets net) =
    extend_both most (numbered_nets (with_net nets net) more).nets (with_net nets net) over (extend_numbered (with_net nets net) more) in
    ap₂ (λ (n : ℕ) (ns : List ℕ). n ∷ ns) (number_kept most nets net here) (numbers_kept most (with_net nets net) more over)

numbered_both : (nets first more : List Net) → (numbered_nets nets (first ++ more)).nets ≡ (numbered_nets (numbered_nets nets first).nets more).nets
numbered_both nets [] more = refl
numbered_both nets (net ∷ first) more = numbered_both (with_net nets net) first more

named_numbers : (most : List Net) (scope : Scope) (names : List (List ℕ)) → map (number_of_net most) (map (net_of_name scope) names) ≡ map (number_by most scope) names
named_numbers most scope [] = refl
named_numbers most scope (name ∷ names) = ap (λ (ns : List ℕ). number_of_net most (net_of_name scope name) ∷ ns) (named_numbers most scope names)

-- each net is there once
apart_net : (nets : List Net) (net : Net) → has_net nets net ≡ false → (k : ℕ) (d : Net) → k < length nets → get_or nets k d ≢ net
apart_net [] net none k d inside same = absurd (omega arith)
apart_net (other ∷ nets) net none zero d inside same =
    let e : same_net net other ≡ true = subst (λ (n : Net). same_net net n ≡ true) (sym same) (same_self net) in
    absurd (let f : true ≡ false = rw e at none in cc)
apart_net (other ∷ nets) net none (suc k) d inside same = elim (cases_Bool (same_net net other)) [
  | inl here ↦ absurd (let f : true ≡ false = rw here at none in cc)
  | inr apart ↦ apart_net nets net (rw apart at none) k d (omega arith) same
]

once_by_case : (there : Bool) (nets : List Net) (net : Net) → has_net nets net ≡ there → AllPairs (λ a b. a ≢ b) nets
    → AllPairs (λ a b. a ≢ b) (if there then nets else nets ++ net ∷ [])
once_by_case true nets net is once = once
once_by_case false nets net is once = all_pairs_push (λ a b. a ≢ b) nets net once (apart_net nets net is)

with_once : (nets : List Net) (net : Net) → AllPairs (λ a b. a ≢ b) nets → AllPairs (λ a b. a ≢ b) (with_net nets net)
with_once nets net once = once_by_case (has_net nets net) nets net refl once

numbered_once : (nets more : List Net) → AllPairs (λ a b. a ≢ b) nets → AllPairs (λ a b. a ≢ b) (numbered_nets nets more).nets
numbered_once nets [] once = once
numbered_once nets (net ∷ more) once = numbered_once (with_net nets net) more (with_once nets net once)

-- what a command adds, a use its nets
added : Scope → ℕ → Part → Circuit → Circuit
added scope line (Subckt call) c = record c { nets = (numbered_names scope c.nets (actuals_in call.pairs)).nets }
added scope line part c = with_part scope line part c

add : InCopy → Circuit → Circuit
add placed c = added placed.scope placed.command.line placed.command.part c

-- what a latch adds
latch_nets : (scope : Scope) (nets : List Net) (text : LatchText) (control : Option (List ℕ))
    → (numbered_latch nets (net_of_name scope text.data_net) (net_of_name scope text.output) (option_map (net_of_name scope) control)).nets
    ≡ (numbered_nets nets (map (net_of_name scope) (text.data_net ∷ text.output ∷ option_map_or (λ name. name ∷ []) control []))).nets
latch_nets scope nets text None = refl
latch_nets scope nets text (Some name) = refl

latch_control : (most : List Net) (scope : Scope) (nets : List Net) (data_net output : Net) (control : Option (List ℕ))
    → Extend most (numbered_latch nets data_net output (option_map (net_of_name scope) control)).nets
    → (numbered_latch nets data_net output (option_map (net_of_name scope) control)).control ≡ option_map (number_by most scope) control
latch_control most scope nets data_net output None over = refl
latch_control most scope nets data_net output (Some name) over =
    ap (λ (n : ℕ). Some n) (number_kept most (with_net (with_net nets data_net) output) (net_of_name scope name) over)

latch_extends : (nets : List Net) (data_net output : Net) (control : Option Net)
    → Extend (numbered_latch nets data_net output control).nets (with_net (with_net nets data_net) output)
latch_extends nets data_net output None = extend_self (with_net (with_net nets data_net) output)
latch_extends nets data_net output (Some net) = extend_with (with_net (with_net nets data_net) output) net

-- the nets of a command are numbered
add_nets : (scope : Scope) (line : ℕ) (part : Part) (c : Circuit) → (added scope line part c).nets ≡ (numbered_nets c.nets (map (net_of_name scope) (names_by part))).nets
unfolding added
add_nets scope line (Inputs names) c = refl
add_nets scope line (Outputs names) c = refl
add_nets scope line (Clock names) c = refl
add_nets scope line (Table text) c =
    sym (ap (λ (nets : List Net). (numbered_nets c.nets nets).nets) (map-append (net_of_name scope) text.inputs (text.output ∷ []))
    ∙ numbered_both c.nets (map (net_of_name scope) text.inputs) (net_of_name scope text.output ∷ []))
add_nets scope line (Latch text) c = latch_nets scope c.nets text text.control
add_nets scope line (Subckt call) c = refl

-- it has one table, or none
add_tables : (most : List Net) (scope : Scope) (line : ℕ) (part : Part) (c : Circuit) → Extend most (added scope line part c).nets
    → (added scope line part c).tables ≡ c.tables ++ gate_by most scope line part
unfolding added
add_tables most scope line (Inputs names) c over = sym (append-nil c.tables)
add_tables most scope line (Outputs names) c over = sym (append-nil c.tables)
add_tables most scope line (Clock names) c over = sym (append-nil c.tables)
add_tables most scope line (Table text) c over =
    let inputs : Numbered = numbered_names scope c.nets text.inputs in
    let under : Extend most inputs.nets =
    extend_both most (with_net inputs.nets (net_of_name scope text.output)) inputs.nets over (extend_with inputs.nets (net_of_name scope text.output)) in
    let numbers : inputs.numbers ≡ map (number_by most scope) text.inputs =
    numbers_kept most c.nets (map (net_of_name scope) text.inputs) under ∙ named_numbers most scope text.inputs in
    let output : number_of_net inputs.nets (net_of_name scope text.output) ≡ number_by most scope text.output =
    number_kept most inputs.nets (net_of_name scope text.output) over in
    ap₂ (λ (ns : List ℕ) (n : ℕ). c.tables ++ record { table = record { inputs = ns; rows = text.rows; on = text.on }; output = n; line = line } ∷ []) numbers output
add_tables most scope line (Latch text) c over = sym (append-nil c.tables)
add_tables most scope line (Subckt call) c over = sym (append-nil c.tables)

-- and one register, or none
add_registers : (most : List Net) (scope : Scope) (line : ℕ) (part : Part) (c : Circuit) → Extend most (added scope line part c).nets
    → (added scope line part c).registers ≡ c.registers ++ register_by most scope line part
unfolding added
add_registers most scope line (Inputs names) c over = sym (append-nil c.registers)
add_registers most scope line (Outputs names) c over = sym (append-nil c.registers)
add_registers most scope line (Clock names) c over = sym (append-nil c.registers)
add_registers most scope line (Table text) c over = sym (append-nil c.registers)
add_registers most scope line (Latch text) c over =
    let d : Net = net_of_name scope text.data_net in
    let o : Net = net_of_name scope text.output in
    let two : Extend most (with_net (with_net c.nets d) o) =
    extend_both most (latch_names scope c.nets text).nets (with_net (with_net c.nets d) o) over (latch_extends c.nets d o (option_map (net_of_name scope) text.control)) in
    let one : Extend most (with_net c.nets d) = extend_both most (with_net (with_net c.nets d) o) (with_net c.nets d) two (extend_with (with_net c.nets d) o) in
    let first : number_of_net c.nets d ≡ number_by most scope text.data_net = number_kept most c.nets d one in
    let second : number_of_net (with_net c.nets d) o ≡ number_by most scope text.output = number_kept most (with_net c.nets d) o two in
    let third : (latch_names scope c.nets text).control ≡ option_map (number_by most scope) text.control =
    latch_control most scope c.nets d o text.control over in
    ap₂ (λ (n m : ℕ). c.registers ++ record { data_net = n; output = m; edge = text.edge; control = (latch_names scope c.nets text).control; initial = text.initial; line = line } ∷ []) first second
    ∙ ap (λ (k : Option ℕ). c.registers ++ record { data_net = number_by most scope text.data_net; output = number_by most scope text.output; edge = text.edge; control = k; initial = text.initial; line = line } ∷ []) third
add_registers most scope line (Subckt call) c over = sym (append-nil c.registers)

-- what commands add, one after another
add_all : List InCopy → Circuit → Circuit
add_all [] c = c
add_all (placed ∷ more) c = add_all more (add placed c)

add_both : (first more : List InCopy) (c : Circuit) → add_all (first ++ more) c ≡ add_all more (add_all first c)
unfolding add_all
add_both [] more c = refl
add_both (placed ∷ first) more c = add_both first more (add placed c)

all_nets : (placed : List InCopy) (c : Circuit) → (add_all placed c).nets ≡ (numbered_nets c.nets (flat_map nets_by placed)).nets
unfolding add_all add
all_nets [] c = refl
all_nets (p ∷ placed) c =
    let here : (add p c).nets ≡ (numbered_nets c.nets (nets_by p)).nets = add_nets p.scope p.command.line p.command.part c in
    all_nets placed (add p c)
    ∙ (ap (λ (nets : List Net). (numbered_nets nets (flat_map nets_by placed)).nets) here
    ∙ sym (numbered_both c.nets (nets_by p) (flat_map nets_by placed)))

all_extend : (placed : List InCopy) (c : Circuit) → Extend (add_all placed c).nets c.nets
all_extend placed c = subst (λ (nets : List Net). Extend nets c.nets) (sym (all_nets placed c)) (extend_numbered c.nets (flat_map nets_by placed))

all_tables : (most : List Net) (placed : List InCopy) (c : Circuit) → Extend most (add_all placed c).nets
    → (add_all placed c).tables ≡ c.tables ++ flat_map (λ p. gate_by most p.scope p.command.line p.command.part) placed
unfolding add_all add
all_tables most [] c over = sym (append-nil c.tables)
all_tables most (p ∷ placed) c over =
    let here : Extend most (add p c).nets = extend_both most (add_all placed (add p c)).nets (add p c).nets over (all_extend placed (add p c)) in
    let rest : List Gate = flat_map (λ p. gate_by most p.scope p.command.line p.command.part) placed in
    all_tables most placed (add p c) over
    ∙ (ap (λ (ts : List Gate). ts ++ rest) (add_tables most p.scope p.command.line p.command.part c here)
    ∙ append_assoc c.tables (gate_by most p.scope p.command.line p.command.part) rest)

all_registers : (most : List Net) (placed : List InCopy) (c : Circuit) → Extend most (add_all placed c).nets
    → (add_all placed c).registers ≡ c.registers ++ flat_map (λ p. register_by most p.scope p.command.line p.command.part) placed
unfolding add_all add
all_registers most [] c over = sym (append-nil c.registers)
all_registers most (p ∷ placed) c over =
    let here : Extend most (add p c).nets = extend_both most (add_all placed (add p c)).nets (add p c).nets over (all_extend placed (add p c)) in
    let rest : List Register = flat_map (λ p. register_by most p.scope p.command.line p.command.part) placed in
    all_registers most placed (add p c) over
    ∙ (ap (λ (rs : List Register). rs ++ rest) (add_registers most p.scope p.command.line p.command.part c here)
    ∙ append_assoc c.registers (register_by most p.scope p.command.line p.command.part) rest)

-- what is taken is what commands add that these come to
record Taken (models : List BlifModel) (scope : Scope) (commands : List Command) (before after : Flat) : Type 0 where
  placed : List InCopy
  copies : ComeTo models scope commands before.copies placed after.copies
  design : after.design ≡ add_all placed before.design

-- what comes before and what comes next
then_ok : {A B : Type 0} (first : Result A (At FlatKind)) (next : A → Result B (At FlatKind)) (b : B) → (first >>= next) ≡ Ok b → (a : A) × (first ≡ Ok a) × (next a ≡ Ok b)
then_ok (Ok a) next b is = (a, refl, is)
then_ok (Err fault) next b is = absurd (cc)

-- a command that is no use
plain_added : (scope : Scope) (line : ℕ) (part : Part) (c : Circuit) → use_in part ≡ None → with_part scope line part c ≡ added scope line part c
unfolding added
plain_added scope line (Inputs names) c none = refl
plain_added scope line (Outputs names) c none = refl
plain_added scope line (Clock names) c none = refl
plain_added scope line (Table text) c none = refl
plain_added scope line (Latch text) c none = refl
plain_added scope line (Subckt call) c none = absurd (cc)

-- a use
use_added : (scope : Scope) (line : ℕ) (part : Part) (call : UseText) (c : Circuit) → use_in part ≡ Some call
    → record c { nets = (numbered_names scope c.nets (actuals_in call.pairs)).nets } ≡ added scope line part c
unfolding added
use_added scope line (Inputs names) call c is = absurd (cc)
use_added scope line (Outputs names) call c is = absurd (cc)
use_added scope line (Clock names) call c is = absurd (cc)
use_added scope line (Table text) call c is = absurd (cc)
use_added scope line (Latch text) call c is = absurd (cc)
use_added scope line (Subckt given) call c is =
    let same : given ≡ call = cc in
    ap (λ (u : UseText). record c { nets = (numbered_names scope c.nets (actuals_in u.pairs)).nets }) (sym same)

-- a copy that is opened is the next one, of the model that is named
unless_opened : (formal : Option (List ℕ)) (line : ℕ) (next opened : Opened) → copy_unless formal line next ≡ Ok opened → opened ≡ next
unless_opened None line next opened is = (passed_by (passed_limit next.flat.design) line next opened is).1
unless_opened (Some formal) line next opened is = absurd (cc)

pub model_opened : (path : List (List ℕ)) (scope : Scope) (line : ℕ) (call : UseText) (flat : Flat) (named : Option BlifModel) (opened : Opened)
    → open_model path scope line call flat named ≡ Ok opened → (model : BlifModel) × (named ≡ Some model) × (opened ≡ next_copy path scope call model flat)
model_opened path scope line call flat None opened is = absurd (cc)
model_opened path scope line call flat (Some model) opened is = elim (cases_Bool (list_any (bytes_eq call.model) path)) [
  | inl found ↦ absurd (let e = rw found at is in cc)
  | inr new ↦ elim (cases_Bool (nat_lt flat.copies (most_of Copies))) [
    | inl few ↦ (model, refl, unless_opened (unknown_formal (ports_of model.commands) call.pairs) line (next_copy path scope call model flat) opened (rw (new, few) at is))
    | inr many ↦ absurd (let e = rw (new, many) at is in cc)
  ]
]

module _ (models : List BlifModel) where
  -- each copy that is taken is what its commands come to
  abbrev Takes : (Opened → Result Flat (At FlatKind)) → Type 0
  Takes callee = (opened : Opened) (after : Flat) → callee opened ≡ Ok after → Taken models opened.frame.scope opened.frame.commands opened.flat after

  -- one command and those behind it
  behind_plain : (scope : Scope) (command : Command) (commands : List Command) (before mid after : Flat) → use_in command.part ≡ None
      → take_part scope command.line command.part before ≡ Ok mid → Taken models scope commands mid after → Taken models scope (command ∷ commands) before after
  unfolding add_all add
  behind_plain scope command commands before mid after none is rest =
      let next : Circuit = with_part scope command.line command.part before.design in
      let given : mid ≡ record { copies = before.copies; design = next } = (passed_by (passed_limit next) command.line (record { copies = before.copies; design = next }) mid is).1 in
      let copies : ComeTo models scope commands before.copies rest.placed after.copies = subst (λ (f : Flat). ComeTo models scope commands f.copies rest.placed after.copies) given rest.copies in
      let same : mid.design ≡ added scope command.line command.part before.design = ap (λ (f : Flat). f.design) given ∙ plain_added scope command.line command.part before.design none in
      record {
        placed = record { scope = scope; command = command } ∷ rest.placed;
        copies = plain none copies;
        design = rest.design ∙ ap (add_all rest.placed) same;
      }

  behind_use : (callee : Opened → Result Flat (At FlatKind)) → Takes callee → (path : List (List ℕ)) (scope : Scope) (command : Command) (commands : List Command)
      (call : UseText) (before mid after : Flat) → use_in command.part ≡ Some call
      → (open_use models path scope command.line call before >>= callee) ≡ Ok mid → Taken models scope commands mid after
      → Taken models scope (command ∷ commands) before after
  unfolding add_all add
  behind_use callee takes path scope command commands call before mid after is_use is rest =
      let (opened, is_open, is_taken) = then_ok (open_use models path scope command.line call before) callee mid is in
      let (model, named, is_next) = model_opened path scope command.line call before (model_named models call.model) opened is_open in
      let next : Opened = next_copy path scope call model before in
      let inner : Taken models next.frame.scope next.frame.commands next.flat mid = takes next mid (subst (λ (o : Opened). callee o ≡ Ok mid) is_next is_taken) in
      let same : next.flat.design ≡ added scope command.line command.part before.design = use_added scope command.line command.part call before.design is_use in
      record {
        placed = record { scope = scope; command = command } ∷ (inner.placed ++ rest.placed);
        copies = copied call model is_use named inner.copies rest.copies;
        design = rest.design ∙ (ap (add_all rest.placed) (inner.design ∙ ap (add_all inner.placed) same)
            ∙ sym (add_both inner.placed rest.placed (added scope command.line command.part before.design)));
      }

  behind_command : (callee : Opened → Result Flat (At FlatKind)) → Takes callee → (path : List (List ℕ)) (scope : Scope) (command : Command) (commands : List Command)
      (call : Option UseText) (before mid after : Flat) → use_in command.part ≡ call
      → take_command callee models path scope command call before ≡ Ok mid → Taken models scope commands mid after
      → Taken models scope (command ∷ commands) before after
  behind_command callee takes path scope command commands None before mid after is_use is rest = behind_plain scope command commands before mid after is_use is rest
  behind_command callee takes path scope command commands (Some call) before mid after is_use is rest = behind_use callee takes path scope command commands call before mid after is_use is rest

  all_taken : (callee : Opened → Result Flat (At FlatKind)) → Takes callee → (path : List (List ℕ)) (scope : Scope) (commands : List Command) (before after : Flat)
      → take_all callee models path scope commands before ≡ Ok after → Taken models scope commands before after
  unfolding add_all
  all_taken callee takes path scope [] before after is =
      let same : before ≡ after = cc in
      record {
        placed = [];
        copies = subst (λ (f : Flat). ComeTo models scope [] before.copies [] f.copies) same done;
        design = ap (λ (f : Flat). f.design) (sym same);
      }
  all_taken callee takes path scope (command ∷ commands) before after is =
      let (mid, first, rest) = then_ok (take_command callee models path scope command (use_in command.part) before) (take_all callee models path scope commands) after is in
      behind_command callee takes path scope command commands (use_in command.part) before mid after refl first
      (all_taken callee takes path scope commands mid after rest)

  copies_taken : (depth : ℕ) → Takes (expand depth models)
  copies_taken zero opened after is = absurd (cc)
  copies_taken (suc depth) opened after is =
      all_taken (expand depth models) (copies_taken depth) opened.frame.path opened.frame.scope opened.frame.commands opened.flat after is

  come_grows : (scope : Scope) (commands : List Command) (first : ℕ) (placed : List InCopy) (last : ℕ) → ComeTo models scope commands first placed last → first ≤ last
  come_grows _ _ _ _ _ done = omega arith
  come_grows _ _ _ _ _ (plain {scope} {command} {commands} {copies} {last} {placed} none rest) = come_grows scope commands copies placed last rest
  come_grows _ _ _ _ _ (copied {scope} {command} {commands} {copies} {next} {last} {inner} {placed} call model is_use named under rest) =
      let one : copies + 1 ≤ next = come_grows (record { copy = copies + 1; bound = bindings_in scope call.pairs }) model.commands (copies + 1) inner next under in
      let more : next ≤ last = come_grows scope commands next placed last rest in
      omega arith

  -- a command that is taken never lowers the number of the last copy
  pub command_grows : (depth : ℕ) (path : List (List ℕ)) (scope : Scope) (command : Command) (before after : Flat)
      → take_command (expand depth models) models path scope command (use_in command.part) before ≡ Ok after → before.copies ≤ after.copies
  command_grows depth path scope command before after is =
      let taken : Taken models scope (command ∷ []) before after =
      behind_command (expand depth models) (copies_taken depth) path scope command [] (use_in command.part) before after after refl is
      (all_taken (expand depth models) (copies_taken depth) path scope [] after after refl) in
      come_grows scope (command ∷ []) before.copies taken.placed after.copies taken.copies

pub flat_of_copies : (main : BlifModel) (models : List BlifModel) (c : Circuit) → flat_of (main ∷ models) ≡ Ok c → IsOfCopies main (main ∷ models) c
flat_of_copies main models c is =
    let (flat, is_flat, given) = then_ok (expand most_depth (main ∷ models) (main_copy main)) (λ (flat : Flat). Ok flat.design) c is in
    let taken : Taken (main ∷ models) (record { copy = 0; bound = [] }) main.commands (record { copies = 0; design = empty_design main.name }) flat =
    copies_taken (main ∷ models) most_depth (main_copy main) flat is_flat in
    let same : c ≡ add_all taken.placed (empty_design main.name) = (let e : flat.design ≡ c = cc in sym e ∙ taken.design) in
    let nets : c.nets ≡ (numbered_nets [] (flat_map nets_by taken.placed)).nets = ap (λ (d : Circuit). d.nets) same ∙ all_nets taken.placed (empty_design main.name) in
    let over : Extend c.nets (add_all taken.placed (empty_design main.name)).nets =
    subst (λ (d : Circuit). Extend c.nets d.nets) same (extend_self c.nets) in
    record {
      placed = taken.placed;
      last = flat.copies;
      copies = taken.copies;
      nets = nets;
      once = subst (λ (ns : List Net). AllPairs (λ a b. a ≢ b) ns) (sym nets)
          (numbered_once [] (flat_map nets_by taken.placed) (λ i j d below inside. absurd (omega arith)));
      tables = ap (λ (d : Circuit). d.tables) same ∙ all_tables c.nets taken.placed (empty_design main.name) over;
      registers = ap (λ (d : Circuit). d.registers) same ∙ all_registers c.nets taken.placed (empty_design main.name) over;
    }
