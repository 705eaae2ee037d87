-- The registers of a netlist that a file stands for have plain names, and each that is there has a
-- word as its name.
use Rattle.std.proofs.Common.{◌≡◌, ◌≢◌, ◌∙◌, ◌⊎◌, ◌==◌, ◌||◌, ℕ, zero, suc, ◌+◌, ◌-◌, ◌<◌, ◌≤◌, Bool, true, false, List, [], ◌∷◌, ◌++◌, length, take, drop, map, Option, None, Some, Result, Ok, Err, refl, arith, sym, subst, inl, inr, if◌then◌else◌}
use Rattle.std.specs.Prelude.{IfOk, IfSome, codes, decimal, nat_lt, slice_index_or}
use Rattle.std.specs.List.{AllByRecursion, list_any, position_or_len}
use Rattle.std.specs.Option.{option_map}
use Rattle.std.specs.Str.{bytes_eq}
use Rattle.std.proofs.lemmas.Bool.{cases_Bool, eqb-true, false≢true, ltb-false}
use Rattle.std.proofs.lemmas.Bool.Decides.{Decides-ltb}
use Rattle.std.proofs.lemmas.List.{get_or-map}
use Rattle.ds_base.specs.Limit.{most_of}
use Rattle.ds_base.specs.declared.number.Limit.{Limit}
use Rattle.ds_base.specs.declared.number.Limit.TheVariants.{Copies}
use Rattle.ds_outside.specs.Held.{Held, untold, absent, bytes}
use Rattle.ds_lines.specs.First.{unless_fault}
use Rattle.ds_lines.specs.Line.{Line}
use Rattle.ds_lines.specs.Print.{is_apart, IsWord}
use Rattle.ds_lines.proofs.ByteClasses.{lacks_both, lacks_drop, number_without, some_bytes, without_both}
use Rattle.ds_lines.specs.Words.{word_at}
use Rattle.ds_lines.specs.declared.at.At.{At}
use Rattle.ds_design.specs.Circuit.{Circuit, register_nets}
use Rattle.ds_design.specs.InRange.{IsInRange}
use Rattle.ds_design.specs.declared.design.Register.{Register}
use Rattle.ds_design.specs.declared.design.Net.{Net}
use Rattle.ds_design.specs.declared.blif.BlifModel.{BlifModel}
use Rattle.ds_design.specs.declared.blif.Command.{Command}
use Rattle.ds_design.specs.declared.blif.Pair.{Pair}
use Rattle.ds_design.specs.declared.blif.Part.{Part}
use Rattle.ds_design.specs.declared.blif.Part.TheVariants.{Inputs as InputsPart, Outputs as OutputsPart, Clock as ClockPart, Table as TablePart, Latch as LatchPart, Subckt as SubcktPart}
use Rattle.ds_design.specs.declared.blif.UseText.{UseText}
use Rattle.ds_blif.specs.Fault.{latch_fault, names_fault}
use Rattle.ds_blif.specs.Form.{is_edge, is_equals, is_latch_form, is_level}
use Rattle.ds_blif.specs.Head.{head_of}
use Rattle.ds_blif.specs.Parts.{Parts, control_of, latch_of, models_of, pair_of, parts_of, with_head}
use Rattle.ds_blif.specs.State.{State, after, first_fault, own_fault, state_of}
use Rattle.ds_blif.specs.Text.{models_of_text}
use Rattle.ds_blif.specs.declared.head.Head.{Head}
use Rattle.ds_blif.specs.declared.head.Head.TheVariants.{Row, Names, Model, Inputs, Outputs, Clock, Latch, Subckt, End, Skipped, Unknown}
use Rattle.ds_blif.proofs.FirstFault.{fault_from, fault_from_is}
use Rattle.ds_blif.proofs.NoFault.{first_none, line_none, lines_none, not_false, or_cases, own_none, test_false}
use Rattle.ds_flat.specs.Command.{with_net_if_some, with_part}
use Rattle.ds_flat.specs.Copies.{Flat, Opened, ◌>>=◌, actuals_in, bindings_in, copy_unless, expand, flat_of, main_copy, model_named, most_depth, next_copy, open_model, open_use, passed_limit, ports_of, take_all, take_command, take_part, unknown_formal, unless_passed, use_in}
use Rattle.ds_flat.specs.Net.{Binding, Scope, has_net, net_in, net_of_name, numbered_names, numbered_nets, with_net}
use Rattle.ds_flat.specs.declared.fault.FlatKind.{FlatKind}
use Rattle.ds_rows.specs.Nets.{net_text, register_of}
use Rattle.ds_stage.specs.FaultText.{blif_text, flat_text}
use Rattle.ds_stage.specs.Stages.{OfBytes, netlist_stage, text_stage}
use Rattle.ds_stage.proofs.LineWords.{HaveWords, both_all, lines_have_words}
use Rattle.ds_stage.proofs.FileMeaning.{netlist_in_range, read_meant}
use Rattle.ds_laws.specs.Names.{IsPlainName, NamesArePlain}

-- what holds of both branches
either_way : {A : Type 0} (P : A → Type 0) (test : Bool) (x y : A) → P x → P y → P (if test then x else y)
either_way P true x y first second = first
either_way P false x y first second = second

-- what holds of the first one where the test does, and of the second one
where_so : {A : Type 0} (P : A → Type 0) (test : Bool) (x y : A) → (test ≡ true → P x) → P y → P (if test then x else y)
where_so P true x y first second = first refl
where_so P false x y first second = second

-- what holds of each element holds of some
pub each_take : {A : Type 0} (P : A → Type 0) (n : ℕ) (xs : List A) → AllByRecursion P xs → AllByRecursion P (take n xs)
each_take P zero xs all = tt
each_take P (suc n) [] all = tt
each_take P (suc n) (x ∷ xs) (here, all) = (here, each_take P n xs all)

-- and of those behind them
pub each_drop : {A : Type 0} (P : A → Type 0) (n : ℕ) (xs : List A) → AllByRecursion P xs → AllByRecursion P (drop n xs)
each_drop P zero xs all = all
each_drop P (suc n) [] all = tt
each_drop P (suc n) (x ∷ xs) (here, all) = each_drop P n xs all

-- and of each one, or of what stands for one that is not there
each_at : {A : Type 0} (P : A → Type 0) (xs : List A) (k : ℕ) (default : A) → AllByRecursion P xs → P default → P (slice_index_or xs k default)
each_at P [] k default all other = other
each_at P (x ∷ xs) zero default (here, all) other = here
each_at P (x ∷ xs) (suc k) default (here, all) other = each_at P xs k default all other

each_inside : {A : Type 0} (P : A → Type 0) (xs : List A) (k : ℕ) (default : A) → AllByRecursion P xs → k < length xs → P (slice_index_or xs k default)
each_inside P [] k default all low = absurd (omega (low, arith))
each_inside P (x ∷ xs) zero default (here, all) low = here
each_inside P (x ∷ xs) (suc k) default (here, all) low = each_inside P xs k default all (omega (low, arith))

-- what follows of each element
each_so : {A : Type 0} (P Q : A → Type 0) → ((x : A) → P x → Q x) → (xs : List A) → AllByRecursion P xs → AllByRecursion Q xs
each_so P Q so [] all = tt
each_so P Q so (x ∷ xs) (here, all) = (so x here, each_so P Q so xs all)

-- the end of a word where something is left
end_word : (n : ℕ) (name : List ℕ) → IsWord name → nat_lt 0 (length (drop n name)) ≡ true → IsWord (drop n name)
end_word n name is long =
    record { some = some_bytes (drop n name) ((Decides-ltb 0 (length (drop n name))).0 long); none = lacks_drop is_apart n name is.none }

-- names that are words, as those of a line
abbrev AreWords : List (List ℕ) → Type 0
AreWords names = AllByRecursion IsWord names

word_at_word : (words : List (List ℕ)) (k : ℕ) → AreWords words → k < length words → IsWord (word_at words k)
word_at_word words k are low = each_inside IsWord words k [] are low

-- the actual of a pair is a word, where something stands there
abbrev IsWordPair : Pair → Type 0
IsWordPair pair = nat_lt 0 (length pair.actual) ≡ true → IsWord pair.actual

abbrev AreWordPairs : List Pair → Type 0
AreWordPairs pairs = AllByRecursion IsWordPair pairs

-- commands whose nets have words as names, and models of such commands
abbrev IsPlainPart : Part → Type 0
IsPlainPart (InputsPart names) = AreWords names
IsPlainPart (OutputsPart names) = AreWords names
IsPlainPart (ClockPart names) = AreWords names
IsPlainPart (TablePart text) = AreWords text.inputs × IsWord text.output
IsPlainPart (LatchPart text) = IsWord text.data_net × IsWord text.output × IfSome text.control IsWord
IsPlainPart (SubcktPart call) = AreWordPairs call.pairs

abbrev ArePlainCommands : List Command → Type 0
ArePlainCommands commands = AllByRecursion (λ (command : Command). IsPlainPart command.part) commands

abbrev ArePlainModels : List BlifModel → Type 0
ArePlainModels models = AllByRecursion (λ (model : BlifModel). ArePlainCommands model.commands) models

-- a latch that has no fault has three words
both_long : (n a b : ℕ) → ((n == a) || (n == b)) ≡ true → 3 ≤ a → 3 ≤ b → 3 ≤ n
both_long n a b is one other = elim (or_cases (n == a) (n == b) is) [
  | inl same ↦ (let e : n ≡ a = eqb-true n a same in omega (e, one, arith))
  | inr same ↦ (let e : n ≡ b = eqb-true n b same in omega (e, other, arith))
]

either_true : (a b c : Bool) → (if a then true else (if b then c else false)) ≡ true → (a ≡ true) ⊎ (b ≡ true)
either_true true b c is = inl refl
either_true false true c is = inr refl
either_true false false c is = absurd (false≢true is)

form_long : (words : List (List ℕ)) → is_latch_form words ≡ true → 3 ≤ length words
unfolding is_latch_form
form_long words is =
    elim (either_true ((length words == 3) || (length words == 4)) ((length words == 5) || (length words == 6)) (is_edge (word_at words 3) || is_level (word_at words 3)) is) [
      | inl short ↦ both_long (length words) 3 4 short (omega arith) (omega arith)
      | inr long ↦ both_long (length words) 5 6 long (omega arith) (omega arith)
    ]

latch_long : (words : List (List ℕ)) → latch_fault words ≡ None → 3 ≤ length words
latch_long words is = form_long words (not_false _ (test_false _ _ (first_none _ _ is)))

names_long : (words : List (List ℕ)) → names_fault words ≡ None → 2 ≤ length words
names_long words is = ltb-false _ _ (test_false _ _ (first_none _ _ is))

-- a latch, and the pairs of a use
control_word : (word : List ℕ) → IsWord word → IfSome (control_of word) IsWord
control_word word is = either_way (λ (name : Option (List ℕ)). IfSome name IsWord) (bytes_eq word (codes "NIL")) None (Some word) tt is

latch_words : (words : List (List ℕ)) → AreWords words → 3 ≤ length words → IsPlainPart (LatchPart (latch_of words))
latch_words words are long = (
  word_at_word words 1 are (omega (long, arith)),
  word_at_word words 2 are (omega (long, arith)),
  where_so (λ (name : Option (List ℕ)). IfSome name IsWord) (nat_lt 4 (length words)) (control_of (word_at words 4)) None
      (λ more. control_word (word_at words 4) (word_at_word words 4 are ((Decides-ltb 4 (length words)).0 more))) tt,
)

pairs_words : (words : List (List ℕ)) → AreWords words → AreWordPairs (map pair_of words)
pairs_words [] are = tt
pairs_words (word ∷ words) (is, are) = (λ long. end_word (position_or_len is_equals word + 1) word is long, pairs_words words are)

-- what lines of words stand for that have no fault
abbrev ArePlainParts : Parts → Type 0
ArePlainParts parts = ArePlainCommands parts.commands × ArePlainModels parts.models

head_words : (head : Head) (state : State) (number : ℕ) (words : List (List ℕ)) (parts : Parts) → own_fault head state words ≡ None → AreWords words → ArePlainParts parts
    → ArePlainParts (with_head head number words parts)
head_words Row state number words parts none are (commands, models) = (commands, models)
head_words Skipped state number words parts none are (commands, models) = (commands, models)
head_words Model state number words parts none are (commands, models) = (tt, (commands, models))
head_words Inputs state number words parts none are (commands, models) = ((each_drop IsWord 1 words are, commands), models)
head_words Outputs state number words parts none are (commands, models) = ((each_drop IsWord 1 words are, commands), models)
head_words Clock state number words parts none are (commands, models) = ((each_drop IsWord 1 words are, commands), models)
head_words Names state number words parts none are (commands, models) =
    let inputs : AreWords (take (length words - 2) (drop 1 words)) = each_take IsWord (length words - 2) (drop 1 words) (each_drop IsWord 1 words are) in
    let long : 2 ≤ length words = names_long words none in
    (((inputs, word_at_word words (length words - 1) are (omega (long, arith))), commands), models)
head_words Latch state number words parts none are (commands, models) = ((latch_words words are (latch_long words none), commands), models)
head_words Subckt state number words parts none are (commands, models) = ((pairs_words (drop 2 words) (each_drop IsWord 2 words are), commands), models)
head_words End state number words parts none are (commands, models) = (commands, models)
head_words Unknown state number words parts none are (commands, models) = (commands, models)

lines_words : (state : State) (lines : List Line) → fault_from state lines ≡ None → HaveWords lines → ArePlainParts (parts_of lines)
lines_words state [] none have = (tt, tt)
lines_words state (line ∷ lines) none (words, have) =
    head_words (head_of (word_at line.words 0)) state line.number line.words (parts_of lines) (own_none _ state line.words (line_none _ _ _ none)) words
    (lines_words (after line.words state) lines (lines_none _ _ _ none) have)

-- nets with words as names, of copies that there may be
record IsPlainNet (net : Net) : Type 0 where
  copy : net.copy ≤ most_of Copies
  name : IsWord net.name

abbrev ArePlainNets : List Net → Type 0
ArePlainNets nets = AllByRecursion IsPlainNet nets

abbrev ArePlainBindings : List Binding → Type 0
ArePlainBindings bound = AllByRecursion (λ (binding : Binding). IsPlainNet binding.net) bound

record IsPlainScope (scope : Scope) : Type 0 where
  copy : scope.copy ≤ most_of Copies
  bound : ArePlainBindings scope.bound

-- the nets of names
net_in_plain : (copy : ℕ) (bound : List Binding) (name : List ℕ) → copy ≤ most_of Copies → ArePlainBindings bound → IsWord name → IsPlainNet (net_in copy bound name)
net_in_plain copy [] name few are plain = record { copy = few; name = plain }
net_in_plain copy (binding ∷ bound) name few (is, are) plain =
    either_way IsPlainNet (bytes_eq name binding.formal) binding.net (net_in copy bound name) is (net_in_plain copy bound name few are plain)

module _ (scope : Scope) (within : IsPlainScope scope) where
  net_plain : (name : List ℕ) → IsWord name → IsPlainNet (net_of_name scope name)
  net_plain name plain = net_in_plain scope.copy scope.bound name within.copy within.bound plain

  nets_plain : (names : List (List ℕ)) → AreWords names → ArePlainNets (map (net_of_name scope) names)
  nets_plain [] are = tt
  nets_plain (name ∷ names) (is, are) = (net_plain name is, nets_plain names are)

  net_if_some_plain : (name : Option (List ℕ)) → IfSome name IsWord → IfSome (option_map (net_of_name scope) name) IsPlainNet
  net_if_some_plain None is = tt
  net_if_some_plain (Some name) is = net_plain name is

  bindings_plain : (pairs : List Pair) → AreWordPairs pairs → ArePlainBindings (bindings_in scope pairs)
  bindings_plain [] are = tt
  bindings_plain (pair ∷ pairs) (is, are) =
      let bound : Binding = record { formal = pair.formal; net = net_of_name scope pair.actual } in
      let more : ArePlainBindings (bindings_in scope pairs) = bindings_plain pairs are in
      where_so ArePlainBindings (nat_lt 0 (length pair.actual)) (bound ∷ bindings_in scope pairs) (bindings_in scope pairs) (λ long. (net_plain pair.actual (is long), more)) more

actuals_words : (pairs : List Pair) → AreWordPairs pairs → AreWords (actuals_in pairs)
actuals_words [] are = tt
actuals_words (pair ∷ pairs) (is, are) =
    let more : AreWords (actuals_in pairs) = actuals_words pairs are in
    where_so AreWords (nat_lt 0 (length pair.actual)) (pair.actual ∷ actuals_in pairs) (actuals_in pairs) (λ long. (is long, more)) more

-- nets that are numbered
with_net_plain : (nets : List Net) (net : Net) → ArePlainNets nets → IsPlainNet net → ArePlainNets (with_net nets net)
with_net_plain nets net are is =
    either_way ArePlainNets (has_net nets net) nets (nets ++ net ∷ []) are (both_all IsPlainNet nets (net ∷ []) are (is, tt))

with_some_plain : (nets : List Net) (net : Option Net) → ArePlainNets nets → IfSome net IsPlainNet → ArePlainNets (with_net_if_some nets net)
with_some_plain nets None are is = are
with_some_plain nets (Some net) are is = with_net_plain nets net are is

numbered_plain : (nets more : List Net) → ArePlainNets nets → ArePlainNets more → ArePlainNets (numbered_nets nets more).nets
numbered_plain nets [] are rest = are
numbered_plain nets (net ∷ more) are (is, rest) = numbered_plain (with_net nets net) more (with_net_plain nets net are is) rest

names_plain : (scope : Scope) (nets : List Net) (names : List (List ℕ)) → IsPlainScope scope → ArePlainNets nets → AreWords names
    → ArePlainNets (numbered_names scope nets names).nets
names_plain scope nets names within are plain = numbered_plain nets (map (net_of_name scope) names) are (nets_plain scope within names plain)

-- the nets with those of a command
part_plain : (scope : Scope) (line : ℕ) (part : Part) (c : Circuit) → IsPlainScope scope → IsPlainPart part → ArePlainNets c.nets
    → ArePlainNets (with_part scope line part c).nets
part_plain scope line (InputsPart names) c within plain are = names_plain scope c.nets names within are plain
part_plain scope line (OutputsPart names) c within plain are = names_plain scope c.nets names within are plain
part_plain scope line (ClockPart names) c within plain are = names_plain scope c.nets names within are plain
part_plain scope line (TablePart text) c within (inputs, output) are =
    with_net_plain (numbered_names scope c.nets text.inputs).nets (net_of_name scope text.output)
    (names_plain scope c.nets text.inputs within are inputs) (net_plain scope within text.output output)
part_plain scope line (LatchPart text) c within (data_net, output, control) are =
    let first : List Net = with_net c.nets (net_of_name scope text.data_net) in
    let first_plain : ArePlainNets first = with_net_plain c.nets (net_of_name scope text.data_net) are (net_plain scope within text.data_net data_net) in
    with_some_plain (with_net first (net_of_name scope text.output)) (option_map (net_of_name scope) text.control)
    (with_net_plain first (net_of_name scope text.output) first_plain (net_plain scope within text.output output))
    (net_if_some_plain scope within text.control control)
part_plain scope line (SubcktPart call) c within plain are = are

-- what was taken has plain nets, and no more copies than there may be
record HasPlain (flat : Flat) : Type 0 where
  copies : flat.copies ≤ most_of Copies
  nets : ArePlainNets flat.design.nets

-- a copy of plain commands, over what has plain nets
record IsReady (opened : Opened) : Type 0 where
  scope : IsPlainScope opened.frame.scope
  commands : ArePlainCommands opened.frame.commands
  flat : HasPlain opened.flat

-- what comes next has what it is given
pub if_next : {A B : Type 0} (P : A → Type 0) (Q : B → Type 0) (first : Result A (At FlatKind)) (next : A → Result B (At FlatKind))
    → IfOk first P → ((value : A) → P value → IfOk (next value) Q) → IfOk (first >>= next) Q
if_next P Q (Ok value) next is each = each value is
if_next P Q (Err fault) next is each = tt

-- a value that passes no limit
pub unless_holds : {A : Type 0} (P : A → Type 0) (limit : Option Limit) (line : ℕ) (value : A) → P value → IfOk (unless_passed limit line value) P
unless_holds P None line value is = is
unless_holds P (Some limit) line value is = tt

-- a command that is taken
taken_plain : (scope : Scope) (line : ℕ) (part : Part) (flat : Flat) → IsPlainScope scope → IsPlainPart part → HasPlain flat
    → IfOk (take_part scope line part flat) HasPlain
taken_plain scope line part flat within plain has =
    let next : Circuit = with_part scope line part flat.design in
    unless_holds HasPlain (passed_limit next) line (record { copies = flat.copies; design = next })
    (record { copies = has.copies; nets = part_plain scope line part flat.design within plain has.nets })

-- a copy that a use opens
next_ready : (path : List (List ℕ)) (scope : Scope) (call : UseText) (model : BlifModel) (flat : Flat) → IsPlainScope scope → AreWordPairs call.pairs
    → ArePlainCommands model.commands → HasPlain flat → flat.copies < most_of Copies → IsReady (next_copy path scope call model flat)
next_ready path scope call model flat within pairs commands has few =
    let more : flat.copies + 1 ≤ most_of Copies = omega (arith, few) in
    record {
      scope = record { copy = more; bound = bindings_plain scope within call.pairs pairs };
      commands = commands;
      flat = record {
        copies = more;
        nets = names_plain scope flat.design.nets (actuals_in call.pairs) within has.nets (actuals_words call.pairs pairs);
      };
    }

unless_ready : (formal : Option (List ℕ)) (line : ℕ) (opened : Opened) → IsReady opened → IfOk (copy_unless formal line opened) IsReady
unless_ready None line opened ready = unless_holds IsReady (passed_limit opened.flat.design) line opened ready
unless_ready (Some formal) line opened ready = tt

model_ready : (path : List (List ℕ)) (scope : Scope) (line : ℕ) (call : UseText) (flat : Flat) (named : Option BlifModel) → IsPlainScope scope
    → AreWordPairs call.pairs → HasPlain flat → IfSome named (λ model. ArePlainCommands model.commands)
    → IfOk (open_model path scope line call flat named) IsReady
model_ready path scope line call flat None within pairs has commands = tt
model_ready path scope line call flat (Some model) within pairs has commands = elim (cases_Bool (list_any (bytes_eq call.model) path)) [
  | inl found ↦ rw found tt
  | inr new ↦ elim (cases_Bool (nat_lt flat.copies (most_of Copies))) [
    | inl few ↦ rw (new, few) (unless_ready (unknown_formal (ports_of model.commands) call.pairs) line (next_copy path scope call model flat)
        (next_ready path scope call model flat within pairs commands has ((Decides-ltb flat.copies (most_of Copies)).0 few)))
    | inr many ↦ rw (new, many) tt
  ]
]

named_plain : (models : List BlifModel) (name : List ℕ) → ArePlainModels models → IfSome (model_named models name) (λ model. ArePlainCommands model.commands)
named_plain [] name are = tt
named_plain (model ∷ models) name (is, are) =
    either_way (λ (named : Option BlifModel). IfSome named (λ model. ArePlainCommands model.commands)) (bytes_eq name model.name)
    (Some model) (model_named models name) is (named_plain models name are)

module _ (models : List BlifModel) (plain : ArePlainModels models) where
  -- each copy that is taken leaves plain nets
  abbrev Keeps : (Opened → Result Flat (At FlatKind)) → Type 0
  Keeps callee = (opened : Opened) → IsReady opened → IfOk (callee opened) HasPlain

  part_kept : (callee : Opened → Result Flat (At FlatKind)) → Keeps callee → (path : List (List ℕ)) (scope : Scope) (line : ℕ) (part : Part) (flat : Flat)
      → IsPlainScope scope → IsPlainPart part → HasPlain flat
      → IfOk (take_command callee models path scope (record { line = line; part = part }) (use_in part) flat) HasPlain
  part_kept callee keeps path scope line (InputsPart names) flat within is has = taken_plain scope line (InputsPart names) flat within is has
  part_kept callee keeps path scope line (OutputsPart names) flat within is has = taken_plain scope line (OutputsPart names) flat within is has
  part_kept callee keeps path scope line (ClockPart names) flat within is has = taken_plain scope line (ClockPart names) flat within is has
  part_kept callee keeps path scope line (TablePart text) flat within is has = taken_plain scope line (TablePart text) flat within is has
  part_kept callee keeps path scope line (LatchPart text) flat within is has = taken_plain scope line (LatchPart text) flat within is has
  part_kept callee keeps path scope line (SubcktPart call) flat within is has =
      if_next IsReady HasPlain (open_use models path scope line call flat) callee
      (model_ready path scope line call flat (model_named models call.model) within is has (named_plain models call.model plain)) keeps

  all_kept : (callee : Opened → Result Flat (At FlatKind)) → Keeps callee → (path : List (List ℕ)) (scope : Scope) → IsPlainScope scope
      → (commands : List Command) (flat : Flat) → ArePlainCommands commands → HasPlain flat → IfOk (take_all callee models path scope commands flat) HasPlain
  all_kept callee keeps path scope within [] flat are has = has
  all_kept callee keeps path scope within (command ∷ commands) flat (is, are) has =
      if_next HasPlain HasPlain (take_command callee models path scope command (use_in command.part) flat) (take_all callee models path scope commands)
      (part_kept callee keeps path scope command.line command.part flat within is has)
      (λ next left. all_kept callee keeps path scope within commands next are left)

  copies_kept : (depth : ℕ) → Keeps (expand depth models)
  copies_kept zero opened ready = tt
  copies_kept (suc depth) opened ready =
      all_kept (expand depth models) (copies_kept depth) opened.frame.path opened.frame.scope ready.scope opened.frame.commands opened.flat ready.commands ready.flat

-- the nets of the flat design
main_ready : (main : BlifModel) → ArePlainCommands main.commands → IsReady (main_copy main)
main_ready main commands = record {
  scope = record { copy = omega arith; bound = tt };
  commands = commands;
  flat = record { copies = omega arith; nets = tt };
}

flat_plain : (models : List BlifModel) → ArePlainModels models → IfOk (flat_of models) (λ c. ArePlainNets c.nets)
flat_plain [] are = tt
flat_plain (main ∷ models) (is, are) =
    if_next HasPlain (λ (c : Circuit). ArePlainNets c.nets) (expand most_depth (main ∷ models) (main_copy main)) (λ (flat : Flat). Ok flat.design)
    (copies_kept (main ∷ models) (is, are) most_depth (main_copy main) (main_ready main is))
    (λ flat has. has.nets)

design_plain : (models : List BlifModel) (c : Circuit) → ArePlainModels models → flat_of models ≡ Ok c → ArePlainNets c.nets
design_plain models c are is = subst (λ (r : Result Circuit (At FlatKind)). IfOk r (λ d. ArePlainNets d.nets)) is (flat_plain models are)

-- the text of a net: it is a word with its copy's number before it
front_word : (n : ℕ) → n ≤ most_of Copies → IsWord (decimal n ++ codes "/")
front_word n few = without_both is_apart (decimal n) (codes "/") (number_without is_apart refl n (omega (arith, few))) refl

text_word : (net : Net) → IsPlainNet net → IsWord (net_text net)
text_word net is =
    either_way IsWord (net.copy == 0) net.name (decimal net.copy ++ codes "/" ++ net.name) is.name
    (without_both is_apart (decimal net.copy ++ codes "/") net.name (front_word net.copy is.copy) is.name.none)

text_plain : (net : Net) → net.copy ≤ most_of Copies → IsPlainName net.name → IsPlainName (net_text net)
text_plain net few plain =
    either_way IsPlainName (net.copy == 0) net.name (decimal net.copy ++ codes "/" ++ net.name) plain
    (lacks_both is_apart (decimal net.copy ++ codes "/") net.name (front_word net.copy few).none plain)

-- a net that is there, and what stands for one that is not, have plain names
abbrev IsShown : Net → Type 0
IsShown net = (net.copy ≤ most_of Copies) × IsPlainName net.name

module _ (c : Circuit) (register : ℕ) (are : ArePlainNets c.nets) where
  register_plain : IsPlainName (register_of c register)
  register_plain =
      let none : Net = record { copy = 0; name = [] } in
      let shown : IsShown (slice_index_or c.nets (slice_index_or (register_nets c) register 0) none) =
      each_at IsShown c.nets (slice_index_or (register_nets c) register 0) none
      (each_so IsPlainNet IsShown (λ net is. (is.copy, is.name.none)) c.nets are) (omega arith, refl) in
      text_plain (slice_index_or c.nets (slice_index_or (register_nets c) register 0) none) shown.0 shown.1

  register_word : slice_index_or (register_nets c) register 0 < length c.nets → IsWord (register_of c register)
  register_word low =
      let none : Net = record { copy = 0; name = [] } in
      text_word (slice_index_or c.nets (slice_index_or (register_nets c) register 0) none)
      (each_inside IsPlainNet c.nets (slice_index_or (register_nets c) register 0) none are low)

-- the lines of a file that tells what it holds
file_words : (h : Held) (file : List ℕ) → h ≢ untold → (lines : List Line) → OfBytes h (λ text. (text_stage file text).means lines) → HaveWords lines
file_words untold file told lines means = absurd (told refl)
file_words absent file told lines means = absurd means
file_words (bytes text) file told lines (short, is) = subst HaveWords (sym is) (lines_have_words text)

-- what is given unless there is a fault
given_of : {F A : Type 0} (fault : Option F) (given read : A) → unless_fault fault given ≡ Ok read → given ≡ read
given_of None given read is = cc
given_of (Some fault) given read is = absurd (cc)

none_of : {F A : Type 0} (fault : Option F) (given read : A) → unless_fault fault given ≡ Ok read → fault ≡ None
none_of None given read is = refl
none_of (Some fault) given read is = absurd (cc)

-- the nets of a netlist have words as names
circuit_nets : (held : List ℕ → Held) (net : List ℕ) (c : Circuit) → held net ≢ untold → (netlist_stage held net).means c → ArePlainNets c.nets
circuit_nets held net c told (flat, (lines, are, (models, read, is_flat)), (is, accepted)) =
    let have : HaveWords lines = file_words (held net) net told lines are in
    let meant : models_of_text lines ≡ Ok models = read_meant net blif_text (models_of_text lines) models read in
    let same : models_of lines ≡ models = given_of (first_fault [] lines) (models_of lines) models meant in
    let none : fault_from (state_of []) lines ≡ None = sym (fault_from_is [] lines) ∙ none_of (first_fault [] lines) (models_of lines) models meant in
    let plain : ArePlainModels models = subst ArePlainModels same (lines_words (state_of []) lines none have).1 in
    let nets : ArePlainNets flat.nets = design_plain models flat plain (read_meant net flat_text (flat_of models) flat is_flat) in
    subst (λ (d : Circuit). ArePlainNets d.nets) (sym is) nets

pub names_are_plain : NamesArePlain
names_are_plain held net c told netlist register = register_plain c register (circuit_nets held net c told netlist)

-- the names of its registers are words
pub names_are_words : (held : List ℕ → Held) (net : List ℕ) (c : Circuit) → held net ≢ untold → (netlist_stage held net).means c
    → (register : ℕ) → register < length c.registers → IsWord (register_of c register)
names_are_words held net c told netlist register low =
    let range : IsInRange c = netlist_in_range held net c netlist in
    let none : Register = record { data_net = 0; output = 0; edge = None; control = None; initial = 0; line = 0 } in
    let at : slice_index_or (register_nets c) register 0 ≡ (slice_index_or c.registers register none).output =
    get_or-map (λ (r : Register). r.output) c.registers register none 0 low in
    let inside : (slice_index_or c.registers register none).output < length c.nets = (range.registers register none low).1 in
    register_word c register (circuit_nets held net c told netlist) (omega (at, inside, arith))
