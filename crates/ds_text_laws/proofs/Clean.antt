-- The lines that print models have no fault.
use Rattle.std.proofs.Common.{◌≡◌, ℕ, zero, suc, ◌+◌, ◌-◌, ◌≤◌, Bool, true, false, List, [], ◌∷◌, ◌++◌, map, length, Option, None, Some, Ok, codes, refl, ap, ◌∙◌, arith, append_assoc, nat_lt, ◌==◌, length-append}
use Rattle.std.specs.List.{AllByRecursion}
use Rattle.std.proofs.lemmas.Bool.{le-ltb, eq-eqb}
use Rattle.ds_lines.specs.First.{first_of, unless_fault, fault_or}
use Rattle.ds_lines.specs.Words.{word_at}
use Rattle.ds_lines.specs.Line.{Line, lines_of}
use Rattle.ds_lines.specs.Print.{numbered_lines, text_of, IsPlain}
use Rattle.ds_lines.proofs.PrintedLines.{lines_of-text_of}
use Rattle.ds_blif.specs.Head.{head_of}
use Rattle.ds_blif.specs.Form.{is_row_form, is_latch_form, is_level_latch, has_bad_init, output_of, is_init}
use Rattle.ds_blif.specs.Fault.{names_fault, latch_fault, subckt_fault, differs}
use Rattle.ds_blif.specs.State.{State, after_head, fault_by, end_fault, first_after, first_fault}
use Rattle.ds_blif.specs.Parts.{Parts, models_of}
use Rattle.ds_blif.specs.Text.{models_of_text}
use Rattle.ds_text_laws.specs.BlifText.{models_at_lines, bit_word, words_of_row, part_words, command_words, model_words, type_words, pair_word}
use Rattle.ds_text_laws.specs.Printable.{IsPlane, IsTable, IsLatch, IsUse, IsPrintable, ArePrintableParts, AreModels}
use Rattle.ds_blif.specs.declared.head.Head.{Head}
use Rattle.ds_blif.specs.declared.head.Head.TheVariants.{Row, Names, Model, Inputs as InputsHead, Outputs as OutputsHead, Clock as ClockHead, Latch as LatchHead, Subckt as SubcktHead, End}
use Rattle.ds_blif.specs.declared.fault.BlifKind.{BlifKind}
use Rattle.ds_lines.specs.declared.at.At.{At}
use Rattle.ds_design.specs.declared.design.Edge.{Edge}
use Rattle.ds_design.specs.declared.design.Edge.TheVariants.{Rising, Falling}
use Rattle.ds_design.specs.declared.blif.TableText.{TableText}
use Rattle.ds_design.specs.declared.blif.LatchText.{LatchText}
use Rattle.ds_design.specs.declared.blif.UseText.{UseText}
use Rattle.ds_design.specs.declared.blif.Part.{Part}
use Rattle.ds_design.specs.declared.blif.Part.TheVariants.{Inputs, Outputs, Clock, Table, Latch, Subckt}
use Rattle.ds_design.specs.declared.blif.Command.{Command}
use Rattle.ds_design.specs.declared.blif.BlifModel.{BlifModel}
use Rattle.ds_text_laws.proofs.Heads.{head_inputs, head_outputs, head_clock, head_names, head_latch, head_subckt, head_model, head_end, head_row}
use Rattle.ds_text_laws.proofs.PrintedModels.{numbered-append, models_parts}
use Rattle.ds_blif.proofs.FirstFault.{fault_from, fault_from_is}

-- a model is open
abbrev pub open_state : Option ℕ → Option (List ℕ) → List (List ℕ) → State
open_state table first models = record {
  is_open = true;
  table = table;
  first = first;
  models =
      models;
}

-- none is
abbrev pub closed_state : List (List ℕ) → State
closed_state models = record { is_open = false; table = None; first = None; models = models }

-- a line without a fault
step_clean : (head : Head) (words : List (List ℕ)) (n : ℕ) (state : State) (tail : List Line)
    → head_of (word_at words 0) ≡ head → fault_by head state words ≡ None
    → fault_from state (record { number = n; words = words } ∷ tail) ≡ fault_from
    (after_head head words state) tail
step_clean head words n state tail is clean =
    ap (λ h. fault_or (fault_by h state words) n (fault_from (after_head h words state) tail)) is
    ∙ ap (λ (k : Option BlifKind).
    fault_or k n (fault_from (after_head head words state) tail)) clean

names_clean : (word : List ℕ) (inputs : List (List ℕ)) (output : List ℕ) → length inputs ≤ 1024
    → names_fault (word ∷ inputs ++ output ∷ []) ≡ None
names_clean word inputs output few =
    let all : length (word ∷ inputs ++ output ∷ []) ≡ suc (length inputs + 1) = ap suc
    (length-append inputs (output ∷ [])) in
    let low : nat_lt (suc (length inputs + 1)) 2 ≡ false = le-ltb _ _ (omega arith) in
    let high : nat_lt 1026 (suc (length inputs + 1)) ≡ false = le-ltb _ _ (omega arith) in
    rw (all, low, high) refl

row_output : (on : Bool) (plane : List ℕ) → output_of (words_of_row on plane) ≡ bit_word on
row_output on [] = refl
row_output on (byte ∷ bytes) = refl

row_form : (on : Bool) (width : ℕ) (plane : List ℕ) → IsPlane width plane → is_row_form width
    (words_of_row on plane) ≡ true
unfolding is_row_form
row_form true zero [] is = refl
row_form false zero [] is = refl
row_form on (suc width) [] is = absurd (let e : 0 ≡ suc width = is.long in omega arith)
row_form on zero (byte ∷ bytes) is = absurd (let e : suc (length bytes) ≡ 0 = is.long in
    omega arith)
row_form true (suc width) (byte ∷ bytes) is =
    let same : (suc (length bytes) == suc width) ≡ true = eq-eqb _ _ is.long in
    let some : (suc width == 0) ≡ false = grind arith in
    rw (some, same, is.bytes) refl
row_form false (suc width) (byte ∷ bytes) is =
    let same : (suc (length bytes) == suc width) ≡ true = eq-eqb _ _ is.long in
    let some : (suc width == 0) ≡ false = grind arith in
    rw (some, same, is.bytes) refl

bit_same : (on : Bool) → differs (Some (bit_word on)) (bit_word on) ≡ false
bit_same true = refl
bit_same false = refl

first_kept : (on : Bool) (plane : List ℕ) (first : Option (List ℕ)) → differs first (bit_word on)
    ≡ false → differs (first_after Row (words_of_row on plane) first) (bit_word on) ≡ false
first_kept on plane None same = ap (λ w. differs (Some w) (bit_word on)) (row_output on plane)
    ∙ bit_same on
first_kept on plane (Some output) same = same

row_clean : (on : Bool) (width : ℕ) (plane : List ℕ) (first : Option (List ℕ)) (models : List
    (List ℕ)) → IsPlane width plane → differs first (bit_word on) ≡ false
    → fault_by Row (open_state (Some width) first models) (words_of_row on plane) ≡ None
row_clean on width plane first models is same = rw
    (row_form on width plane is, row_output on plane, same) refl

-- rows without a fault leave the table open
rows_clean : (n width : ℕ) (on : Bool) (planes : List (List ℕ)) (first : Option (List ℕ))
    (models : List (List ℕ)) (tail : List Line) → AllByRecursion (IsPlane width) planes
    → differs first (bit_word on) ≡ false
    → (after : Option (List ℕ)) × (fault_from (open_state (Some width) first models) (numbered_lines n
    (map (words_of_row on) planes) ++ tail) ≡ fault_from (open_state
    (Some width) after models) tail)
rows_clean n width on [] first models tail all same = (first, refl)
rows_clean n width on (plane ∷ planes) first models tail all same =
    let rest : List Line = numbered_lines (n + 1) (map (words_of_row on) planes) ++ tail in
    let here : fault_from (open_state (Some width) first models) (record {
      number = n;
      words =
          words_of_row on plane;
    } ∷ rest) ≡ fault_from (open_state (Some width) (first_after Row
    (words_of_row on plane) first) models) rest =
    step_clean Row (words_of_row on plane) n (open_state (Some width) first models) rest
    (head_row on plane all.0.bytes) (row_clean on width plane first models all.0 same) in
    let (after, behind) = rows_clean (n + 1) width on planes (first_after Row
    (words_of_row on plane) first) models tail all.1 (first_kept on plane first same) in
    (after, here ∙ behind)

-- after a command of an open model it is open, and no other model is known
abbrev pub GoesOn : List (List ℕ) → State → List Line → List Line → Type 0
GoesOn models state lines tail = (table : Option ℕ) × (first : Option (List ℕ)) ×
    (fault_from state lines ≡ fault_from (open_state table first models) tail)

table_clean : (t : Option ℕ) (f : Option (List ℕ)) (models : List (List ℕ)) (n : ℕ)
    (table : TableText) (tail : List Line) → IsTable table
    → GoesOn models (open_state t f models) (numbered_lines n (part_words (Table table)) ++ tail) tail
table_clean t f models n table tail is =
    let words : List (List ℕ) = codes ".names" ∷ table.inputs ++ table.output ∷ [] in
    let rest : List Line = numbered_lines (n + 1) (map (words_of_row table.on) table.rows) ++ tail in
    let width : length words - 2 ≡ length table.inputs = (let a : length (table.inputs
    ++ table.output ∷ []) ≡ length table.inputs + 1 = length-append table.inputs (table.output
    ∷ []) in omega arith) in
    let none : names_fault words ≡ None = names_clean
    (codes ".names") table.inputs table.output is.inputs in
    let clean : fault_by Names (open_state t f models) words ≡ None = ap (λ
    (k : Option BlifKind). first_of (None ∷ None ∷ k ∷ [])) none in
    let here : fault_from (open_state t f models) (record { number = n; words = words } ∷ rest)
    ≡ fault_from (open_state (Some (length words - 2)) None models) rest =
    step_clean Names words n (open_state t f models) rest head_names clean in
    let (after, behind) = rows_clean (n + 1)
    (length table.inputs) table.on table.rows None models tail is.rows refl in (
      Some (length table.inputs),
      after,
      here ∙ (ap (λ w. fault_from (open_state
          (Some w) None models) rest) width ∙ behind),
    )

is_digit : (k : ℕ) → k ≤ 3 → is_init ((48 + k) ∷ []) ≡ true
is_digit zero few = refl
is_digit (suc zero) few = refl
is_digit (suc (suc zero)) few = refl
is_digit (suc (suc (suc zero))) few = refl
is_digit (suc (suc (suc (suc k)))) few = absurd (omega arith)

latch_clean_words : (data_net output : List ℕ) (edge : Option Edge) (control : Option (List ℕ))
    (initial : ℕ) → initial ≤ 3
    → latch_fault (codes ".latch" ∷ data_net ∷ output ∷ type_words edge control ++ ((48 + initial)
    ∷ []) ∷ []) ≡ None
unfolding is_latch_form is_level_latch has_bad_init
latch_clean_words data_net output None control initial few = rw (is_digit initial few) refl
latch_clean_words data_net output (Some Rising) control initial few = rw (is_digit initial few) refl
latch_clean_words data_net output (Some Falling) control initial few = rw
    (is_digit initial few) refl

latch_clean : (t : Option ℕ) (f : Option (List ℕ)) (models : List (List ℕ)) (n : ℕ)
    (latch : LatchText) (tail : List Line) → IsLatch latch
    → GoesOn models (open_state t f models) (numbered_lines n (part_words (Latch latch)) ++ tail) tail
latch_clean t f models n latch tail is =
    let words : List (List ℕ) = codes ".latch" ∷ latch.data_net ∷ latch.output
    ∷ type_words latch.edge latch.control ++ ((48 + latch.initial) ∷ []) ∷ [] in
    let none : latch_fault words ≡ None =
    latch_clean_words latch.data_net latch.output latch.edge latch.control latch.initial
    is.initial in (
      None,
      None,
      step_clean LatchHead words n (open_state t f models) tail head_latch (ap (λ
          (k : Option BlifKind). first_of (None ∷ None ∷ k ∷ [])) none),
    )

use_clean : (t : Option ℕ) (f : Option (List ℕ)) (models : List (List ℕ)) (n : ℕ) (call : UseText)
    (tail : List Line) → IsUse call
    → GoesOn models (open_state t f models) (numbered_lines n (part_words (Subckt call)) ++ tail) tail
use_clean t f models n call tail is =
    let words : List (List ℕ) = codes ".subckt" ∷ call.model ∷ map pair_word call.pairs in
    let long : nat_lt (length words) 2 ≡ false = le-ltb _ _ (omega arith) in
    let none : subckt_fault words ≡ None = rw (long, is.distinct) refl in (
      None,
      None,
      step_clean SubcktHead words n (open_state t f models) tail head_subckt (ap (λ
          (k : Option BlifKind). first_of (None ∷ None ∷ k ∷ [])) none),
    )

part_clean : (t : Option ℕ) (f : Option (List ℕ)) (models : List (List ℕ)) (n : ℕ) (part : Part)
    (tail : List Line) → IsPrintable part
    → GoesOn models (open_state t f models) (numbered_lines n (part_words part) ++ tail) tail
part_clean t f models n (Inputs names) tail is = (
  None,
  None,
  step_clean InputsHead (codes ".inputs"
      ∷ names) n (open_state t f models) tail head_inputs refl,
)
part_clean t f models n (Outputs names) tail is = (
  None,
  None,
  step_clean OutputsHead
      (codes ".outputs" ∷ names) n (open_state t f models) tail head_outputs refl,
)
part_clean t f models n (Clock names) tail is = (
  None,
  None,
  step_clean ClockHead (codes ".clock"
      ∷ names) n (open_state t f models) tail head_clock refl,
)
part_clean t f models n (Table table) tail is = table_clean t f models n table tail is
part_clean t f models n (Latch latch) tail is = latch_clean t f models n latch tail is
part_clean t f models n (Subckt call) tail is = use_clean t f models n call tail is

commands_clean : (t : Option ℕ) (f : Option (List ℕ)) (models : List (List ℕ)) (n : ℕ)
    (commands : List Command) (tail : List Line) → ArePrintableParts commands
    → fault_from (open_state t f models) (numbered_lines n (command_words commands) ++ tail) ≡ fault_from
    (closed_state models) tail
commands_clean t f models n [] tail are = step_clean End (codes ".end" ∷ []) n
    (open_state t f models) tail head_end refl
commands_clean t f models n (command ∷ commands) tail are =
    let m : ℕ = n + length (part_words command.part) in
    let rest : List Line = numbered_lines m (command_words commands) ++ tail in
    let split : numbered_lines n (part_words command.part ++ command_words commands) ++ tail ≡ numbered_lines n
    (part_words command.part) ++ rest =
    ap (λ ls. ls ++ tail) (numbered-append n (part_words command.part) (command_words commands))
    ∙ append_assoc (numbered_lines n (part_words command.part)) (numbered_lines m
    (command_words commands)) tail in
    let (table, first, here) = part_clean t f models n command.part rest are.0 in
    ap (fault_from (open_state t f models)) split ∙ (here
    ∙ commands_clean table first models m commands tail are.1)

end_clean : (models : List (List ℕ)) (name : List ℕ) → end_fault (models ++ name ∷ []) ≡ None
end_clean [] name = refl
end_clean (model ∷ models) name = refl

-- a text that ends behind these models and names has a model
abbrev pub IsEnded : List (List ℕ) → List BlifModel → Type 0
IsEnded names [] = end_fault names ≡ None
IsEnded names (model ∷ models) = Unit {0}

ended : (names : List (List ℕ)) (name : List ℕ) (models : List BlifModel) → IsEnded (names ++ name
    ∷ []) models
ended names name [] = end_clean names name
ended names name (model ∷ models) = tt

pub models_clean : (names : List (List ℕ)) (n : ℕ) (models : List BlifModel)
    → AreModels names models → IsEnded names models → fault_from (closed_state names) (numbered_lines n
    (model_words models)) ≡ None
models_clean names n [] are some = some
models_clean names n (model ∷ models) are some =
    let words : List (List ℕ) = codes ".model" ∷ model.name ∷ [] in
    let all : List (List ℕ) = names ++ model.name ∷ [] in
    let m : ℕ = n + 1 + length (command_words model.commands) in
    let tail : List Line = numbered_lines m (model_words models) in
    let rest : List Line = numbered_lines (n + 1) (command_words model.commands ++ model_words models) in
    let clean : fault_by Model (closed_state names) words ≡ None = rw are.0 refl in
    let here : fault_from (closed_state names) (record { number = n; words = words } ∷ rest)
    ≡ fault_from (open_state None None all) rest =
    step_clean Model words n (closed_state names) rest head_model clean in
    let split : rest ≡ numbered_lines (n + 1) (command_words model.commands) ++ tail = numbered-append
    (n + 1) (command_words model.commands) (model_words models) in
    here ∙ (ap (fault_from (open_state None None all)) split
    ∙ (commands_clean None None all (n + 1) model.commands tail are.1
    ∙ models_clean all m models are.2 (ended names model.name models)))

-- printed models are read
pub printed : (model : BlifModel) (models : List BlifModel) → AreModels [] (model ∷ models)
    → models_of_text (numbered_lines 1 (model_words (model ∷ models))) ≡ Ok (models_at_lines 1 (model ∷ models))
printed model models are =
    let lines : List Line = numbered_lines 1 (model_words (model ∷ models)) in
    let none : first_fault [] lines ≡ None = fault_from_is [] lines ∙ models_clean [] 1 (model
    ∷ models) are tt in
    ap (λ (k : Option (At BlifKind)). unless_fault k (models_of lines)) none
    ∙ ap (λ (p : Parts). unless_fault None p.models) (models_parts [] 1 (model ∷ models) are)

-- the text that prints models is read as these models
pub text_printed : (model : BlifModel) (models : List BlifModel) → AreModels [] (model ∷ models)
    → AllByRecursion IsPlain (model_words (model ∷ models))
    → models_of_text (lines_of (text_of (model_words (model ∷ models)))) ≡ Ok (models_at_lines 1 (model ∷ models))
text_printed model models are plain = ap models_of_text (lines_of-text_of (model_words (model
    ∷ models)) plain) ∙ printed model models are
