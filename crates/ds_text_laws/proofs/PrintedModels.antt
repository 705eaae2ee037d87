-- The lines that print models stand for these models.
use Rattle.std.proofs.Common.{◌≡◌, ℕ, suc, ◌+◌, ◌-◌, Bool, true, false, List, [], ◌∷◌, ◌++◌, map, length, take, drop, Option, None, Some, codes, refl, sym, ap, ◌∙◌, arith, append_assoc, ◌==◌, inl, inr, length-append}
use Rattle.std.proofs.lemmas.Bool.{cases_Bool, false≢true}
use Rattle.std.specs.List.{list_all, list_any, AllByRecursion, position_or_len}
use Rattle.std.specs.Str.{bytes_eq}
use Rattle.ds_lines.specs.Line.{Line}
use Rattle.ds_lines.specs.Print.{numbered_lines}
use Rattle.ds_blif.specs.declared.head.Head.TheVariants.{Names, Model}
use Rattle.ds_blif.specs.Form.{is_plane_byte, is_equals}
use Rattle.ds_blif.specs.Parts.{Parts, parts_of, with_head, with_command, latch_of, pair_of, edge_of_type, control_of}
use Rattle.ds_text_laws.specs.BlifText.{bit_word, words_of_row, part_words, command_words, model_words, placed_commands, models_at_lines, pair_word, type_words, edge_word}
use Rattle.ds_design.specs.declared.design.Edge.{Edge}
use Rattle.ds_design.specs.declared.design.Edge.TheVariants.{Rising, Falling}
use Rattle.ds_design.specs.declared.blif.TableText.{TableText}
use Rattle.ds_design.specs.declared.blif.LatchText.{LatchText}
use Rattle.ds_design.specs.declared.blif.UseText.{UseText}
use Rattle.ds_design.specs.declared.blif.Pair.{Pair}
use Rattle.ds_design.specs.declared.blif.Part.{Part}
use Rattle.ds_design.specs.declared.blif.Part.TheVariants.{Inputs, Outputs, Clock, Table, Latch, Subckt}
use Rattle.ds_design.specs.declared.blif.Command.{Command}
use Rattle.ds_design.specs.declared.blif.BlifModel.{BlifModel}
use Rattle.std.proofs.Math.Seq.{take-append_seam, get_or-append_seam, drop-append-add}
use Rattle.std.proofs.lemmas.List.{append-nil}
use Rattle.ds_lines.specs.Words.{word_at}
use Rattle.ds_text_laws.specs.Printable.{OnWhereEmpty, IsPlane, IsControl, IsTable, IsLatch, IsPair, IsUse, IsPrintable, ArePrintableParts, AreModels}
use Rattle.ds_text_laws.proofs.Heads.{head_inputs, head_outputs, head_clock, head_names, head_latch, head_subckt, head_model, head_end, head_bit, head_plane}

pub numbered-append : (n : ℕ) (lines more : List (List (List ℕ))) → numbered_lines n (lines ++ more)
    ≡ numbered_lines n lines ++ numbered_lines (n + length lines) more
numbered-append n [] more = ap (λ k. numbered_lines k more) (let e : n ≡ n + 0 = omega arith in e)
numbered-append n (line ∷ lines) more =
    ap (λ (ls : List Line). record { number = n; words = line } ∷ ls) (numbered-append
    (n + 1) lines more
    ∙ ap (λ k. numbered_lines (n + 1) lines ++ numbered_lines k more) (let e : n + 1 + length lines ≡ n + suc
    (length lines) = omega arith in e))

-- the output of a row tells whether its table lists where it is 1
is_on-bit : (on : Bool) → bytes_eq (bit_word on) (codes "1") ≡ on
is_on-bit true = refl
is_on-bit false = refl

-- parts with a row at their front
abbrev pub with_plane : List ℕ → Bool → Parts → Parts
with_plane plane on parts = record {
  rows = plane ∷ parts.rows;
  on = on;
  commands =
      parts.commands;
  models = parts.models;
}

row_parts : (n : ℕ) (on : Bool) (plane : List ℕ) (tail : List Line) → list_all is_plane_byte plane
    ≡ true → parts_of (record { number = n; words = words_of_row on plane } ∷ tail)
    ≡ with_plane plane on (parts_of tail)
row_parts n on [] tail all =
    ap (λ h. with_head h n (bit_word on ∷ []) (parts_of tail)) (head_bit on) ∙ ap
    (λ b. with_plane [] b (parts_of tail)) (is_on-bit on)
row_parts n on (byte ∷ bytes) tail all =
    ap (λ h. with_head h n ((byte ∷ bytes) ∷ bit_word on ∷ []) (parts_of tail))
    (head_plane byte bytes all) ∙ ap (λ b. with_plane (byte ∷ bytes) b (parts_of tail))
    (is_on-bit on)

-- parts with rows at their front
abbrev pub with_planes : List (List ℕ) → Bool → Parts → Parts
with_planes [] on parts = parts
with_planes (plane ∷ planes) on parts = with_plane plane on (with_planes planes on parts)

rows_parts : (n width : ℕ) (on : Bool) (planes : List (List ℕ)) (tail : List Line) → AllByRecursion
    (IsPlane width) planes → parts_of (numbered_lines n (map (words_of_row on) planes) ++ tail)
    ≡ with_planes planes on (parts_of tail)
rows_parts n width on [] tail all = refl
rows_parts n width on (plane ∷ planes) tail all =
    row_parts n on plane (numbered_lines (n + 1) (map (words_of_row on) planes) ++ tail) all.0.bytes
    ∙ ap (with_plane plane on) (rows_parts (n + 1) width on planes tail all.1)

-- the words of a table's head are cut as they were joined
table_inputs : (word : List ℕ) (inputs : List (List ℕ)) (output : List ℕ) → take (length (word
    ∷ inputs ++ output ∷ []) - 2) (drop 1 (word ∷ inputs ++ output ∷ [])) ≡ inputs
table_inputs word inputs output =
    let e : length (word ∷ inputs ++ output ∷ []) - 2 ≡ length inputs = (let a : length (inputs
    ++ output ∷ []) ≡ length inputs + 1 = length-append inputs (output ∷ []) in omega arith) in
    rw e (take-append_seam inputs (output ∷ []))

table_output : (word : List ℕ) (inputs : List (List ℕ)) (output : List ℕ) → word_at (word ∷ inputs
    ++ output ∷ []) (length (word ∷ inputs ++ output ∷ []) - 1) ≡ output
table_output word inputs output =
    let e : length (word ∷ inputs ++ output ∷ []) - 1 ≡ suc (length inputs) = (let a : length
    (inputs ++ output ∷ []) ≡ length inputs + 1 = length-append inputs (output ∷ []) in
    omega arith) in
    rw e (get_or-append_seam inputs output [] [])

-- the rows of a table are those of its text
planes_parts : (planes : List (List ℕ)) (on : Bool) (parts : Parts) → parts.rows ≡ [] → parts.on
    ≡ true → OnWhereEmpty planes on
    → with_planes planes on parts ≡ record {
      rows = planes;
      on = on;
      commands =
          parts.commands;
      models = parts.models;
    }
planes_parts [] on parts none full_on empty = rw (empty, ← none, ← full_on) refl
planes_parts (plane ∷ []) on parts none full_on full = rw none refl
planes_parts (plane ∷ other ∷ planes) on parts none full_on full = ap (with_plane plane on)
    (planes_parts (other ∷ planes) on parts none full_on tt)

table_parts : (n : ℕ) (table : TableText) (tail : List Line) → IsTable table → (parts_of tail).rows
    ≡ [] → (parts_of tail).on ≡ true
    → parts_of (numbered_lines n (part_words (Table table)) ++ tail) ≡ with_command n (Table table)
    (parts_of tail)
table_parts n table tail is none full_on =
    let words : List (List ℕ) = codes ".names" ∷ table.inputs ++ table.output ∷ [] in
    let rows : parts_of (numbered_lines (n + 1) (map (words_of_row table.on) table.rows) ++ tail)
    ≡ record {
      rows = table.rows;
      on = table.on;
      commands = (parts_of tail).commands;
      models =
          (parts_of tail).models;
    } =
    rows_parts (n + 1) (length table.inputs) table.on table.rows tail is.rows
    ∙ planes_parts table.rows table.on (parts_of tail) none full_on is.on in
    ap (λ h. with_head h n words (parts_of (numbered_lines (n + 1) (map (words_of_row table.on) table.rows)
    ++ tail))) head_names
    ∙ (ap (with_head Names n words) rows
    ∙ rw (
      table_inputs (codes ".names") table.inputs table.output,
      table_output
          (codes ".names") table.inputs table.output,
    ) refl)

-- the digit that a number is printed as
digit_back : (k : ℕ) → 48 + k - 48 ≡ k
digit_back k = omega arith

-- the words of a latch
abbrev pub latch_words : List ℕ → List ℕ → Option Edge → Option (List ℕ) → ℕ → List (List ℕ)
latch_words data_net output edge control initial = codes ".latch" ∷ data_net ∷ output
    ∷ type_words edge control ++ ((48 + initial) ∷ []) ∷ []

-- the latch of these parts
abbrev pub latch_with : List ℕ → List ℕ → Option Edge → Option (List ℕ) → ℕ → LatchText
latch_with data_net output edge control initial = record {
  data_net = data_net;
  output =
      output;
  edge = edge;
  control = control;
  initial = initial;
}

edge_back : (edge : Edge) → edge_of_type (edge_word edge) ≡ edge
edge_back Rising = refl
edge_back Falling = refl

control_back : (name : List ℕ) → bytes_eq name (codes "NIL") ≡ false → control_of name ≡ Some name
control_back name other = rw other refl

latch_back : (data_net output : List ℕ) (edge : Option Edge) (control : Option (List ℕ))
    (initial : ℕ) → IsControl edge control
    → latch_of (latch_words data_net output edge control initial)
    ≡ latch_with data_net output edge control initial
latch_back data_net output None None initial is = ap (latch_with data_net output None None)
    (digit_back initial)
latch_back data_net output None (Some name) initial is = absurd is
latch_back data_net output (Some edge) None initial is =
    ap (λ e. latch_with data_net output (Some e) None (48 + initial - 48)) (edge_back edge) ∙ ap
    (latch_with data_net output (Some edge) None) (digit_back initial)
latch_back data_net output (Some edge) (Some name) initial is =
    ap (λ e. latch_with data_net output (Some e) (control_of name) (48 + initial - 48))
    (edge_back edge)
    ∙ (ap (λ c. latch_with data_net output (Some edge) c (48 + initial - 48)) (control_back name is)
    ∙ ap (latch_with data_net output (Some edge) (Some name)) (digit_back initial))

latch_parts : (n : ℕ) (latch : LatchText) (tail : List Line) → IsLatch latch → parts_of (numbered_lines n
    (part_words (Latch latch)) ++ tail) ≡ with_command n (Latch latch) (parts_of tail)
latch_parts n latch tail is =
    let words : List (List ℕ) =
    latch_words latch.data_net latch.output latch.edge latch.control latch.initial in
    ap (λ h. with_head h n words (parts_of tail)) head_latch
    ∙ ap (λ l. with_command n (Latch l) (parts_of tail))
    (latch_back latch.data_net latch.output latch.edge latch.control latch.initial is.control)

-- the first `=` of a pair stands behind its formal
equals_place : (formal actual : List ℕ) → list_any is_equals formal ≡ false
    → position_or_len is_equals (formal ++ 61 ∷ actual) ≡ length formal
equals_place [] actual plain = refl
equals_place (byte ∷ formal) actual plain = elim (cases_Bool (byte == 61)) [
  | inl here ↦ absurd (let h : list_any is_equals (byte ∷ formal) ≡ true = rw here refl in
      false≢true (sym plain ∙ h))
  | inr other ↦ (let behind : list_any is_equals formal ≡ false = rw other at plain in
      rw (other, equals_place formal actual behind) (let e : 1 + length formal ≡ suc
      (length formal) = omega arith in e))
]

pair_back : (pair : Pair) → IsPair pair → pair_of (pair_word pair) ≡ pair
pair_back pair is =
    let e : position_or_len is_equals (pair.formal ++ 61 ∷ pair.actual) ≡ length pair.formal =
    equals_place pair.formal pair.actual is.plain in
    rw (
      e,
      take-append_seam pair.formal (61 ∷ pair.actual),
      drop-append-add pair.formal (61
          ∷ pair.actual) 1,
    ) refl

pairs_back : (pairs : List Pair) → AllByRecursion IsPair pairs → map pair_of (map pair_word pairs)
    ≡ pairs
pairs_back [] all = refl
pairs_back (pair ∷ pairs) all = rw (pair_back pair all.0, pairs_back pairs all.1) refl

use_parts : (n : ℕ) (call : UseText) (tail : List Line) → IsUse call → parts_of (numbered_lines n
    (part_words (Subckt call)) ++ tail) ≡ with_command n (Subckt call) (parts_of tail)
use_parts n call tail is =
    ap (λ h. with_head h n (codes ".subckt" ∷ call.model ∷ map pair_word call.pairs)
    (parts_of tail)) head_subckt
    ∙ ap (λ (pairs : List Pair). with_command n (Subckt (record {
      model = call.model;
      pairs =
          pairs;
    })) (parts_of tail)) (pairs_back call.pairs is.pairs)

part_parts : (n : ℕ) (part : Part) (tail : List Line) → IsPrintable part → (parts_of tail).rows ≡ []
    → (parts_of tail).on ≡ true
    → parts_of (numbered_lines n (part_words part) ++ tail) ≡ with_command n part (parts_of tail)
part_parts n (Inputs names) tail is none full_on = ap (λ h. with_head h n (codes ".inputs" ∷ names)
    (parts_of tail)) head_inputs
part_parts n (Outputs names) tail is none full_on = ap (λ h. with_head h n (codes ".outputs"
    ∷ names) (parts_of tail)) head_outputs
part_parts n (Clock names) tail is none full_on = ap (λ h. with_head h n (codes ".clock" ∷ names)
    (parts_of tail)) head_clock
part_parts n (Table table) tail is none full_on = table_parts n table tail is none full_on
part_parts n (Latch latch) tail is none full_on = latch_parts n latch tail is
part_parts n (Subckt call) tail is none full_on = use_parts n call tail is

-- parts with commands at their front, behind which a model ends
abbrev pub with_commands : List Command → Parts → Parts
with_commands commands parts = record {
  rows = [];
  on = true;
  commands = commands
      ++ parts.commands;
  models = parts.models;
}

commands_parts : (n : ℕ) (commands : List Command) (tail : List Line) → ArePrintableParts commands
    → parts_of (numbered_lines n (command_words commands) ++ tail) ≡ with_commands
    (placed_commands n commands) (parts_of tail)
commands_parts n [] tail are = ap (λ h. with_head h n (codes ".end" ∷ []) (parts_of tail)) head_end
commands_parts n (command ∷ commands) tail are =
    let m : ℕ = n + length (part_words command.part) in
    let rest : List Line = numbered_lines m (command_words commands) ++ tail in
    let behind : parts_of rest ≡ with_commands (placed_commands m commands) (parts_of tail) =
    commands_parts m commands tail are.1 in
    let split : numbered_lines n (part_words command.part ++ command_words commands) ++ tail ≡ numbered_lines n
    (part_words command.part) ++ rest =
    ap (λ ls. ls ++ tail) (numbered-append n (part_words command.part) (command_words commands))
    ∙ append_assoc (numbered_lines n (part_words command.part)) (numbered_lines m
    (command_words commands)) tail in
    ap parts_of split
    ∙ (part_parts n command.part rest are.0 (ap (λ (p : Parts). p.rows) behind) (ap (λ
    (p : Parts). p.on) behind)
    ∙ ap (with_command n command.part) behind)

-- parts that are models alone
abbrev pub only_models : List BlifModel → Parts
only_models models = record { rows = []; on = true; commands = []; models = models }

pub models_parts : (names : List (List ℕ)) (n : ℕ) (models : List BlifModel)
    → AreModels names models → parts_of (numbered_lines n (model_words models)) ≡ only_models
    (models_at_lines n models)
models_parts names n [] are = refl
models_parts names n (model ∷ models) are =
    let words : List (List ℕ) = codes ".model" ∷ model.name ∷ [] in
    let m : ℕ = n + 1 + length (command_words model.commands) in
    let tail : List Line = numbered_lines m (model_words models) in
    let behind : parts_of tail ≡ only_models (models_at_lines m models) = models_parts (names ++ model.name
    ∷ []) m models are.2 in
    let split : numbered_lines (n + 1) (command_words model.commands ++ model_words models) ≡ numbered_lines
    (n + 1) (command_words model.commands) ++ tail =
    numbered-append (n + 1) (command_words model.commands) (model_words models) in
    let body : parts_of (numbered_lines (n + 1) (command_words model.commands ++ model_words models))
    ≡ with_commands (placed_commands (n + 1) model.commands) (only_models (models_at_lines m models)) =
    ap parts_of split ∙ (commands_parts (n + 1) model.commands tail are.1 ∙ ap (with_commands
    (placed_commands (n + 1) model.commands)) behind) in
    ap (λ h. with_head h n words (parts_of (numbered_lines (n + 1) (command_words model.commands
    ++ model_words models)))) head_model
    ∙ (ap (with_head Model n words) body
    ∙ ap (λ (commands : List Command). only_models (record {
      name = model.name;
      line = n;
      commands =
          commands;
    } ∷ models_at_lines m models)) (append-nil (placed_commands (n + 1) model.commands)))
