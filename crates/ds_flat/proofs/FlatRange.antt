-- The numbers in the flat design of well formed models name what is there.
use Rattle.std.proofs.Common.{◌≡◌, ℕ, zero, suc, List, [], ◌∷◌, Option, None, Some, Result, Ok, Err, refl, sym, subst, inl, inr, nat_lt}
use Rattle.std.specs.Prelude.{All, IfOk}
use Rattle.std.specs.List.{list_any}
use Rattle.std.specs.Str.{bytes_eq}
use Rattle.std.proofs.lemmas.Bool.{cases_Bool}
use Rattle.std.proofs.lemmas.List.Elements.{All-head, All-tail}
use Rattle.ds_base.specs.Limit.{most_of}
use Rattle.ds_base.specs.declared.number.Limit.TheVariants.{Copies}
use Rattle.ds_design.specs.declared.blif.BlifModel.{BlifModel}
use Rattle.ds_design.specs.declared.blif.Command.{Command}
use Rattle.ds_design.specs.declared.blif.Part.{Part}
use Rattle.ds_design.specs.declared.blif.UseText.{UseText}
use Rattle.ds_design.specs.Circuit.{Circuit}
use Rattle.ds_design.specs.InRange.{IsInRange}
use Rattle.ds_design.specs.Source.{IsPart}
use Rattle.ds_lines.specs.declared.at.At.{At}
use Rattle.ds_flat.specs.Net.{Scope}
use Rattle.ds_flat.specs.Command.{with_part}
use Rattle.ds_flat.specs.Copies.{Flat, Opened, ◌>>=◌, actuals_in, copy_unless, expand, flat_of, main_copy, model_named, most_depth, next_copy, open_model, open_use, opened_within, ports_of, take_all, take_command, take_part, unknown_formal, use_in}
use Rattle.ds_flat.specs.Run.{HaveParts}
use Rattle.ds_flat.proofs.PassedLimits.{WithinLimits, within_given}
use Rattle.ds_flat.proofs.NetsInRange.{empty_in_range, part_in_range, use_in_range}
use Rattle.ds_flat.proofs.Uses.{named_all}
use Rattle.ds_flat.specs.declared.fault.FlatKind.{FlatKind}

-- the commands are well formed
abbrev ArePartsIn : List Command → Type 0
ArePartsIn commands = All (λ command. IsPart command.part) commands

-- what was taken is in range
abbrev HasRange : Flat → Type 0
HasRange flat = IsInRange flat.design

-- a copy with well formed commands, over what is in range
abbrev IsReady : Opened → Type 0
IsReady opened = ArePartsIn opened.frame.commands × HasRange opened.flat

-- what holds of each value holds of a result
if_each : {A E : Type 0} (P : A → Type 0) (result : Result A E) → ((value : A) → result ≡ Ok value → P value) → IfOk result P
if_each P (Ok value) each = each value refl
if_each P (Err fault) each = tt

-- what comes next has what it is given
if_next : {A B : Type 0} (P : A → Type 0) (Q : B → Type 0) (first : Result A (At FlatKind)) (next : A → Result B (At FlatKind))
    → IfOk first P → ((value : A) → P value → IfOk (next value) Q) → IfOk (first >>= next) Q
if_next P Q (Ok value) next is each = each value is
if_next P Q (Err fault) next is each = tt

-- a command that is taken
part_ranges : (scope : Scope) (line : ℕ) (part : Part) (flat : Flat) → HasRange flat → IsPart part
    → IfOk (take_part scope line part flat) HasRange
part_ranges scope line part flat range fine =
    if_each HasRange (take_part scope line part flat) (λ taken is.
    let next : Circuit = with_part scope line part flat.design in
    let given : Flat = record { copies = flat.copies; design = next } in
    let (within, same) = within_given next line given taken is in
    subst HasRange (sym same) (part_in_range scope line part flat.design range fine within))

-- a copy that passes no limit
within_ready : (line : ℕ) (opened : Opened) → ArePartsIn opened.frame.commands
    → (WithinLimits opened.flat.design → HasRange opened.flat) → IfOk (opened_within line opened) IsReady
within_ready line opened fine range =
    if_each IsReady (opened_within line opened) (λ given is.
    let (within, same) = within_given opened.flat.design line opened given is in
    subst IsReady (sym same) (fine, range within))

-- a copy, unless a formal is unknown
unless_ready : (formal : Option (List ℕ)) (line : ℕ) (opened : Opened) → ArePartsIn opened.frame.commands
    → (WithinLimits opened.flat.design → HasRange opened.flat) → IfOk (copy_unless formal line opened) IsReady
unless_ready None line opened fine range = within_ready line opened fine range
unless_ready (Some formal) line opened fine range = tt

-- a copy of a model
model_ready : (path : List (List ℕ)) (scope : Scope) (line : ℕ) (call : UseText) (flat : Flat) (named : Option BlifModel)
    → HasRange flat → ((model : BlifModel) → named ≡ Some model → ArePartsIn model.commands)
    → IfOk (open_model path scope line call flat named) IsReady
model_ready path scope line call flat None range fine = tt
model_ready path scope line call flat (Some model) range fine =
    let opened : Opened = next_copy path scope call model flat in
    let ready : IfOk (copy_unless (unknown_formal (ports_of model.commands) call.pairs) line opened) IsReady =
    unless_ready (unknown_formal (ports_of model.commands) call.pairs) line opened (fine model refl)
    (λ within. use_in_range flat.design scope (actuals_in call.pairs) range within.nets) in
    elim (cases_Bool (list_any (bytes_eq call.model) path)) [
      | inl found ↦ rw found tt
      | inr new ↦ elim (cases_Bool (nat_lt flat.copies (most_of Copies))) [
        | inl few ↦ rw (new, few) ready
        | inr many ↦ rw (new, many) tt
      ]
    ]

-- what a use opens
use_ready : (models : List BlifModel) → HaveParts models → (path : List (List ℕ)) (scope : Scope) (line : ℕ) (call : UseText) (flat : Flat)
    → HasRange flat → IfOk (open_use models path scope line call flat) IsReady
use_ready models fine path scope line call flat range =
    model_ready path scope line call flat (model_named models call.model) range
    (λ model is. named_all (λ m. ArePartsIn m.commands) models call.model model fine is)

module _ (models : List BlifModel) (fine : HaveParts models) where
  -- each copy that is taken is in range
  abbrev Keeps : (Opened → Result Flat (At FlatKind)) → Type 0
  Keeps callee = (opened : Opened) → IsReady opened → IfOk (callee opened) HasRange

  command_ranges : (callee : Opened → Result Flat (At FlatKind)) → Keeps callee → (path : List (List ℕ)) (scope : Scope) (command : Command)
      (call : Option UseText) (flat : Flat) → HasRange flat → IsPart command.part
      → IfOk (take_command callee models path scope command call flat) HasRange
  command_ranges callee keeps path scope command None flat range part = part_ranges scope command.line command.part flat range part
  command_ranges callee keeps path scope command (Some call) flat range part =
      if_next IsReady HasRange (open_use models path scope command.line call flat) callee
      (use_ready models fine path scope command.line call flat range) keeps

  all_range : (callee : Opened → Result Flat (At FlatKind)) → Keeps callee → (path : List (List ℕ)) (scope : Scope) (commands : List Command)
      (flat : Flat) → HasRange flat → ArePartsIn commands → IfOk (take_all callee models path scope commands flat) HasRange
  all_range callee keeps path scope [] flat range parts = range
  all_range callee keeps path scope (command ∷ commands) flat range parts =
      let P : Command → Type 0 = λ c. IsPart c.part in
      if_next HasRange HasRange (take_command callee models path scope command (use_in command.part) flat) (take_all callee models path scope commands)
      (command_ranges callee keeps path scope command (use_in command.part) flat range (All-head P command commands parts))
      (λ next is. all_range callee keeps path scope commands next is (All-tail P command commands parts))

  copies_range : (depth : ℕ) → Keeps (expand depth models)
  copies_range zero opened ready = tt
  copies_range (suc depth) opened ready =
      all_range (expand depth models) (copies_range depth) opened.frame.path opened.frame.scope opened.frame.commands opened.flat ready.1 ready.0

-- the flat design is in range
flat_ranges : (models : List BlifModel) → HaveParts models → IfOk (flat_of models) IsInRange
flat_ranges [] fine = empty_in_range []
flat_ranges (main ∷ models) fine =
    if_next HasRange IsInRange (expand most_depth (main ∷ models) (main_copy main)) (λ (flat : Flat). Ok flat.design)
    (copies_range (main ∷ models) fine most_depth (main_copy main) (All-head (λ m. ArePartsIn m.commands) main models fine, empty_in_range main.name))
    (λ flat is. is)

pub flat_in_range : (models : List BlifModel) → HaveParts models → (c : Circuit) → flat_of models ≡ Ok c → IsInRange c
flat_in_range models fine c is = subst (λ (r : Result Circuit (At FlatKind)). IfOk r IsInRange) is (flat_ranges models fine)
