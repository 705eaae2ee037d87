-- The line of a fault is that of a command.
use Rattle.std.proofs.Common.{◌≡◌, ℕ, zero, suc, ◌+◌, ◌<◌, ◌≤◌, List, [], ◌∷◌, get_or, Option, None, Some, Ok, Err, refl, ap, subst, inl, inr, arith, nat_lt}
use Rattle.std.specs.Prelude.{All}
use Rattle.std.specs.List.{list_any}
use Rattle.std.specs.Str.{bytes_eq}
use Rattle.std.proofs.lemmas.Bool.{cases_Bool}
use Rattle.std.proofs.lemmas.Bool.Decides.{Decides-ltb}
use Rattle.std.proofs.lemmas.List.Elements.{All-head, All-tail}
use Rattle.ds_base.proofs.ListLemmas.{get_or-self}
use Rattle.ds_base.specs.Limit.{most_of}
use Rattle.ds_base.specs.declared.number.Limit.{Limit}
use Rattle.ds_base.specs.declared.number.Limit.TheVariants.{Copies}
use Rattle.ds_lines.specs.declared.at.At.{At}
use Rattle.ds_design.specs.declared.blif.BlifModel.{BlifModel}
use Rattle.ds_design.specs.declared.blif.Command.{Command}
use Rattle.ds_design.specs.declared.blif.UseText.{UseText}
use Rattle.ds_flat.specs.Command.{with_part}
use Rattle.ds_flat.specs.Net.{Scope}
use Rattle.ds_flat.specs.Copies.{Flat, Opened, copy_unless, expand, main_copy, model_named, most_depth, next_copy, open_model, open_use, passed_limit, path_from, ports_of, take_all, take_command, unknown_formal, unless_passed, use_in}
use Rattle.ds_flat.specs.declared.fault.FlatKind.{FlatKind}
use Rattle.ds_flat.specs.declared.fault.FlatKind.TheVariants.{Recursive, TooMany, UnknownFormal, UnknownModel}
use Rattle.ds_flat.proofs.Uses.{named_all}
use Rattle.ds_text_laws.proofs.RecursiveModels.{fault_of_either}
use Rattle.ds_text_laws.proofs.InCopies.{command_grows, model_opened}
use Rattle.ds_text_laws.specs.FlatLaws.{FaultsAreOnLines, HasCommandOn}

-- a fault that is given on a line is on it
limit_line : {A : Type 0} (limit : Option Limit) (line : ℕ) (value : A) (fault : At FlatKind) → unless_passed limit line value ≡ Err fault → line ≡ fault.line
limit_line None line value fault is = absurd (cc)
limit_line (Some limit) line value fault is =
    let same : record { line = line; kind = TooMany limit } ≡ fault = cc in
    ap (λ (f : At FlatKind). f.line) same

formal_line : (formal : Option (List ℕ)) (line : ℕ) (opened : Opened) (fault : At FlatKind) → copy_unless formal line opened ≡ Err fault → line ≡ fault.line
formal_line None line opened fault is = limit_line (passed_limit opened.flat.design) line opened fault is
formal_line (Some formal) line opened fault is =
    let same : record { line = line; kind = UnknownFormal formal } ≡ fault = cc in
    ap (λ (f : At FlatKind). f.line) same

-- a use that is refused is refused on its line
use_line : (path : List (List ℕ)) (scope : Scope) (line : ℕ) (call : UseText) (flat : Flat) (named : Option BlifModel) (fault : At FlatKind)
    → open_model path scope line call flat named ≡ Err fault → line ≡ fault.line
use_line path scope line call flat None fault is =
    let same : record { line = line; kind = UnknownModel call.model } ≡ fault = cc in
    ap (λ (f : At FlatKind). f.line) same
use_line path scope line call flat (Some model) fault is = elim (cases_Bool (list_any (bytes_eq call.model) path)) [
  | inl there ↦
      let given : Err (record { line = line; kind = Recursive (path_from call.model path) }) ≡ Err fault = rw there at is in
      let same : record { line = line; kind = Recursive (path_from call.model path) } ≡ fault = cc in
      ap (λ (f : At FlatKind). f.line) same
  | inr new ↦ elim (cases_Bool (nat_lt flat.copies (most_of Copies))) [
    | inl few ↦ formal_line (unknown_formal (ports_of model.commands) call.pairs) line (next_copy path scope call model flat) fault (rw (new, few) at is)
    | inr many ↦ limit_line {A = Opened} (Some Copies) line (next_copy path scope call model flat) fault (rw (new, many) at is)
  ]
]

-- there is a copy left for a use that is opened
few_copies : (path : List (List ℕ)) (scope : Scope) (line : ℕ) (call : UseText) (flat : Flat) (named : Option BlifModel) (opened : Opened)
    → open_model path scope line call flat named ≡ Ok opened → flat.copies < most_of Copies
few_copies path scope line call flat None opened is = absurd (cc)
few_copies path scope line call flat (Some model) opened is = elim (cases_Bool (list_any (bytes_eq call.model) path)) [
  | inl there ↦ absurd (let e = rw there at is in cc)
  | inr new ↦ elim (cases_Bool (nat_lt flat.copies (most_of Copies))) [
    | inl few ↦ (Decides-ltb flat.copies (most_of Copies)).0 few
    | inr many ↦ absurd (let e = rw (new, many) at is in cc)
  ]
]

module _ (models : List BlifModel) where
  -- each command stands on a line of the models
  abbrev AreThere : List Command → Type 0
  AreThere commands = All (λ command. HasCommandOn models command.line) commands

  -- a copy that is opened with less than so many others in it
  record IsLow (depth : ℕ) (opened : Opened) : Type 0 where
    most : opened.flat.copies ≤ most_of Copies
    least : most_of Copies < depth + opened.flat.copies
    there : AreThere opened.frame.commands

  -- its faults are on lines
  abbrev ShowLines : ℕ → Type 0
  ShowLines depth = (opened : Opened) (fault : At FlatKind) → IsLow depth opened → expand depth models opened ≡ Err fault → HasCommandOn models fault.line

  models_there : All (λ model. AreThere model.commands) models
  models_there k d inside j e within = (
    k,
    get_or models k d,
    inside,
    get_or-self models k d inside,
    (j, get_or (get_or models k d).commands j e, within, get_or-self (get_or models k d).commands j e within, refl),
  )

  module _ (depth : ℕ) (show : ShowLines depth) (path : List (List ℕ)) (scope : Scope) where
    on_line : (command : Command) (fault : At FlatKind) → HasCommandOn models command.line → command.line ≡ fault.line → HasCommandOn models fault.line
    on_line command fault there same = subst (HasCommandOn models) same there

    command_line : (command : Command) (call : Option UseText) (flat : Flat) (fault : At FlatKind) → HasCommandOn models command.line → most_of Copies < suc depth + flat.copies
        → take_command (expand depth models) models path scope command call flat ≡ Err fault → HasCommandOn models fault.line
    command_line command None flat fault there low is =
        let next = with_part scope command.line command.part flat.design in
        on_line command fault there (limit_line {A = Flat} (passed_limit next) command.line (record { copies = flat.copies; design = next }) fault is)
    command_line command (Some call) flat fault there low is =
        elim (fault_of_either (open_use models path scope command.line call flat) (expand depth models) fault is) [
          | inl here ↦ on_line command fault there (use_line path scope command.line call flat (model_named models call.model) fault here)
          | inr behind ↦
              let (opened, is_open, is_behind) = behind in
              let (model, named, is_next) = model_opened path scope command.line call flat (model_named models call.model) opened is_open in
              let few : flat.copies < most_of Copies = few_copies path scope command.line call flat (model_named models call.model) opened is_open in
              let next : Opened = next_copy path scope call model flat in
              show next fault (record { most = omega arith; least = omega arith; there = named_all (λ m. AreThere m.commands) models call.model model models_there named })
              (subst (λ (o : Opened). expand depth models o ≡ Err fault) is_next is_behind)
        ]

    all_lines : (commands : List Command) (flat : Flat) (fault : At FlatKind) → AreThere commands → most_of Copies < suc depth + flat.copies
        → take_all (expand depth models) models path scope commands flat ≡ Err fault → HasCommandOn models fault.line
    all_lines [] flat fault there low is = absurd (cc)
    all_lines (command ∷ commands) flat fault there low is =
        elim (fault_of_either (take_command (expand depth models) models path scope command (use_in command.part) flat) (take_all (expand depth models) models path scope commands) fault is) [
          | inl here ↦ command_line command (use_in command.part) flat fault (All-head (λ (c : Command). HasCommandOn models c.line) command commands there) low here
          | inr behind ↦
              let (next, before, later) = behind in
              let grows : flat.copies ≤ next.copies = command_grows models depth path scope command flat next before in
              all_lines commands next fault (All-tail (λ (c : Command). HasCommandOn models c.line) command commands there) (omega arith) later
        ]

  copies_lines : (depth : ℕ) → ShowLines depth
  copies_lines zero opened fault low is = (let most : opened.flat.copies ≤ most_of Copies = low.most in let least : most_of Copies < 0 + opened.flat.copies = low.least in absurd (omega arith))
  copies_lines (suc depth) opened fault low is =
      all_lines depth (copies_lines depth) opened.frame.path opened.frame.scope opened.frame.commands opened.flat fault low.there low.least is

pub faults_are_on_lines_lem : FaultsAreOnLines
unfolding most_depth
faults_are_on_lines_lem [] fault is = absurd (cc)
faults_are_on_lines_lem (main ∷ models) fault is =
    elim (fault_of_either (expand most_depth (main ∷ models) (main_copy main)) (λ (flat : Flat). Ok flat.design) fault is) [
      | inl here ↦ copies_lines (main ∷ models) most_depth (main_copy main) fault (record {
        most = omega arith;
        least = omega arith;
        there = All-head (λ (m : BlifModel). AreThere (main ∷ models) m.commands) main models (models_there (main ∷ models));
      }) here
      | inr behind ↦ absurd (let later = behind.2 in cc)
    ]
