-- The name of the main model of a netlist is a word, whose last byte is not cut at the end of a line.
use Rattle.std.proofs.Common.{◌≡◌, ◌≢◌, ◌∙◌, ◌==◌, ◌⊎◌, ℕ, zero, suc, ◌+◌, ◌-◌, ◌<◌, true, false, not, List, [], ◌∷◌, ◌++◌, length, get_or, reverse, take, Option, None, Some, Result, Ok, inl, inr, refl, arith, ap, sym, subst}
use Rattle.std.specs.Prelude.{IfOk, nat_lt}
use Rattle.std.specs.List.{AllByRecursion, filter, list_any, onto_first, slice_split, suffix_len}
use Rattle.std.specs.Str.{bytes_eq}
use Rattle.std.proofs.lemmas.Bool.{cases_Bool, cases_lt, eqb-true}
use Rattle.ds_base.specs.Limit.{most_of}
use Rattle.ds_base.specs.declared.number.Limit.TheVariants.{Copies}
use Rattle.ds_outside.specs.Held.{Held, untold, absent, bytes}
use Rattle.ds_lines.specs.First.{unless_fault, where_true}
use Rattle.ds_lines.specs.Line.{Line, is_blank, is_end, is_newline, is_some, joins, line_of, lines_from, lines_of, trimmed, uncommented, words_in, words_of}
use Rattle.ds_lines.specs.Print.{IsWord}
use Rattle.ds_lines.specs.Words.{word_at}
use Rattle.ds_lines.specs.declared.at.At.{At}
use Rattle.ds_design.specs.Circuit.{Circuit}
use Rattle.ds_design.specs.declared.blif.BlifModel.{BlifModel}
use Rattle.ds_design.specs.declared.blif.Command.{Command}
use Rattle.ds_design.specs.declared.blif.Part.{Part}
use Rattle.ds_design.specs.declared.blif.Part.TheVariants.{Inputs as InputsPart, Outputs as OutputsPart, Clock as ClockPart, Table as TablePart, Latch as LatchPart, Subckt as SubcktPart}
use Rattle.ds_design.specs.declared.blif.UseText.{UseText}
use Rattle.ds_blif.specs.Fault.{model_fault}
use Rattle.ds_blif.specs.Head.{head_of}
use Rattle.ds_blif.specs.Parts.{Parts, models_of, parts_of, with_head}
use Rattle.ds_blif.specs.State.{State, after, first_fault, own_fault, state_of}
use Rattle.ds_blif.specs.Text.{models_of_text}
use Rattle.ds_blif.specs.declared.fault.BlifKind.TheVariants.{BadWords, RepeatedModel}
use Rattle.ds_blif.specs.declared.head.Head.{Head}
use Rattle.ds_blif.specs.declared.head.Head.TheVariants.{Row, Names, Model, Inputs, Outputs, Clock, Latch, Subckt, End, Skipped, Unknown}
use Rattle.ds_blif.proofs.FirstFault.{fault_from, fault_from_is}
use Rattle.ds_blif.proofs.NoFault.{first_none, line_none, lines_none, not_false, own_none, test_false}
use Rattle.ds_blif.proofs.WellFormed.{read_well_formed}
use Rattle.ds_flat.specs.Command.{with_part}
use Rattle.ds_flat.specs.Copies.{Flat, Opened, copy_unless, expand, flat_of, main_copy, model_named, most_depth, next_copy, open_model, open_use, passed_limit, ports_of, take_all, take_command, take_part, unknown_formal, use_in}
use Rattle.ds_flat.specs.Net.{Scope}
use Rattle.ds_flat.specs.declared.fault.FlatKind.{FlatKind}
use Rattle.ds_stage.specs.FaultText.{blif_text, flat_text}
use Rattle.ds_stage.specs.Stages.{OfBytes, netlist_stage, text_stage}
use Rattle.ds_stage.proofs.LineWords.{HaveWords, both_all, lines_have_words}
use Rattle.ds_stage.proofs.FileMeaning.{read_meant}
use Rattle.std.proofs.lemmas.List.Sums.{prefix_len_stops}
use Rattle.std.proofs.lemmas.List.{get_or-reverse, get_or-take, length-reverse, length-take-le}
use Rattle.ds_lines.proofs.ByteClasses.{neither}
use Rattle.ds_laws.proofs.PlainNames.{if_next, unless_holds}
use Rattle.ds_lines.proofs.UncutWords.{EndsUncut, IsUncut, uncut_behind}

-- the last of some words is not cut with a word before it
ends_behind : (word : List ℕ) (words : List (List ℕ)) → EndsUncut words → EndsUncut (word ∷ words)
ends_behind word [] ends = absurd ends
ends_behind word (next ∷ words) ends = ends

-- or with words before it
ends_both : (words more : List (List ℕ)) → EndsUncut more → EndsUncut (words ++ more)
ends_both [] more ends = ends
ends_both (word ∷ words) more ends = ends_behind word (words ++ more) (ends_both words more ends)

-- the parts of a text that is not cut
onto_ends : (byte : ℕ) (parts : List (List ℕ)) → EndsUncut parts → EndsUncut (onto_first byte parts)
onto_ends byte [] ends = absurd ends
onto_ends byte (part ∷ []) ends = uncut_behind byte part ends
onto_ends byte (part ∷ next ∷ parts) ends = ends

-- a byte that is not cut is no blank
not_blank : (byte : ℕ) → is_end byte ≡ false → is_blank byte ≡ false
not_blank byte other = (neither (is_blank byte) _ other).0

-- the last part is not cut
split_ends : (text : List ℕ) → IsUncut text → EndsUncut (slice_split is_blank text)
split_ends [] uncut = absurd uncut
split_ends (byte ∷ []) uncut = rw (not_blank byte uncut) uncut
split_ends (byte ∷ next ∷ text) uncut = elim (cases_Bool (is_blank byte)) [
  | inl cut ↦ rw cut (ends_behind [] (slice_split is_blank (next ∷ text)) (split_ends (next ∷ text) uncut))
  | inr other ↦ rw other (onto_ends byte (slice_split is_blank (next ∷ text)) (split_ends (next ∷ text) uncut))
]

-- nor is the last of those that are not empty
some_ends : (parts : List (List ℕ)) → EndsUncut parts → EndsUncut (filter is_some parts)
some_ends [] ends = absurd ends
some_ends ([] ∷ []) ends = absurd ends
some_ends ((byte ∷ part) ∷ []) ends = ends
some_ends ([] ∷ next ∷ parts) ends = some_ends (next ∷ parts) ends
some_ends ((byte ∷ part) ∷ next ∷ parts) ends = ends_behind (byte ∷ part) (filter is_some (next ∷ parts)) (some_ends (next ∷ parts) ends)

-- words that are none, or whose last is not cut
abbrev AreClosed : List (List ℕ) → Type 0
AreClosed words = (words ≡ []) ⊎ EndsUncut words

-- the words of a text that is empty or not cut
text_closed : (text : List ℕ) → (text ≡ []) ⊎ IsUncut text → AreClosed (words_of text)
text_closed text (inl none) = inl (ap words_of none)
text_closed text (inr uncut) = inr (some_ends (slice_split is_blank text) (split_ends text uncut))

-- two lists of such words
closed_both : (words more : List (List ℕ)) → AreClosed words → AreClosed more → AreClosed (words ++ more)
closed_both words more (inl none) closed = subst (λ (ws : List (List ℕ)). AreClosed (ws ++ more)) (sym none) closed
closed_both words more (inr ends) (inl none) = inr (subst (λ (ws : List (List ℕ)). EndsUncut (words ++ ws)) (sym none) (nothing_more words ends))
  where
    nothing_more : (words : List (List ℕ)) → EndsUncut words → EndsUncut (words ++ [])
    nothing_more [] ends = ends
    nothing_more (word ∷ []) ends = ends
    nothing_more (word ∷ next ∷ words) ends = nothing_more (next ∷ words) ends
closed_both words more (inr ends) (inr closed) = inr (ends_both words more closed)

-- a text whose last byte is not cut, by its place
uncut_at : (text : List ℕ) → 0 < length text → is_end (get_or text (length text - 1) 0) ≡ false → IsUncut text
uncut_at [] some last = absurd (omega (arith, some))
uncut_at (byte ∷ []) some last = last
uncut_at (byte ∷ next ∷ text) some last =
    let at : length (byte ∷ next ∷ text) - 1 ≡ suc (length (next ∷ text) - 1) = omega arith in
    uncut_at (next ∷ text) (omega arith) (sym (ap (λ (k : ℕ). is_end (get_or (byte ∷ next ∷ text) k 0)) at) ∙ last)

-- a text without bytes
no_bytes : (text : List ℕ) → length text ≡ 0 → text ≡ []
no_bytes [] none = refl
no_bytes (byte ∷ text) none = absurd (omega (arith, none))

-- a line that is trimmed is empty, or its last byte is not cut
trimmed_ends : (line : List ℕ) → (trimmed line ≡ []) ⊎ IsUncut (trimmed line)
trimmed_ends line =
    let cut : ℕ = suffix_len is_end line in
    let kept : ℕ = length line - cut in
    let long : length (take kept line) ≡ kept = length-take-le kept line (omega arith) in
    elim (cases_lt cut (length line)) [
      | inl some ↦
          (let turned : length (reverse line) ≡ length line = length-reverse line in
          let stops : is_end (get_or (reverse line) cut 0) ≡ false = prefix_len_stops is_end (reverse line) 0 (omega (arith, some, turned)) in
          let back : get_or (reverse line) cut 0 ≡ get_or line (length line - 1 - cut) 0 = get_or-reverse line cut 0 some in
          let at : length (take kept line) - 1 ≡ length line - 1 - cut = omega (arith, long, some) in
          let low : length line - 1 - cut < kept = omega (arith, some) in
          let there : get_or (take kept line) (length line - 1 - cut) 0 ≡ get_or line (length line - 1 - cut) 0 = get_or-take kept line (length line - 1 - cut) 0 low in
          inr (uncut_at (take kept line) (omega (arith, long, some))
          (ap (λ (k : ℕ). is_end (get_or (take kept line) k 0)) at ∙ (ap is_end (there ∙ sym back) ∙ stops))))
      | inr all ↦ inl (no_bytes (take kept line) (omega (arith, long, all)))
    ]

-- so are the words of a physical line
words_closed : (line : List ℕ) → AreClosed (words_in line)
unfolding words_in
words_closed line = text_closed (trimmed (uncommented line)) (trimmed_ends (uncommented line))

-- the last word of each line is not cut
abbrev HaveEnds : List Line → Type 0
HaveEnds lines = AllByRecursion (λ (line : Line). EndsUncut line.words) lines

-- of a line with such words
line_of_ends : (number : ℕ) (words : List (List ℕ)) → AreClosed words → HaveEnds (line_of number words)
line_of_ends number [] closed = tt
line_of_ends number (word ∷ words) (inl none) = absurd (cc)
line_of_ends number (word ∷ words) (inr ends) = (ends, tt)

-- of all lines behind such words
lines_from_end : (first : ℕ) (words : List (List ℕ)) (number : ℕ) (rest : List (List ℕ)) → AreClosed words → HaveEnds (lines_from first words number rest)
lines_from_end first words number [] closed = line_of_ends first words closed
lines_from_end first words number (line ∷ rest) closed =
    let more : AreClosed (words ++ words_in line) = closed_both words (words_in line) closed (words_closed line) in
    elim (cases_Bool (joins line)) [
      | inl joined ↦ rw joined (lines_from_end first (words ++ words_in line) (number + 1) rest more)
      | inr alone ↦ rw alone (both_all (λ (line : Line). EndsUncut line.words)
          (line_of first (words ++ words_in line)) (lines_from (number + 1) [] (number + 1) rest)
          (line_of_ends first (words ++ words_in line) more) (lines_from_end (number + 1) [] (number + 1) rest (inl refl)))
    ]

-- of all lines of a text
lines_end : (text : List ℕ) → HaveEnds (lines_of text)
lines_end text = lines_from_end 1 [] 1 (slice_split is_newline text) (inl refl)

-- a name that can be printed at the end of a line
pub record IsPrintable (name : List ℕ) : Type 0 where
  pub word : IsWord name
  pub uncut : IsUncut name

-- the name of a model: the second of two words
second_of_two : (words : List (List ℕ)) → length words ≡ 2 → AllByRecursion IsWord words → EndsUncut words → IsPrintable (word_at words 1)
second_of_two [] two are ends = absurd (omega (arith, two))
second_of_two (one ∷ []) two are ends = absurd (omega (arith, two))
second_of_two (one ∷ name ∷ []) two are ends = record { word = are.1.0; uncut = ends }
second_of_two (one ∷ name ∷ more ∷ words) two are ends = absurd (omega (arith, two))

-- so it is where the line of a model has no fault
name_of_model : (models words : List (List ℕ)) → model_fault models words ≡ None → AllByRecursion IsWord words → EndsUncut words → IsPrintable (word_at words 1)
name_of_model models words none are ends =
    let two : (length words == 2) ≡ true =
    not_false (length words == 2) (test_false (not (length words == 2)) BadWords
    (first_none (where_true (not (length words == 2)) BadWords) (where_true (list_any (bytes_eq (word_at words 1)) models) (RepeatedModel (word_at words 1)) ∷ []) none)) in
    second_of_two words (eqb-true (length words) 2 two) are ends

-- models with such names
abbrev AreNamed : List BlifModel → Type 0
AreNamed models = AllByRecursion (λ (model : BlifModel). IsPrintable model.name) models

-- a line of any kind before them
head_named : (head : Head) (number : ℕ) (words : List (List ℕ)) (state : State) (parts : Parts) → own_fault head state words ≡ None
    → AllByRecursion IsWord words → EndsUncut words → AreNamed parts.models → AreNamed (with_head head number words parts).models
head_named Row number words state parts none are ends named = named
head_named Names number words state parts none are ends named = named
head_named Model number words state parts none are ends named = (name_of_model state.models words none are ends, named)
head_named Inputs number words state parts none are ends named = named
head_named Outputs number words state parts none are ends named = named
head_named Clock number words state parts none are ends named = named
head_named Latch number words state parts none are ends named = named
head_named Subckt number words state parts none are ends named = named
head_named End number words state parts none are ends named = named
head_named Skipped number words state parts none are ends named = named
head_named Unknown number words state parts none are ends named = named

-- all lines without a fault
lines_named : (state : State) (lines : List Line) → HaveWords lines → HaveEnds lines → fault_from state lines ≡ None → AreNamed (parts_of lines).models
lines_named state [] words ends none = tt
lines_named state (line ∷ lines) (here, words) (last, ends) none =
    head_named (head_of (word_at line.words 0)) line.number line.words state (parts_of lines) (own_none (head_of (word_at line.words 0)) state line.words (line_none _ _ _ none)) here last
    (lines_named (after line.words state) lines words ends (lines_none _ _ _ none))

-- what is given unless there is a fault
given_of : {F A : Type 0} (fault : Option F) (given read : A) → unless_fault fault given ≡ Ok read → (fault ≡ None) × (given ≡ read)
given_of None given read is = (refl, cc)
given_of (Some fault) given read is = absurd (cc)

-- the models of lines have such names
models_named : (lines : List Line) (models : List BlifModel) → HaveWords lines → HaveEnds lines → models_of_text lines ≡ Ok models → AreNamed models
models_named lines models words ends is =
    let (none, same) = given_of (first_fault [] lines) (models_of lines) models is in
    subst AreNamed same (lines_named (state_of []) lines words ends (sym (fault_from_is [] lines) ∙ none))

-- the copies of a design keep its name
module _ (name : List ℕ) where
  abbrev HasName : Flat → Type 0
  HasName flat = flat.design.name ≡ name

  -- so has one that a use opens
  abbrev OpensName : Opened → Type 0
  OpensName opened = opened.flat.design.name ≡ name

  -- a command leaves the name
  part_keeps : (scope : Scope) (line : ℕ) (part : Part) (c : Circuit) → (with_part scope line part c).name ≡ c.name
  part_keeps scope line (InputsPart names) c = refl
  part_keeps scope line (OutputsPart names) c = refl
  part_keeps scope line (ClockPart names) c = refl
  part_keeps scope line (TablePart text) c = refl
  part_keeps scope line (LatchPart text) c = refl
  part_keeps scope line (SubcktPart call) c = refl

  -- so does one that is taken
  taken_named : (scope : Scope) (line : ℕ) (part : Part) (flat : Flat) → HasName flat → IfOk (take_part scope line part flat) HasName
  taken_named scope line part flat is =
      let next : Circuit = with_part scope line part flat.design in
      unless_holds HasName (passed_limit next) line (record { copies = flat.copies; design = next }) (part_keeps scope line part flat.design ∙ is)

  -- and a use with known formals
  unless_named : (formal : Option (List ℕ)) (line : ℕ) (opened : Opened) → OpensName opened → IfOk (copy_unless formal line opened) OpensName
  unless_named None line opened is = unless_holds OpensName (passed_limit opened.flat.design) line opened is
  unless_named (Some formal) line opened is = tt

  -- and a use of a model
  model_opens : (path : List (List ℕ)) (scope : Scope) (line : ℕ) (call : UseText) (flat : Flat) (named : Option BlifModel) → HasName flat
      → IfOk (open_model path scope line call flat named) OpensName
  model_opens path scope line call flat None is = tt
  model_opens path scope line call flat (Some model) is = elim (cases_Bool (list_any (bytes_eq call.model) path)) [
    | inl found ↦ rw found tt
    | inr new ↦ elim (cases_Bool (nat_lt flat.copies (most_of Copies))) [
      | inl few ↦ rw (new, few) (unless_named (unknown_formal (ports_of model.commands) call.pairs) line (next_copy path scope call model flat) is)
      | inr many ↦ rw (new, many) tt
    ]
  ]

  module _ (models : List BlifModel) where
    abbrev Keeps : (Opened → Result Flat (At FlatKind)) → Type 0
    Keeps callee = (opened : Opened) → OpensName opened → IfOk (callee opened) HasName

    -- a command, where each copy keeps the name
    part_kept : (callee : Opened → Result Flat (At FlatKind)) → Keeps callee → (path : List (List ℕ)) (scope : Scope) (line : ℕ) (part : Part) (flat : Flat)
        → HasName flat → IfOk (take_command callee models path scope (record { line = line; part = part }) (use_in part) flat) HasName
    part_kept callee keeps path scope line (InputsPart names) flat has = taken_named scope line (InputsPart names) flat has
    part_kept callee keeps path scope line (OutputsPart names) flat has = taken_named scope line (OutputsPart names) flat has
    part_kept callee keeps path scope line (ClockPart names) flat has = taken_named scope line (ClockPart names) flat has
    part_kept callee keeps path scope line (TablePart text) flat has = taken_named scope line (TablePart text) flat has
    part_kept callee keeps path scope line (LatchPart text) flat has = taken_named scope line (LatchPart text) flat has
    part_kept callee keeps path scope line (SubcktPart call) flat has =
        if_next OpensName HasName (open_use models path scope line call flat) callee
        (model_opens path scope line call flat (model_named models call.model) has) keeps

    -- all commands
    all_kept : (callee : Opened → Result Flat (At FlatKind)) → Keeps callee → (path : List (List ℕ)) (scope : Scope)
        → (commands : List Command) (flat : Flat) → HasName flat → IfOk (take_all callee models path scope commands flat) HasName
    all_kept callee keeps path scope [] flat has = has
    all_kept callee keeps path scope (command ∷ commands) flat has =
        if_next HasName HasName (take_command callee models path scope command (use_in command.part) flat) (take_all callee models path scope commands)
        (part_kept callee keeps path scope command.line command.part flat has)
        (λ next left. all_kept callee keeps path scope commands next left)

    -- all copies
    copies_kept : (depth : ℕ) → Keeps (expand depth models)
    copies_kept zero opened is = tt
    copies_kept (suc depth) opened is =
        all_kept (expand depth models) (copies_kept depth) opened.frame.path opened.frame.scope opened.frame.commands opened.flat is

-- a flat design has the name of the main model
flat_named : (main : BlifModel) (models : List BlifModel) → IfOk (flat_of (main ∷ models)) (λ c. c.name ≡ main.name)
flat_named main models =
    if_next (HasName main.name) (λ (c : Circuit). c.name ≡ main.name) (expand most_depth (main ∷ models) (main_copy main)) (λ (flat : Flat). Ok flat.design)
    (copies_kept main.name (main ∷ models) most_depth (main_copy main) refl)
    (λ flat has. has)

-- so the design has the name of a model
design_named : (models : List BlifModel) (c : Circuit) → 0 < length models → AreNamed models → flat_of models ≡ Ok c → IsPrintable c.name
design_named [] c some named is = absurd (omega (arith, some))
design_named (main ∷ models) c some (here, named) is =
    let same : c.name ≡ main.name = subst (λ (r : Result Circuit (At FlatKind)). IfOk r (λ d. d.name ≡ main.name)) is (flat_named main models) in
    subst IsPrintable (sym same) here

-- the lines of a file that tells what it holds
file_lines : (h : Held) (file : List ℕ) → h ≢ untold → (lines : List Line) → OfBytes h (λ text. (text_stage file text).means lines) → HaveWords lines × HaveEnds lines
file_lines untold file told lines means = absurd (told refl)
file_lines absent file told lines means = absurd means
file_lines (bytes text) file told lines (short, is) = (subst HaveWords (sym is) (lines_have_words text), subst HaveEnds (sym is) (lines_end text))

-- the name of a netlist can be printed
pub netlist_named : (held : List ℕ → Held) (net : List ℕ) (c : Circuit) → held net ≢ untold → (netlist_stage held net).means c → IsPrintable c.name
netlist_named held net c told (flat, (lines, are, (models, read, is_flat)), (is, accepted)) =
    let (words, ends) = file_lines (held net) net told lines are in
    let of_text : models_of_text lines ≡ Ok models = read_meant net blif_text (models_of_text lines) models read in
    let some : 0 < length models = (read_well_formed lines models of_text).some in
    subst (λ (d : Circuit). IsPrintable d.name) (sym is)
    (design_named models flat some (models_named lines models words ends of_text) (read_meant net flat_text (flat_of models) flat is_flat))
