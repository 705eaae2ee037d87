-- The commands that add nothing are left out, and the design or the fault is the same.
use Rattle.std.proofs.Common.{◌≡◌, ℕ, zero, suc, ◌<◌, true, List, [], ◌∷◌, ◌++◌, map, length, get_or}
use Rattle.std.proofs.Common.{Option, None, Some, Result, Ok, Err, refl, sym, ap, ◌∙◌, subst, inl, inr, arith, nat_lt, ◌==◌}
use Rattle.std.specs.Prelude.{All}
use Rattle.std.specs.List.{list_any}
use Rattle.std.specs.Option.{option_map}
use Rattle.std.specs.Str.{bytes_eq}
use Rattle.std.proofs.lemmas.Bool.{cases_Bool, eqb-true}
use Rattle.std.proofs.lemmas.List.{length-map}
use Rattle.std.proofs.lemmas.List.Elements.{All-cons, All-head, All-tail}
use Rattle.ds_base.specs.declared.number.Limit.{Limit}
use Rattle.ds_design.specs.declared.blif.Part.{Part}
use Rattle.ds_design.specs.declared.blif.Part.TheVariants.{Inputs, Outputs, Clock, Table, Latch, Subckt}
use Rattle.ds_design.specs.declared.blif.UseText.{UseText}
use Rattle.ds_design.specs.declared.blif.Command.{Command}
use Rattle.ds_design.specs.declared.blif.BlifModel.{BlifModel}
use Rattle.ds_design.specs.Source.{IsBlif, IsPart}
use Rattle.ds_design.specs.Circuit.{Circuit}
use Rattle.ds_lines.specs.declared.at.At.{At}
use Rattle.ds_flat.specs.Net.{Scope}
use Rattle.ds_flat.specs.Command.{with_part, with_ports}
use Rattle.ds_flat.specs.Copies.{Flat, Opened, ◌>>=◌, passed_limit, unless_passed, model_named}
use Rattle.ds_flat.specs.Copies.{ports_in, ports_of, unknown_formal, next_copy}
use Rattle.ds_flat.specs.Copies.{copy_unless, open_model, open_use, use_in, flat_within, take_command}
use Rattle.ds_flat.specs.Copies.{take_all, expand, main_copy, most_depth, flat_of}
use Rattle.ds_flat.specs.Bare.{adds_nothing, needed, bare}
use Rattle.ds_flat.proofs.PassedLimits.{passed_by}
use Rattle.ds_flat.specs.declared.fault.FlatKind.{FlatKind}

-- a part that adds nothing leaves the design
ports_nothing : (copy : ℕ) (ports : List ℕ) → with_ports copy ports [] ≡ ports
ports_nothing copy ports = elim (cases_Bool (copy == 0)) [
  | inl main ↦ rw main refl
  | inr other ↦ rw other refl
]

nothing_part : (scope : Scope) (line : ℕ) (part : Part) (c : Circuit) → adds_nothing part ≡ true
    → with_part scope line part c ≡ c
nothing_part scope line (Inputs []) c is =
    ap (λ (ports : List ℕ). record c { inputs = ports }) (ports_nothing scope.copy c.inputs)
nothing_part scope line (Outputs []) c is =
    ap (λ (ports : List ℕ). record c { outputs = ports }) (ports_nothing scope.copy c.outputs)
nothing_part scope line (Clock []) c is =
    ap (λ (ports : List ℕ). record c { clocks = ports }) (ports_nothing scope.copy c.clocks)
nothing_part scope line (Inputs (name ∷ names)) c is =
    absurd (let e = eqb-true (length (name ∷ names)) 0 is in omega arith)
nothing_part scope line (Outputs (name ∷ names)) c is =
    absurd (let e = eqb-true (length (name ∷ names)) 0 is in omega arith)
nothing_part scope line (Clock (name ∷ names)) c is =
    absurd (let e = eqb-true (length (name ∷ names)) 0 is in omega arith)
nothing_part scope line (Table text) c is = absurd (cc)
nothing_part scope line (Latch text) c is = absurd (cc)
nothing_part scope line (Subckt call) c is = absurd (cc)

nothing_use : (part : Part) → adds_nothing part ≡ true → use_in part ≡ None
nothing_use (Inputs names) is = refl
nothing_use (Outputs names) is = refl
nothing_use (Clock names) is = refl
nothing_use (Table text) is = refl
nothing_use (Latch text) is = refl
nothing_use (Subckt call) is = absurd (cc)

no_names : (names : List (List ℕ)) → (length names == 0) ≡ true → names ≡ []
no_names [] is = refl
no_names (name ∷ names) is =
    absurd (let e = eqb-true (length (name ∷ names)) 0 is in omega arith)

nothing_ports : (part : Part) → adds_nothing part ≡ true → ports_in part ≡ []
nothing_ports (Inputs names) is = no_names names is
nothing_ports (Outputs names) is = no_names names is
nothing_ports (Clock names) is = no_names names is
nothing_ports (Table text) is = refl
nothing_ports (Latch text) is = refl
nothing_ports (Subckt call) is = refl

-- what was taken passes no limit
abbrev IsFew : Flat → Type 0
IsFew flat = passed_limit flat.design ≡ None

-- the copy of a model without the commands that add nothing
abbrev bare_copy : Opened → Opened
bare_copy o = record {
  frame = record {
    path = o.frame.path;
    scope = o.frame.scope;
    commands = needed o.frame.commands;
  };
  flat = o.flat;
}

-- a command that adds nothing is taken
taken_nothing : (callee : Opened → Result Flat (At FlatKind)) (models : List BlifModel)
    (path : List (List ℕ)) (scope : Scope) (command : Command) (flat : Flat)
    → adds_nothing command.part ≡ true → IsFew flat
    → take_command callee models path scope command (use_in command.part) flat ≡ Ok flat
taken_nothing callee models path scope command flat is few =
    ap (λ (asked : Option UseText). take_command callee models path scope command asked flat)
    (nothing_use command.part is)
    ∙ (ap (λ (c : Circuit). flat_within flat.copies command.line c)
    (nothing_part scope command.line command.part flat.design is)
    ∙ ap (λ (l : Option Limit). unless_passed l command.line flat) few)

named_bare : (models : List BlifModel) (name : List ℕ)
    → model_named (map bare models) name ≡ option_map bare (model_named models name)
named_bare [] name = refl
named_bare (model ∷ models) name = elim (cases_Bool (bytes_eq name model.name)) [
  | inl here ↦ rw here refl
  | inr other ↦ rw other (named_bare models name)
]

ports_bare : (commands : List Command) → ports_of (needed commands) ≡ ports_of commands
ports_bare [] = refl
ports_bare (command ∷ commands) = elim (cases_Bool (adds_nothing command.part)) [
  | inl nothing ↦ rw nothing (ports_bare commands ∙ sym (ap (λ (names : List (List ℕ)).
      names ++ ports_of commands) (nothing_ports command.part nothing)))
  | inr some ↦ rw some (ap (λ (names : List (List ℕ)). ports_in command.part ++ names)
      (ports_bare commands))
]

-- what a use opens among the models and among the bare ones
abbrev OpensBare : Result Opened (At FlatKind) → Result Opened (At FlatKind) → Type 0
OpensBare (Ok o) other = (other ≡ Ok (bare_copy o)) × IsFew o.flat
OpensBare (Err fault) other = other ≡ Err fault

opens_within : (limit : Option Limit) (line : ℕ) (o : Opened) → limit ≡ passed_limit o.flat.design
    → OpensBare (unless_passed limit line o) (unless_passed limit line (bare_copy o))
opens_within None line o is = (refl, sym is)
opens_within (Some limit) line o is = refl

opens_unless : (formal : Option (List ℕ)) (line : ℕ) (o : Opened)
    → OpensBare (copy_unless formal line o) (copy_unless formal line (bare_copy o))
opens_unless None line o = opens_within (passed_limit o.flat.design) line o refl
opens_unless (Some formal) line o = refl

opens_model : (path : List (List ℕ)) (scope : Scope) (line : ℕ) (call : UseText) (flat : Flat)
    (model : Option BlifModel)
    → OpensBare (open_model path scope line call flat model)
    (open_model path scope line call flat (option_map bare model))
opens_model path scope line call flat None = refl
opens_model path scope line call flat (Some model) =
    elim (cases_Bool (list_any (bytes_eq call.model) path)) [
      | inl open_now ↦ rw open_now refl
      | inr new ↦ elim (cases_Bool (nat_lt flat.copies 65536)) [
        | inl few ↦ rw (new, few, ports_bare model.commands) (opens_unless
            (unknown_formal (ports_of model.commands) call.pairs) line
            (next_copy path scope call model flat))
        | inr many ↦ rw (new, many) refl
      ]
    ]

opens_use : (models : List BlifModel) (path : List (List ℕ)) (scope : Scope) (line : ℕ)
    (call : UseText) (flat : Flat)
    → OpensBare (open_use models path scope line call flat)
    (open_use (map bare models) path scope line call flat)
opens_use models path scope line call flat =
    subst (λ (m : Option BlifModel). OpensBare (open_use models path scope line call flat)
    (open_model path scope line call flat m)) (sym (named_bare models call.model))
    (opens_model path scope line call flat (model_named models call.model))

-- what takes a copy, and what takes it without the commands that add nothing
record TakeSame (f g : Opened → Result Flat (At FlatKind)) : Type 0 where
  same : (o : Opened) → IsFew o.flat → f o ≡ g (bare_copy o)
  few : (o : Opened) (flat : Flat) → IsFew o.flat → f o ≡ Ok flat → IsFew flat

bind_same : (f g : Opened → Result Flat (At FlatKind)) → TakeSame f g
    → (r s : Result Opened (At FlatKind)) → OpensBare r s → (r >>= f) ≡ (s >>= g)
bind_same f g take (Ok o) s is =
    take.same o is.1 ∙ sym (ap (λ (t : Result Opened (At FlatKind)). t >>= g) is.0)
bind_same f g take (Err fault) s is =
    sym (ap (λ (t : Result Opened (At FlatKind)). t >>= g) is)

bind_few : (f g : Opened → Result Flat (At FlatKind)) → TakeSame f g
    → (r s : Result Opened (At FlatKind)) → OpensBare r s → (flat : Flat) → (r >>= f) ≡ Ok flat
    → IsFew flat
bind_few f g take (Ok o) s is flat gives = take.few o flat is.1 gives
bind_few f g take (Err fault) s is flat gives = absurd (cc)

rest_same : (r : Result Flat (At FlatKind)) (h k : Flat → Result Flat (At FlatKind))
    → ((x : Flat) → r ≡ Ok x → h x ≡ k x) → (r >>= h) ≡ (r >>= k)
rest_same (Ok x) h k each = each x refl
rest_same (Err fault) h k each = refl

rest_few : (r : Result Flat (At FlatKind)) (h : Flat → Result Flat (At FlatKind)) (flat : Flat)
    → ((x : Flat) → r ≡ Ok x → h x ≡ Ok flat → IsFew flat) → (r >>= h) ≡ Ok flat → IsFew flat
rest_few (Ok x) h flat each is = each x refl is
rest_few (Err fault) h flat each is = absurd (cc)

module _ (f g : Opened → Result Flat (At FlatKind)) (take : TakeSame f g) (models : List BlifModel)
    (path : List (List ℕ)) (scope : Scope) where
  command_same : (command : Command) (asked : Option UseText) (flat : Flat)
      → take_command f models path scope command asked flat
      ≡ take_command g (map bare models) path scope command asked flat
  command_same command None flat = refl
  command_same command (Some call) flat = bind_same f g take
      (open_use models path scope command.line call flat)
      (open_use (map bare models) path scope command.line call flat)
      (opens_use models path scope command.line call flat)

  command_few : (command : Command) (asked : Option UseText) (flat after : Flat)
      → take_command f models path scope command asked flat ≡ Ok after → IsFew after
  command_few command None flat after is =
      let c : Circuit = with_part scope command.line command.part flat.design in
      let p = passed_by (passed_limit c) command.line
      (record { copies = flat.copies; design = c }) after is in
      ap (λ (x : Flat). passed_limit x.design) p.1 ∙ p.0
  command_few command (Some call) flat after is = bind_few f g take
      (open_use models path scope command.line call flat)
      (open_use (map bare models) path scope command.line call flat)
      (opens_use models path scope command.line call flat) after is

  all_same : (commands : List Command) (flat : Flat) → IsFew flat
      → take_all f models path scope commands flat
      ≡ take_all g (map bare models) path scope (needed commands) flat
  all_same [] flat few = refl
  all_same (command ∷ commands) flat few = elim (cases_Bool (adds_nothing command.part)) [
    | inl nothing ↦ rw nothing (ap (λ (r : Result Flat (At FlatKind)).
        r >>= take_all f models path scope commands)
        (taken_nothing f models path scope command flat nothing few)
        ∙ all_same commands flat few)
    | inr some ↦ rw some (rest_same
        (take_command f models path scope command (use_in command.part) flat)
        (take_all f models path scope commands)
        (take_all g (map bare models) path scope (needed commands))
        (λ x is. all_same commands x (command_few command (use_in command.part) flat x is))
        ∙ ap (λ (r : Result Flat (At FlatKind)).
        r >>= take_all g (map bare models) path scope (needed commands))
        (command_same command (use_in command.part) flat))
  ]

  all_few : (commands : List Command) (flat after : Flat) → IsFew flat
      → take_all f models path scope commands flat ≡ Ok after → IsFew after
  all_few [] flat after few is = subst (λ (x : Flat). IsFew x) (let e : flat ≡ after = cc in e) few
  all_few (command ∷ commands) flat after few is = rest_few
      (take_command f models path scope command (use_in command.part) flat)
      (take_all f models path scope commands) after
      (λ x taken. all_few commands x after (command_few command (use_in command.part) flat x taken))
      is

expand_same : (depth : ℕ) (models : List BlifModel)
    → TakeSame (expand depth models) (expand depth (map bare models))
expand_same zero models = record {
  same = λ o few. refl;
  few = λ o flat few is. absurd (cc);
}
expand_same (suc depth) models = record {
  same = λ o few. all_same (expand depth models) (expand depth (map bare models))
      (expand_same depth models) models o.frame.path o.frame.scope o.frame.commands o.flat few;
  few = λ o flat few is. all_few (expand depth models) (expand depth (map bare models))
      (expand_same depth models) models o.frame.path o.frame.scope o.frame.commands o.flat flat few
      is;
}

few_first : (main : BlifModel) → IsFew (main_copy main).flat
few_first main = refl

-- the flat design, or the fault, is that of the models without the commands that add nothing
pub flat_of-bare : (models : List BlifModel) → flat_of models ≡ flat_of (map bare models)
flat_of-bare [] = refl
flat_of-bare (main ∷ models) = ap (λ (r : Result Flat (At FlatKind)). r >>= λ (flat : Flat). Ok flat.design)
    ((expand_same most_depth (main ∷ models)).same (main_copy main) (few_first main))

parts_needed : (commands : List Command) → All (λ command. IsPart command.part) commands
    → All (λ command. IsPart command.part) (needed commands)
parts_needed [] all = all
parts_needed (command ∷ commands) all =
    let P : Command → Type 0 = λ c. IsPart c.part in
    let rest = parts_needed commands (All-tail P command commands all) in
    elim (cases_Bool (adds_nothing command.part)) [
      | inl nothing ↦ rw nothing rest
      | inr some ↦ rw some (All-cons P command (needed commands)
          (All-head P command commands all) rest)
    ]

parts_bare : (models : List BlifModel)
    → All (λ model. All (λ command. IsPart command.part) model.commands) models
    → All (λ model. All (λ command. IsPart command.part) model.commands) (map bare models)
parts_bare [] all = λ k d inside. absurd (let h : k < 0 = inside in omega arith)
parts_bare (model ∷ models) all =
    let P : BlifModel → Type 0 = λ m. All (λ command. IsPart command.part) m.commands in
    All-cons P (bare model) (map bare models)
    (parts_needed model.commands (All-head P model models all))
    (parts_bare models (All-tail P model models all))

name_at : (models : List BlifModel) (i : ℕ) (d : BlifModel) → i < length models
    → (get_or (map bare models) i d).name ≡ (get_or models i d).name
name_at [] i d inside = absurd (omega arith)
name_at (model ∷ models) zero d inside = refl
name_at (model ∷ models) (suc i) d inside = name_at models i d (omega arith)

-- the models without these commands are well formed
pub blif_bare : (models : List BlifModel) → IsBlif models → IsBlif (map bare models)
blif_bare models blif =
    let long : length (map bare models) ≡ length models = length-map models bare in
    record {
      some = (let h = blif.some in omega arith);
      distinct = λ i j d below inside same. blif.distinct i j d below (omega arith)
          (sym (name_at models i d (omega arith)) ∙ (same ∙ name_at models j d (omega arith)));
      parts = parts_bare models blif.parts;
    }
