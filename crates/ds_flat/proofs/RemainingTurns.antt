-- How many turns are left.
use Rattle.std.proofs.Common.{◌≡◌, ℕ, suc, ◌+◌, ◌-◌, ◌*◌, ◌<◌, ◌≤◌, List, [], ◌∷◌, length, Some}
use Rattle.std.proofs.Common.{sym, ap, ◌∙◌, subst, inl, inr, arith}
use Rattle.std.specs.Str.{bytes_eq}
use Rattle.std.proofs.lemmas.Bool.{cases_Bool}
use Rattle.ds_design.specs.declared.blif.BlifModel.{BlifModel}
use Rattle.ds_design.specs.declared.blif.Command.{Command}
use Rattle.ds_design.specs.Circuit.{Circuit}
use Rattle.ds_flat.specs.declared.frame.Open.{Open}
use Rattle.ds_flat.specs.Copies.{model_named}
use Rattle.ds_flat.specs.Stack.{Stacked, put_on}
use Rattle.ds_flat.specs.Run.{IsCopyOf}
use Rattle.ds_flat.specs.Turn.{commands_of, most_turns}
use Rattle.ds_flat.proofs.RestInvariant.{rest_of}

-- the model of a name has no more commands than all models
named_few : (models : List BlifModel) (name : List ℕ) (model : BlifModel)
    → model_named models name ≡ Some model → length model.commands ≤ commands_of models
named_few [] name model is = absurd (cc)
named_few (first ∷ models) name model is = elim (cases_Bool (bytes_eq name first.name)) [
  | inl here ↦ (let e : Some first ≡ Some model = rw here at is in
      let same : first ≡ model = cc in
      let long : length first.commands ≡ length model.commands =
      ap (λ (m : BlifModel). length m.commands) same in omega arith)
  | inr other ↦ (let few : length model.commands ≤ commands_of models =
      named_few models name model (rw other at is) in omega arith)
]

product : (k n : ℕ) → suc k * n ≡ n + k * n
product k n = omega arith

-- a copy more is paid for by the copies that are left
copies_less : (copies n : ℕ) → copies < 65536
    → (65536 - copies) * n ≡ n + (65536 - (copies + 1)) * n
copies_less copies n few =
    let one : 65536 - copies ≡ suc (65536 - (copies + 1)) = omega arith in
    ap (λ (k : ℕ). k * n) one ∙ product (65536 - (copies + 1)) n

module _ (models : List BlifModel) (top : Open) (below : Stacked) (copies : ℕ) (design : Circuit)
  where
    -- a copy on top takes no more turns than there were for it
    pub turns_use : (next : Open) (name : List ℕ) (model : BlifModel) (place : ℕ) (after : Circuit)
        → model_named models name ≡ Some model → IsCopyOf next place model → copies < 65536
        → most_turns models (rest_of next (put_on top below) (copies + 1) after)
        ≤ most_turns models (rest_of top below copies design)
    turns_use next name model place after named copy few =
        let n : ℕ = commands_of models + 1 in
        let long : length next.commands.now ≤ commands_of models =
        subst (λ (cs : List Command). length cs ≤ commands_of models) (sym copy.commands)
        (named_few models name model named) in
        let paid : (65536 - copies) * n ≡ n + (65536 - (copies + 1)) * n = copies_less copies n few in
        omega arith

    -- a command that is taken off is a turn less
    pub turns_behind : (command : Command) (commands : List Command) (behind : Open)
        → top.commands.now ≡ command ∷ commands → behind.commands.now ≡ commands
        → most_turns models (rest_of behind below copies design)
        < most_turns models (rest_of top below copies design)
    turns_behind command commands behind first is =
        let long : length top.commands.now ≡ length (command ∷ commands) =
        ap (λ (cs : List Command). length cs) first in
        let less : length behind.commands.now ≡ length commands =
        ap (λ (cs : List Command). length cs) is in
        omega arith

    -- a copy that is left is a turn less
    pub turns_left : most_turns models (record {
      frames = below.frames;
      places = below.places;
      models = below.models;
      flat = record { copies = copies; design = design };
    }) < most_turns models (rest_of top below copies design)
    turns_left = omega arith
