-- What a command is after arguments, or subcommands, that are added in turn.
use Rattle.std.proofs.Common.{◌≡◌, ◌++◌, ◌&&◌, ◌∙◌, List, [], ◌∷◌, Bool, true, false, not, map, sym}
use Rattle.std.proofs.Common.{ap, refl, subst, IfOk, Result}
use Rattle.std.specs.Prelude.{⊤}
use Rattle.std.proofs.lemmas.List.{append_assoc, append-nil}
use Rattle.clap.specs.Words.{App, Rule, Shape, Text, app_of, rule_of, shape_of, with_subcommand}
use Rattle.clap.specs.Built.{AddsArg, AddsInTurn, AddsSubcommand}
use Rattle.clap.specs.declared.builder.arg.Arg.{Arg}
use Rattle.clap.specs.declared.builder.command.Command.{Command}
use Rattle.ds_base.specs.declared.memory.OutOfMemory.{OutOfMemory}
use Rattle.ds_cmd.specs.Argument.{AreLocal, command_shape}
use Rattle.ds_cmd.specs.Commands.{commands}

abbrev pub with_rules : Shape → List Rule → Shape
with_rules s rules = record s { rules = s.rules ++ rules }

pub args_in_turn : (old new : Command) (args : List Arg) → AddsInTurn AddsArg old args new
    → AreLocal args → shape_of new ≡ with_rules (shape_of old) (map rule_of args)
args_in_turn old new [] same local = ap shape_of (sym same)
    ∙ ap (λ (rules : List Rule). record (shape_of old) { rules = rules })
    (sym (append-nil (shape_of old).rules))
args_in_turn old new (arg ∷ args) (mid, step, rest) (here, local) =
    args_in_turn mid new args rest local
    ∙ (ap (λ (a : App). with_rules a.top (map rule_of args)) (step.shape here)
    ∙ ap (λ (rules : List Rule). record (shape_of old) { rules = rules })
    (append_assoc (shape_of old).rules (rule_of arg ∷ []) (map rule_of args)))

-- each has no global argument
abbrev pub ArePlain : List Shape → Type 0
ArePlain [] = ⊤
ArePlain (s ∷ ss) = (s.is_plain ≡ true) × ArePlain ss

abbrev pub with_all : App → List Shape → App
with_all a [] = a
with_all a (s ∷ ss) = with_all (with_subcommand a s) ss

-- the third test of a chain
third : (a b x r : Bool) → (a && (not b && (not x && r))) ≡ true → x ≡ false
third true false false r e = refl
third true false true r e = cc
third true true x r e = cc
third false b x r e = cc

pub subcommands_in_turn : (old new : Command) (subs : List Command)
    → AddsInTurn AddsSubcommand old subs new → ArePlain (map shape_of subs)
    → app_of new ≡ with_all (app_of old) (map shape_of subs)
subcommands_in_turn old new [] same plain = ap app_of (sym same)
subcommands_in_turn old new (sub ∷ subs) (mid, step, rest) (here, plain) =
    subcommands_in_turn mid new subs rest plain
    ∙ ap (λ (a : App). with_all a (map shape_of subs)) (step.shape (third _ _ _ _ here))

pub all_plain : ArePlain (map (λ entry. entry.shape) commands)
all_plain = (refl, (refl, (refl, (refl, (refl, (refl, (refl, (refl, (refl, (refl, (refl, tt)))))))))))

pub shaped : (made : Result Command OutOfMemory) (name : Text) (rules wanted : List Rule)
    → IfOk made (λ c. shape_of c ≡ command_shape name rules) → rules ≡ wanted
    → IfOk made (λ c. shape_of c ≡ command_shape name wanted)
shaped made name rules wanted has same = subst
    (λ (rs : List Rule). IfOk made (λ c. shape_of c ≡ command_shape name rs)) same has
