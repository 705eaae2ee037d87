-- The parts of a command, in the words of `clap`.
use Rattle.std.specs.Prelude.{◌≡◌, ⊤, ℕ, Bool, List, [], ◌∷◌, Option, Some, None, true, false}
use Rattle.std.specs.Prelude.{◌&&◌, codes, nat_lt, if◌then◌else◌}
use Rattle.std.specs.Str.{bytes_eq}
use Rattle.clap.specs.Words.{Row, Rule, Shape, Text, first_of, new_rule}
use Rattle.clap.specs.Simple.{new_shape}
use Rattle.clap.specs.declared.builder.action.ArgAction.TheVariants.{SetTrue}
use Rattle.clap.specs.declared.builder.arg.Arg.{Arg}

-- a word that is required, as the name of a file
abbrev pub word_rule : Text → Rule
word_rule id = record (new_rule id) { required = true }

-- an option with a value: `--id VALUE`
abbrev pub option_rule : Text → Rule
option_rule id = record (new_rule id) { long = Some id }

-- an option without a value: `--id`
abbrev pub flag_rule : Text → Rule
flag_rule id = record (new_rule id) { long = Some id; action = Some SetTrue }

-- the value of an option without one: `true` where it stands among the words
abbrev pub is_true : Option Text → Bool
is_true None = false
is_true (Some word) = bytes_eq word (codes "true")

-- whether the option stands among the words, by the values of a command's arguments
abbrev pub is_set : Text → List Row → Bool
is_set id rows = is_true (first_of id rows)

-- an option without a value, as it is wanted; beside a slack above 0 there is no such mode
unfoldable pub flag_with : ℕ → Bool → Option Bool
flag_with slack wanted = if wanted && nat_lt 0 slack then None else Some wanted

-- none of the arguments is one of all commands
abbrev pub AreLocal : List Arg → Type 0
AreLocal [] = ⊤
AreLocal (arg ∷ args) = (arg.global ≡ false) × AreLocal args

-- a subcommand with these arguments
abbrev pub command_shape : Text → List Rule → Shape
command_shape name rules = record (new_shape name) { rules = rules }
