-- Words of which a reader sees without `clap` what they are.
use Rattle.std.specs.Prelude.{Bool, true, not, ◌==◌, [], ◌∷◌}
use Rattle.std.specs.List.{list_any}
use Rattle.std.specs.Str.{bytes_eq}
use Rattle.clap.specs.Words.{Text}
use Rattle.ds_cmd.specs.Commands.{commands}

-- not a `-` (45) with more behind it; the empty word and `-` alone are names
abbrev pub is_plain : Text → Bool
is_plain [] = true
is_plain (byte ∷ []) = true
is_plain (byte ∷ next ∷ rest) = not (byte == 45)

-- the name of a command
abbrev pub is_command : Text → Bool
is_command word = list_any (λ entry. bytes_eq entry.shape.name word) commands
