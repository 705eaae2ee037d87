-- The option `--clusters`.
use Rattle.std.specs.Prelude.{List, Option, Some, None, codes, if◌then◌else◌}
use Rattle.std.specs.Str.{bytes_eq}
use Rattle.clap.specs.Words.{Row, Text, first_of}
use Rattle.ds_base.specs.declared.number.Mode.{Mode}
use Rattle.ds_base.specs.declared.number.Mode.TheVariants.{Each, One, Bus}

-- the mode of a word
abbrev pub mode_of : Text → Option Mode
mode_of word = if bytes_eq word (codes "each") then Some Each
    else (if bytes_eq word (codes "one") then Some One
    else (if bytes_eq word (codes "bus") then Some Bus else None))

-- the word of a mode
abbrev pub mode_word : Mode → Text
mode_word Each = codes "each"
mode_word One = codes "one"
mode_word Bus = codes "bus"

-- the mode of the option's value, and without the option a cluster for each register
abbrev pub mode_or_each : Option Text → Option Mode
mode_or_each None = Some Each
mode_or_each (Some word) = mode_of word

-- how registers are put into clusters, by the values of a command's arguments
abbrev pub clusters_of : List Row → Option Mode
clusters_of rows = mode_or_each (first_of (codes "clusters") rows)
