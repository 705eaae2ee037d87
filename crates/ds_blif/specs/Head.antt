-- What a line is, by its first word.
use Rattle.std.specs.Prelude.{ℕ, Bool, false, not, List, [], ◌∷◌, codes, ◌==◌, ◌||◌}
use Rattle.std.specs.Prelude.{if◌then◌else◌}
use Rattle.std.specs.List.{list_any}
use Rattle.std.specs.Str.{bytes_eq}
use Rattle.ds_blif.specs.declared.head.Head.{Head}
use Rattle.ds_blif.specs.declared.head.Head.TheVariants.{Row, Names, Model, Inputs, Outputs, Clock}
use Rattle.ds_blif.specs.declared.head.Head.TheVariants.{Latch, Subckt, End, Skipped, Unknown}

-- a command begins with a dot
abbrev pub begins_dotted : List ℕ → Bool
begins_dotted [] = false
begins_dotted (byte ∷ bytes) = byte == 46

-- areas and delays
abbrev pub wires : List (List ℕ)
wires = codes ".area" ∷ codes ".delay" ∷ codes ".wire" ∷ codes ".wire_load_slope" ∷ []

-- defaults of times and loads
abbrev pub defaults : List (List ℕ)
defaults = codes ".default_input_arrival" ∷ codes ".default_output_required"
    ∷ codes ".default_input_drive" ∷ codes ".default_output_load" ∷ codes ".default_max_input_load"
    ∷ []

-- times and loads
abbrev pub loads : List (List ℕ)
loads = codes ".input_arrival" ∷ codes ".output_required" ∷ codes ".input_drive"
    ∷ codes ".output_load" ∷ codes ".max_input_load" ∷ []

-- orders, names and attributes
abbrev pub notes : List (List ℕ)
notes = codes ".latch_order" ∷ codes ".cname" ∷ codes ".attr" ∷ codes ".param" ∷ []

-- commands that are skipped unread
unfoldable pub is_skipped : List ℕ → Bool
is_skipped word = list_any (bytes_eq word) wires || (list_any (bytes_eq word) defaults || (list_any
    (bytes_eq word) loads || list_any (bytes_eq word) notes))

-- what a line with this first word is
unfoldable pub head_of : List ℕ → Head
head_of word =
    if not (begins_dotted word) then Row
    else (if bytes_eq word (codes ".names") then Names
    else (if bytes_eq word (codes ".latch") then Latch
    else (if bytes_eq word (codes ".subckt") then Subckt
    else (if bytes_eq word (codes ".inputs") then Inputs
    else (if bytes_eq word (codes ".outputs") then Outputs
    else (if bytes_eq word (codes ".clock") then Clock
    else (if bytes_eq word (codes ".model") then Model
    else (if bytes_eq word (codes ".end") then End
    else (if is_skipped word then Skipped
    else Unknown)))))))))
