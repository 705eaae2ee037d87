-- The fault of a line as the format lists the kinds, in one order for all lines.
use Rattle.std.specs.Prelude.{ℕ, Bool, true, false, not, List, [], ◌∷◌, drop, length, Option, ◌==◌}
use Rattle.std.specs.Prelude.{◌&&◌, ◌||◌, nat_lt, is_some}
use Rattle.std.specs.List.{list_any}
use Rattle.std.specs.Str.{bytes_eq}
use Rattle.ds_lines.specs.First.{where_true, first_of}
use Rattle.ds_lines.specs.Words.{word_at}
use Rattle.ds_base.specs.declared.number.Limit.TheVariants.{TableInputs}
use Rattle.ds_blif.specs.Form.{output_of, is_latch_form, is_level_latch, has_bad_init}
use Rattle.ds_blif.specs.Form.{has_bad_pairs}
use Rattle.ds_blif.specs.Fault.{differs, is_row_of, has_too_many_inputs}
use Rattle.ds_blif.specs.State.{State, is_unknown, wants_model}
use Rattle.ds_blif.specs.declared.head.Head.{Head}
use Rattle.ds_blif.specs.declared.head.Head.TheVariants.{Row, Names, Model, Latch, Subckt}
use Rattle.ds_blif.specs.declared.fault.BlifKind.{BlifKind}
use Rattle.ds_blif.specs.declared.fault.BlifKind.TheVariants.{Unsupported, NoModel, RowWithoutTable}
use Rattle.ds_blif.specs.declared.fault.BlifKind.TheVariants.{BadWords, TooMany, LevelLatch}
use Rattle.ds_blif.specs.declared.fault.BlifKind.TheVariants.{BadInit}
use Rattle.ds_blif.specs.declared.fault.BlifKind.TheVariants.{RepeatedModel, BadRow, MixedRows}

-- a row
abbrev pub is_row : Head → Bool
is_row Row = true
is_row head = false

-- a table's head
abbrev pub is_names : Head → Bool
is_names Names = true
is_names head = false

-- a model's head
abbrev pub is_model : Head → Bool
is_model Model = true
is_model head = false

-- a latch
abbrev pub is_latch : Head → Bool
is_latch Latch = true
is_latch head = false

-- a command with a wrong number of words, or with a word that is none of its own
abbrev pub has_bad_words : Head → List (List ℕ) → Bool
has_bad_words Model words = not (length words == 2)
has_bad_words Names words = nat_lt (length words) 2
has_bad_words Latch words = not (is_latch_form words)
has_bad_words Subckt words = nat_lt (length words) 2 || has_bad_pairs [] (drop 2 words)
has_bad_words head words = false

-- the first kind that holds, in the order of the format
abbrev pub fault_in_order : Head → State → List (List ℕ) → Option BlifKind
fault_in_order head state words = first_of (
    where_true (is_unknown head) (Unsupported (word_at words 0))
    ∷ where_true (wants_model head && not state.is_open) NoModel
    ∷ where_true (is_row head && not (is_some state.table)) RowWithoutTable
    ∷ where_true (has_bad_words head words) BadWords
    ∷ where_true (is_names head && has_too_many_inputs words) (TooMany TableInputs)
    ∷ where_true (is_latch head && is_level_latch words) LevelLatch
    ∷ where_true (is_latch head && has_bad_init words) BadInit
    ∷ where_true (is_model head && list_any (bytes_eq (word_at words 1)) state.models)
    (RepeatedModel (word_at words 1))
    ∷ where_true (is_row head && not (is_row_of state.table words)) BadRow
    ∷ where_true (is_row head && differs state.first (output_of words)) MixedRows
    ∷ [])
