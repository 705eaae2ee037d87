-- The fault of a line, after the lines before it.
use Rattle.std.specs.Prelude.{ℕ, Bool, false, not, List, [], ◌∷◌, drop, length, Option, None, ◌+◌}
use Rattle.std.specs.Prelude.{Some, ◌==◌, ◌||◌, if◌then◌else◌, nat_lt, is_some}
use Rattle.std.specs.List.{list_any}
use Rattle.std.specs.Str.{bytes_eq}
use Rattle.ds_lines.specs.First.{where_true, first_of}
use Rattle.ds_lines.specs.Words.{word_at}
use Rattle.ds_base.specs.Limit.{most_of}
use Rattle.ds_base.specs.declared.number.Limit.TheVariants.{TableInputs}
use Rattle.ds_blif.specs.Form.{is_row_form, output_of, is_latch_form, is_level_latch, has_bad_init}
use Rattle.ds_blif.specs.Form.{has_bad_pairs}
use Rattle.ds_blif.specs.declared.fault.BlifKind.{BlifKind}
use Rattle.ds_blif.specs.declared.fault.BlifKind.TheVariants.{RowWithoutTable}
use Rattle.ds_blif.specs.declared.fault.BlifKind.TheVariants.{BadWords, TooMany, LevelLatch}
use Rattle.ds_blif.specs.declared.fault.BlifKind.TheVariants.{BadInit}
use Rattle.ds_blif.specs.declared.fault.BlifKind.TheVariants.{RepeatedModel, BadRow, MixedRows}

-- there was another word
abbrev pub differs : Option (List ℕ) → List ℕ → Bool
differs None word = false
differs (Some other) word = not (bytes_eq other word)

-- a row for the table before it
abbrev pub is_row_of : Option ℕ → List (List ℕ) → Bool
is_row_of None words = false
is_row_of (Some width) words = is_row_form width words

-- the fault of a row, by the inputs of the table before it and the output of the table's first row
abbrev pub row_fault : Option ℕ → Option (List ℕ) → List (List ℕ) → Option BlifKind
row_fault table first words = first_of (
    where_true (not (is_some table)) RowWithoutTable
    ∷ where_true (not (is_row_of table words)) BadRow
    ∷ where_true (differs first (output_of words)) MixedRows
    ∷ [])

-- the fault of a latch
abbrev pub latch_fault : List (List ℕ) → Option BlifKind
latch_fault words = first_of (
    where_true (not (is_latch_form words)) BadWords
    ∷ where_true (is_level_latch words) LevelLatch
    ∷ where_true (has_bad_init words) BadInit
    ∷ [])

-- the head of a table has more inputs than there may be, beside the command and the output
abbrev pub has_too_many_inputs : List (List ℕ) → Bool
has_too_many_inputs words = nat_lt (most_of TableInputs + 2) (length words)

-- the fault of a table's head
abbrev pub names_fault : List (List ℕ) → Option BlifKind
names_fault words = first_of (
    where_true (nat_lt (length words) 2) BadWords
    ∷ where_true (has_too_many_inputs words) (TooMany TableInputs)
    ∷ [])

-- the fault of a use of a model
abbrev pub subckt_fault : List (List ℕ) → Option BlifKind
subckt_fault words = where_true (nat_lt (length words) 2 || has_bad_pairs []
    (drop 2 words)) BadWords

-- the fault of a model's head, by the names of the models before it
abbrev pub model_fault : List (List ℕ) → List (List ℕ) → Option BlifKind
model_fault models words = first_of (
    where_true (not (length words == 2)) BadWords
    ∷ where_true (list_any (bytes_eq (word_at words 1)) models) (RepeatedModel (word_at words 1))
    ∷ [])
