-- What a line without a fault says is well formed.
use Rattle.std.proofs.Common.{◌≡◌, ℕ, zero, suc, ◌-◌, ◌≤◌, Bool, true, false}
use Rattle.std.proofs.Common.{not, List, [], ◌∷◌, ◌++◌, map, length, take, drop, Option, None, Some}
use Rattle.std.proofs.Common.{sym, refl, subst, arith, inl, inr, ◌&&◌, ◌||◌, ◌==◌}
use Rattle.std.proofs.Common.{codes, lit≤}
use Rattle.std.specs.List.{All, AllByRecursion, list_all, list_any}
use Rattle.std.specs.Str.{bytes_eq}
use Rattle.std.proofs.lemmas.Bool.{cases_Bool, eqb-true, ltb-false}
use Rattle.std.proofs.lemmas.Slice.Eq.{bytes_eq-Decides}
use Rattle.std.proofs.lemmas.List.{length-take-le, length-drop}
use Rattle.std.proofs.lemmas.List.Elements.{All-from_recursion}
use Rattle.ds_lines.specs.First.{where_true}
use Rattle.ds_lines.specs.Words.{word_at}
use Rattle.ds_design.specs.Source.{IsPlaneByte, IsTableText, IsLatchText, IsUseText}
use Rattle.ds_blif.specs.Form.{is_plane_byte, is_row_form, is_init, has_bad_init}
use Rattle.ds_blif.specs.Form.{is_pair, formal_of, is_latch_form, is_level_latch, has_bad_pairs}
use Rattle.ds_blif.specs.Fault.{row_fault, names_fault, latch_fault}
use Rattle.ds_blif.specs.Fault.{subckt_fault, model_fault}
use Rattle.ds_blif.specs.Parts.{Parts, plane_of, table_of, digit_of, initial_of, latch_of, pair_of}
use Rattle.ds_blif.specs.Parts.{use_of}
use Rattle.ds_blif.specs.declared.fault.BlifKind.{BlifKind}
use Rattle.ds_blif.specs.declared.fault.BlifKind.TheVariants.{BadWords}
use Rattle.ds_blif.specs.declared.fault.BlifKind.TheVariants.{LevelLatch, BadInit, RepeatedModel}
use Rattle.ds_blif.proofs.Distinct.{AreNew, distinct_from_new}
use Rattle.ds_blif.proofs.NoFault.{first_none, rest_none, test_false, third_none}
use Rattle.ds_blif.proofs.NoFault.{not_false, and_left, and_right, or_cases, or_right}

-- a row has a character for each input
plane_byte : (byte : ℕ) → is_plane_byte byte ≡ true → IsPlaneByte byte
plane_byte byte is = elim (or_cases (byte == 48) ((byte == 49) || (byte == 45)) is) [
  | inl zero_byte ↦ inr (inl (eqb-true _ _ zero_byte))
  | inr others ↦ elim (or_cases (byte == 49) (byte == 45) others) [
    | inl one_byte ↦ inr (inr (eqb-true _ _ one_byte))
    | inr free_byte ↦ inl (eqb-true _ _ free_byte)
  ]
]

plane_bytes : (bytes : List ℕ) → list_all is_plane_byte bytes ≡ true
    → AllByRecursion IsPlaneByte bytes
plane_bytes [] all = tt
plane_bytes (byte ∷ bytes) all = (
  plane_byte byte (and_left (is_plane_byte byte) (list_all is_plane_byte bytes) all),
  plane_bytes bytes (and_right (is_plane_byte byte) (list_all is_plane_byte bytes) all),
)

-- a row for so many inputs
abbrev pub IsRowFor : ℕ → List ℕ → Type 0
IsRowFor width row = (length row ≡ width) × All IsPlaneByte row

plane_fits : (width : ℕ) (words : List (List ℕ)) → is_row_form width words ≡ true
    → IsRowFor width (plane_of words)
unfolding is_row_form
plane_fits zero words is =
    let one : (length words == 1) ≡ true = and_left _ _ is in
    rw one (refl, All-from_recursion IsPlaneByte [] tt)
plane_fits (suc width) words is =
    let some : (suc width == 0) ≡ false = grind arith in
    let form : ((length words == 2) && ((length (word_at words 0) == suc width)
    && (list_all is_plane_byte (word_at words 0) && _))) ≡ true = rw some at is in
    let two : length words ≡ 2 = eqb-true _ _ (and_left _ _ form) in
    let other : (length words == 1) ≡ false = rw two refl in
    let behind = and_right _ _ form in
    rw other (
      eqb-true _ _ (and_left _ _ behind),
      All-from_recursion IsPlaneByte (word_at words 0) (plane_bytes (word_at words 0)
          (and_left _ _ (and_right _ _ behind))),
    )

-- rows stand behind an open table, each with a character for each of its inputs
abbrev pub RowsFit : Option ℕ → List (List ℕ) → Type 0
RowsFit None rows = rows ≡ []
RowsFit (Some width) rows = AllByRecursion (IsRowFor width) rows

pub no_rows : (table : Option ℕ) → RowsFit table []
no_rows None = refl
no_rows (Some width) = tt

pub row_fits : (table : Option ℕ) (first : Option (List ℕ)) (words rows : List (List ℕ))
    → row_fault table first words ≡ None → RowsFit table rows
    → RowsFit table (plane_of words ∷ rows)
row_fits None first words rows is fit = absurd (cc)
row_fits (Some width) first words rows is fit = (
  plane_fits width words (not_false _ (test_false _ _ (first_none _ _ is))),
  fit,
)

-- a table has these rows
pub table_fits : (words : List (List ℕ)) (parts : Parts) → names_fault words ≡ None
    → RowsFit (Some (length words - 2)) parts.rows → IsTableText (table_of words parts)
table_fits words parts is fit =
    let two : 2 ≤ length words = ltb-false _ _ (test_false _ _ (first_none _ _ is)) in
    let behind : length (drop 1 words) ≡ length words - 1 = length-drop 1 words in
    let few : length words - 2 ≤ length (drop 1 words) = omega arith in
    let inputs : length (take (length words - 2) (drop 1 words)) ≡ length words - 2 =
    length-take-le (length words - 2) (drop 1 words) few in
    All-from_recursion _ parts.rows (subst (λ (n : ℕ). AllByRecursion (IsRowFor n) parts.rows)
    (sym inputs) fit)

-- an initial value is at most 3
digit_few : (word text : List ℕ) → bytes_eq word text ≡ true → digit_of text ≤ 3
    → digit_of word ≤ 3
digit_few word text same few = subst (λ (w : List ℕ). digit_of w ≤ 3)
    (sym ((bytes_eq-Decides word text).0 same)) few

init_few : (word : List ℕ) → is_init word ≡ true → digit_of word ≤ 3
init_few word is = elim (or_cases (bytes_eq word (codes "0")) _ is) [
  | inl same ↦ digit_few word (codes "0") same (lit≤ tt)
  | inr later ↦ elim (or_cases (bytes_eq word (codes "1")) _ later) [
    | inl same ↦ digit_few word (codes "1") same (lit≤ tt)
    | inr last ↦ elim (or_cases (bytes_eq word (codes "2")) _ last) [
      | inl same ↦ digit_few word (codes "2") same (lit≤ tt)
      | inr same ↦ digit_few word (codes "3") same (lit≤ tt)
    ]
  ]
]

initial_few : (words : List (List ℕ)) → has_bad_init words ≡ false → initial_of words ≤ 3
unfolding has_bad_init
initial_few words is = elim (cases_Bool (length words == 4)) [
  | inl four ↦ rw four (init_few (word_at words 3) (not_false _ (rw four at is)))
  | inr other ↦ elim (cases_Bool (length words == 6)) [
    | inl six ↦ rw (other, six) (init_few (word_at words 5) (not_false _ (rw (other, six) at is)))
    | inr neither ↦ rw (other, neither) (lit≤ tt)
  ]
]

pub latch_fits : (words : List (List ℕ)) → latch_fault words ≡ None → IsLatchText (latch_of words)
latch_fits words is = initial_few words (test_false (has_bad_init words) BadInit
    (third_none (where_true (not (is_latch_form words)) BadWords)
    (where_true (is_level_latch words) LevelLatch) (where_true (has_bad_init words) BadInit) is))

-- no formal of a use stands in it twice
pairs_new : (formals words : List (List ℕ)) → has_bad_pairs formals words ≡ false
    → AreNew (λ pair. pair.formal) formals (map pair_of words)
pairs_new formals [] is = tt
pairs_new formals (word ∷ words) is = elim (cases_Bool (is_pair word)) [
  | inl pair ↦ elim (cases_Bool (list_any (bytes_eq (formal_of word)) formals)) [
    | inl twice ↦ absurd (let h = rw (pair, twice) at is in cc)
    | inr once ↦ (once, pairs_new (formals ++ formal_of word ∷ []) words (rw (pair, once) at is))
  ]
  | inr none ↦ absurd (let h = rw none at is in cc)
]

pub use_fits : (words : List (List ℕ)) → subckt_fault words ≡ None → IsUseText (use_of words)
use_fits words is = distinct_from_new (λ pair. pair.formal) [] (map pair_of (drop 2 words))
    (pairs_new [] (drop 2 words) (or_right _ _ (test_false _ _ is)))

-- a model's name is none of those before it
pub name_new : (models words : List (List ℕ)) → model_fault models words ≡ None
    → list_any (bytes_eq (word_at words 1)) models ≡ false
name_new models words is =
    let kind : BlifKind = RepeatedModel (word_at words 1) in
    let test : Bool = list_any (bytes_eq (word_at words 1)) models in
    test_false test kind (first_none (where_true test kind) []
    (rest_none (where_true (not (length words == 2)) BadWords) (where_true test kind ∷ []) is))
