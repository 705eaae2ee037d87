-- The forms of rows and latches, case by case, for the functions that decide them.
use Rattle.std.proofs.Common.{◌≡◌, ◌∙◌, ℕ, ◌<◌, Bool, true, false, not, ◌&&◌, ◌||◌, ◌==◌}
use Rattle.std.proofs.Common.{List, length, Bor, ap, refl, sym, arith, inl, inr}
use Rattle.std.specs.List.{list_all}
use Rattle.std.proofs.lemmas.Bool.{cases_Bool, eqb-false, eq-eqb, ne_eqb, lt-ltb, le-ltb, or_left}
use Rattle.std.proofs.lemmas.List.{length-map}
use Rattle.ds_lines.specs.Words.{texts, word_at}
use Rattle.ds_blif.specs.Form.{is_edge, is_level, is_init, is_latch_form, is_level_latch}
use Rattle.ds_blif.specs.Form.{has_bad_init, is_row_form, is_output, is_plane_byte}

-- as many texts as words
pub count : (words : List (Bor (List ℕ))) → length (texts words) ≡ length words
count words = length-map words (λ (w : Bor (List ℕ)). w.now)

-- a latch of three or four words
pub latch_short : (words : List (List ℕ)) → 2 < length words → length words < 5
    → true ≡ is_latch_form words
unfolding is_latch_form
latch_short words more less = elim (cases_Bool (length words == 3)) [
  | inl three ↦ rw three refl
  | inr other ↦ (
      let four : length words ≡ 4 = omega (arith, eqb-false (length words) 3 other) in
      rw (other, eq-eqb (length words) 4 four) refl)
]

-- a latch of five or six words has a type
latch_typed : (words : List (List ℕ)) → 4 < length words → length words < 7
    → is_latch_form words ≡ (is_edge (word_at words 3) || is_level (word_at words 3))
unfolding is_latch_form
latch_typed words more less =
    let three : (length words == 3) ≡ false = ne_eqb (length words) 3 (λ e. absurd (omega arith)) in
    let four : (length words == 4) ≡ false = ne_eqb (length words) 4 (λ e. absurd (omega arith)) in
    elim (cases_Bool (length words == 5)) [
      | inl five ↦ rw (three, four, five) refl
      | inr other ↦ (
          let six : length words ≡ 6 = omega (arith, eqb-false (length words) 5 other) in
          rw (three, four, other, eq-eqb (length words) 6 six) refl)
    ]

pub latch_edge : (words : List (List ℕ)) (word : List ℕ) (test : Bool) → 4 < length words
    → length words < 7 → word ≡ word_at words 3 → test ≡ is_edge word → test ≡ true
    → test ≡ is_latch_form words
latch_edge words word test more less here is edged =
    let edge : is_edge (word_at words 3) ≡ true = sym (ap is_edge here) ∙ (sym is ∙ edged) in
    edged ∙ sym (latch_typed words more less ∙ or_left _ (is_level (word_at words 3)) edge)

pub latch_level : (words : List (List ℕ)) (word other : List ℕ) (edge level : Bool)
    → 4 < length words → length words < 7 → word ≡ word_at words 3 → edge ≡ is_edge word
    → edge ≡ false → other ≡ word_at words 3 → level ≡ is_level other
    → level ≡ is_latch_form words
latch_level words word other edge level more less here is other_type there level_is =
    let none : is_edge (word_at words 3) ≡ false = sym (ap is_edge here) ∙ (sym is ∙ other_type) in
    level_is ∙ (ap is_level there
    ∙ sym (latch_typed words more less ∙ ap (λ (b : Bool). b || is_level (word_at words 3)) none))

-- any other number of words is no latch
pub latch_none : (words : List (List ℕ)) → (length words ≡ 3 → ⊥) → (length words ≡ 4 → ⊥)
    → (length words ≡ 5 → ⊥) → (length words ≡ 6 → ⊥) → false ≡ is_latch_form words
unfolding is_latch_form
latch_none words three four five six = rw (
  ne_eqb (length words) 3 three,
  ne_eqb (length words) 4 four,
  ne_eqb (length words) 5 five,
  ne_eqb (length words) 6 six,
) refl

-- a type that is not edge-triggered stands in the fourth of at least five words
pub level_there : (words : List (List ℕ)) (word : List ℕ) (test : Bool) → 4 < length words
    → word ≡ word_at words 3 → test ≡ is_level word → test ≡ is_level_latch words
unfolding is_level_latch
level_there words word test more here is = is ∙ (ap is_level here
    ∙ sym (ap (λ (b : Bool). b && is_level (word_at words 3)) (lt-ltb 4 (length words) more)))

pub level_none : (words : List (List ℕ)) (test : Bool) → length words < 5 → test ≡ false
    → test ≡ is_level_latch words
unfolding is_level_latch
level_none words test less none = none
    ∙ sym (ap (λ (b : Bool). b && is_level (word_at words 3)) (le-ltb 4 (length words) (omega arith)))

-- an initial value stands at the end of four words or of six
pub init_fourth : (words : List (List ℕ)) (word : List ℕ) (test : Bool) → length words ≡ 4
    → word ≡ word_at words 3 → test ≡ is_init word → not test ≡ has_bad_init words
unfolding has_bad_init
init_fourth words word test four here is =
    let bad : has_bad_init words ≡ not (is_init (word_at words 3)) =
    rw (eq-eqb (length words) 4 four) refl in ap not (is ∙ ap is_init here) ∙ sym bad

pub init_sixth : (words : List (List ℕ)) (word : List ℕ) (test : Bool) → length words ≡ 6
    → word ≡ word_at words 5 → test ≡ is_init word → not test ≡ has_bad_init words
unfolding has_bad_init
init_sixth words word test six here is =
    let four : (length words == 4) ≡ false = ne_eqb (length words) 4 (λ e. absurd (omega arith)) in
    let bad : has_bad_init words ≡ not (is_init (word_at words 5)) =
    rw (four, eq-eqb (length words) 6 six) refl in ap not (is ∙ ap is_init here) ∙ sym bad

pub init_none : (words : List (List ℕ)) → (length words ≡ 4 → ⊥) → (length words ≡ 6 → ⊥)
    → false ≡ has_bad_init words
unfolding has_bad_init
init_none words four six = rw (ne_eqb (length words) 4 four, ne_eqb (length words) 6 six) refl

-- a row of a table without inputs
pub row_output : (width : ℕ) (words : List (List ℕ)) (word : List ℕ) (test : Bool) → width ≡ 0
    → length words ≡ 1 → word ≡ word_at words 0 → test ≡ is_output word
    → test ≡ is_row_form width words
unfolding is_row_form
row_output width words word test none one here is =
    let row : is_row_form width words ≡ is_output (word_at words 0) =
    rw (eq-eqb width 0 none, eq-eqb (length words) 1 one) refl in is ∙ (ap is_output here ∙ sym row)

pub row_none : (width : ℕ) (words : List (List ℕ)) (test : Bool) → width ≡ 0
    → (length words ≡ 1 → ⊥) → test ≡ false → test ≡ is_row_form width words
unfolding is_row_form
row_none width words test none other not_one =
    not_one ∙ rw (eq-eqb width 0 none, ne_eqb (length words) 1 other) refl

-- a row of a table with inputs: its first word has one character for each, its second is the output
pub row_plane : (width : ℕ) (words : List (List ℕ)) (output : List ℕ) (test : Bool)
    → (width ≡ 0 → ⊥) → length words ≡ 2 → (length (word_at words 0) == width) ≡ true
    → list_all is_plane_byte (word_at words 0) ≡ true → output ≡ word_at words 1
    → test ≡ is_output output → test ≡ is_row_form width words
unfolding is_row_form
row_plane width words output test some two long all there is =
    let row : is_row_form width words ≡ is_output (word_at words 1) = rw (
      ne_eqb width 0 some,
      eq-eqb (length words) 2 two,
      long,
      all,
    ) refl in is ∙ (ap is_output there ∙ sym row)

-- and what is no such row
pub row_few : (width : ℕ) (words : List (List ℕ)) → (width ≡ 0 → ⊥) → (length words ≡ 2 → ⊥)
    → false ≡ is_row_form width words
unfolding is_row_form
row_few width words some other = rw (ne_eqb width 0 some, ne_eqb (length words) 2 other) refl

pub row_narrow : (width : ℕ) (words : List (List ℕ)) → (width ≡ 0 → ⊥) → length words ≡ 2
    → (length (word_at words 0) == width) ≡ false → false ≡ is_row_form width words
unfolding is_row_form
row_narrow width words some two narrow =
    rw (ne_eqb width 0 some, eq-eqb (length words) 2 two, narrow) refl

pub row_wild : (width : ℕ) (words : List (List ℕ)) → (width ≡ 0 → ⊥) → length words ≡ 2
    → (length (word_at words 0) == width) ≡ true
    → list_all is_plane_byte (word_at words 0) ≡ false → false ≡ is_row_form width words
unfolding is_row_form
row_wild width words some two long wild =
    rw (ne_eqb width 0 some, eq-eqb (length words) 2 two, long, wild) refl
