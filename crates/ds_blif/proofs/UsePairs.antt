-- The pairs of a use, word by word.
use Rattle.std.proofs.Common.{◌≡◌, ◌∙◌, ℕ, ◌+◌, ◌<◌, Bool, true, false, not, if◌then◌else◌}
use Rattle.std.proofs.Common.{List, [], ◌∷◌, ◌++◌, length, map, take, drop, get_or, Bor, ap, refl, sym}
use Rattle.std.specs.List.{list_any}
use Rattle.std.specs.Str.{bytes_eq}
use Rattle.std.proofs.lemmas.Bool.{not-true, not-false}
use Rattle.std.proofs.lemmas.List.{drop_more, take_more, map-append}
use Rattle.ds_lines.specs.Words.{texts}
use Rattle.ds_lines.specs.Names.{has_name, with_name}
use Rattle.ds_design.specs.declared.blif.Pair.{Pair}
use Rattle.ds_blif.specs.Form.{is_pair, formal_of, has_bad_pairs}
use Rattle.ds_blif.specs.Parts.{pair_of}

-- a reference to no word, in place of one past the end
abbrev pub to_none : Bor (List ℕ)
to_none = record { ref_ptr = (0, 0); now = [] }

-- the word at a place
abbrev pub text_at : List (Bor (List ℕ)) → ℕ → List ℕ
text_at words i = (get_or words i to_none).now

-- is the first of those from there on
here : (words : List (Bor (List ℕ))) (i : ℕ) → i < length words
    → texts (drop i words) ≡ text_at words i ∷ texts (drop (i + 1) words)
here words i less = ap texts (drop_more words i to_none less)

bad_first : (formals words : List (List ℕ)) (word : List ℕ) → is_pair word ≡ false
    → has_bad_pairs formals (word ∷ words) ≡ true
bad_first formals words word none = rw none refl

bad_twice : (formals words : List (List ℕ)) (word : List ℕ) → is_pair word ≡ true
    → list_any (bytes_eq (formal_of word)) formals ≡ true
    → has_bad_pairs formals (word ∷ words) ≡ true
bad_twice formals words word pair twice = rw (pair, twice) refl

good_first : (formals words : List (List ℕ)) (word : List ℕ) → is_pair word ≡ true
    → list_any (bytes_eq (formal_of word)) formals ≡ false → has_bad_pairs formals (word ∷ words)
    ≡ has_bad_pairs (formals ++ formal_of word ∷ []) words
good_first formals words word pair once = rw (pair, once) refl

-- a word that is no pair
pub pairs_not : (formals : List (List ℕ)) (words : List (Bor (List ℕ))) (i : ℕ)
    → i < length words → is_pair (text_at words i) ≡ false
    → has_bad_pairs formals (texts (drop i words)) ≡ true
pairs_not formals words i less none = ap (has_bad_pairs formals) (here words i less)
    ∙ bad_first formals (texts (drop (i + 1) words)) (text_at words i) none

-- a pair with a formal of before
pub pairs_twice : (formals : List (List ℕ)) (words : List (Bor (List ℕ))) (i : ℕ)
    (formal : List ℕ) (added : Bool) → i < length words → is_pair (text_at words i) ≡ true
    → formal ≡ formal_of (text_at words i)
    → added ≡ not (has_name formals formal) → added ≡ false
    → has_bad_pairs formals (texts (drop i words)) ≡ true
pairs_twice formals words i formal added less pair cut told repeated =
    let twice : list_any (bytes_eq (formal_of (text_at words i))) formals ≡ true =
    ap (has_name formals) (sym cut) ∙ not-false (has_name formals formal) (sym told ∙ repeated) in
    ap (has_bad_pairs formals) (here words i less)
    ∙ bad_twice formals (texts (drop (i + 1) words)) (text_at words i) pair twice

-- a pair with a new formal
pub pairs_more : (formals more : List (List ℕ)) (words : List (Bor (List ℕ))) (i : ℕ)
    (formal : List ℕ) (added : Bool) → i < length words → is_pair (text_at words i) ≡ true
    → formal ≡ formal_of (text_at words i)
    → added ≡ not (has_name formals formal) → added ≡ true → more ≡ with_name formals formal
    → has_bad_pairs more (texts (drop (i + 1) words))
    ≡ has_bad_pairs formals (texts (drop i words))
pairs_more formals more words i formal added less pair cut told fresh more_is =
    let none : has_name formals formal ≡ false =
    not-true (has_name formals formal) (sym told ∙ fresh) in
    let once : list_any (bytes_eq (formal_of (text_at words i))) formals ≡ false =
    ap (has_name formals) (sym cut) ∙ none in
    let names : more ≡ formals ++ formal_of (text_at words i) ∷ [] = more_is
    ∙ (ap (λ (b : Bool). if b then formals else formals ++ formal ∷ []) none
    ∙ ap (λ (name : List ℕ). formals ++ name ∷ []) cut) in
    ap (λ (names : List (List ℕ)). has_bad_pairs names (texts (drop (i + 1) words))) names
    ∙ sym (ap (has_bad_pairs formals) (here words i less)
    ∙ good_first formals (texts (drop (i + 1) words)) (text_at words i) pair once)

-- one pair more
pub listed_more : (words : List (Bor (List ℕ))) (i : ℕ) (pair : Pair) (old more : List Pair)
    → i < length words → pair ≡ pair_of (text_at words i)
    → old ≡ map pair_of (texts (take i words)) → more ≡ old ++ pair ∷ []
    → more ≡ map pair_of (texts (take (i + 1) words))
listed_more words i pair old more less pair_is so_far more_is =
    let word : Bor (List ℕ) = get_or words i to_none in
    let whole : map pair_of (texts (take i words ++ word ∷ []))
    ≡ map pair_of (texts (take i words)) ++ pair_of word.now ∷ [] =
    ap (map pair_of) (map-append (λ (w : Bor (List ℕ)). w.now) (take i words) (word ∷ []))
    ∙ map-append pair_of (texts (take i words)) (word.now ∷ []) in
    more_is ∙ (ap (λ (p : Pair). old ++ p ∷ []) pair_is
    ∙ (ap (λ (ps : List Pair). ps ++ pair_of word.now ∷ []) so_far
    ∙ sym (ap (λ (ws : List (Bor (List ℕ))). map pair_of (texts ws)) (take_more words i to_none less)
    ∙ whole)))
