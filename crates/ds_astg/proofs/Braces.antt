-- Words between braces.
use Rattle.std.proofs.Common.{◌≡◌, ℕ, ◌-◌, List, length, drop, slice_set, Some, refl, sym, ◌∙◌, ap, Bor}
use Rattle.std.proofs.lemmas.List.{map-set, length-map}
use Rattle.ds_lines.specs.Words.{texts, word_at}
use Rattle.ds_astg.specs.Word.{first_byte, last_byte, without_last}
use Rattle.ds_astg.specs.Marking.{closed, entries_of, last_word}

texts-set : (words : List (Bor (List ℕ))) (k : ℕ) (word : Bor (List ℕ)) → texts (slice_set words k word) ≡ slice_set (texts words) k word.now
texts-set words k word = map-set (λ (w : Bor (List ℕ)). w.now) words k word

count : (words : List (Bor (List ℕ))) → length (texts words) ≡ length words
count words = length-map words (λ (w : Bor (List ℕ)). w.now)

pub closed_some : (words seen : List (Bor (List ℕ))) (n : ℕ) (word : Bor (List ℕ)) (last : List ℕ) → n ≡ length words → seen ≡ words
    → last ≡ word_at (texts seen) (n - 1) → last_byte last ≡ 125 → word.now ≡ without_last last
    → Some (texts (slice_set words (n - 1) word)) ≡ closed (texts words)
closed_some words seen n word last size same is brace cut =
    let here : last_word (texts words) ≡ last = ap (λ (k : ℕ). word_at (texts words) (k - 1)) (count words ∙ sym size)
    ∙ (ap (λ (ws : List (Bor (List ℕ))). word_at (texts ws) (n - 1)) (sym same) ∙ sym is) in
    let set_is : texts (slice_set words (n - 1) word) ≡ slice_set (texts words) (length (texts words) - 1) (without_last last) =
    texts-set words (n - 1) word ∙ (ap (λ (w : List ℕ). slice_set (texts words) (n - 1) w) cut
    ∙ ap (λ (k : ℕ). slice_set (texts words) (k - 1) (without_last last)) (size ∙ sym (count words))) in
    ap (λ (ws : List (List ℕ)). Some ws) set_is ∙ rw here (rw brace refl)

pub opened : (words copied : List (Bor (List ℕ))) (word : Bor (List ℕ)) (first : List ℕ) → copied ≡ words → first ≡ word_at (texts words) 0
    → first_byte first ≡ 123 → word.now ≡ drop 1 first
    → closed (texts (slice_set copied 0 word)) ≡ entries_of (texts words)
opened words copied word first same is brace cut = rw (same, texts-set words 0 word, cut, is) (rw (sym is) (rw brace refl))
