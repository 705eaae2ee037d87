-- The steps through a text's first line.
use Rattle.std.proofs.Common.{◌≡◌, ℕ, suc, ◌+◌, ◌-◌, ◌<◌, ◌≤◌, true, false, List, [], ◌∷◌, ◌++◌}
use Rattle.std.proofs.Common.{length, take, drop, get_or, map, refl, sym, ap, ◌∙◌, arith, append_assoc}
use Rattle.std.proofs.Common.{length-drop, Bor, ◌||◌, inl, inr}
use Rattle.std.specs.List.{before_first, position_or_len, list_any}
use Rattle.std.proofs.lemmas.Bool.{cases_Bool, false≢true}
use Rattle.std.proofs.lemmas.List.{drop-drop, drop_more, take_rest, take_all, take-take, map-append}
use Rattle.std.proofs.lemmas.List.{take-append-le, take-map, length-map, length-take-le, length-append}
use Rattle.ds_lines.specs.Line.{words_of, is_blank, is_end, is_backslash}
use Rattle.ds_lines.specs.Line.{kept_len, trimmed}
use Rattle.ds_lines.specs.Draft.{is_stop, ends_word}
use Rattle.ds_lines.proofs.FirstLine.{position_le, first_take}
use Rattle.ds_lines.proofs.FirstLineWords.{words_of-blank, words_of-take, words_of-first, first-more, stop_behind}

-- one step over a blank
pub blank_stop : (text : List ℕ) (place d : ℕ) → place < length text → is_stop (get_or text place d)
    ≡ false → position_or_len is_stop (drop place text) ≡ 1 + position_or_len is_stop
    (drop (place + 1) text)
blank_stop text place d less on = rw (drop_more text place d less, on) refl

pub blank_words : (text : List ℕ) (place d : ℕ) → place < length text → is_stop
    (get_or text place d) ≡ false → is_blank (get_or text place d) ≡ true
    → words_of (before_first is_stop (drop place text)) ≡ words_of (before_first is_stop
    (drop (place + 1) text))
blank_words text place d less on blank =
    let rest : List ℕ = drop (place + 1) text in
    ap (λ (l : List ℕ). words_of (before_first is_stop l)) (drop_more text place d less)
    ∙ (ap words_of (first-more (get_or text place d) rest on)
    ∙ words_of-blank (get_or text place d) (before_first is_stop rest) blank)

-- one byte more at the end, which is no `\`
pub words_less : (line : List ℕ) (kept : ℕ) → 0 < kept → kept ≤ length line
    → is_end (get_or line (kept - 1) 0) ≡ true → is_backslash (get_or line (kept - 1) 0) ≡ false
    → words_of (take (kept - 1) line) ≡ words_of (take kept line)
words_less line kept some within ends other =
    let byte : ℕ = get_or line (kept - 1) 0 in
    let e : kept ≡ suc (kept - 1) = omega arith in
    let less : kept - 1 < length line = omega arith in
    let blank : is_blank byte ≡ true = elim (cases_Bool (is_blank byte)) [
      | inl here ↦ here
      | inr not_here ↦ absurd (let none : is_end byte ≡ false = rw (not_here, other) refl in
          false≢true (sym none ∙ ends))
    ] in
    sym (ap (λ (k : ℕ). words_of (take k line)) e ∙ words_of-take line
    (kept - 1) 0 less blank)

pub backslash_more : (line : List ℕ) (kept : ℕ) → 0 < kept → kept ≤ length line
    → list_any is_backslash (drop (kept - 1) line) ≡ (is_backslash (get_or line (kept - 1) 0) ||
    list_any is_backslash (drop kept line))
backslash_more line kept some within =
    let less : kept - 1 < length line = omega arith in
    let e : kept - 1 + 1 ≡ kept = omega arith in
    ap (list_any is_backslash) (drop_more line (kept - 1) 0 less ∙ ap (λ (k : ℕ). get_or line
    (kept - 1) 0 ∷ drop k line) e)

-- a word that stands at a place
pub record WordAt (text : List ℕ) (place n : ℕ) : Type 0 where
  pub within : place + n ≤ length text
  pub some : 0 < n
  pub stop : position_or_len is_stop (drop place text) ≡ n + position_or_len is_stop
      (drop (place + n) text)
  pub words : words_of (before_first is_stop (drop place text)) ≡ take n (drop place text)
      ∷ words_of (before_first is_stop (drop (place + n) text))

pub word_at : (text : List ℕ) (place n d : ℕ) → place < length text → is_stop (get_or text place d)
    ≡ false → is_blank (get_or text place d) ≡ false → n ≡ position_or_len ends_word
    (take (length text - place) (drop place text)) → WordAt text place n
word_at text place n d less on other is =
    let here : n ≡ position_or_len ends_word (drop place text) = is
    ∙ ap (position_or_len ends_word) (take_rest text place) in
    let ends : ends_word (get_or text place d) ≡ false = rw (other, on) refl in
    let some : position_or_len ends_word (drop place text) ≡ 1 + position_or_len ends_word
    (drop (place + 1) text) = rw (drop_more text place d less, ends) refl in
    let few = position_le ends_word (drop place text) in
    let left : length (drop place text) ≡ length text - place = rw length-drop refl in
    let more : 0 < n = omega arith in
    let at : drop n (drop place text) ≡ drop (place + n) text = drop-drop n place text in
    record {
      within = omega arith;
      some = more;
      stop = stop_behind (drop place text) ∙ rw (← here, at) refl;
      words = words_of-first (drop place text) n here more
          ∙ ap (λ (l : List ℕ). take n (drop place text) ∷ words_of (before_first is_stop l)) at;
    }

-- a word behind others
pub pushed : (items all : List (Bor (List ℕ))) (word : Bor (List ℕ)) (left next : List (List ℕ))
    (whole : List (List ℕ))
    → all ≡ items ++ word ∷ [] → left ≡ word.now ∷ next
    → map {B = List ℕ} (λ w. w.now) items ++ left ≡ whole → map {B = List ℕ} (λ w. w.now) all
    ++ next ≡ whole
pushed items all word left next whole is at before =
    rw (is, map-append) (append_assoc (map {B = List ℕ} (λ w. w.now) items) (word.now ∷ []) next
    ∙ (ap (λ (ws : List (List ℕ)). map {B = List ℕ} (λ w. w.now) items ++ ws) (sym at) ∙ before))

pub one_more : (items all : List (Bor (List ℕ))) (word : Bor (List ℕ)) → all ≡ items ++ word ∷ [] → length all ≡ length items + 1
one_more items all word is = ap length is ∙ length-append items (word ∷ [])

-- what was there before words were added
pub truncated : (old one two : List (Bor (List ℕ))) (words : List (List ℕ)) (count : ℕ)
    → map {B = List ℕ} (λ w. w.now) one ≡ map {B = List ℕ} (λ w. w.now) old ++ words → count
    ≡ length old → two ≡ take count one
    → map {B = List ℕ} (λ w. w.now) two ≡ map {B = List ℕ} (λ w. w.now) old
truncated old one two words count added is cut =
    let before : List (List ℕ) = map {B = List ℕ} (λ w. w.now) old in
    let same : length before ≡ length old = length-map old (λ w. w.now) in
    let less : count ≤ length before = omega arith in
    let all : length before ≤ count = omega arith in
    rw cut (sym (take-map {Y = List ℕ} (λ w. w.now) count one) ∙ (ap (take count) added
    ∙ (take-append-le count before words less ∙ take_all count before all)))

-- the first line again, without the blanks and `\` at its end
pub trimmed_again : (text : List ℕ) (place kept : ℕ) → place ≡ position_or_len is_stop text → kept
    ≡ kept_len (take place text) → before_first is_stop (take kept text) ≡ trimmed
    (before_first is_stop text)
trimmed_again text place kept at is =
    let few : place ≤ length text = (let less = position_le is_stop text in omega arith) in
    let whole : length (take place text) ≡ place = length-take-le place text few in
    let less : kept ≤ place = omega arith in
    let within : kept ≤ position_or_len is_stop text = omega arith in
    first_take text kept within ∙ (sym (take-take kept place text less)
    ∙ (ap (λ (n : ℕ). take n (take place text)) is
    ∙ ap (λ (n : ℕ). trimmed (take n text)) at))
