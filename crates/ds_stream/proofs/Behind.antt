-- Behind the vectors that were given a stream goes on with the rest of the text.
use Rattle.std.proofs.Common.{◌≡◌, ◌∙◌, ℕ, zero, suc, ◌+◌, ◌≤◌, List, [], ◌∷◌, ◌++◌, Option, None, length, drop, refl, ap, sym, subst, arith, inl, inr}
use Rattle.std.specs.Prelude.{nat_lt}
use Rattle.std.proofs.lemmas.Bool.{cases_Bool}
use Rattle.ds_lines.specs.Line.{is_newline, is_some, joins, words_in}
use Rattle.ds_stream.specs.Bounded.{fault_under}
use Rattle.ds_stream.specs.Stream.{Behind, FitsText, Placed, Shown, RowWindow, beginning, first_window, longest, next_window, placed_behind, placed_in, placed_lines, placed_of, window}
use Rattle.std.proofs.lemmas.List.{length-append}
use Rattle.ds_stream.specs.StreamLaws.{goes_on_from, goes_on_with}
use Rattle.ds_stream.specs.declared.fault.NextFault.{NextFault}
use Rattle.ds_stream.proofs.WindowLaws.{cases_Option, whole-goes_on, window-add, window-fewer}

-- where a list begins with an element, one place more leaves what is behind it
drop-next : (n : ℕ) (whole : List ℕ) (byte : ℕ) (text : List ℕ) → drop n whole ≡ byte ∷ text → drop (n + 1) whole ≡ text
drop-next zero whole byte text is = ap (λ (l : List ℕ). drop 1 l) is
drop-next (suc n) [] byte text is = cc
drop-next (suc n) (b ∷ whole) byte text is = ap (λ (k : ℕ). drop k (b ∷ whole)) (let e : suc n + 1 ≡ suc (n + 1) = omega arith in e) ∙ drop-next n whole byte text is

no_words : words_in [] ≡ []
unfolding words_in
no_words = refl

-- where the first line ends
abbrev behind_or : Behind → List Placed → Behind
behind_or b [] = b
behind_or b (p ∷ ps) = p.behind

-- behind the end there is no line
nothing_behind : (b : Behind) → [] ≡ placed_behind b []
nothing_behind b = sym (ap (λ (words : List (List ℕ)). placed_of (b.lines + 1) words (record { place = b.place; lines = b.lines + 1 })) no_words)

-- behind a line the lines are those of the rest of the text
placed_next : (whole : List ℕ) (first : ℕ) (words : List (List ℕ)) (line : List ℕ) (place lines : ℕ) (text : List ℕ) (p : Placed) (ps : List Placed)
    → drop place whole ≡ text → placed_in first words line place lines text ≡ p ∷ ps → ps ≡ placed_behind p.behind (drop p.behind.place whole)
placed_next whole first words line place lines [] p ps is next = elim (cases_Bool (is_some (words ++ words_in line))) [
  | inr none ↦ absurd (let e : [] ≡ p ∷ ps = rw none at next in cc)
  | inl some ↦ (
      let b : Behind = record { place = place; lines = lines + 1 } in
      let e : (record { line = record { number = first; words = words ++ words_in line }; behind = b } ∷ []) ≡ p ∷ ps = rw some at next in
      let is_ps : [] ≡ ps = ap (λ (l : List Placed). drop 1 l) e in
      let is_b : b ≡ p.behind = ap (λ (l : List Placed). behind_or b l) e in
      sym is_ps ∙ (nothing_behind b ∙ (ap (placed_behind b) (sym is) ∙ ap (λ (d : Behind). placed_behind d (drop d.place whole)) is_b)))
]
placed_next whole first words line place lines (byte ∷ text) p ps is next = elim (cases_Bool (is_newline byte)) [
  | inr other ↦ placed_next whole first words (line ++ byte ∷ []) (place + 1) lines text p ps (drop-next place whole byte text is) (rw other at next)
  | inl newline ↦ elim (cases_Bool (joins line)) [
    | inl yes_joins ↦ placed_next whole first (words ++ words_in line) [] (place + 1) (lines + 1) text p ps (drop-next place whole byte text is) (rw (newline, yes_joins) at next)
    | inr ends ↦ elim (cases_Bool (is_some (words ++ words_in line))) [
      | inr none ↦ placed_next whole (lines + 2) [] [] (place + 1) (lines + 1) text p ps (drop-next place whole byte text is) (rw (newline, ends, none) at next)
      | inl some ↦ (
          let b : Behind = record { place = place + 1; lines = lines + 1 } in
          let two : lines + 2 ≡ lines + 1 + 1 = omega arith in
          let more = placed_in (lines + 2) [] [] (place + 1) (lines + 1) text in
          let e : (record { line = record { number = first; words = words ++ words_in line }; behind = b } ∷ more) ≡ p ∷ ps = rw (newline, ends, some) at next in
          let is_ps : more ≡ ps = ap (λ (l : List Placed). drop 1 l) e in
          let is_b : b ≡ p.behind = ap (λ (l : List Placed). behind_or b l) e in
          sym is_ps ∙ (ap (λ (n : ℕ). placed_in n [] [] (place + 1) (lines + 1) text) two
          ∙ (ap (placed_behind b) (sym (drop-next place whole byte text is)) ∙ ap (λ (d : Behind). placed_behind d (drop d.place whole)) is_b)))
    ]
  ]
]

-- where the line with a number ends, from 0 on; the beginning is before the first
abbrev pub behind_after : Behind → ℕ → List Placed → Behind
behind_after behind zero ps = behind
behind_after behind (suc k) [] = behind
behind_after behind (suc k) (p ∷ ps) = behind_after p.behind k ps

-- a rest that is given, by its first line
from_next : (whole : List ℕ) (behind : Behind) (k : ℕ) (ps : List Placed) → ps ≡ placed_behind behind (drop behind.place whole) → suc k ≤ length ps
    → ((b : Behind) → k ≤ length (placed_behind b (drop b.place whole))
    → drop k (placed_behind b (drop b.place whole))
    ≡ placed_behind (behind_after b k (placed_behind b (drop b.place whole))) (drop (behind_after b k (placed_behind b (drop b.place whole))).place whole))
    → drop (suc k) ps ≡ placed_behind (behind_after behind (suc k) ps) (drop (behind_after behind (suc k) ps).place whole)
from_next whole behind k [] is few rest = absurd (omega (arith, few))
from_next whole behind k (p ∷ ps) is few rest =
    let e : ps ≡ placed_behind p.behind (drop p.behind.place whole) =
    placed_next whole (behind.lines + 1) [] [] behind.place behind.lines (drop behind.place whole) p ps refl (sym is) in
    let more : k ≤ length ps = omega (arith, few) in
    subst (λ (l : List Placed). k ≤ length l → drop k l ≡ placed_behind (behind_after p.behind k l) (drop (behind_after p.behind k l).place whole)) (sym e) (rest p.behind) more

pub placed_after : (whole : List ℕ) (behind : Behind) (k : ℕ) → k ≤ length (placed_behind behind (drop behind.place whole))
    → let ps = placed_behind behind (drop behind.place whole) in
    let b = behind_after behind k ps in
    drop k ps ≡ placed_behind b (drop b.place whole)
placed_after whole behind zero few = refl
placed_after whole behind (suc k) few = from_next whole behind k (placed_behind behind (drop behind.place whole)) refl few (λ b. placed_after whole b k)

-- the vectors of a whole window end where its last line does
pub window-behind : (width most size count : ℕ) (behind : Behind) (seen : ℕ) (ps : List Placed)
    → length (window width most size count behind seen ps).rows ≡ count
    → (count ≤ length ps) × ((window width most size count behind seen ps).behind ≡ behind_after behind count ps)
window-behind width most size zero behind seen ps whole = (omega arith, refl)
window-behind width most size (suc count) behind seen [] whole = absurd (omega (arith, whole))
window-behind width most size (suc count) behind seen (p ∷ ps) whole = elim (cases_Bool (nat_lt longest p.behind.place)) [
  | inl long ↦ absurd (let e : 0 ≡ suc count = rw long at whole in omega (arith, e))
  | inr short ↦ elim (cases_Option (fault_under most width seen p.line.words)) [
    | inr some ↦ absurd (let (kind, is) = some in let e : 0 ≡ suc count = rw (short, is) at whole in omega (arith, e))
    | inl none ↦ (
        let e : suc (length (window width most size count p.behind (seen + 1) ps).rows) ≡ suc count = rw (short, none) at whole in
        let rest = window-behind width most size count p.behind (seen + 1) ps (omega (arith, e)) in
        (omega (arith, rest.0), rw (short, none) rest.1))
  ]
]

pub goes_on_behind : (shown : Shown) (text : List ℕ) → FitsText shown text
    → drop shown.given (placed_lines text) ≡ placed_behind shown.behind (drop shown.behind.place text)
goes_on_behind shown text fits =
    let w = window-behind shown.width shown.most (length text) shown.given beginning 0 (placed_lines text) fits.given in
    placed_after text beginning shown.given w.0 ∙ ap (λ (b : Behind). placed_behind b (drop b.place text)) (sym w.1 ∙ fits.behind)

-- the number that a reader shows behind a window
abbrev pub behind_next : Shown → List ℕ → ℕ → Shown
behind_next shown text count = record {
  width = shown.width;
  most = shown.most;
  given = shown.given + length (next_window shown text count).rows;
  behind = (next_window shown text count).behind;
}

pub fits_again : (shown : Shown) (text : List ℕ) (count : ℕ) → FitsText shown text → (next_window shown text count).stop ≡ None → FitsText (behind_next shown text count) text
fits_again shown text count fits goes =
    let width = shown.width in
    let most = shown.most in
    let size = length text in
    let ps = placed_lines text in
    let front = first_window width most text shown.given in
    let next = next_window shown text count in
    let many = length next.rows in
    let first_goes : front.stop ≡ None = whole-goes_on width most size shown.given beginning 0 ps fits.given in
    let exact : next_window shown text many ≡ next = window-fewer width most size count shown.behind shown.given (drop shown.given ps) goes in
    let zero_more : 0 + shown.given ≡ shown.given = omega arith in
    let both : first_window width most text (shown.given + many) ≡ record { rows = front.rows ++ next.rows; behind = next.behind; stop = next.stop } =
    window-add width most size shown.given many beginning 0 ps
    ∙ (ap (λ (b : Behind). goes_on_with front (window width most size many b (0 + shown.given) (drop shown.given ps))) fits.behind
    ∙ (ap (λ (n : ℕ). goes_on_with front (window width most size many shown.behind n (drop shown.given ps))) zero_more
    ∙ (ap (goes_on_with front) exact ∙ ap (λ (o : Option NextFault). goes_on_from o front next) first_goes))) in
    record {
      given = ap (λ (w : RowWindow). length w.rows) both ∙ (length-append front.rows next.rows ∙ ap (λ (n : ℕ). n + many) fits.given);
      behind = ap (λ (w : RowWindow). w.behind) both;
    }
