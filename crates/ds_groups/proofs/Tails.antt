-- The tail of a pattern stands in each text that matches.
use Rattle.std.proofs.Common.{◌≡◌, ◌≢◌, ◌∙◌, inl, inr, ℕ, suc, ◌+◌, ◌-◌, ◌<◌, ◌≤◌, true, false, List, [], ◌∷◌, ◌++◌, length, get_or, take, drop, refl, sym, ap, arith}
use Rattle.std.proofs.lemmas.Bool.{cases_lt, false≢true, ne_eqb}
use Rattle.std.proofs.Math.ListN.{get_or-append}
use Rattle.std.proofs.lemmas.List.{get_or-drop, drop_all, drop_more, drop-drop, length-drop, length-append}
use Rattle.ds_groups.specs.Match.{has_form, is_empty}
use Rattle.ds_groups.specs.Stand.{IsNoStar}
use Rattle.ds_groups.specs.Tail.{HasTail, IsTail, ArePlainBefore, GoesOnAt, AreBytesAt}
use Rattle.ds_groups.specs.declared.tail.Tail.{Tail}
use Rattle.ds_groups.proofs.Matching.{HasNoStar, no_star_take, star_to, front_there}
use Rattle.ds_groups.proofs.Falling.{split_piece}

-- no stars from a place on up to another
abbrev pub HaveNoStar : List ℕ → ℕ → ℕ → Type 0
HaveNoStar word start end = (k : ℕ) → start ≤ k → k < end → IsNoStar word k

pub reached_front : (word : List ℕ) → ArePlainBefore word 0 0
reached_front word = record {
  few = omega arith;
  each = λ text is. record {
    place = 0;
    within = omega arith;
    enough = omega arith;
    exact = λ same. refl;
    rest = is;
  };
}

-- an ending of a text that is no longer than the text
ending_within : (pattern text : List ℕ) (place j : ℕ) → place ≤ length text → has_form pattern (drop j (drop place text)) ≡ true
    → (k : ℕ) × (place ≤ k) × (k ≤ length text) × (has_form pattern (drop k text) ≡ true)
ending_within pattern text place j within is = elim (cases_lt (length text) (place + j)) [
  | inl past ↦ (
    length text,
    within,
    omega arith,
    ap (λ (t : List ℕ). has_form pattern t) (drop_all (length text) text (omega arith)
        ∙ sym (drop-drop j place text ∙ drop_all (place + j) text (omega arith))) ∙ is,
  )
  | inr inside ↦ (place + j, omega arith, inside, ap (λ (t : List ℕ). has_form pattern t) (sym (drop-drop j place text)) ∙ is)
]

-- behind a star
pub reached_star : (word : List ℕ) (at before : ℕ) → at < length word → get_or word at 0 ≡ 42
    → ArePlainBefore word at before → ArePlainBefore word (at + 1) before
reached_star word at before inside star are = let few : before ≤ at = are.few in record {
  few = omega arith;
  each = λ text is.
      let r : GoesOnAt word at before text = are.each text is in
      let enough : before ≤ r.place = r.enough in
      let shape : has_form (42 ∷ drop (at + 1) word) (drop r.place text) ≡ true =
      ap (λ (p : List ℕ). has_form p (drop r.place text)) (sym (drop_more word at 0 inside ∙ ap (λ (b : ℕ). b ∷ drop (at + 1) word) star)) ∙ r.rest in
      let (j, there) = star_to (drop (at + 1) word) (drop r.place text) shape in
      let (k, above, below, rest) = ending_within (drop (at + 1) word) text r.place j r.within there in
      record {
        place = k;
        within = below;
        enough = omega arith;
        exact = λ same. absurd (omega arith);
        rest = rest;
      };
}

-- behind a byte that is no star
pub reached_plain : (word : List ℕ) (at before : ℕ) → at < length word → get_or word at 0 ≢ 42
    → ArePlainBefore word at before → ArePlainBefore word (at + 1) (before + 1)
reached_plain word at before inside plain are = let few : before ≤ at = are.few in record {
  few = omega arith;
  each = λ text is.
      let r : GoesOnAt word at before text = are.each text is in
      let enough : before ≤ r.place = r.enough in
      let within : r.place ≤ length text = r.within in
      let shape : has_form ((get_or word at 0 ∷ []) ++ drop (at + 1) word) (drop r.place text) ≡ true =
      ap (λ (p : List ℕ). has_form p (drop r.place text)) (sym (drop_more word at 0 inside)) ∙ r.rest in
      let (e, rest) = front_there (get_or word at 0 ∷ []) (drop (at + 1) word) (drop r.place text) (ne_eqb (get_or word at 0) 42 plain, tt) shape in
      let a : length (drop r.place text) ≡ length text - r.place = length-drop r.place text in
      let b : length (drop r.place text) ≡ suc (length (drop 1 (drop r.place text))) = ap length e in
      record {
        place = r.place + 1;
        within = omega arith;
        enough = omega arith;
        exact = λ same. let h : r.place ≡ at = r.exact (omega arith) in omega arith;
        rest = ap (λ (t : List ℕ). has_form (drop (at + 1) word) t) (sym (drop-drop 1 r.place text)) ∙ rest;
      };
}

nothing_left : (text : List ℕ) → is_empty text ≡ true → text ≡ []
nothing_left [] is = refl
nothing_left (byte ∷ text) is = absurd (false≢true is)

-- what stands at a place of a text, with the rest behind it
tail_there : (front left text : List ℕ) (place : ℕ) (tail : Tail) → place ≤ length text → drop place text ≡ front ++ left → tail.bytes.now ≡ front
    → tail.before ≤ place → (tail.starred_before ≡ false → place ≡ tail.before) → (tail.starred_behind ≡ false → left ≡ [])
    → HasTail tail text
tail_there front left text place tail within e bytes before first last =
    let size : length tail.bytes.now ≡ length front = ap length bytes in
    let a : length (drop place text) ≡ length text - place = length-drop place text in
    let b : length (drop place text) ≡ length front + length left = ap length e ∙ length-append front left in
    record {
      place = place;
      within = omega arith;
      before = before;
      first = first;
      last = λ none. let nothing : length left ≡ 0 = ap length (last none) in omega arith;
      stands = λ k less. sym (get_or-drop place text k 0)
          ∙ ap (λ (t : List ℕ). get_or t k 0) e
          ∙ get_or-append front left 0 k (omega arith)
          ∙ ap (λ (t : List ℕ). get_or t k 0) (sym bytes);
    }

-- the bytes before an end, as a tail
pub tail_is : (word : List ℕ) (start end : ℕ) (tail : Tail) → start ≤ end → end ≤ length word → HaveNoStar word start end
    → ArePlainBefore word start tail.before
    → tail.bytes.now ≡ take (end - start) (drop start word)
    → (tail.starred_before ≡ false → tail.before ≡ start)
    → (tail.starred_behind ≡ false → end ≡ length word)
    → IsTail word tail
tail_is word start end tail low high plain reached bytes alone whole text is =
    let r : GoesOnAt word start tail.before text = reached.each text is in
    let front : HasNoStar (take (end - start) (drop start word)) = no_star_take (drop start word) (end - start)
    (λ k less e. plain (start + k) (omega arith) (omega arith) (sym (get_or-drop start word k 0) ∙ e)) in
    let to_end : start + (end - start) ≡ end = omega arith in
    let shape : has_form (take (end - start) (drop start word) ++ drop end word) (drop r.place text) ≡ true =
    ap (λ (p : List ℕ). has_form p (drop r.place text))
    (ap (λ (n : ℕ). take (end - start) (drop start word) ++ drop n word) (sym to_end) ∙ sym (split_piece word start (end - start)))
    ∙ r.rest in
    let (e, rest) = front_there (take (end - start) (drop start word)) (drop end word) (drop r.place text) front shape in
    tail_there _ _ text r.place tail r.within e bytes r.enough
    (λ none. let s : tail.before ≡ start = alone none in let p : r.place ≡ start = r.exact s in omega arith)
    (λ none. let w : end ≡ length word = whole none in
    nothing_left (drop (length (take (end - start) (drop start word))) (drop r.place text))
    (ap (λ (p : List ℕ). has_form p (drop (length (take (end - start) (drop start word))) (drop r.place text))) (sym (drop_all end word (omega arith))) ∙ rest))

-- bytes stand at no place from one on up to another
abbrev pub StandsNowhere : List ℕ → List ℕ → ℕ → ℕ → Type 0
StandsNowhere bytes text first at = (place : ℕ) → first ≤ place → place < at → ¬ AreBytesAt bytes text place
