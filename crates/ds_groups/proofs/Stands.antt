-- Stands along a pattern.
use Rattle.std.proofs.Common.{◌≡◌, ◌≢◌, ◌∙◌, inl, inr, ℕ, ◌+◌, ◌-◌, ◌<◌, ◌≤◌, true, List, [], ◌∷◌, ◌++◌, length, get_or, take, drop, refl, sym, ap, arith}
use Rattle.std.specs.Prelude.{nat_eq}
use Rattle.std.proofs.lemmas.Bool.{cases_eq, cases_lt, eq-eqb, ne_eqb}
use Rattle.std.proofs.lemmas.List.{get_or-drop, get_or_past, take-append-drop, drop_all, drop_more, length-drop, length-take-le}
use Rattle.ds_groups.specs.Match.{has_form}
use Rattle.ds_groups.specs.Stand.{matches_behind, IsBehindStars, IsPiece, IsNoStar}
use Rattle.ds_groups.proofs.Matching.{HasNoStar, no_star_take, front_same, greedy, two_stars, star_from, star_too_short}
use Rattle.ds_groups.proofs.Falling.{held_plain, split_piece}

-- stars from a place on up to another
pub record AreStars (word : List ℕ) (from at : ℕ) : Type 0 where
  pub above : from ≤ at
  pub within : at ≤ length word
  pub stars : (k : ℕ) → from ≤ k → k < at → get_or word k 0 ≡ 42
  pub same : from < at → (rest : List ℕ) → has_form (42 ∷ drop at word) rest ≡ has_form (drop from word) rest

pub no_stars : (word : List ℕ) (from : ℕ) → from ≤ length word → AreStars word from from
no_stars word from within = record {
  above = omega arith;
  within = within;
  stars = λ k low high. absurd (omega arith);
  same = λ h. absurd (omega arith);
}

-- a star at a place
pub star_at : (word : List ℕ) (at : ℕ) (rest : List ℕ) → at < length word → get_or word at 0 ≡ 42
    → has_form (42 ∷ drop (at + 1) word) rest ≡ has_form (drop at word) rest
star_at word at rest inside star =
    sym (ap (λ (p : List ℕ). has_form p rest) (drop_more word at 0 inside)
    ∙ ap (λ (b : ℕ). has_form (b ∷ drop (at + 1) word) rest) star)

pub star_more : (word : List ℕ) (from at : ℕ) → AreStars word from at → at < length word → get_or word at 0 ≡ 42 → AreStars word from (at + 1)
star_more word from at are inside star = record {
  above = let h : from ≤ at = are.above in omega arith;
  within = omega arith;
  stars = λ k low high. elim (cases_eq k at) [
    | inl here ↦ ap (λ (n : ℕ). get_or word n 0) here ∙ star
    | inr other ↦ are.stars k low (omega arith)
  ];
  same = λ h rest. elim (cases_lt from at) [
    | inl before ↦ sym (two_stars (drop (at + 1) word) rest)
        ∙ (sym (ap (λ (p : List ℕ). has_form (42 ∷ p) rest) (drop_more word at 0 inside)
        ∙ ap (λ (b : ℕ). has_form (42 ∷ b ∷ drop (at + 1) word) rest) star))
        ∙ are.same before rest
    | inr none ↦ (let a : from ≤ at = are.above in let e : at ≡ from = omega arith in
        star_at word at rest inside star ∙ ap (λ (n : ℕ). has_form (drop n word) rest) e)
  ];
}

pub behind_them : (word : List ℕ) (from at : ℕ) → AreStars word from at → IsNoStar word at → at ≢ from → IsBehindStars word from at
behind_them word from at are plain other =
    let a : from ≤ at = are.above in
    let w : at ≤ length word = are.within in
    record {
      star = are.stars from (omega arith) (omega arith);
      within = omega arith;
      below = omega arith;
      piece = record {
        within = omega arith;
        behind = λ h. are.stars (at - 1) (omega arith) (omega arith);
        plain = λ k h. absurd (omega arith);
      };
      plain = plain;
      same = are.same (omega arith);
    }

pub plain_past : (word : List ℕ) (at : ℕ) → length word ≤ at → IsNoStar word at
plain_past word at past e = absurd (let h : get_or word at 0 ≡ 0 = get_or_past word at 0 past in let i : 0 ≡ 42 = sym h ∙ e in omega arith)

-- a piece that a star follows
pub piece_done : (word : List ℕ) (start held end behind : ℕ) → IsPiece word start held → end ≡ start + held → IsBehindStars word end behind
    → (rest : List ℕ) → has_form (42 ∷ drop behind word) rest ≡ matches_behind (drop start word) held rest
piece_done word start held end behind is at stars rest =
    let x : List ℕ = take held (drop start word) in
    let inside : end < length word = stars.within in
    let whole : drop start word ≡ take held (drop start word) ++ 42 ∷ drop (end + 1) word =
    split_piece word start held
    ∙ ap (λ (t : List ℕ). take held (drop start word) ++ t)
    (ap (λ (n : ℕ). drop n word) (sym at) ∙ drop_more word end 0 inside ∙ ap (λ (b : ℕ). b ∷ drop (end + 1) word) stars.star) in
    stars.same rest
    ∙ sym (star_at word end rest inside stars.star)
    ∙ sym (ap (λ (p : List ℕ). has_form (42 ∷ p) (take held (drop start word) ++ rest)) whole
    ∙ greedy (take held (drop start word)) (drop (end + 1) word) rest (held_plain word start held is))

append_nothing : (xs : List ℕ) → xs ++ [] ≡ xs
append_nothing [] = refl
append_nothing (x ∷ xs) = ap (λ ys. x ∷ ys) (append_nothing xs)

-- at the end of a text
pub ends_floating : (word : List ℕ) (start held : ℕ) → IsPiece word start held → IsNoStar word (start + held)
    → nat_eq (start + held) (length word) ≡ matches_behind (drop start word) held []
ends_floating word start held is plain =
    let w : start + held ≤ length word = is.within in
    let n : length (drop start word) ≡ length word - start = length-drop start word in
    elim (cases_eq (start + held) (length word)) [
      | inl whole ↦ (
          let same : has_form (drop start word) (take held (drop start word) ++ []) ≡ true =
          ap (λ (p : List ℕ). has_form p (take held (drop start word) ++ [])) (split_piece word start held)
          ∙ front_same (take held (drop start word)) (drop (start + held) word) [] (held_plain word start held is)
          ∙ ap (λ (p : List ℕ). has_form p []) (drop_all (start + held) word (omega arith)) in
          eq-eqb (start + held) (length word) whole ∙ sym (star_from (drop start word) (take held (drop start word) ++ []) 0 same))
      | inr short ↦ (
          let inside : start + held < length word = omega arith in
          let no_star : HasNoStar (take (held + 1) (drop start word)) = no_star_take (drop start word) (held + 1)
          (λ k low e. elim (cases_eq k held) [
            | inl here ↦ plain (ap (λ (j : ℕ). get_or word (start + j) 0) (sym here) ∙ (sym (get_or-drop start word k 0) ∙ e))
            | inr other ↦ is.plain k (omega arith) (sym (get_or-drop start word k 0) ∙ e)
          ]) in
          let a : length (take held (drop start word) ++ []) ≡ held = ap length (append_nothing (take held (drop start word))) ∙ length-take-le held (drop start word) (omega arith) in
          let b : length (take (held + 1) (drop start word)) ≡ held + 1 = length-take-le (held + 1) (drop start word) (omega arith) in
          ne_eqb (start + held) (length word) short
          ∙ sym (ap (λ (p : List ℕ). has_form (42 ∷ p) (take held (drop start word) ++ [])) (sym (take-append-drop (held + 1) (drop start word)))
          ∙ star_too_short (take (held + 1) (drop start word)) (drop (held + 1) (drop start word)) (take held (drop start word) ++ []) no_star (omega arith)))
    ]
