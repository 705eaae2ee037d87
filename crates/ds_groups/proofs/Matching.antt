-- Texts that match a pattern: behind a star the first place where a piece stands is as good as any.
use Rattle.std.proofs.Common.{◌≡◌, ◌≢◌, ◌∙◌, inl, inr, ℕ, zero, suc, ◌+◌, ◌<◌, Bool, true, false, ◌&&◌, ◌||◌, ◌==◌, List, [], ◌∷◌, ◌++◌, length, get_or, take, drop, refl, sym, ap, arith}
use Rattle.std.proofs.lemmas.Bool.{false≢true, or_cases, or_left, or_right, and_parts, eqb-true, eq-eqb, ne_eqb}
use Rattle.std.proofs.Math.Seq.{drop-nil, drop-append-add}
use Rattle.ds_groups.specs.Match.{is_star, has_form}

-- two tests that hold together
pub bool_same : (a b : Bool) → (a ≡ true → b ≡ true) → (b ≡ true → a ≡ true) → a ≡ b
bool_same true true there back = refl
bool_same true false there back = sym (there refl)
bool_same false true there back = back refl
bool_same false false there back = refl

-- without stars
abbrev pub HasNoStar : List ℕ → Type 0
HasNoStar [] = Unit {0}
HasNoStar (byte ∷ text) = (is_star byte ≡ false) × HasNoStar text

pub no_star_take : (text : List ℕ) (count : ℕ) → ((k : ℕ) → k < count → get_or text k 0 ≢ 42) → HasNoStar (take count text)
no_star_take [] zero plain = tt
no_star_take [] (suc count) plain = tt
no_star_take (byte ∷ text) zero plain = tt
no_star_take (byte ∷ text) (suc count) plain =
    (ne_eqb byte 42 (plain 0 (omega arith)), no_star_take text count (λ k low. plain (suc k) (omega arith)))

drop-drop : (j k : ℕ) (text : List ℕ) → drop j (drop k text) ≡ drop (k + j) text
drop-drop j zero text = ap (λ (n : ℕ). drop n text) (let e : j ≡ 0 + j = omega arith in e)
drop-drop j (suc k) [] = drop-nil j ∙ sym (drop-nil (suc k + j))
drop-drop j (suc k) (byte ∷ text) = drop-drop j k text ∙ ap (λ (n : ℕ). drop n (byte ∷ text)) (let e : suc (k + j) ≡ suc k + j = omega arith in e)

-- a plain byte matches itself alone
pub plain_head : (byte first : ℕ) (pattern text : List ℕ) → is_star byte ≡ false
    → has_form (byte ∷ pattern) (first ∷ text) ≡ ((byte == first) && has_form pattern text)
plain_head byte first pattern text plain = rw plain refl

plain_none : (byte : ℕ) (pattern : List ℕ) → is_star byte ≡ false → has_form (byte ∷ pattern) [] ≡ false
plain_none byte pattern plain = rw plain refl

pub plain_same : (byte : ℕ) (pattern text : List ℕ) → is_star byte ≡ false → has_form (byte ∷ pattern) (byte ∷ text) ≡ has_form pattern text
plain_same byte pattern text plain = plain_head byte byte pattern text plain ∙ ap (λ (b : Bool). b && has_form pattern text) (eq-eqb byte byte refl)

pub plain_other : (byte first : ℕ) (pattern text : List ℕ) → is_star byte ≡ false → byte ≢ first → has_form (byte ∷ pattern) (first ∷ text) ≡ false
plain_other byte first pattern text plain other = plain_head byte first pattern text plain ∙ ap (λ (b : Bool). b && has_form pattern text) (ne_eqb byte first other)

-- a star may stand for one byte more, or for none
pub star_cons : (pattern text : List ℕ) (byte : ℕ)
    → has_form (42 ∷ pattern) (byte ∷ text) ≡ (has_form pattern (byte ∷ text) || has_form (42 ∷ pattern) text)
star_cons pattern text byte = refl

-- behind a star: some ending
pub star_from : (pattern text : List ℕ) (j : ℕ) → has_form pattern (drop j text) ≡ true → has_form (42 ∷ pattern) text ≡ true
star_from pattern [] zero is = or_left (has_form pattern []) false is
star_from pattern [] (suc j) is = or_left (has_form pattern []) false is
star_from pattern (byte ∷ text) zero is = or_left (has_form pattern (byte ∷ text)) (has_form (42 ∷ pattern) text) is
star_from pattern (byte ∷ text) (suc j) is = or_right (has_form pattern (byte ∷ text)) (has_form (42 ∷ pattern) text) (star_from pattern text j is)

pub star_to : (pattern text : List ℕ) → has_form (42 ∷ pattern) text ≡ true → (j : ℕ) × (has_form pattern (drop j text) ≡ true)
star_to pattern [] is = elim (or_cases (has_form pattern []) false is) [
  | inl here ↦ (0, here)
  | inr none ↦ absurd (false≢true none)
]
star_to pattern (byte ∷ text) is = elim (or_cases (has_form pattern (byte ∷ text)) (has_form (42 ∷ pattern) text) is) [
  | inl here ↦ (0, here)
  | inr behind ↦ (let (j, there) = star_to pattern text behind in (suc j, there))
]

pub star_drop : (pattern text : List ℕ) (j : ℕ) → has_form (42 ∷ pattern) (drop j text) ≡ true → has_form (42 ∷ pattern) text ≡ true
star_drop pattern text j is =
    let (k, there) = star_to pattern (drop j text) is in
    star_from pattern text (j + k) (ap (λ (t : List ℕ). has_form pattern t) (sym (drop-drop k j text)) ∙ there)

-- what has no star stands at the front of each text that matches
pub front_same : (front pattern text : List ℕ) → HasNoStar front → has_form (front ++ pattern) (front ++ text) ≡ has_form pattern text
front_same [] pattern text plain = refl
front_same (byte ∷ front) pattern text (here, plain) =
    plain_same byte (front ++ pattern) (front ++ text) here ∙ front_same front pattern text plain

pub front_there : (front pattern text : List ℕ) → HasNoStar front → has_form (front ++ pattern) text ≡ true
    → (text ≡ front ++ drop (length front) text) × (has_form pattern (drop (length front) text) ≡ true)
front_there [] pattern text plain is = (refl, is)
front_there (byte ∷ front) pattern [] (here, plain) is = absurd (false≢true (sym (plain_none byte (front ++ pattern) here) ∙ is))
front_there (byte ∷ front) pattern (first ∷ text) (here, plain) is =
    let (same, there) = and_parts (byte == first) (has_form (front ++ pattern) text) (sym (plain_head byte first (front ++ pattern) text here) ∙ is) in
    let (e, rest) = front_there front pattern text plain there in
    (ap (λ (b : ℕ). b ∷ text) (sym (eqb-true byte first same)) ∙ ap (λ (t : List ℕ). byte ∷ t) e, rest)

-- behind a star and a piece that stands at the front, only what comes behind the piece matters
pub greedy : (piece pattern text : List ℕ) → HasNoStar piece
    → has_form (42 ∷ (piece ++ 42 ∷ pattern)) (piece ++ text) ≡ has_form (42 ∷ pattern) text
greedy piece pattern text plain = bool_same (has_form (42 ∷ (piece ++ 42 ∷ pattern)) (piece ++ text)) (has_form (42 ∷ pattern) text)
    (λ is.
    let (j, there) = star_to (piece ++ 42 ∷ pattern) (piece ++ text) is in
    let (e, rest) = front_there piece (42 ∷ pattern) (drop j (piece ++ text)) plain there in
    let at : drop (length piece) (drop j (piece ++ text)) ≡ drop j text =
    drop-drop (length piece) j (piece ++ text)
    ∙ ap (λ (n : ℕ). drop n (piece ++ text)) (let h : j + length piece ≡ length piece + j = omega arith in h)
    ∙ drop-append-add piece text j in
    star_drop pattern text j (ap (λ (t : List ℕ). has_form (42 ∷ pattern) t) (sym at) ∙ rest))
    (λ is. star_from (piece ++ 42 ∷ pattern) (piece ++ text) 0 (front_same piece (42 ∷ pattern) text plain ∙ is))

-- two stars are one
pub two_stars : (pattern text : List ℕ) → has_form (42 ∷ 42 ∷ pattern) text ≡ has_form (42 ∷ pattern) text
two_stars pattern text = greedy [] pattern text tt

-- where the piece does not stand at the front, the first byte of a text does not matter
pub not_at_front : (pattern text : List ℕ) → 0 < length text → has_form pattern text ≡ false
    → has_form (42 ∷ pattern) text ≡ has_form (42 ∷ pattern) (drop 1 text)
not_at_front pattern [] some fails = absurd (omega arith)
not_at_front pattern (byte ∷ text) some fails = ap (λ (b : Bool). b || has_form (42 ∷ pattern) text) fails

-- a text that is too short for a piece does not match
too_short : (piece pattern text : List ℕ) → HasNoStar piece → length text < length piece → has_form (piece ++ pattern) text ≡ false
too_short [] pattern text plain short = absurd (omega arith)
too_short (byte ∷ piece) pattern [] (here, plain) short = plain_none byte (piece ++ pattern) here
too_short (byte ∷ piece) pattern (first ∷ text) (here, plain) short =
    plain_head byte first (piece ++ pattern) text here
    ∙ ap (λ (b : Bool). (byte == first) && b) (too_short piece pattern text plain (omega arith)) ∙ and_false (byte == first)
  where
    and_false : (b : Bool) → (b && false) ≡ false
    and_false true = refl
    and_false false = refl

pub star_too_short : (piece pattern text : List ℕ) → HasNoStar piece → length text < length piece → has_form (42 ∷ (piece ++ pattern)) text ≡ false
star_too_short piece pattern [] plain short = ap (λ (b : Bool). b || false) (too_short piece pattern [] plain short)
star_too_short piece pattern (byte ∷ text) plain short =
    ap (λ (b : Bool). b || has_form (42 ∷ (piece ++ pattern)) text) (too_short piece pattern (byte ∷ text) plain short)
    ∙ star_too_short piece pattern text plain (omega arith)
