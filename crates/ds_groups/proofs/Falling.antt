-- What is held of a piece, step by step.
use Rattle.std.proofs.Common.{◌≡◌, ◌∙◌, inl, inr, ℕ, zero, suc, ◌+◌, ◌-◌, ◌<◌, ◌≤◌, Bool, true, false, ◌&&◌, ◌==◌, List, [], ◌∷◌, ◌++◌, length, get_or, take, drop, refl, sym, ap, subst, arith, append_assoc}
use Rattle.std.specs.Prelude.{nat_lt}
use Rattle.std.proofs.lemmas.Bool.{cases_eq, cases_lt, false≢true, ne_eqb, eqb-true, eq-eqb, lt-ltb, le-ltb}
use Rattle.std.proofs.lemmas.List.{get_or-drop, take-append-drop, drop_all, take_more, drop_more, length-drop, length-take-le, length-append}
use Rattle.ds_groups.specs.Match.{has_form}
use Rattle.ds_groups.specs.Stand.{matches_behind, AreFalls, Falls, IsPiece, IsNoStar}
use Rattle.ds_groups.proofs.Matching.{HasNoStar, no_star_take, front_same, not_at_front, plain_other}

-- the bytes that are held have no star
pub held_plain : (word : List ℕ) (start held : ℕ) → IsPiece word start held → HasNoStar (take held (drop start word))
held_plain word start held is = no_star_take (drop start word) held
    (λ k low e. is.plain k low (sym (get_or-drop start word k 0) ∙ e))

pub held_room : (word : List ℕ) (start held : ℕ) → IsPiece word start held → held ≤ length (drop start word)
held_room word start held is =
    let w : start + held ≤ length word = is.within in
    let n : length (drop start word) ≡ length word - start = length-drop start word in omega arith

-- a byte that does not stand at a place fails there
pub fails_at : (word : List ℕ) (at byte : ℕ) (text : List ℕ) → IsNoStar word at
    → (nat_lt at (length word) && (get_or word at 0 == byte)) ≡ false → has_form (drop at word) (byte ∷ text) ≡ false
fails_at word at byte text plain not_so = elim (cases_lt at (length word)) [
  | inl inside ↦ (
      let other : (get_or word at 0 == byte) ≡ false = ap (λ (b : Bool). b && (get_or word at 0 == byte)) (sym (lt-ltb at (length word) inside)) ∙ not_so in
      ap (λ (p : List ℕ). has_form p (byte ∷ text)) (drop_more word at 0 inside)
      ∙ plain_other (get_or word at 0) byte (drop (at + 1) word) text (ne_eqb (get_or word at 0) 42 plain)
      (λ e. false≢true (sym other ∙ eq-eqb (get_or word at 0) byte e)))
  | inr past ↦ ap (λ (p : List ℕ). has_form p (byte ∷ text)) (drop_all at word past)
]

drop-drop : (word : List ℕ) (start held : ℕ) → drop held (drop start word) ≡ drop (start + held) word
drop-drop word zero held = ap (λ (n : ℕ). drop n word) (let e : held ≡ 0 + held = omega arith in e)
drop-drop [] (suc start) held = drop_all held [] (omega arith) ∙ sym (drop_all (suc start + held) [] (omega arith))
drop-drop (byte ∷ word) (suc start) held = drop-drop word start held
    ∙ ap (λ (n : ℕ). drop n (byte ∷ word)) (let e : suc (start + held) ≡ suc start + held = omega arith in e)

pub split_piece : (word : List ℕ) (start held : ℕ) → drop start word ≡ take held (drop start word) ++ drop (start + held) word
split_piece word start held = sym (take-append-drop held (drop start word)) ∙ ap (λ (t : List ℕ). take held (drop start word) ++ t) (drop-drop word start held)

-- the piece does not go on with this byte
piece_fails : (word : List ℕ) (start held byte : ℕ) (text : List ℕ) → IsPiece word start held
    → has_form (drop (start + held) word) (byte ∷ text) ≡ false
    → has_form (drop start word) (take held (drop start word) ++ byte ∷ text) ≡ false
piece_fails word start held byte text is fails =
    ap (λ (p : List ℕ). has_form p (take held (drop start word) ++ byte ∷ text)) (split_piece word start held)
    ∙ front_same (take held (drop start word)) (drop (start + held) word) (byte ∷ text) (held_plain word start held is)
    ∙ fails

drop_one : (front text : List ℕ) → 0 < length front → drop 1 (front ++ text) ≡ drop 1 front ++ text
drop_one [] text some = absurd (omega arith)
drop_one (byte ∷ front) text some = refl

module _ (word : List ℕ) (start held byte : ℕ) (is : IsPiece word start held) where
  abbrev piece : List ℕ
  piece = drop start word

  -- one step down
  pub falls_once : (fall : ℕ) → 0 < held → IsNoStar word (start + held)
      → (nat_lt (start + held) (length word) && (get_or word (start + held) 0 == byte)) ≡ false
      → Falls piece held fall → (rest : List ℕ)
      → matches_behind piece fall (byte ∷ rest) ≡ matches_behind piece held (byte ∷ rest)
  falls_once fall some plain not_so falls rest =
      let room : held ≤ length piece = held_room word start held is in
      let n : length (take held piece) ≡ held = length-take-le held piece room in
      let m : length (take held piece ++ byte ∷ rest) ≡ length (take held piece) + length (byte ∷ rest) = length-append (take held piece) (byte ∷ rest) in
      sym (not_at_front piece (take held piece ++ byte ∷ rest) (omega arith)
      (piece_fails word start held byte rest is (fails_at word (start + held) byte rest plain not_so))
      ∙ ap (λ (t : List ℕ). has_form (42 ∷ piece) t) (drop_one (take held piece) (byte ∷ rest) (omega arith))
      ∙ falls.same (byte ∷ rest))

  -- the byte goes on with the piece
  pub one_more : (nat_lt (start + held) (length word) && (get_or word (start + held) 0 == byte)) ≡ true → (rest : List ℕ)
      → matches_behind piece (held + 1) rest ≡ matches_behind piece held (byte ∷ rest)
  one_more so rest = elim (cases_lt (start + held) (length word)) [
    | inl inside ↦ (
        let n : length piece ≡ length word - start = length-drop start word in
        let e : get_or word (start + held) 0 ≡ byte = eqb-true (get_or word (start + held) 0) byte
        (ap (λ (b : Bool). b && (get_or word (start + held) 0 == byte)) (sym (lt-ltb (start + held) (length word) inside)) ∙ so) in
        let at : get_or piece held 0 ≡ byte = get_or-drop start word held 0 ∙ e in
        ap (λ (t : List ℕ). has_form (42 ∷ piece) (t ++ rest)) (take_more piece held 0 (omega arith))
        ∙ ap (λ (t : List ℕ). has_form (42 ∷ piece) t) (append_assoc (take held piece) (get_or piece held 0 ∷ []) rest)
        ∙ ap (λ (b : ℕ). has_form (42 ∷ piece) (take held piece ++ b ∷ rest)) at)
    | inr past ↦ absurd (false≢true (ap (λ (b : Bool). b && (get_or word (start + held) 0 == byte)) (sym (le-ltb (start + held) (length word) past)) ∙ so))
  ]

-- nothing is held, and the byte does not begin the piece
pub none_more : (word : List ℕ) (start byte : ℕ) → IsNoStar word start
    → (nat_lt start (length word) && (get_or word start 0 == byte)) ≡ false → (rest : List ℕ)
    → matches_behind (drop start word) 0 rest ≡ matches_behind (drop start word) 0 (byte ∷ rest)
none_more word start byte plain not_so rest =
    sym (not_at_front (drop start word) (byte ∷ rest) (omega arith) (fails_at word start byte rest plain not_so))

-- with one byte more
pub piece_more : (word : List ℕ) (start held byte : ℕ) → IsPiece word start held → IsNoStar word (start + held)
    → (nat_lt (start + held) (length word) && (get_or word (start + held) 0 == byte)) ≡ true → IsPiece word start (held + 1)
piece_more word start held byte is plain so = record {
  within = elim (cases_lt (start + held) (length word)) [
    | inl inside ↦ omega arith
    | inr past ↦ absurd (false≢true (ap (λ (b : Bool). b && (get_or word (start + held) 0 == byte)) (sym (le-ltb (start + held) (length word) past)) ∙ so))
  ];
  behind = is.behind;
  plain = λ k low. elim (cases_eq k held) [
    | inl here ↦ subst (λ (j : ℕ). IsNoStar word (start + j)) (sym here) plain
    | inr other ↦ is.plain k (omega arith)
  ];
}

-- with fewer bytes
pub piece_less : (word : List ℕ) (start held fewer : ℕ) → IsPiece word start held → fewer ≤ held → IsPiece word start fewer
piece_less word start held fewer is few = record {
  within = let h : start + held ≤ length word = is.within in omega arith;
  behind = is.behind;
  plain = λ k low. is.plain k (omega arith);
}

-- the table by a part of it
pub falls_less : (word falls : List ℕ) (count fewer : ℕ) → AreFalls word falls count → fewer ≤ count → AreFalls word falls fewer
falls_less word falls count fewer are few start held is some low = are start held is some (omega arith)

-- what is held behind the first byte, without it
pub first_fall : (word : List ℕ) (start : ℕ) → start < length word → Falls (drop start word) 1 0
first_fall word start inside = record {
  less = omega arith;
  same = λ rest. ap (λ (t : List ℕ). has_form (42 ∷ drop start word) (drop 1 (take 1 t) ++ rest)) (drop_more word start 0 inside);
}

drop_one_take : (text : List ℕ) (n : ℕ) (d : ℕ) → 0 < n → n < length text → drop 1 (take (n + 1) text) ≡ drop 1 (take n text) ++ get_or text n d ∷ []
drop_one_take text n d some inside = ap (λ (t : List ℕ). drop 1 t) (take_more text n d inside)
    ∙ drop_one (take n text) (get_or text n d ∷ []) (let e : length (take n text) ≡ n = length-take-le n text (omega arith) in omega arith)

-- one entry more
pub next_falls : (word : List ℕ) (start held fall next : ℕ) → start + held < length word → 0 < held → Falls (drop start word) held fall → next ≤ fall + 1
    → ((rest : List ℕ) → matches_behind (drop start word) next rest ≡ matches_behind (drop start word) fall (get_or word (start + held) 0 ∷ rest))
    → Falls (drop start word) (held + 1) next
next_falls word start held fall next inside some falls few step = record {
  less = let h : fall < held = falls.less in omega arith;
  same = λ rest.
      let n : length (drop start word) ≡ length word - start = length-drop start word in
      ap (λ (t : List ℕ). has_form (42 ∷ drop start word) (t ++ rest)) (drop_one_take (drop start word) held 0 some (omega arith))
      ∙ ap (λ (t : List ℕ). has_form (42 ∷ drop start word) t) (append_assoc (drop 1 (take held (drop start word))) (get_or (drop start word) held 0 ∷ []) rest)
      ∙ ap (λ (b : ℕ). has_form (42 ∷ drop start word) (drop 1 (take held (drop start word)) ++ b ∷ rest)) (get_or-drop start word held 0)
      ∙ falls.same (get_or word (start + held) 0 ∷ rest)
      ∙ sym (step rest);
}

-- a place has one piece before it
pub one_start : (word : List ℕ) (start held other held_too : ℕ) → IsPiece word start held → IsPiece word other held_too
    → start + held ≡ other + held_too → start ≡ other
one_start word start held other held_too is also same = elim (cases_lt start other) [
  | inl before ↦ absurd (is.plain (other - 1 - start) (omega arith)
      (ap (λ (n : ℕ). get_or word n 0) (let e : start + (other - 1 - start) ≡ other - 1 = omega arith in e) ∙ also.behind (omega arith)))
  | inr from ↦ elim (cases_lt other start) [
    | inl before ↦ absurd (also.plain (start - 1 - other) (omega arith)
        (ap (λ (n : ℕ). get_or word n 0) (let e : other + (start - 1 - other) ≡ start - 1 = omega arith in e) ∙ is.behind (omega arith)))
    | inr same_place ↦ omega arith
  ]
]

-- no star stands where bytes are held, or behind them
pub plain_within : (word : List ℕ) (start held fewer : ℕ) → IsPiece word start held → IsNoStar word (start + held) → fewer ≤ held → IsNoStar word (start + fewer)
plain_within word start held fewer is plain few = elim (cases_eq fewer held) [
  | inl here ↦ subst (λ (j : ℕ). IsNoStar word (start + j)) (sym here) plain
  | inr other ↦ is.plain fewer (omega arith)
]

pub nothing_held : (word : List ℕ) (start held none byte : ℕ) → IsPiece word start held → IsNoStar word (start + held) → none ≡ 0 → none ≤ held
    → (nat_lt (start + none) (length word) && (get_or word (start + none) 0 == byte)) ≡ false → (rest : List ℕ)
    → matches_behind (drop start word) 0 rest ≡ matches_behind (drop start word) none (byte ∷ rest)
nothing_held word start held none byte is plain nought few not_so rest =
    let e : start + none ≡ start = omega arith in
    none_more word start byte
    (subst (λ (at : ℕ). IsNoStar word at) e (plain_within word start held none is plain few))
    (subst (λ (at : ℕ). (nat_lt at (length word) && (get_or word at 0 == byte)) ≡ false) e not_so) rest
    ∙ ap (λ (n : ℕ). matches_behind (drop start word) n (byte ∷ rest)) (sym nought)

-- the entry of a place
pub at_fall : (word falls : List ℕ) (start at : ℕ) → start < at → IsPiece word start (at - start) → AreFalls word falls (at + 1)
    → Falls (drop start word) (at - start) (get_or falls at 0)
at_fall word falls start at below is are =
    let e : start + (at - start) ≡ at = omega arith in
    subst (λ (n : ℕ). Falls (drop start word) (at - start) (get_or falls n 0)) e
    (are start (at - start) is (omega arith) (omega arith))

pub next_at : (word falls : List ℕ) (start at byte next : ℕ) → at < length word → start < at → IsPiece word start (at - start)
    → AreFalls word falls (at + 1) → byte ≡ get_or word at 0 → next ≤ get_or falls at 0 + 1
    → ((rest : List ℕ) → matches_behind (drop start word) next rest ≡ matches_behind (drop start word) (get_or falls at 0) (byte ∷ rest))
    → Falls (drop start word) (at - start + 1) next
next_at word falls start at byte next inside below is are byte_is few step =
    let e : start + (at - start) ≡ at = omega arith in
    next_falls word start (at - start) (get_or falls at 0) next (omega arith) (omega arith) (at_fall word falls start at below is are) few
    (λ rest. step rest ∙ ap (λ (b : ℕ). matches_behind (drop start word) (get_or falls at 0) (b ∷ rest))
    (byte_is ∙ ap (λ (n : ℕ). get_or word n 0) (sym e)))

pub first_at : (word : List ℕ) (start at : ℕ) → at < length word → at ≡ start → Falls (drop start word) (at - start + 1) 0
first_at word start at inside same =
    let e : 1 ≡ at - start + 1 = omega arith in
    subst (λ (n : ℕ). Falls (drop start word) n 0) e (first_fall word start (omega arith))
