-- Walks that close: turned round, and begun at another node.
use Rattle.std.proofs.Common.{◌≡◌, ◌∙◌, ◌<◌, ◌≤◌, ◌+◌, ◌-◌, ℕ, List, [], ◌∷◌, ◌++◌, length, get_or, inl, inr, arith, subst, sym, refl, reverse, append-nil, length-append, length-drop, take, drop, suc}
use Rattle.std.specs.List.{All}
use Rattle.std.proofs.Math.Seq.{drop-cons, get_or-append_right}
use Rattle.std.proofs.Math.ListN.{get_or-append}
use Rattle.std.proofs.lemmas.Bool.{cases_lt}
use Rattle.std.proofs.lemmas.List.{reverse-append, take-append-drop, get_or-drop, get_or-reverse, length-reverse, get_or_default}
use Rattle.std.proofs.lemmas.List.Elements.{All-append, All-take, All-drop}
use Rattle.ds_rank.specs.Order.{IsCycle, IsDistinct, IsWalk}

-- a walk goes on where another ends
pub walk_join : (R : ℕ → ℕ → Type 0) (a : ℕ) (xs : List ℕ) (b : ℕ) (ys : List ℕ) (c : ℕ)
    → IsWalk R a xs b → IsWalk R b ys c → IsWalk R a (xs ++ b ∷ ys) c
walk_join R a [] b ys c one two = (one, two)
walk_join R a (x ∷ xs) b ys c one two = (one.0, walk_join R x xs b ys c one.1 two)

-- a walk is cut at a node
pub walk_cut : (R : ℕ → ℕ → Type 0) (a : ℕ) (xs : List ℕ) (b : ℕ) (ys : List ℕ) (c : ℕ)
    → IsWalk R a (xs ++ b ∷ ys) c → IsWalk R a xs b × IsWalk R b ys c
walk_cut R a [] b ys c h = (h.0, h.1)
walk_cut R a (x ∷ xs) b ys c h = let rest = walk_cut R x xs b ys c h.1 in ((h.0, rest.0), rest.1)

-- the nodes of a walk that closes
abbrev pub IsClosed : (ℕ → ℕ → Type 0) → List ℕ → Type 0
IsClosed R [] = Unit {0}
IsClosed R (x ∷ xs) = IsWalk R x xs x

-- a walk that closes may begin at any of its nodes
pub closed_turn : (R : ℕ → ℕ → Type 0) (xs ys : List ℕ) → IsClosed R (xs ++ ys) → IsClosed R (ys ++ xs)
closed_turn R [] ys h = subst (IsClosed R) (sym (append-nil ys)) h
closed_turn R (x ∷ xs) [] h = subst (IsClosed R) (append-nil (x ∷ xs)) h
closed_turn R (x ∷ xs) (y ∷ ys) h =
    let parts = walk_cut R x xs y ys x h in walk_join R y ys x xs y parts.1 parts.0

-- one element first, turned round
reverse_cons : (x : ℕ) (xs : List ℕ) → reverse (x ∷ xs) ≡ reverse xs ++ x ∷ []
reverse_cons x xs = reverse-append (x ∷ []) xs

-- a list whose nodes each lead to the one before, where b leads to the last
pub walk_back : (R : ℕ → ℕ → Type 0) (a : ℕ) (xs : List ℕ) (b : ℕ)
    → ((i : ℕ) → i + 1 < length (a ∷ xs) → R (get_or (a ∷ xs) (i + 1) 0) (get_or (a ∷ xs) i 0))
    → R b (get_or (a ∷ xs) (length xs) 0) → IsWalk R b (reverse xs) a
walk_back R a [] b steps closes = closes
walk_back R a (x ∷ xs) b steps closes =
    let rest : IsWalk R b (reverse xs) x = walk_back R x xs b
    (λ i lt. let e : suc i + 1 ≡ suc (i + 1) = omega arith in
    subst (λ (k : ℕ). R (get_or (a ∷ x ∷ xs) k 0) (get_or (x ∷ xs) i 0)) e (steps (suc i) (omega arith))) closes in
    let all : IsWalk R b (reverse xs ++ x ∷ []) a = walk_join R b (reverse xs) x [] a rest (steps 0 (omega arith)) in
    rw (reverse_cons x xs) all

-- turned round, a list whose nodes each lead to the one before is a walk that closes
pub closed_back : (R : ℕ → ℕ → Type 0) (xs : List ℕ) (a : ℕ)
    → ((i : ℕ) → i + 1 < length xs → R (get_or xs (i + 1) 0) (get_or xs i 0))
    → R (get_or xs 0 0) (get_or xs (length xs - 1) 0) → IsClosed R (reverse xs)
closed_back R [] a steps closes = tt
closed_back R (x ∷ xs) a steps closes =
    let walk : IsWalk R x (reverse xs) x = walk_back R x xs x steps
    (let e : length (x ∷ xs) - 1 ≡ length xs = omega arith in
    subst (λ (k : ℕ). R x (get_or (x ∷ xs) k 0)) e closes) in
    subst (IsClosed R) (sym (reverse_cons x xs)) (closed_turn R (x ∷ []) (reverse xs) walk)

-- no node stands twice in a part
distinct_drop : (n : ℕ) (xs : List ℕ) → IsDistinct xs → IsDistinct (drop n xs)
distinct_drop n xs h i j ij lt = rw (get_or-drop n xs i 0, get_or-drop n xs j 0)
    (h (n + i) (n + j) (omega arith) (omega (arith, length-drop n xs)))

-- no node stands twice in a list turned round
distinct_reverse : (xs : List ℕ) → IsDistinct xs → IsDistinct (reverse xs)
distinct_reverse xs h i j ij lt =
    let under : j < length xs = omega (arith, length-reverse xs) in
    let under2 : i < length xs = omega arith in
    rw (get_or-reverse xs i 0 under2, get_or-reverse xs j 0 under)
    (λ e. h (length xs - 1 - j) (length xs - 1 - i) (omega arith) (omega arith) (sym e))

-- no node stands twice where two parts change places
distinct_turn : (xs ys : List ℕ) → IsDistinct (xs ++ ys) → IsDistinct (ys ++ xs)
distinct_turn xs ys h i j ij lt =
    let all = length-append ys xs in
    let all2 = length-append xs ys in
    elim (cases_lt i (length ys)) [
      | inl li ↦
          let ai = get_or-append ys xs 0 i li in
          let bi = right i in
          elim (cases_lt j (length ys)) [
            | inl lj ↦ rw (ai, get_or-append ys xs 0 j lj, ← bi, ← right j)
                (h (length xs + i) (length xs + j) (omega arith) (omega arith))
            | inr rj ↦ let lj : j - length ys < length xs = omega arith in
                rw (ai, get_or-append_right ys xs j 0 rj, ← bi, ← get_or-append xs ys 0 (j - length ys) lj)
                (λ e. h (j - length ys) (length xs + i) (omega arith) (omega arith) (sym e))
          ]
      | inr ri ↦
          let rj : length ys ≤ j = omega arith in
          let li : i - length ys < length xs = omega arith in
          let lj : j - length ys < length xs = omega arith in
          rw (
            get_or-append_right ys xs i 0 ri,
            get_or-append_right ys xs j 0 rj,
            ← get_or-append xs ys 0 (i - length ys) li,
            ← get_or-append xs ys 0 (j - length ys) lj,
          )
          (h (i - length ys) (j - length ys) (omega arith) (omega arith))
    ]
  where
    right : (k : ℕ) → get_or (xs ++ ys) (length xs + k) 0 ≡ get_or ys k 0
    right k = let le : length xs ≤ length xs + k = omega arith in
        let e : length xs + k - length xs ≡ k = omega arith in
        get_or-append_right xs ys (length xs + k) 0 le ∙ rw e refl

-- a walk that closes, begun at its least node, is a cycle
pub cycle_at : (R : ℕ → ℕ → Type 0) (nodes : List ℕ) (first : ℕ) → first < length nodes → IsClosed R nodes
    → IsDistinct nodes → ((i : ℕ) → i < length nodes → get_or nodes first 0 ≤ get_or nodes i 0)
    → IsCycle R (drop first nodes ++ take first nodes)
cycle_at R nodes first inside closed distinct least =
    let whole = take-append-drop first nodes in
    let closed2 = closed_turn R (take first nodes) (drop first nodes) (subst (IsClosed R) (sym whole) closed) in
    let distinct2 = distinct_turn (take first nodes) (drop first nodes) (subst IsDistinct (sym whole) distinct) in
    let each : All (λ y. get_or nodes first 0 ≤ y) nodes = λ k d lt.
    subst (λ (y : ℕ). get_or nodes first 0 ≤ y) (sym (get_or_default nodes k d 0 lt)) (least k lt) in
    let all = All-append (λ y. get_or nodes first 0 ≤ y) (drop (suc first) nodes) (take first nodes)
    (All-drop (λ y. get_or nodes first 0 ≤ y) (suc first) nodes each) (All-take (λ y. get_or nodes first 0 ≤ y) first nodes each) in
    let cut = drop-cons nodes first 0 inside in
    subst (λ (xs : List ℕ). IsCycle R (xs ++ take first nodes)) (sym cut) (
      subst (λ (xs : List ℕ). IsClosed R (xs ++ take first nodes)) cut closed2,
      subst (λ (xs : List ℕ). IsDistinct (xs ++ take first nodes)) cut distinct2,
      all,
    )

-- the part of a path from the source on, turned round, is a walk that closes
pub closed_part : (R : ℕ → ℕ → Type 0) (path : List ℕ) (start source : ℕ) → start < length path
    → ((i : ℕ) → i + 1 < length path → R (get_or path (i + 1) 0) (get_or path i 0))
    → get_or path start 0 ≡ source → R source (get_or path (length path - 1) 0)
    → IsClosed R (reverse (drop start path))
closed_part R path start source inside steps at closes =
    let size = length-drop start path in
    let head : get_or (drop start path) 0 0 ≡ source = get_or-drop start path 0 0 ∙ (let e : start + 0 ≡ start = omega arith in rw e at) in
    let end : get_or (drop start path) (length (drop start path) - 1) 0 ≡ get_or path (length path - 1) 0 =
    get_or-drop start path (length (drop start path) - 1) 0
    ∙ (let e : start + (length (drop start path) - 1) ≡ length path - 1 = omega arith in rw e refl) in
    closed_back R (drop start path) 0
    (λ i lt. let e : start + (i + 1) ≡ start + i + 1 = omega arith in
    rw (get_or-drop start path (i + 1) 0, get_or-drop start path i 0, e) (steps (start + i) (omega arith)))
    (rw (head, end) closes)

-- no node stands twice in it
pub distinct_part : (path : List ℕ) (start : ℕ) → IsDistinct path → IsDistinct (reverse (drop start path))
distinct_part path start h = distinct_reverse (drop start path) (distinct_drop start path h)
