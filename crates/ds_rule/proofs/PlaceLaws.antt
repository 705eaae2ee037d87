-- The laws of the places of value words: all that the steps of the rule use of them.
use Rattle.std.proofs.Common.{◌≡◌, ℕ, zero, suc, ◌+◌, ◌-◌, ◌*◌, ◌/◌, ◌%◌, ◌<◌, ◌≤◌, ◌≢◌, List, []}
use Rattle.std.proofs.Common.{◌∷◌, length, map}
use Rattle.std.proofs.Common.{get_or, sym, refl, ap, ◌∙◌, subst, arith, suc-mul, zero-mul}
use Rattle.std.proofs.Math.Nat.{mod-lt, zero-mod, mul-le-mul_right}
use mathlib.Core.Logic.{dite}
use native.Mathlib.Decide.{ℕ_discrete, dec_lt}
use Rattle.std.proofs.lemmas.List.{length-map}
use Rattle.ds_base.specs.Word.{count_of_words}
use Rattle.atomic_table.proofs.Lists.{one_turn}
use Rattle.ds_rule.specs.Run.{Run}
use Rattle.ds_rule.specs.Words.{widths, width, before, size, place}

before_up : (n : ℕ) (ws : List ℕ) (l m : ℕ) → l ≤ m → before n ws l ≤ before n ws m
before_up n ws zero m h = omega arith
before_up n [] (suc l) m h = omega arith
before_up n (w ∷ ws) (suc l) zero h = absurd (omega arith)
before_up n (w ∷ ws) (suc l) (suc m) h = omega (arith, before_up n ws l m (omega arith))

before_next : (n : ℕ) (ws : List ℕ) (l : ℕ)
    → before n ws l + n * get_or ws l 0 ≤ before n ws (suc l)
before_next n [] zero = omega (arith, Rattle.std.proofs.Common.mul-zero n)
before_next n [] (suc l) = omega (arith, Rattle.std.proofs.Common.mul-zero n)
before_next n (w ∷ ws) zero = omega arith
before_next n (w ∷ ws) (suc l) = omega (arith, before_next n ws l)

-- a row of w words at the place j of n lies inside the n places
row_inside : (j n w i : ℕ) → j < n → i < w → j * w + i < n * w
row_inside j n w i h h' = omega (
  arith,
  mul-le-mul_right {m = suc j} {n = n} w (omega arith),
  suc-mul j w,
)

-- two words of rows of w words are the same only at the same place of the same row
row_apart : (j k w i m : ℕ) → i < w → m < w → j * w + i ≡ k * w + m → (j ≡ k) × (i ≡ m)
row_apart j k w i m p q e = dite (ℕ_discrete j k)
    (λ same. (same, omega (arith, ap (λ (x : ℕ). x * w) same)))
    (λ n. dite (dec_lt j k)
    (λ less. absurd (omega (
      arith,
      mul-le-mul_right {m = suc j} {n = k} w (omega arith),
      suc-mul j w,
    )))
    (λ more. absurd (omega (
      arith,
      mul-le-mul_right {m = suc k} {n = j} w (omega arith),
      suc-mul k w,
    ))))

turn_below : (run : Run) (k : ℕ) → k % (run.slack + 1) < run.slack + 1
turn_below run k = mod-lt k (omega arith)

-- no value word is the next ticket or a count
pub place_behind : (run : Run) (l k i : ℕ) → run.nodes < place run l k i
unfolding place
place_behind run l k i = omega arith

-- the value words stand in the table
pub place_inside : (run : Run) (l k i : ℕ) → l < run.nodes → i < width run l
    → place run l k i < size run
unfolding place width size
place_inside run l k i h h' = omega (
  arith,
  row_inside (k % (run.slack + 1)) (run.slack + 1) (get_or (widths run) l 0) i
      (turn_below run k) h',
  before_next (run.slack + 1) (widths run) l,
  before_up (run.slack + 1) (widths run) (suc l) run.nodes (omega arith),
)

pub counts_inside : (run : Run) (l : ℕ) → l ≤ run.nodes → l < size run
unfolding size
counts_inside run l h = omega arith

-- value words of different nodes, of different rows or with different numbers lie apart; two
-- numbers of one node
-- have the same place only where the slack lies between them
pub places_apart : (run : Run) (l k i m n j : ℕ) → i < width run l → j < width run m
    → place run l k i ≡ place run m n j
    → (l ≡ m) × (i ≡ j) × ((c : ℕ) → k ≤ c → c ≤ k + run.slack → n ≤ c → c ≤ n + run.slack → k ≡ n)
unfolding place width
places_apart run l k i m n j p q e =
    let s : ℕ = run.slack + 1 in let w : ℕ = get_or (widths run) l 0 in
    let w' : ℕ = get_or (widths run) m 0 in
    let a = row_inside (k % s) s w i (turn_below run k) p in
    let b = row_inside (n % s) s w' j (turn_below run n) q in
    dite (ℕ_discrete l m)
    (λ same. let w-is : w ≡ w' = ap (λ (x : ℕ). get_or (widths run) x 0) same in
    let r = row_apart (k % s) (n % s) w i j p (omega arith)
    (omega (arith, e, ap (before s (widths run)) same, ap (λ (x : ℕ). n % s * x) w-is)) in (
      same,
      r.1,
      λ c a b d f. dite (dec_lt n k)
          (λ less. sym (one_turn n k s (omega arith) (omega arith) (sym r.0)))
          (λ more. one_turn k n s (omega arith) (omega arith) r.0),
    ))
    (λ apart. dite (dec_lt l m)
    (λ less. absurd (omega (
      arith,
      e,
      a,
      b,
      before_next s (widths run) l,
      before_up s (widths run) (suc l) m (omega arith),
    )))
    (λ more. absurd (omega (
      arith,
      e,
      a,
      b,
      before_next s (widths run) m,
      before_up s (widths run) (suc m) l (omega arith),
    ))))

nothing : (run : Run) (l : ℕ) → 0 % (run.slack + 1) * get_or (widths run) l 0 ≡ 0
nothing run l = ap (λ (x : ℕ). x * get_or (widths run) l 0) (zero-mod (run.slack + 1))
    ∙ zero-mul (get_or (widths run) l 0)

-- a word of a row, and the row of a number, by where the rows of the node begin
pub place-word : (run : Run) (l k i : ℕ) → place run l k i ≡ place run l k 0 + i
unfolding place
place-word run l k i = omega arith

pub place-turn : (run : Run) (l k : ℕ) → place run l k 0 ≡ place run l 0 0 + k %
    (run.slack + 1) * width run l
unfolding place width
place-turn run l k = omega (arith, nothing run l)

pub start-first : (run : Run) → place run 0 0 0 ≡ 1 + run.nodes
unfolding place
start-first run = omega (arith, nothing run 0)

before-next : (n : ℕ) (ws : List ℕ) (l : ℕ) → l < length ws
    → before n ws (suc l) ≡ before n ws l + n * get_or ws l 0
before-next n [] l h = absurd (omega arith)
before-next n (w ∷ ws) zero h = omega arith
before-next n (w ∷ ws) (suc l) h = omega (arith, before-next n ws l (omega arith))

pub start-next : (run : Run) (l : ℕ) → l < length run.lengths
    → place run (suc l) 0 0 ≡ place run l 0 0 + (run.slack + 1) * width run l
unfolding place width
start-next run l h = omega (
  arith,
  before-next (run.slack + 1) (widths run) l
      (omega (arith, length-map run.lengths count_of_words)),
  nothing run l,
  nothing run (suc l),
)

pub size-start : (run : Run) → size run ≡ place run run.nodes 0 0
unfolding place size
size-start run = omega (arith, nothing run run.nodes)

-- a row ends inside the table
pub row_ends : (run : Run) (l k : ℕ) → l < run.nodes → place run l k 0 + width run l ≤ size run
unfolding place width size
row_ends run l k h = omega (
  arith,
  mul-le-mul_right {m = suc (k % (run.slack + 1))} {n = run.slack + 1} (get_or (widths run) l 0)
      (omega (arith, turn_below run k)),
  suc-mul (k % (run.slack + 1)) (get_or (widths run) l 0),
  before_next (run.slack + 1) (widths run) l,
  before_up (run.slack + 1) (widths run) (suc l) run.nodes (omega arith),
)

-- no value takes no word
get-words : (ns : List ℕ) (l : ℕ) → get_or (map count_of_words ns) l 0 ≡ count_of_words (get_or ns l 0)
get-words [] l = refl
get-words (n ∷ ns) zero = refl
get-words (n ∷ ns) (suc l) = get-words ns l

pub width-is : (run : Run) (l : ℕ) → width run l ≡ count_of_words (get_or run.lengths l 0)
unfolding width
width-is run l = get-words run.lengths l

-- the rows of a node begin behind those of the nodes before it
pub start_up : (run : Run) (l m : ℕ) → l ≤ m → place run l 0 0 ≤ place run m 0 0
unfolding place
start_up run l m h = omega (
  arith,
  before_up (run.slack + 1) (widths run) l m h,
  nothing run l,
  nothing run m,
)

next_slack-times : (run : Run) (w : ℕ) → (run.slack + 1) * w ≡ run.slack * w + w
next_slack-times run w = let e : run.slack + 1 ≡ suc run.slack = omega arith in
    ap (λ (x : ℕ). x * w) e ∙ (omega (arith, suc-mul run.slack w))

pub start-words : (run : Run) (l : ℕ) → l < length run.lengths
    → place run (l + 1) 0 0 ≡ place run l 0 0 + width run l + run.slack * width run l
start-words run l h = let e : l + 1 ≡ suc l = omega arith in
    ap (λ (x : ℕ). place run x 0 0) e ∙ omega (arith, start-next run l h, next_slack-times run (width run l))

pub start_inside : (run : Run) (l : ℕ) → l ≤ run.nodes → place run l 0 0 ≤ size run
start_inside run l h = omega (arith, start_up run l run.nodes h, size-start run)

-- the first row of a node ends before the rows of a later node begin
pub first_below : (run : Run) (l m i : ℕ) → l < m → l < length run.lengths → i < width run l
    → place run l 0 i < place run m 0 0
first_below run l m i h h' near = omega (
  arith,
  place-word run l 0 i,
  start-words run l h',
  start_up run (l + 1) m (omega arith),
)
