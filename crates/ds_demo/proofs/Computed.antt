-- What a table of three inputs computes, and the names of six nets.
use Rattle.std.proofs.Common.{◌≡◌, ℕ, zero, suc, ◌+◌, ◌*◌, ◌<◌, ◌≤◌, Bool, true, false, ◌&&◌, ◌||◌}
use Rattle.std.proofs.Common.{◌==◌, if◌then◌else◌, List, [], ◌∷◌, ◌++◌, refl, ◌∙◌, ap, arith, map}
use Rattle.std.proofs.Common.{codes, decimal}
use Rattle.std.specs.Prelude.{All}
use Rattle.std.specs.Int.{bit_at}
use Rattle.std.specs.List.{AllByRecursion, filter, list_any, range_with_len}
use Rattle.std.proofs.lemmas.Fmt.{decimal_digit}
use Rattle.std.proofs.lemmas.List.Elements.{All-from_recursion, All-head, All-tail}
use Rattle.ds_base.specs.Values.{Row, either}
use Rattle.ds_base.specs.declared.value.Value.{Value}
use Rattle.ds_base.specs.declared.value.Value.TheVariants.{Zero, One}
use Rattle.ds_cover.specs.Cover.{matches, some_match, values_at, value_of}
use Rattle.ds_demo.specs.Demo.{demo_nets, marks_of, demo_rows, inputs_of, function_of, cover_of}
use Rattle.ds_demo.specs.Demo.{demo_bit_value}
use Rattle.ds_demo.specs.Worked.{main_net}

-- 1 where it is so
abbrev one_if : Bool → Value
one_if b = if b then One else Zero

either-given : (p hit rest : Bool) (x : Value) → x ≡ one_if rest
    → (if p then either (one_if hit) x else x) ≡ one_if ((hit && p) || rest)
either-given true true rest x is = refl
either-given true false rest x is = is
either-given false true rest x is = is
either-given false false rest x is = is

given : (b : Bool) (values : Row) (n : ℕ) (ns : List ℕ)
    → some_match (map marks_of (if b then n ∷ ns else ns)) values
    ≡ (if b then either (matches (marks_of n) values) (some_match (map marks_of ns) values)
    else some_match (map marks_of ns) values)
given true values n ns = refl
given false values n ns = refl

-- of rows of which one alone matches, some row matches where that one is there
chosen : (p : ℕ → Bool) (values : Row) (m : ℕ) (ns : List ℕ)
    → All (λ n. matches (marks_of n) values ≡ one_if (n == m)) ns
    → some_match (map marks_of (filter p ns)) values ≡ one_if (list_any (λ n. (n == m) && p n) ns)
chosen p values m [] each = refl
chosen p values m (n ∷ ns) each =
    let rest : Value = some_match (map marks_of (filter p ns)) values in
    given (p n) values n (filter p ns)
    ∙ (ap (λ (v : Value). if p n then either v rest else rest)
    (All-head (λ k. matches (marks_of k) values ≡ one_if (k == m)) n ns each)
    ∙ either-given (p n) (n == m) (list_any (λ k. (k == m) && p k) ns) rest
    (chosen p values m ns
    (All-tail (λ k. matches (marks_of k) values ≡ one_if (k == m)) n ns each)))

or_false : (b : Bool) → (b || false) ≡ b
or_false true = refl
or_false false = refl

-- so at the numbers below eight
decided : (function m : ℕ) (values : Row)
    → AllByRecursion (λ n. matches (marks_of n) values ≡ one_if (n == m)) (range_with_len 0 8)
    → list_any (λ n. (n == m) && (bit_at function n == 1)) (range_with_len 0 8)
    ≡ ((bit_at function m == 1) || false)
    → some_match (demo_rows function) values ≡ demo_bit_value (bit_at function m)
decided function m values each at =
    chosen (λ n. bit_at function n == 1) values m (range_with_len 0 8)
    (All-from_recursion (λ n. matches (marks_of n) values ≡ one_if (n == m)) (range_with_len 0 8)
    each)
    ∙ ap one_if (at ∙ or_false (bit_at function m == 1))

-- the rows of a function, at three bits
at_bits : (function first second third : ℕ) → first ≤ 1 → second ≤ 1 → third ≤ 1
    → some_match (demo_rows function) (demo_bit_value first ∷ demo_bit_value second ∷ demo_bit_value third ∷ [])
    ≡ demo_bit_value (bit_at function (first + 2 * second + 4 * third))
at_bits function zero zero zero a b c = decided function 0 (Zero ∷ Zero ∷ Zero ∷ [])
    (refl, (refl, (refl, (refl, (refl, (refl, (refl, (refl, tt)))))))) refl
at_bits function zero zero (suc zero) a b c = decided function 4 (Zero ∷ Zero ∷ One ∷ [])
    (refl, (refl, (refl, (refl, (refl, (refl, (refl, (refl, tt)))))))) refl
at_bits function zero zero (suc (suc third)) a b c = absurd (omega arith)
at_bits function zero (suc zero) zero a b c = decided function 2 (Zero ∷ One ∷ Zero ∷ [])
    (refl, (refl, (refl, (refl, (refl, (refl, (refl, (refl, tt)))))))) refl
at_bits function zero (suc zero) (suc zero) a b c = decided function 6 (Zero ∷ One ∷ One ∷ [])
    (refl, (refl, (refl, (refl, (refl, (refl, (refl, (refl, tt)))))))) refl
at_bits function zero (suc zero) (suc (suc third)) a b c = absurd (omega arith)
at_bits function zero (suc (suc second)) third a b c = absurd (omega arith)
at_bits function (suc zero) zero zero a b c = decided function 1 (One ∷ Zero ∷ Zero ∷ [])
    (refl, (refl, (refl, (refl, (refl, (refl, (refl, (refl, tt)))))))) refl
at_bits function (suc zero) zero (suc zero) a b c = decided function 5 (One ∷ Zero ∷ One ∷ [])
    (refl, (refl, (refl, (refl, (refl, (refl, (refl, (refl, tt)))))))) refl
at_bits function (suc zero) zero (suc (suc third)) a b c = absurd (omega arith)
at_bits function (suc zero) (suc zero) zero a b c = decided function 3 (One ∷ One ∷ Zero ∷ [])
    (refl, (refl, (refl, (refl, (refl, (refl, (refl, (refl, tt)))))))) refl
at_bits function (suc zero) (suc zero) (suc zero) a b c = decided function 7 (One ∷ One ∷ One ∷ [])
    (refl, (refl, (refl, (refl, (refl, (refl, (refl, (refl, tt)))))))) refl
at_bits function (suc zero) (suc zero) (suc (suc third)) a b c = absurd (omega arith)
at_bits function (suc zero) (suc (suc second)) third a b c = absurd (omega arith)
at_bits function (suc (suc first)) second third a b c = absurd (omega arith)

-- so the table of a word
pub computed : (registers word first second third : ℕ) (nets : Row)
    → first ≤ 1 → second ≤ 1 → third ≤ 1
    → values_at nets (inputs_of registers word)
    ≡ demo_bit_value first ∷ demo_bit_value second ∷ demo_bit_value third ∷ []
    → value_of (cover_of registers word) nets
    ≡ demo_bit_value (bit_at (function_of word) (first + 2 * second + 4 * third))
computed registers word first second third nets a b c are =
    ap (some_match (demo_rows (function_of word))) are
    ∙ at_bits (function_of word) first second third a b c

named : (letter : List ℕ) (i : ℕ) → i < 10
    → main_net (letter ++ decimal i) ≡ main_net (letter ++ (48 + i) ∷ [])
named letter i small = ap (λ (digits : List ℕ). main_net (letter ++ digits)) (decimal_digit i small)

pub six_nets : demo_nets 2 ≡ main_net (codes "x0") ∷ main_net (codes "x1") ∷ main_net (codes "r0")
    ∷ main_net (codes "r1") ∷ main_net (codes "d0") ∷ main_net (codes "d1") ∷ []
six_nets =
    let x0 = named (codes "x") 0 (omega arith) in
    let x1 = named (codes "x") 1 (omega arith) in
    let r0 = named (codes "r") 0 (omega arith) in
    let r1 = named (codes "r") 1 (omega arith) in
    let d0 = named (codes "d") 0 (omega arith) in
    let d1 = named (codes "d") 1 (omega arith) in
    cc
