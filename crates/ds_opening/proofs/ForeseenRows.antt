-- Where the value of a node stands in the list of all values.
use Rattle.std.proofs.Common.{◌≡◌, ◌∙◌, ℕ, zero, suc, ◌+◌, ◌*◌, ◌/◌, ◌%◌, ◌<◌, ◌≤◌, Bool, true, false, List, [], length, get_or, map, replicate, cond, ◌==◌, refl, ap, sym, arith, ◌≢◌}
use Rattle.std.proofs.lemmas.Bool.{eqb-false, eqb-true}
use Rattle.std.proofs.lemmas.List.{get_or_past}
use Rattle.std.proofs.lemmas.List.FromFn.{get_or-map-range_with_len}
use Rattle.std.proofs.lemmas.Nat.{div-mul-add, mod-mul-add, mul-le}
use Rattle.ds_base.specs.Values.{Row}
use Rattle.ds_base.specs.declared.value.Value.TheVariants.{Zero}
use Rattle.ds_cover.specs.Cover.{values_at}
use Rattle.ds_design.specs.Circuit.{data_nets}
use Rattle.ds_latch.specs.Node.{Split, nodes, number_of}
use Rattle.ds_latch.specs.declared.node.Node.{Node}
use Rattle.ds_latch.specs.declared.node.Node.TheVariants.{In, Out, Master, Slave}
use Rattle.ds_opening.specs.Foreseen.{ForeseesRows, foreseen, foreseen_rows, node_at, state_before}

-- row l of the rows of value k
in_place : (s : Split) (order : List ℕ) (vectors : List Row) (count l k : ℕ)
    → l < count → k ≤ length vectors
    → get_or (foreseen_rows s count order vectors) (k * count + l) []
    ≡ foreseen s order vectors (node_at l) k
unfolding foreseen_rows
in_place s order vectors count l k low early =
    let place : ℕ = k * count + l in
    let up : (k + 1) * count ≤ (length vectors + 1) * count =
    mul-le (k + 1) count (length vectors + 1) count (omega (early, arith)) (omega arith) in
    let one : (k + 1) * count ≡ k * count + count = omega arith in
    let inside : place < (length vectors + 1) * count = omega (up, one, low, arith) in
    get_or-map-range_with_len
    (λ j. foreseen s order vectors (node_at (j % count)) (j / count))
    0 ((length vectors + 1) * count) place place [] inside (omega arith)
    ∙ (ap (λ (m : ℕ). foreseen s order vectors (node_at m) (place / count))
    (mod-mul-add k count l low)
    ∙ ap (foreseen s order vectors (node_at l)) (div-mul-add k count l low))

-- a node by its number
pub node_by_number : (n : Node) → node_at (number_of n) ≡ n
node_by_number In = refl
node_by_number Out = refl
node_by_number (Master i) =
    let up : 2 * i + 2 ≡ suc (suc (2 * i)) = omega arith in
    let even : (2 * i) % 2 ≡ 0 = omega arith in
    let half : 2 * i / 2 ≡ i = omega arith in
    ap node_at up
    ∙ (ap (λ (m : ℕ). cond (m == 0) (Master (2 * i / 2)) (Slave (2 * i / 2))) even
    ∙ ap Master half)
node_by_number (Slave i) =
    let up : 2 * i + 3 ≡ suc (suc (2 * i + 1)) = omega arith in
    let odd : (2 * i + 1) % 2 ≡ 1 = omega arith in
    let half : (2 * i + 1) / 2 ≡ i = omega arith in
    ap node_at up
    ∙ (ap (λ (m : ℕ). cond (m == 0) (Master ((2 * i + 1) / 2)) (Slave ((2 * i + 1) / 2))) odd
    ∙ ap Slave half)

-- a node has one number
latch_number : (n : ℕ) (even : Bool) → even ≡ (n % 2 == 0)
    → number_of (cond even (Master (n / 2)) (Slave (n / 2))) ≡ suc (suc n)
latch_number n true e = let is : n % 2 ≡ 0 = eqb-true (n % 2) 0 (sym e) in omega (is, arith)
latch_number n false e = let is : n % 2 ≢ 0 = eqb-false (n % 2) 0 (sym e) in omega (is, arith)

number_at : (l : ℕ) → number_of (node_at l) ≡ l
number_at zero = refl
number_at (suc zero) = refl
number_at (suc (suc n)) = latch_number n (n % 2 == 0) refl

pub one_number : (a b : ℕ) → node_at a ≡ node_at b → a ≡ b
one_number a b e = sym (number_at a) ∙ (ap number_of e ∙ number_at b)

-- the latches of a cluster that is not there have rows of no values
no_cluster : (s : Split) (order : List ℕ) (vectors : List Row) (master : Bool) (i k : ℕ)
    → length s.clusters ≤ i
    → foreseen s order vectors (cond master (Master i) (Slave i)) k ≡ []
no_cluster s order vectors true i zero past =
    ap (λ (these : List ℕ).
    replicate (length (map (λ r. get_or (data_nets s.circuit) r 0) these)) Zero)
    (get_or_past s.clusters i [] past)
no_cluster s order vectors true i (suc k) past =
    ap (values_at (state_before s.circuit order s.initial vectors (suc k)))
    (get_or_past s.clusters i [] past)
no_cluster s order vectors false i k past =
    ap (values_at (state_before s.circuit order s.initial vectors k))
    (get_or_past s.clusters i [] past)

no_node : (s : Split) (order : List ℕ) (vectors : List Row) (l k : ℕ) → nodes s ≤ l
    → foreseen s order vectors (node_at l) k ≡ []
no_node s order vectors zero k past = absurd (omega (past, arith))
no_node s order vectors (suc zero) k past = absurd (omega (past, arith))
no_node s order vectors (suc (suc l)) k past =
    no_cluster s order vectors (l % 2 == 0) (l / 2) k (omega (past, arith))

pub foresees_rows_lem : ForeseesRows
foresees_rows_lem s order vectors =
    (in_place s order vectors, node_by_number, no_node s order vectors)
