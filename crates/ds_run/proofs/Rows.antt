-- The words of a row, as the rule of the table lists them and as a row is packed.
use Rattle.std.proofs.Common.{◌≡◌, ◌∙◌, ℕ, zero, suc, ◌+◌, ◌<◌, ◌≤◌, List, [], ◌∷◌, ◌++◌, length, get_or, map, refl, arith, ap, sym}
use Rattle.std.specs.List.{range_with_len}
use Rattle.std.proofs.lemmas.List.FromFn.{map-range_with_len_more}
use Rattle.ds_base.specs.Values.{Row}
use Rattle.ds_base.specs.Word.{word_of, count_of_words}
use Rattle.ds_latch.specs.Node.{IsNode, number_of, nodes}
use Rattle.ds_latch.specs.declared.node.Node.{Node}
use Rattle.ds_latch.specs.Numbered.{numbered}
use Rattle.ds_latch.specs.Plan.{Planned}
use Rattle.ds_latch.proofs.OrderTokens.{number_below}
use Rattle.ds_opening.specs.Packed.{packed}
use Rattle.ds_rule.specs.Run.{Run}
use Rattle.ds_rule.specs.Rows.{row}
use Rattle.ds_rule.specs.Plays.{listed}
use Rattle.ds_rule.specs.Sound.{IsSound}
use Rattle.ds_rule.specs.Words.{value, node_values, width}
use Rattle.ds_rule.proofs.PlaceLaws.{width-is}
use Rattle.ds_run.specs.RunOfPlan.{IsRunOf}

-- what is listed is what is made of the numbers in order
listed-map : {A : Type 0} (f : ℕ → A) (n : ℕ) → listed f n ≡ map f (range_with_len 0 n)
listed-map f zero = refl
listed-map f (suc n) =
    let up : n + 1 ≡ suc n = omega arith in
    ap (λ xs. xs ++ f n ∷ []) (listed-map f n)
    ∙ (sym (map-range_with_len_more f 0 n n (omega arith))
    ∙ ap (λ (m : ℕ). map f (range_with_len 0 m)) up)

-- the words of a value, by its row
pub row-words : (run : Run) (l k : ℕ)
    → row run l k ≡ map (word_of (node_values run l k)) (range_with_len 0 (width run l))
unfolding value
row-words run l k = listed-map (λ i. word_of (node_values run l k) i) (width run l)

-- the words of a value are those of its row
row-packed : (run : Run) (l k : ℕ) (values : Row) → node_values run l k ≡ values
    → width run l ≡ count_of_words (length values) → row run l k ≡ packed values
row-packed run l k values is wide =
    row-words run l k
    ∙ (ap (λ (r : Row). map (word_of r) (range_with_len 0 (width run l))) is
    ∙ ap (λ (n : ℕ). map (word_of values) (range_with_len 0 n)) wide)

-- the run of a plan
module _ {p : Planned} {vectors : List Row} {run : Run} (is : IsRunOf p vectors run) where
  -- value k of a node
  abbrev pub value_of_node : Node → ℕ → Row
  value_of_node = numbered p.split vectors is.values_are.state is.values_are.nets

  -- a row has as many words as its values fill
  wide : IsSound run → (n : Node) → IsNode p.split n → (k : ℕ) → k ≤ length vectors
      → width run (number_of n) ≡ count_of_words (length (value_of_node n k))
  wide sound n is_node k low =
      let below : number_of n < nodes p.split = number_below p.split n is_node in
      let near : number_of n < run.nodes = omega (below, is.latches_are, sound.among, arith) in
      let early : k ≤ run.limit = omega (low, is.limit_is, arith) in
      let size : length (node_values run (number_of n) k) ≡ get_or run.lengths (number_of n) 0
      = sound.same_length (number_of n) k near early in
      let values : node_values run (number_of n) k ≡ value_of_node n k
      = is.values_are.of_node n is_node k low in
      width-is run (number_of n) ∙ ap count_of_words (sym size ∙ ap (λ (r : Row). length r) values)

  -- the words of value k
  pub row-is : IsSound run → (n : Node) → IsNode p.split n → (k : ℕ) → k ≤ length vectors
      → row run (number_of n) k ≡ packed (value_of_node n k)
  row-is sound n is_node k low =
      row-packed run (number_of n) k (value_of_node n k) (is.values_are.of_node n is_node k low)
      (wide sound n is_node k low)
