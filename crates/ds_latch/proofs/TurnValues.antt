-- What nodes have in a turn of the clocked run.
use Rattle.std.proofs.Common.{◌≡◌, ◌∙◌, ℕ, suc, ◌<◌, List, [], ◌∷◌, length, get_or, map, refl, arith, ap, sym, add-one}
use Rattle.std.specs.Prelude.{All}
use Rattle.std.proofs.lemmas.List.{get_or-map, length-map}
use Rattle.std.proofs.lemmas.List.Elements.{All-head, All-tail}
use Rattle.ds_base.specs.Values.{Row}
use Rattle.ds_base.specs.declared.value.Value.TheVariants.{Zero}
use Rattle.ds_cover.specs.Cover.{value_at, values_at}
use Rattle.ds_design.specs.Circuit.{data_nets}
use Rattle.ds_design.specs.Run.{IsRun, row_at}
use Rattle.ds_latch.specs.Node.{Split, members, nets_of}
use Rattle.ds_latch.specs.declared.node.Node.{Node}
use Rattle.ds_latch.specs.declared.node.Node.TheVariants.{In, Master}
use Rattle.ds_latch.specs.Plan.{IsSplit}
use Rattle.ds_latch.specs.Numbered.{numbered}
use Rattle.ds_latch.specs.Firing.{IsSettled, opening_read}

-- reading a list at places, and then a list at what was read
pub picked : (nets : Row) (these places : List ℕ) → All (λ r. r < length these) places → values_at nets (map (λ r. get_or these r 0) places) ≡ values_at (values_at nets these) places
picked nets these [] within = refl
picked nets these (r ∷ rs) within =
    ap (λ b. b ∷ values_at nets (map (λ r. get_or these r 0) rs)) (sym (get_or-map (value_at nets) these r 0 Zero (All-head (λ r. r < length these) r rs within)))
    ∙ ap (λ bs. value_at (values_at nets these) r ∷ bs) (picked nets these rs (All-tail (λ r. r < length these) r rs within))

module _ (s : Split) (split : IsSplit s) (vectors : List Row) (state nets : ℕ → Row) (run : IsRun s.circuit s.initial vectors state nets) where
  abbrev V : Node → ℕ → Row
  V n k = numbered s vectors state nets n k

  -- what the producers of a node have in a turn settles to the node's nets in that turn
  pub run_settles : (n : Node) (k : ℕ) → k < length vectors → IsSettled s (λ p. V p (opening_read p k)) n (values_at (nets k) (nets_of s n))
  run_settles n k below = record {
    state = state k;
    vector = row_at vectors k;
    nets = nets k;
    valuation = run.settles k below;
    slaves = λ i edge. refl;
    columns = λ edge. ap (V In) (sym (add-one k));
    row_is = refl;
  }

  -- the data nets of a cluster in a turn have the value of its master
  pub master_value : (i : ℕ) → i < length s.clusters → (k : ℕ) → k < length vectors → values_at (nets k) (nets_of s (Master i)) ≡ V (Master i) (suc k)
  master_value i is_node k below =
      let sizes : length (data_nets s.circuit) ≡ length s.circuit.registers = length-map s.circuit.registers (λ r. r.data_net) in
      let within : All (λ r. r < length (data_nets s.circuit)) (members s i) = λ j d inside. (let w : get_or (members s i) j d < length s.circuit.registers = split.within i [] is_node j d inside in omega arith) in
      let turn : state (suc k) ≡ values_at (nets k) (data_nets s.circuit) = rw add-one at (run.steps k below) in
      picked (nets k) (data_nets s.circuit) (members s i) within ∙ ap (λ w. values_at w (members s i)) (sym turn)
