-- Firings leave one text of a state.
use Rattle.std.proofs.Common.{◌≡◌, ◌∙◌, ℕ, zero, suc, ◌+◌, ◌*◌, ◌<◌, List, ◌++◌, length, get_or, map, refl, arith, ap, ap₂, sym, length-append}
use Rattle.std.proofs.lemmas.List.{get_or-map, get_or_default}
use Rattle.std.proofs.lemmas.Simd.{map-map}
use Rattle.std.specs.Prelude.{Contains}
use Rattle.std.specs.List.{flat_map, range_with_len}
use Rattle.ds_base.proofs.ListLemmas.{map_agree}
use Rattle.ds_base.specs.Values.{Row}
use Rattle.ds_base.specs.declared.value.Value.TheVariants.{Zero}
use Rattle.ds_cover.specs.Cover.{value_at}
use Rattle.ds_design.specs.Run.{IsRun}
use Rattle.ds_marked.specs.Graph.{IsLegal, counts_after}
use Rattle.ds_latch.specs.Node.{Split, closing, members, nodes, number_of}
use Rattle.ds_latch.specs.declared.node.Node.TheVariants.{Slave}
use Rattle.ds_latch.specs.Plan.{IsPlan, IsSplit, Planned, split_events}
use Rattle.ds_latch.specs.Numbered.{numbered}
use Rattle.ds_latch.specs.Firing.{State, first_state, FiresAll}
use Rattle.ds_latch.specs.Flow.{IsInStep}
use Rattle.ds_latch.specs.Headline.{StandsAt, values_clocked, values_stored}
use Rattle.ds_latch.proofs.OrderTokens.{accepted_controls, number_below}
use Rattle.ds_latch.proofs.Flow.{flow_equivalence}
use Rattle.ds_latch.proofs.OrdersRise.{events_long}
use Rattle.ds_split.proofs.Sources.{flat_apart}
use Rattle.ds_rows.specs.Log.{fired_line, stored_text}
use Rattle.ds_rows.specs.Nets.{register_of}
use Rattle.ds_rows.specs.StateText.{HasStored, IsStateText}
use Rattle.ds_table_laws.proofs.LegalListsExist.{whole_long}
use Rattle.ds_laws.specs.Logs.{WholeStatesAreClocked}
use Rattle.ds_laws.proofs.NothingOpen.{counts_are}

-- a register stands in one cluster
one_cluster : (s : Split) → IsSplit s → (r c d p q : ℕ) → StandsAt s r c p → StandsAt s r d q → c ≡ d
one_cluster s split r c d p q at other =
    let here : Contains (members s c) r = (p, at.inside, get_or_default (members s c) p r 0 at.inside ∙ at.here) in
    let there : Contains (members s d) r = (q, other.inside, get_or_default (members s d) q r 0 other.inside ∙ other.here) in
    flat_apart s.clusters split.once c d r here there

-- texts of agreeing parts
pub texts_agree : (f g : ℕ → List ℕ) (a n : ℕ) → ((r : ℕ) → r < a + n → f r ≡ g r) → flat_map f (range_with_len a n) ≡ flat_map g (range_with_len a n)
texts_agree f g a zero agree = refl
texts_agree f g a (suc n) agree =
    ap₂ (λ (xs ys : List ℕ). xs ++ ys) (agree a (omega arith)) (texts_agree f g (a + 1) n (λ r low. agree r (omega (arith, low))))

-- what a register has stored is what it has in the clocked run, as often as its slave has closed
values_are : (s : Split) (vectors : List Row) (state nets : ℕ → Row) (now : State) → IsInStep s vectors state nets now
    → (register cluster place : ℕ) → StandsAt s register cluster place
    → values_stored now cluster place ≡ map (λ k. value_at (state k) register) (range_with_len 1 (now.count (closing (Slave cluster))))
values_are s vectors state nets now step register cluster place at =
    let closed : ℕ = now.count (closing (Slave cluster)) in
    ap (λ (rows : List Row). map (λ row. value_at row place) rows) (step.stored (Slave cluster) at.is_cluster)
    ∙ (map-map (λ (row : Row). value_at row place) (numbered s vectors state nets (Slave cluster)) (range_with_len 1 closed)
    ∙ map_agree (λ k. value_at (numbered s vectors state nets (Slave cluster) k) place) (λ k. value_at (state k) register) (range_with_len 1 closed) (λ i d inside.
    let k : ℕ = get_or (range_with_len 1 closed) i d in
    get_or-map (value_at (state k)) (members s cluster) place 0 Zero at.inside ∙ ap (value_at (state k)) at.here))

module _ (p : Planned) (plan : IsPlan p.split p.graph) (vectors : List Row) (state nets : ℕ → Row) (run : IsRun p.split.circuit p.split.initial vectors state nets)
    (events : List ℕ) (legal : IsLegal p.graph (length vectors) events) where
  in_step : (now : State) → FiresAll p.split vectors (first_state p.split) events now → IsInStep p.split vectors state nets now
  in_step now fires = flow_equivalence p.split p.graph (accepted_controls p.split p.graph plan) vectors state nets run events legal now fires

  values_one : (now other : State) → FiresAll p.split vectors (first_state p.split) events now → FiresAll p.split vectors (first_state p.split) events other
      → (r : ℕ) (values more : Row) → HasStored p.split now r values → HasStored p.split other r more → values ≡ more
  values_one now other fires also r values more (c, i, at, is) (d, j, stands, are) =
      let counts : now.count ≡ other.count = counts_are p.split vectors (first_state p.split) now events fires ∙ sym (counts_are p.split vectors (first_state p.split) other events also) in
      let same : c ≡ d = one_cluster p.split plan.split r c d i j at stands in
      let closed : now.count (closing (Slave c)) ≡ other.count (closing (Slave d)) = ap (λ (count : ℕ → ℕ). count (closing (Slave c))) counts ∙ ap (λ (k : ℕ). other.count (closing (Slave k))) same in
      is ∙ (values_are p.split vectors state nets now (in_step now fires) r c i at
      ∙ (ap (λ (n : ℕ). map (λ k. value_at (state k) r) (range_with_len 1 n)) closed
      ∙ sym (are ∙ values_are p.split vectors state nets other (in_step other also) r d j stands)))

  pub state_one : (text other : List ℕ) → IsStateText p vectors events text → IsStateText p vectors events other → text ≡ other
  state_one text other is also =
      let n : ℕ = length p.split.circuit.registers in
      let lines : flat_map (λ r. stored_text (register_of p.split.circuit r) (is.values r)) (range_with_len 0 n)
      ≡ flat_map (λ r. stored_text (register_of p.split.circuit r) (also.values r)) (range_with_len 0 n) =
      texts_agree (λ r. stored_text (register_of p.split.circuit r) (is.values r)) (λ r. stored_text (register_of p.split.circuit r) (also.values r)) 0 n (λ r low.
      ap (stored_text (register_of p.split.circuit r))
      (values_one is.now also.now is.fires also.fires r (is.values r) (also.values r) (is.stored r (omega (arith, low))) (also.stored r (omega (arith, low))))) in
      is.spelt ∙ (ap (λ (t : List ℕ). t ++ fired_line (length events) (length p.graph.events * length vectors)) lines ∙ sym also.spelt)

-- where every event has fired once a vector, each register has stored its clocked values
pub whole_states_are_clocked : WholeStatesAreClocked
whole_states_are_clocked p plan vectors state nets run events legal all text is =
    let s : Split = p.split in
    let n : ℕ = length s.circuit.registers in
    let now : State = is.now in
    let step : IsInStep s vectors state nets now = flow_equivalence s p.graph (accepted_controls s p.graph plan) vectors state nets run events legal now is.fires in
    let counts : now.count ≡ counts_after (λ _. 0) events = counts_are s vectors (first_state s) now events is.fires in
    let long : length p.graph.events ≡ length (split_events s) + length plan.extra = ap length plan.events ∙ length-append (split_events s) plan.extra in
    let own : length (split_events s) ≡ 2 * nodes s = events_long s in
    let values : (r : ℕ) → r < n → is.values r ≡ values_clocked state (length vectors) r = λ r low.
    let (cluster, place, at, stored) = is.stored r low in
    let node : number_of (Slave cluster) < nodes s = number_below s (Slave cluster) at.is_cluster in
    let closed : now.count (closing (Slave cluster)) ≡ length vectors = ap (λ (count : ℕ → ℕ). count (closing (Slave cluster))) counts ∙ all (closing (Slave cluster)) (omega (arith, node, long, own)) in
    stored ∙ (values_are s vectors state nets now step r cluster place at ∙ ap (λ (k : ℕ). values_clocked state k r) closed) in
    let lines : flat_map (λ r. stored_text (register_of s.circuit r) (is.values r)) (range_with_len 0 n)
    ≡ flat_map (λ r. stored_text (register_of s.circuit r) (values_clocked state (length vectors) r)) (range_with_len 0 n) =
    texts_agree (λ r. stored_text (register_of s.circuit r) (is.values r)) (λ r. stored_text (register_of s.circuit r) (values_clocked state (length vectors) r)) 0 n
    (λ r low. ap (stored_text (register_of s.circuit r)) (values r (omega (arith, low)))) in
    let most : ℕ = length p.graph.events * length vectors in
    is.spelt ∙ ap₂ (λ (front : List ℕ) (fired : ℕ). front ++ fired_line fired most) lines (whole_long p.graph (length vectors) events legal all)
