-- Flow equivalence, by one firing at a time.
use Rattle.std.proofs.Common.{◌≡◌, ◌≢◌, ℕ, suc, ◌+◌, ◌<◌, ◌≤◌, List, [], ◌∷◌, ◌++◌, length, get_or, map, refl, arith, ap, sym, ◌∙◌, inl, inr, subst, add-one}
use Rattle.std.specs.Prelude.{All, Contains}
use Rattle.std.specs.List.{range_with_len}
use Rattle.std.proofs.lemmas.Bool.{cases_eq}
use Rattle.std.proofs.lemmas.List.{get_or-map, length-map}
use Rattle.std.proofs.lemmas.List.Elements.{Contains-append_cases, Contains-get_or}
use Rattle.std.proofs.lemmas.List.FromFn.{map-range_with_len_more}
use Rattle.ds_base.specs.Values.{Row}
use Rattle.ds_base.specs.declared.value.Value.TheVariants.{Zero}
use Rattle.ds_cover.specs.Cover.{value_at, values_at}
use Rattle.ds_design.specs.Circuit.{columns, register_nets}
use Rattle.std.proofs.Math.Nat.{zero-mod}
use Rattle.ds_design.specs.Valuation.{IsValuation}
use Rattle.ds_design.specs.Reach.{Reaches}
use Rattle.ds_design.specs.Run.{IsRun, row_at}
use Rattle.ds_marked.specs.Graph.{Graph, Agrees, IsEnabled, IsLegal, IsLegalFrom, counted}
use Rattle.ds_latch.specs.Node.{Split, IsNode, number_of, opening, closing, nodes, extra_event, place_of, members, nets_of, zeros}
use Rattle.ds_latch.specs.declared.node.Node.{Node}
use Rattle.ds_latch.specs.declared.node.Node.TheVariants.{In, Out, Master, Slave}
use Rattle.ds_latch.specs.Order.{IsSource, IsDataEdge, to_master, to_out, to_slave, opens_first, closes_before_next, after_producer, before_reuse, open_tokens, close_tokens, Supplies}
use Rattle.ds_latch.specs.Plan.{IsSplit, IsController}
use Rattle.ds_latch.specs.Numbered.{numbered}
use Rattle.ds_latch.specs.Firing.{State, first_state, first_row, placed, changed, opening_read, read_rows, Fires, opens, closes, counts_up, opened_state, closed_state, counted_state, FiresAll, Takes, IsSettled, AreRegisters}
use Rattle.ds_latch.specs.Flow.{IsInStep}
use Rattle.ds_base.proofs.ListLemmas.{map_agree, agree_from_map, Contains-map, get_or-default}
use Rattle.ds_design.proofs.OneValuation.{depends_on_sources}
use Rattle.ds_latch.proofs.EventNodes.{IsEvent, is_opening, is_closing, is_extra, event_of}
use Rattle.ds_marked.proofs.CountLemmas.{counted-same, counted-other, agrees_kept, within_kept}
use Rattle.ds_latch.proofs.TurnValues.{run_settles, master_value}
use Rattle.ds_latch.proofs.OrderTokens.{order_ready, edge_tokens, read_tokens, number_below, places_differ, cases_changed}
use Rattle.ds_base.proofs.Tests.{test_same, test_other}

-- the value of a register, by its net and by its place
register_value : (nets state : Row) (these : List ℕ) → values_at nets these ≡ state → (r net : ℕ) → r < length these → get_or these r net ≡ net → value_at nets net ≡ value_at state r
register_value nets state these is r net inside at =
    ap (value_at nets) (sym at) ∙ (sym (get_or-map (value_at nets) these r net Zero inside) ∙ ap (λ values. get_or values r Zero) is)

pub fires_count : (s : Split) (vectors : List Row) (now : State) (v : ℕ) (next : State) → Fires s vectors now v next → next.count ≡ counted v now.count
fires_count s vectors now _ _ (opens n row is_node takes) = refl
fires_count s vectors now _ _ (closes n is_node) = refl
fires_count s vectors now _ _ (counts_up e) = refl

-- the nodes whose opening settles: every source that supplies them is a producer
abbrev pub Settles : Split → Node → Type 0
Settles s n = (p : Node) → IsSource p → IsNode s p → Supplies s p n → IsDataEdge s p n

pub settles_out : (s : Split) → Settles s Out
settles_out s p source is_p supplies = to_out source is_p supplies

pub settles_master : (s : Split) (i : ℕ) → i < length s.clusters → Settles s (Master i)
settles_master s i inside p source is_p supplies = to_master source is_p inside supplies

slave_is_node : (s : Split) (i : ℕ) (n : Node) → IsDataEdge s (Slave i) n → i < length s.clusters
slave_is_node s i _ (to_master source is_p inside supplies) = is_p
slave_is_node s i _ (to_out source is_p supplies) = is_p

pub settles_from_all : (s : Split) (shown : Node → Row) (n : Node) (state nets : Row) → AreRegisters s shown state → IsValuation s.circuit state (shown In) nets → IsSettled s shown n (values_at nets (nets_of s n))
settles_from_all s shown n state nets registers valuation = record {
  state = state;
  vector = shown In;
  nets = nets;
  valuation = valuation;
  slaves = λ i edge. registers.1 i (slave_is_node s i n edge);
  columns = λ edge. refl;
  row_is = refl;
}

-- where the producers show the same, the same settles
module _ (s : Split) (split : IsSplit s) (n : Node) (edges : Settles s n) (shown shown' : Node → Row) (same : (p : Node) → IsNode s p → IsDataEdge s p n → shown p ≡ shown' p) (row other : Row) (one : IsSettled s shown n row) (two : IsSettled s shown' n other) where
  from_source : (net : ℕ) → Contains (nets_of s n) net → (source : ℕ) → Contains (columns s.circuit ++ register_nets s.circuit) source → Reaches s.circuit source net → value_at one.nets source ≡ value_at two.nets source
  from_source net in_consumer source is_source reaches =
      elim (Contains-append_cases (columns s.circuit) (register_nets s.circuit) source is_source) [
        | inl column ↦
            (let e : IsDataEdge s In n = edges In tt tt (source, net, column, in_consumer, reaches) in
            agree_from_map (value_at one.nets) (value_at two.nets) (columns s.circuit)
            (one.valuation.column ∙ (one.columns e ∙ (same In tt e ∙ (sym (two.columns e) ∙ sym two.valuation.column)))) source column)
        | inr register ↦
            (let (r, in_range, is_r) = register in
            let is_register : r < length s.circuit.registers = (let n : length (register_nets s.circuit) ≡ length s.circuit.registers = length-map s.circuit.registers (λ r. r.output) in omega arith) in
            let (d, cluster, inside, is, in_cluster) = split.covered r is_register in
            let at : cluster ≡ members s d = sym is ∙ get_or-default s.clusters d cluster [] inside in
            let in_members : Contains (members s d) r = subst (λ (rs : List ℕ). Contains rs r) at in_cluster in
            let net_of : get_or (register_nets s.circuit) r 0 ≡ source = get_or-default (register_nets s.circuit) r 0 source in_range ∙ is_r in
            let in_slave : Contains (nets_of s (Slave d)) source = subst (λ (net : ℕ). Contains (nets_of s (Slave d)) net) net_of (Contains-map (λ r. get_or (register_nets s.circuit) r 0) (members s d) r in_members) in
            let e : IsDataEdge s (Slave d) n = edges (Slave d) tt inside (source, net, in_slave, in_consumer, reaches) in
            let states : values_at one.state (members s d) ≡ values_at two.state (members s d) = one.slaves d e ∙ (same (Slave d) inside e ∙ sym (two.slaves d e)) in
            register_value one.nets one.state (register_nets s.circuit) one.valuation.register r source in_range is_r
            ∙ (agree_from_map (value_at one.state) (value_at two.state) (members s d) states r in_members
            ∙ sym (register_value two.nets two.state (register_nets s.circuit) two.valuation.register r source in_range is_r)))
      ]

  pub settled_same : row ≡ other
  settled_same =
      one.row_is ∙ (map_agree (value_at one.nets) (value_at two.nets) (nets_of s n) (λ j d inside.
      depends_on_sources s.circuit split.accepted one.state one.vector one.nets one.valuation two.state two.vector two.nets two.valuation (get_or (nets_of s n) j d)
      (from_source (get_or (nets_of s n) j d) (Contains-get_or (nets_of s n) j d inside))) ∙ sym two.row_is)

pub one_row_taken : (s : Split) → IsSplit s → (vectors : List Row) (now : State) (opened : ℕ) (n : Node) (row other : Row) → IsNode s n → Takes s vectors now opened n row → Takes s vectors now opened n other → row ≡ other
one_row_taken s split vectors now opened In row other is_node one two = one ∙ sym two
one_row_taken s split vectors now opened Out row other is_node one two = settled_same s split Out (settles_out s) (read_rows s now opened) (read_rows s now opened) (λ p is_p edge. refl) row other one two
one_row_taken s split vectors now opened (Master i) row other is_node one two = settled_same s split (Master i) (settles_master s i is_node) (read_rows s now opened) (read_rows s now opened) (λ p is_p edge. refl) row other one two
one_row_taken s split vectors now opened (Slave i) row other is_node one two = one ∙ sym two

-- what settles for what the producers show
pub settled_where : (s : Split) (n : Node) (shown shown' : Node → Row) → ((p : Node) → IsNode s p → IsDataEdge s p n → shown p ≡ shown' p) → (row : Row) → IsSettled s shown n row → IsSettled s shown' n row
settled_where s n shown shown' same row is = record {
  state = is.state;
  vector = is.vector;
  nets = is.nets;
  valuation = is.valuation;
  slaves = λ i edge. is.slaves i edge ∙ same (Slave i) (slave_is_node s i n edge) edge;
  columns = λ edge. is.columns edge ∙ same In tt edge;
  row_is = is.row_is;
}

module _ (s : Split) (g : Graph) (controller : IsController s g) (vectors : List Row) (state nets : ℕ → Row) (run : IsRun s.circuit s.initial vectors state nets) where
  abbrev pub V : Node → ℕ → Row
  V n k = numbered s vectors state nets n k

  pub record InStep (now : State) : Type 0 where
    pub agrees : All (Agrees now.count) g.arcs
    pub within : (v : ℕ) → now.count v ≤ length vectors
    pub step : IsInStep s vectors state nets now

  module _ (now : State) (good : InStep now) where
    opened : Node → ℕ
    opened n = now.count (opening n)

    closed_first : (n : Node) → IsNode s n → now.count (closing n) ≤ now.count (opening n)
    closed_first n is_node = (let o : now.count (closing n) ≤ now.count (opening n) + 0 = controller.meets now.count good.agrees (opening n) (closing n) 0 (opens_first n is_node) in omega arith)

    -- while an opening is enabled, its producers have what it is to read
    reads : (c : Node) → IsNode s c → IsEnabled g (length vectors) now.count (opening c) → (p : Node) → IsNode s p → IsDataEdge s p c → read_rows s now (now.count (opening c)) p ≡ V p (opening_read p (now.count (opening c)))
    reads c is_node enabled p is_p edge =
        let closed : now.count (closing c) ≤ now.count (opening c) = closed_first c is_node in
        let low : now.count (opening c) + 1 ≤ now.count (opening p) + open_tokens p = order_ready s g controller now.count good.agrees (length vectors) (opening c) enabled (opening p) (open_tokens p) (after_producer p c edge) in
        let high : now.count (opening p) ≤ now.count (closing c) + close_tokens s p = controller.meets now.count good.agrees (closing c) (opening p) (close_tokens s p) (before_reuse p c edge) in
        let read : opening_read p (now.count (opening c)) + open_tokens p ≡ now.count (opening c) + 1 = read_tokens p (now.count (opening c)) in
        let both : open_tokens p + close_tokens s p ≡ s.slack + 1 = edge_tokens s p in
        good.step.kept p is_p (opening_read p (now.count (opening c))) (omega arith) (omega arith)

    -- what settles as a node opens are the run's values at its nets
    settled : (n : Node) → IsNode s n → Settles s n → IsEnabled g (length vectors) now.count (opening n) → (row : Row) → IsSettled s (read_rows s now (now.count (opening n))) n row → row ≡ values_at (nets (now.count (opening n))) (nets_of s n)
    settled n is_node edges enabled row is =
        settled_same s controller.split n edges (read_rows s now (now.count (opening n))) (λ p. V p (opening_read p (now.count (opening n)))) (reads n is_node enabled) row (values_at (nets (now.count (opening n))) (nets_of s n)) is (run_settles s controller.split vectors state nets run n (now.count (opening n)) enabled.below)

    -- what a node takes as it opens is its next value
    taken : (n : Node) → IsNode s n → IsEnabled g (length vectors) now.count (opening n) → (row : Row) → Takes s vectors now (now.count (opening n)) n row → row ≡ V n (suc (now.count (opening n)))
    taken In is_node enabled row is = is
    taken Out is_node enabled row is = settled Out tt (settles_out s) enabled row is
    taken (Master i) is_node enabled row is = settled (Master i) is_node (settles_master s i is_node) enabled row is ∙ master_value s controller.split vectors state nets run i is_node (now.count (opening (Master i))) enabled.below
    taken (Slave i) is_node enabled row is =
        is ∙ (reads (Slave i) is_node enabled (Master i) is_node (to_slave is_node) ∙ ap (V (Master i)) (add-one (now.count (opening (Slave i)))))

    -- the row that an opening puts is in its place, and the rows of the openings before stay where they were
    module _ (n : Node) (is_node : IsNode s n) (enabled : IsEnabled g (length vectors) now.count (opening n)) (row : Row) (takes : Takes s vectors now (now.count (opening n)) n row) where
      put : (k : ℕ) → k ≤ now.count (opening n) + 1 → now.count (opening n) + 1 ≤ k + s.slack → placed (place_of s (now.count (opening n) + 1)) row (now.rows n) (place_of s k) ≡ V n k
      put k most least =
          elim (cases_eq k (now.count (opening n) + 1)) [
            | inl e ↦ test_same (place_of s k) (place_of s (now.count (opening n) + 1)) row (now.rows n (place_of s k)) (ap (place_of s) e) ∙ (taken n is_node enabled row takes ∙ ap (V n) (sym (e ∙ add-one (now.count (opening n)))))
            | inr ne ↦
                test_other (place_of s k) (place_of s (now.count (opening n) + 1)) row (now.rows n (place_of s k)) (λ e. places_differ s k (now.count (opening n) + 1) (omega arith) least (sym e))
                ∙ good.step.kept n is_node k (omega arith) (omega arith)
          ]

      opening_kept : (m : Node) → IsNode s m → (k : ℕ) → k ≤ counted (opening n) now.count (opening m) → counted (opening n) now.count (opening m) ≤ k + s.slack → changed n (placed (place_of s (now.count (opening n) + 1)) row (now.rows n)) now.rows m (place_of s k) ≡ V m k
      opening_kept m is_m k most least =
          elim (cases_changed n (placed (place_of s (now.count (opening n) + 1)) row (now.rows n)) now.rows m) [
            | inl (e, is) ↦
                (let same : now.count (opening m) ≡ now.count (opening n) = ap (λ (x : Node). now.count (opening x)) e in
                let more : counted (opening n) now.count (opening m) ≡ now.count (opening m) + 1 = counted-same (opening n) (opening m) now.count (ap opening e) in
                ap (λ (f : ℕ → Row). f (place_of s k)) is ∙ (put k (omega arith) (omega arith) ∙ ap (λ (x : Node). V x k) (sym e)))
            | inr (ne, is) ↦
                (let same : counted (opening n) now.count (opening m) ≡ now.count (opening m) = counted-other (opening n) (opening m) now.count (λ e. ne (omega arith)) in
                ap (λ (f : ℕ → Row). f (place_of s k)) is ∙ good.step.kept m is_m k (omega arith) (omega arith))
          ]

    -- an event that is no opening leaves the rows
    rows_kept : (v : ℕ) → ((m : Node) → IsNode s m → opening m ≢ v) → (m : Node) → IsNode s m → (k : ℕ) → k ≤ counted v now.count (opening m) → counted v now.count (opening m) ≤ k + s.slack → now.rows m (place_of s k) ≡ V m k
    rows_kept v none m is_m k most least =
        let same : counted v now.count (opening m) ≡ now.count (opening m) = counted-other v (opening m) now.count (none m is_m) in
        good.step.kept m is_m k (omega arith) (omega arith)

    -- an event that is no closing leaves what is stored
    stored_kept : (v : ℕ) → ((m : Node) → IsNode s m → closing m ≢ v) → (m : Node) → IsNode s m → now.stored m ≡ map (V m) (range_with_len 1 (counted v now.count (closing m)))
    stored_kept v none m is_m = good.step.stored m is_m ∙ ap (λ k. map (V m) (range_with_len 1 k)) (sym (counted-other v (closing m) now.count (none m is_m)))

    -- a closing stores the value of its opening
    module _ (n : Node) (is_node : IsNode s n) (enabled : IsEnabled g (length vectors) now.count (closing n)) where
      stored_more : now.stored n ++ now.rows n (place_of s (now.count (closing n) + 1)) ∷ [] ≡ map (V n) (range_with_len 1 (now.count (closing n) + 1))
      stored_more =
          let low : now.count (closing n) + 1 ≤ now.count (opening n) + 0 = order_ready s g controller now.count good.agrees (length vectors) (closing n) enabled (opening n) 0 (opens_first n is_node) in
          let high : now.count (opening n) ≤ now.count (closing n) + 1 = controller.meets now.count good.agrees (closing n) (opening n) 1 (closes_before_next n is_node) in
          let held : now.rows n (place_of s (now.count (closing n) + 1)) ≡ V n (now.count (closing n) + 1) = good.step.kept n is_node (now.count (closing n) + 1) (omega arith) (omega arith) in
          ap (λ (rows : List Row). rows ++ now.rows n (place_of s (now.count (closing n) + 1)) ∷ []) (good.step.stored n is_node)
          ∙ (ap (λ (row : Row). map (V n) (range_with_len 1 (now.count (closing n))) ++ row ∷ []) held
          ∙ sym (map-range_with_len_more (V n) 1 (now.count (closing n)) (now.count (closing n) + 1) (omega arith)))

      closing_stored : (m : Node) → IsNode s m → changed n (now.stored n ++ now.rows n (place_of s (now.count (closing n) + 1)) ∷ []) now.stored m ≡ map (V m) (range_with_len 1 (counted (closing n) now.count (closing m)))
      closing_stored m is_m =
          elim (cases_changed n (now.stored n ++ now.rows n (place_of s (now.count (closing n) + 1)) ∷ []) now.stored m) [
            | inl (e, is) ↦
                (let P : Node → Type 0 = λ m. now.stored n ++ now.rows n (place_of s (now.count (closing n) + 1)) ∷ [] ≡ map (V m) (range_with_len 1 (counted (closing n) now.count (closing m))) in
                is ∙ subst P (sym e) (stored_more ∙ ap (λ k. map (V n) (range_with_len 1 k)) (sym (counted-same (closing n) (closing n) now.count refl))))
            | inr (ne, is) ↦ is ∙ (good.step.stored m is_m ∙ ap (λ k. map (V m) (range_with_len 1 k)) (sym (counted-other (closing n) (closing m) now.count (λ e. ne (omega arith)))))
          ]

    step_kept : (v : ℕ) (next : State) → IsEnabled g (length vectors) now.count v → Fires s vectors now v next → InStep next
    step_kept _ _ enabled (opens n row is_node takes) = record {
      agrees = agrees_kept g (length vectors) now.count (opening n) enabled good.agrees;
      within = within_kept g (length vectors) now.count (opening n) enabled good.within;
      step = record {
        kept = opening_kept n is_node enabled row takes;
        stored = stored_kept (opening n) (λ m is_m e. absurd (omega arith));
      };
    }
    step_kept _ _ enabled (closes n is_node) = record {
      agrees = agrees_kept g (length vectors) now.count (closing n) enabled good.agrees;
      within = within_kept g (length vectors) now.count (closing n) enabled good.within;
      step = record {
        kept = rows_kept (closing n) (λ m is_m e. absurd (omega arith));
        stored = closing_stored n is_node enabled;
      };
    }
    step_kept _ _ enabled (counts_up e) = record {
      agrees = agrees_kept g (length vectors) now.count (extra_event s e) enabled good.agrees;
      within = within_kept g (length vectors) now.count (extra_event s e) enabled good.within;
      step = record {
        kept = rows_kept (extra_event s e) (λ m is_m same. (let below : number_of m < nodes s = number_below s m is_m in absurd (omega arith)));
        stored = stored_kept (extra_event s e) (λ m is_m same. (let below : number_of m < nodes s = number_below s m is_m in absurd (omega arith)));
      };
    }

  all_kept : (events : List ℕ) (now new : State) → InStep now → IsLegalFrom g (length vectors) now.count events → FiresAll s vectors now events new → InStep new
  all_kept [] now new good legal fires = subst InStep (sym fires) good
  all_kept (v ∷ events) now new good legal fires =
      let (next, first, rest) = fires in
      all_kept events next new (step_kept now good v next legal.0 first)
      (subst (λ (count : ℕ → ℕ). IsLegalFrom g (length vectors) count events) (sym (fires_count s vectors now v next first)) legal.1) rest

  first_row_is : (n : Node) → first_row s n ≡ V n 0
  first_row_is In = refl
  first_row_is Out = refl
  first_row_is (Master i) = refl
  first_row_is (Slave i) = ap (λ values. values_at values (members s i)) (sym run.starts)

  first_in_step : InStep (first_state s)
  first_in_step = record {
    agrees = λ j d inside. omega arith;
    within = λ v. omega arith;
    step = record {
      kept = λ n is_node k most least.
          let none : k ≡ 0 = omega arith in
          test_same (place_of s k) 0 (first_row s n) (zeros s n) (ap (place_of s) none ∙ zero-mod (s.slack + 1)) ∙ (first_row_is n ∙ ap (V n) (sym none));
      stored = λ n is_node. refl;
    };
  }

  pub steps_kept : (events : List ℕ) → IsLegal g (length vectors) events → (now : State) → FiresAll s vectors (first_state s) events now → InStep now
  steps_kept events legal now fires = all_kept events (first_state s) now first_in_step legal fires

  pub flow_equivalence : (events : List ℕ) → IsLegal g (length vectors) events → (now : State) → FiresAll s vectors (first_state s) events now → IsInStep s vectors state nets now
  flow_equivalence events legal now fires = (steps_kept events legal now fires).step

  -- an enabled event can fire
  next_row : (now : State) → InStep now → (n : Node) → IsNode s n → IsEnabled g (length vectors) now.count (opening n) → (row : Row) × Takes s vectors now (now.count (opening n)) n row
  next_row now good In is_node enabled = (row_at vectors (now.count (opening In)), refl)
  next_row now good Out is_node enabled = (
    values_at (nets (now.count (opening Out))) (nets_of s Out),
    settled_where s Out (λ p. V p (opening_read p (now.count (opening Out)))) (read_rows s now (now.count (opening Out))) (λ p is_p edge. sym (reads now good Out is_node enabled p is_p edge)) (values_at (nets (now.count (opening Out))) (nets_of s Out)) (run_settles s controller.split vectors state nets run Out (now.count (opening Out)) enabled.below),
  )
  next_row now good (Master i) is_node enabled = (
    values_at (nets (now.count (opening (Master i)))) (nets_of s (Master i)),
    settled_where s (Master i) (λ p. V p (opening_read p (now.count (opening (Master i))))) (read_rows s now (now.count (opening (Master i)))) (λ p is_p edge. sym (reads now good (Master i) is_node enabled p is_p edge)) (values_at (nets (now.count (opening (Master i)))) (nets_of s (Master i))) (run_settles s controller.split vectors state nets run (Master i) (now.count (opening (Master i))) enabled.below),
  )
  next_row now good (Slave i) is_node enabled = (read_rows s now (now.count (opening (Slave i))) (Master i), refl)

  next_state : (now : State) → InStep now → (v : ℕ) → IsEnabled g (length vectors) now.count v → IsEvent s v → (next : State) × Fires s vectors now v next
  next_state now good _ enabled (is_opening n is_node) = (let (row, takes) = next_row now good n is_node enabled in (opened_state s now n row, opens n row is_node takes))
  next_state now good _ enabled (is_closing n is_node) = (closed_state s now n, closes n is_node)
  next_state now good _ enabled (is_extra e) = (counted_state now (extra_event s e), counts_up e)

  some_firing_from : (events : List ℕ) (now : State) → InStep now → IsLegalFrom g (length vectors) now.count events → (new : State) × FiresAll s vectors now events new
  some_firing_from [] now good legal = (now, refl)
  some_firing_from (v ∷ events) now good (enabled, legal) =
      let (next, fires) = next_state now good v enabled (event_of s v) in
      let (new, rest) = some_firing_from events next (step_kept now good v next enabled fires) (subst (λ (count : ℕ → ℕ). IsLegalFrom g (length vectors) count events) (sym (fires_count s vectors now v next fires)) legal) in
      (new, (next, fires, rest))

  pub some_firing : (events : List ℕ) → IsLegal g (length vectors) events → (now : State) × FiresAll s vectors (first_state s) events now
  some_firing events legal = some_firing_from events (first_state s) first_in_step legal
