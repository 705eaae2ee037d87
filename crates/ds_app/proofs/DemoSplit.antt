-- The design that is made from a number is split: its clusters and its data edges are few.
use Rattle.std.proofs.Common.{◌≡◌, ◌∙◌, ◌⊎◌, inl, inr, ℕ, zero, suc, ◌+◌, ◌-◌, ◌*◌, ◌<◌, ◌≤◌, List, [], ◌∷◌, ◌++◌, length, map, get_or, refl, sym, ap, subst, arith, length-append}
use Rattle.std.specs.Prelude.{Contains, slice_index}
use Rattle.std.specs.List.{range_with_len}
use Rattle.std.proofs.lemmas.Bool.{cases_lt}
use Rattle.std.proofs.lemmas.List.{get_or-map, get_or_default, length-map}
use Rattle.std.proofs.lemmas.List.FromFn.{get_or-map-range_with_len, get_or-range_with_len, length-map-range_with_len, length-range_with_len}
use Rattle.std.proofs.lemmas.List.Elements.{All-contains, Contains-append_left, Contains-append_right, Contains-get_or}
use Rattle.ds_base.proofs.ListLemmas.{Any-from_map, Contains-map}
use Rattle.ds_base.specs.Limit.{most_of}
use Rattle.ds_base.specs.declared.number.Limit.TheVariants.{Arcs}
use Rattle.ds_base.specs.declared.number.Mode.TheVariants.{Each}
use Rattle.ds_design.specs.Accepted.{IsAccepted}
use Rattle.ds_design.specs.Circuit.{Circuit, data_nets, register_nets}
use Rattle.ds_design.specs.Reach.{Feeds, Reaches, here, through}
use Rattle.ds_design.specs.Levels.{table_nets}
use Rattle.ds_design.specs.declared.design.Gate.{Gate}
use Rattle.ds_design.specs.declared.design.Register.{Register}
use Rattle.ds_latch.specs.Node.{Split, IsNode, members, nets_of, nodes, number_of}
use Rattle.ds_latch.specs.declared.node.Node.{Node}
use Rattle.ds_latch.specs.declared.node.Node.TheVariants.{In, Master, Slave}
use Rattle.ds_latch.specs.Order.{IsDataEdge, IsSource, Supplies, to_master, to_out, to_slave}
use Rattle.ds_latch.specs.declared.latches.Edge.{Edge}
use Rattle.ds_latch.proofs.OrderTokens.{number_below}
use Rattle.ds_split.specs.Cluster.{IsClustering}
use Rattle.ds_split.specs.Nets.{IsProducer}
use Rattle.ds_split.specs.Search.{edge_of}
use Rattle.ds_split.specs.Split.{HasTooManyOrders, split_into}
use Rattle.ds_split.proofs.Pigeons.{few_different}
use Rattle.ds_split.proofs.Sources.{no_table, one_producer}
use Rattle.ds_netlist.specs.Fault.{IsNetFault}
use Rattle.ds_netlist.specs.declared.fault.NetFault.{NetFault}
use Rattle.ds_netlist.specs.declared.fault.NetFault.TheVariants as net
use Rattle.ds_netlist.proofs.FaultyCircuits.{faults_are_refused_lem}
use Rattle.ds_split.proofs.Keyed.{bare}
use Rattle.ds_stage.specs.SplitStage.{parted_stage}
use Rattle.ds_demo.specs.Demo.{demo_design, design_of, gate_of, inputs_of, demo_register, seed_words}
use Rattle.ds_demo.proofs.Accepts.{accepted, two_columns}
use Rattle.ds_demo.proofs.DemoInRange.{inputs-hold}

-- what is made of the numbers from 0 has what is made of each
made_at : {X : Type 0} (f : ℕ → X) (n k : ℕ) → k < n → Contains (map f (range_with_len 0 n)) (f k)
made_at f n k low = (k, omega (arith, length-map-range_with_len f 0 n), get_or-map-range_with_len f 0 n k k (f k) low (omega arith))

-- a number below a limit is one of those from 0
number_at : (n k : ℕ) → k < n → Contains (range_with_len 0 n) k
number_at n k low = (k, omega (arith, length-range_with_len 0 n), get_or-range_with_len 0 n k k low ∙ omega arith)

-- the first two nets
two_at : (net : ℕ) → net < 2 → Contains (0 ∷ 1 ∷ []) net
two_at zero low = (0, omega arith, refl)
two_at (suc zero) low = (1, omega arith, refl)
two_at (suc (suc net)) low = absurd (omega arith)

-- one of three
three_cases : (a b d net : ℕ) → Contains (a ∷ b ∷ d ∷ []) net → (a ≡ net) ⊎ ((b ≡ net) ⊎ (d ≡ net))
three_cases a b d net (zero, inside, at) = inl at
three_cases a b d net (suc zero, inside, at) = inr (inl at)
three_cases a b d net (suc (suc zero), inside, at) = inr (inr at)
three_cases a b d net (suc (suc (suc k)), inside, at) = absurd (omega arith)

module _ (n : ℕ) (words : List ℕ) (some : 1 ≤ n) (few : n ≤ 4096) (clusters : List (List ℕ))
    (are : IsClustering (design_of n words) Each clusters) where
  abbrev c : Circuit
  c = design_of n words

  abbrev s : Split
  s = split_into c clusters

  abbrev gate_at : ℕ → Gate
  gate_at j = gate_of n j (slice_index words j)

  abbrev register_at : ℕ → Register
  register_at j = demo_register n j (slice_index words j)

  -- there are so many registers
  registers_long : length c.registers ≡ n
  registers_long = length-map-range_with_len register_at 0 n

  -- the net that a register drives, and the one that it takes
  output_at : (r : ℕ) → r < n → get_or (register_nets c) r 0 ≡ 2 + r
  output_at r low =
      get_or-map (λ (g : Register). g.output) c.registers r (register_at r) 0 (omega (arith, registers_long))
      ∙ ap (λ (g : Register). g.output) (get_or-map-range_with_len register_at 0 n r r (register_at r) low (omega arith))

  data_at : (r : ℕ) → r < n → get_or (data_nets c) r 0 ≡ 2 + n + r
  data_at r low =
      get_or-map (λ (g : Register). g.data_net) c.registers r (register_at r) 0 (omega (arith, registers_long))
      ∙ ap (λ (g : Register). g.data_net) (get_or-map-range_with_len register_at 0 n r r (register_at r) low (omega arith))

  -- a net that feeds another is one of the inputs of the table of a register, which takes the other
  fed_by : (a b : ℕ) → Feeds c a b → (r : ℕ) × (r < n) × (b ≡ 2 + n + r) × Contains (inputs_of n (slice_index words r)) a
  fed_by a b (k, t, inside, at, (input, output)) =
      let low : k < n = omega (arith, length-map-range_with_len gate_at 0 n) in
      let is : t ≡ gate_at k = sym at ∙ get_or-map-range_with_len gate_at 0 n k k t low (omega arith) in (
        k,
        low,
        sym output ∙ ap (λ (g : Gate). g.output) is,
        subst (λ (g : Gate). Contains g.table.inputs a) is input,
      )

  -- what a table reads, no table drives
  input_low : (word net : ℕ) → Contains (inputs_of n word) net → net < n + 2
  input_low word net is = All-contains (λ k. k < n + 2) (inputs_of n word) net (inputs-hold (λ k. k < n + 2) n word (λ k low. low)) is

  reached_low : (a b : ℕ) → b < n + 2 → Reaches c a b → a ≡ b
  reached_low a _ low here = refl
  reached_low a b low (through path feeds) = let (r, within, is, input) = fed_by _ b feeds in absurd (omega arith)

  -- what reaches the net that a register takes is that net or an input of its table
  reached_data : (a b r : ℕ) → b ≡ 2 + n + r → Reaches c a b → (a ≡ b) ⊎ Contains (inputs_of n (slice_index words r)) a
  reached_data a _ r is here = inl refl
  reached_data a b r is (through path feeds) =
      let (q, within, at, input) = fed_by _ b feeds in
      let same : q ≡ r = omega arith in
      inr (subst (λ (k : ℕ). Contains (inputs_of n (slice_index words k)) a) same
      (subst (λ (k : ℕ). Contains (inputs_of n (slice_index words q)) k) (sym (reached_low a _ (input_low (slice_index words q) _ input) path)) input))

  -- the registers of a cluster are its first one
  abbrev first : ℕ → ℕ
  first i = get_or (members s i) 0 0

  member_low : (i r : ℕ) → i < length clusters → Contains (members s i) r → r < n
  member_low i r inside is =
      let low : r < length c.registers = All-contains (λ q. q < length c.registers) (members s i) r (are.each_once.within i [] inside) is in
      omega (arith, registers_long)

  first_in : (i : ℕ) → i < length clusters → Contains (members s i) (first i)
  first_in i inside = Contains-get_or (members s i) 0 0 (are.some i [] inside)

  only_first : (i r : ℕ) → i < length clusters → Contains (members s i) r → r ≡ first i
  only_first i r inside is =
      let low : r < length c.registers = omega (arith, registers_long, member_low i r inside is) in
      let also : first i < length c.registers = omega (arith, registers_long, member_low i (first i) inside (first_in i inside)) in
      (are.together r (first i) low also).1 (i, members s i, inside, get_or_default clusters i (members s i) [] inside, (is, first_in i inside))

  -- a net behind the columns is that of a register
  register_there : (net : ℕ) → 2 ≤ net → net < n + 2 → net - 2 < length c.registers
  register_there net high within = omega (arith, registers_long)

  -- the nets of IN and of the slaves, each with the number of its node
  home_by : (net : ℕ) → (net < 2) ⊎ (2 ≤ net) → (net < n + 2) ⊎ (n + 2 ≤ net) → ℕ
  home_by net (inl low) which = 0
  home_by net (inr high) (inl within) = 2 * (are.each_once.covered (net - 2) (register_there net high within)).0 + 3
  home_by net (inr high) (inr over) = 0

  in_produces : (net : ℕ) → net < 2 → IsProducer s In net
  in_produces net low = (tt, tt, subst (λ (nets : List ℕ). Contains nets net) (sym (two_columns n words)) (two_at net low))

  slave_produces : (net : ℕ) → 2 ≤ net → (within : net - 2 < length c.registers) → IsProducer s (Slave (are.each_once.covered (net - 2) within).0) net
  slave_produces net high within =
      let (k, registers, inside, at, member) = are.each_once.covered (net - 2) within in
      let here : Contains (members s k) (net - 2) =
      subst (λ (rs : List ℕ). Contains rs (net - 2)) (sym (get_or_default clusters k [] registers inside ∙ at)) member in
      let is : get_or (register_nets c) (net - 2) 0 ≡ net = output_at (net - 2) (omega (arith, registers_long)) ∙ omega arith in (
        tt,
        inside,
        subst (λ (m : ℕ). Contains (nets_of s (Slave k)) m) is (Contains-map (λ r. get_or (register_nets c) r 0) (members s k) (net - 2) here),
      )

  home_is : (p : Node) (net : ℕ) (low : (net < 2) ⊎ (2 ≤ net)) (within : (net < n + 2) ⊎ (n + 2 ≤ net)) → IsProducer s p net → net < n + 2
      → number_of p ≡ home_by net low within
  unfolding home_by
  home_is p net (inl low) which produces there = one_producer s (accepted n words some) are.each_once p In net produces (in_produces net low)
  home_is p net (inr high) (inl within) produces there =
      one_producer s (accepted n words some) are.each_once p (Slave (are.each_once.covered (net - 2) (register_there net high within)).0) net produces
      (slave_produces net high (register_there net high within))
  home_is p net (inr high) (inr over) produces there = absurd (omega arith)

  home : ℕ → ℕ
  home net = home_by net (cases_lt net 2) (cases_lt net (n + 2))

  home_of : (p : Node) (net : ℕ) → IsProducer s p net → net < n + 2 → number_of p ≡ home net
  unfolding home
  home_of p net produces there = home_is p net (cases_lt net 2) (cases_lt net (n + 2)) produces there

  -- the edges that there may be: into OUT from each node, into each slave, and into each master three
  abbrev into_out : ℕ → Edge
  into_out k = edge_of k 1

  abbrev into_slave : ℕ → Edge
  into_slave i = edge_of (2 * i + 2) (2 * i + 3)

  abbrev into_master : ℕ → ℕ → Edge
  into_master j i = edge_of (home (get_or (inputs_of n (slice_index words (first i))) j 0)) (2 * i + 2)

  abbrev into_masters : ℕ → List Edge
  into_masters j = map (into_master j) (range_with_len 0 (length clusters))

  abbrev all_edges : List Edge
  all_edges = map into_out (range_with_len 0 (nodes s)) ++ (map into_slave (range_with_len 0 (length clusters))
      ++ (into_masters 0 ++ (into_masters 1 ++ into_masters 2)))

  all_long : length all_edges ≡ 5 * length clusters + length clusters + 2
  all_long =
      let out : length (map into_out (range_with_len 0 (nodes s))) ≡ nodes s = length-map-range_with_len into_out 0 (nodes s) in
      let slaves : length (map into_slave (range_with_len 0 (length clusters))) ≡ length clusters = length-map-range_with_len into_slave 0 (length clusters) in
      let one : length (into_masters 0) ≡ length clusters = length-map-range_with_len (into_master 0) 0 (length clusters) in
      let two : length (into_masters 1) ≡ length clusters = length-map-range_with_len (into_master 1) 0 (length clusters) in
      let three : length (into_masters 2) ≡ length clusters = length-map-range_with_len (into_master 2) 0 (length clusters) in
      omega (
        arith,
        length-append (map into_out (range_with_len 0 (nodes s))) (map into_slave (range_with_len 0 (length clusters)) ++ (into_masters 0 ++ (into_masters 1 ++ into_masters 2))),
        length-append (map into_slave (range_with_len 0 (length clusters))) (into_masters 0 ++ (into_masters 1 ++ into_masters 2)),
        length-append (into_masters 0) (into_masters 1 ++ into_masters 2),
        length-append (into_masters 1) (into_masters 2),
      )

  -- an edge is one of these
  is_out : (k : ℕ) → k < nodes s → Contains all_edges (into_out k)
  is_out k low = Contains-append_left (map into_out (range_with_len 0 (nodes s))) _ (into_out k) (made_at into_out (nodes s) k low)

  is_slave : (i : ℕ) → i < length clusters → Contains all_edges (into_slave i)
  is_slave i low =
      Contains-append_right (map into_out (range_with_len 0 (nodes s))) _ (into_slave i)
      (Contains-append_left (map into_slave (range_with_len 0 (length clusters))) _ (into_slave i) (made_at into_slave (length clusters) i low))

  is_master : (e : Edge) → Contains (into_masters 0 ++ (into_masters 1 ++ into_masters 2)) e → Contains all_edges e
  is_master e is =
      Contains-append_right (map into_out (range_with_len 0 (nodes s))) _ e
      (Contains-append_right (map into_slave (range_with_len 0 (length clusters))) _ e is)

  is_first : (i : ℕ) → i < length clusters → Contains all_edges (into_master 0 i)
  is_first i low = is_master (into_master 0 i) (Contains-append_left (into_masters 0) _ (into_master 0 i) (made_at (into_master 0) (length clusters) i low))

  is_second : (i : ℕ) → i < length clusters → Contains all_edges (into_master 1 i)
  is_second i low =
      is_master (into_master 1 i) (Contains-append_right (into_masters 0) _ (into_master 1 i)
      (Contains-append_left (into_masters 1) _ (into_master 1 i) (made_at (into_master 1) (length clusters) i low)))

  is_third : (i : ℕ) → i < length clusters → Contains all_edges (into_master 2 i)
  is_third i low =
      is_master (into_master 2 i) (Contains-append_right (into_masters 0) _ (into_master 2 i)
      (Contains-append_right (into_masters 1) _ (into_master 2 i) (made_at (into_master 2) (length clusters) i low)))

  -- what supplies a master is the node of one of the three inputs
  one_of_three : (p : Node) (i net : ℕ) → i < length clusters → IsProducer s p net → Contains (inputs_of n (slice_index words (first i))) net
      → Contains all_edges (edge_of (number_of p) (2 * i + 2))
  one_of_three p i net inside produces is =
      let low : net < n + 2 = input_low (slice_index words (first i)) net is in
      let from : (k : ℕ) → k ≡ net → edge_of (home k) (2 * i + 2) ≡ edge_of (number_of p) (2 * i + 2) = λ k same.
      ap (λ (m : ℕ). edge_of m (2 * i + 2)) (ap home same ∙ sym (home_of p net produces low)) in
      elim (three_cases _ _ _ net is) [
        | inl same ↦ subst (λ (e : Edge). Contains all_edges e) (from _ same) (is_first i inside)
        | inr (inl same) ↦ subst (λ (e : Edge). Contains all_edges e) (from _ same) (is_second i inside)
        | inr (inr same) ↦ subst (λ (e : Edge). Contains all_edges e) (from _ same) (is_third i inside)
      ]

  into_a_master : (p : Node) (i : ℕ) → IsSource p → IsNode s p → i < length clusters → Supplies s p (Master i)
      → Contains all_edges (edge_of (number_of p) (2 * i + 2))
  into_a_master p i source node inside (a, b, has, takes, path) =
      let (k, r, low, at, is) = Any-from_map (λ r. get_or (data_nets c) r 0) (members s i) b takes in
      let within : r < n = member_low i r inside (k, low, at) in
      let net : b ≡ 2 + n + r = sym is ∙ data_at r within in
      let same : r ≡ first i = only_first i r inside (k, low, at) in
      elim (reached_data a b r net path) [
        | inl equal ↦ absurd (no_table s (accepted n words some) are.each_once p a (source, node, has) (data_driven a r within (equal ∙ net)))
        | inr input ↦ one_of_three p i a inside (source, node, has) (subst (λ (q : ℕ). Contains (inputs_of n (slice_index words q)) a) same input)
      ]
    where
      data_driven : (net r : ℕ) → r < n → net ≡ 2 + n + r → Contains (table_nets c) net
      data_driven net r low is =
          subst (λ (m : ℕ). Contains (table_nets c) m) (sym is)
          (Contains-map (λ (g : Gate). g.output) c.tables (gate_at r) (made_at gate_at n r low))

  edge_in : (p d : Node) → IsDataEdge s p d → Contains all_edges (edge_of (number_of p) (number_of d))
  edge_in p _ (to_out source node supplies) = is_out (number_of p) (number_below s p node)
  edge_in _ _ (to_slave inside) = is_slave _ inside
  edge_in p _ (to_master source node inside supplies) = into_a_master p _ source node inside supplies

  clusters_few : length clusters ≤ n
  clusters_few =
      let head : List ℕ → ℕ = λ registers. slice_index registers 0 in
      let long : length (map head clusters) ≡ length clusters = length-map clusters head in
      let less : length (map head clusters) ≤ length (range_with_len 0 n) =
      few_different (map head clusters) (range_with_len 0 n)
      (λ a b d below inside same.
      let rising : head (get_or clusters a []) < head (get_or clusters b []) = are.by_first a b [] below (omega arith) in
      let one : get_or (map head clusters) a d ≡ head (get_or clusters a []) = get_or-map head clusters a [] d (omega arith) in
      let other : get_or (map head clusters) b d ≡ head (get_or clusters b []) = get_or-map head clusters b [] d (omega arith) in
      absurd (omega arith))
      (λ r (k, inside, at).
      let low : k < length clusters = omega arith in
      let is : r ≡ head (get_or clusters k []) = sym at ∙ get_or-map head clusters k [] r low in
      number_at n r (subst (λ (m : ℕ). m < n) (sym is) (member_low k (head (get_or clusters k [])) low (first_in k low)))) in
      omega (arith, length-range_with_len 0 n)

  pub few_orders : ¬ HasTooManyOrders s
  few_orders many =
      let less : length many.edges ≤ length all_edges = few_different many.edges all_edges many.once (λ e is.
      let (p, d, edge, at) = many.data_edges e is in subst (λ (x : Edge). Contains all_edges x) (sym at) (edge_in p d edge)) in
      let over : most_of Arcs < 2 * nodes s + 2 * length many.edges = many.many in
      omega (arith, all_long, clusters_few)

-- a design of words in clusters of one register is split
pub not_refused : (n : ℕ) (words : List ℕ) → 1 ≤ n → n ≤ 4096 → (file line : List ℕ)
    → ¬ (parted_stage file Each (design_of n words) []).refused line
not_refused n words some few file line (inl ((clusters, are, many), spelt)) =
    absurd (omega (arith, clusters_few n words some few clusters ((bare (design_of n words) Each clusters).0 are)))
not_refused n words some few file line (inr (t, is, many, spelt)) =
    few_orders n words some few is.clusters ((bare (design_of n words) Each is.clusters).0 is.are) (subst (λ (s : Split). HasTooManyOrders s) is.is many)

-- so it is where the words are those of a seed
pub made_not_refused : (seed registers : ℕ) → 1 ≤ registers → registers ≤ 4096 → (file : List ℕ) (d : Circuit) → d ≡ demo_design seed registers
    → (line : List ℕ) → ¬ (parted_stage file Each d []).refused line
unfolding demo_design
made_not_refused seed registers some few file d is line refused =
    not_refused registers (seed_words registers seed) some few file line (subst (λ (e : Circuit). (parted_stage file Each e []).refused line) is refused)

-- and the design is accepted
pub made_accepted : (seed registers : ℕ) → 1 ≤ registers → (d : Circuit) → d ≡ demo_design seed registers → IsAccepted d
unfolding demo_design
made_accepted seed registers some d is =
    subst (λ (e : Circuit). IsAccepted e) (sym is) (accepted registers (seed_words registers seed) some)

-- nothing but want of memory is a fault of a design that is accepted
pub only_memory : (d : Circuit) (fault : NetFault) → IsAccepted d → IsNetFault d fault → fault ≡ net.Memory
only_memory d net.Memory is faulty = refl
only_memory d (net.SeveralClocks a b) is faulty = absurd (faults_are_refused_lem d (net.SeveralClocks a b) (λ same. cc) faulty is)
only_memory d (net.MixedEdges a b) is faulty = absurd (faults_are_refused_lem d (net.MixedEdges a b) (λ same. cc) faulty is)
only_memory d (net.DrivenClock a) is faulty = absurd (faults_are_refused_lem d (net.DrivenClock a) (λ same. cc) faulty is)
only_memory d (net.ClockAsData a) is faulty = absurd (faults_are_refused_lem d (net.ClockAsData a) (λ same. cc) faulty is)
only_memory d (net.MultiplyDriven a b e) is faulty = absurd (faults_are_refused_lem d (net.MultiplyDriven a b e) (λ same. cc) faulty is)
only_memory d (net.Undriven a) is faulty = absurd (faults_are_refused_lem d (net.Undriven a) (λ same. cc) faulty is)
only_memory d (net.CombinationalCycle nets) is faulty = absurd (faults_are_refused_lem d (net.CombinationalCycle nets) (λ same. cc) faulty is)
