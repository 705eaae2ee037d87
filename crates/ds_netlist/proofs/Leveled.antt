-- Where no net is driven twice, the ranks of the nets are their levels; and a circuit without a fault
-- and with ranks is accepted.
use Rattle.std.proofs.Common.{◌≡◌, ◌≢◌, ◌∙◌, ℕ, suc, ◌+◌, ◌-◌, ◌<◌, ◌≤◌, true, false, List, [], ◌∷◌, ◌++◌, length, get_or, map, refl, sym, ap, arith, inl, inr, subst, ◌==◌, ◌||◌, if◌then◌else◌, None}
use Rattle.std.specs.Prelude.{All, AllPairs, Contains}
use Rattle.std.specs.List.{list_any, range_with_len}
use Rattle.std.proofs.lemmas.Bool.{cases_lt}
use Rattle.std.proofs.lemmas.List.{get_or_default, get_or-map, get_or_past, length-map}
use Rattle.ds_base.specs.Greatest.{greatest}
use Rattle.ds_base.proofs.AppendedPairs.{pairs-left, pairs-right}
use Rattle.ds_design.specs.Circuit.{Circuit, columns, control_nets, register_nets, drivers, used}
use Rattle.ds_design.specs.InRange.{IsInRange}
use Rattle.ds_design.specs.Accepted.{IsAccepted}
use Rattle.ds_design.specs.Levels.{AreLevels, IsSortedByLevel, IsTableOrder, table_nets}
use Rattle.ds_design.specs.declared.design.Gate.{Gate}
use Rattle.ds_design.proofs.ByLevel.{le_greatest, not_read}
use Rattle.ds_design.proofs.ControlNames.{among_yes, among_no}
use Rattle.ds_netlist.specs.Edges.{AreNetRanks, floor_in}
use Rattle.ds_netlist.specs.Fault.{fault_of, is_in, several_clocks, mixed_edges, driven_clock, clock_as_data, multiply_driven, undriven}
use Rattle.ds_cover.specs.Series.{Ordered}
use Rattle.ds_design.specs.Banked.{IsBankOf}
use Rattle.ds_netlist.specs.Verdict.{AreNetlistParts}
use Rattle.ds_netlist.specs.declared.fault.NetFault.TheVariants.{DrivenClock, ClockAsData}
use Rattle.ds_netlist.proofs.FirstMatch.{or_none}
use Rattle.ds_netlist.proofs.Checked.{all_driven, clock_apart, one_driver, one_edge, one_name}
use Rattle.ds_netlist.proofs.TablesByLevel.{all_lem, once_lem, places_lem}

-- the greatest is no more than what all are at most
greatest_le : (f : ℕ → ℕ) (xs : List ℕ) (m : ℕ) → ((x : ℕ) → Contains xs x → f x ≤ m) → greatest (map f xs) ≤ m
greatest_le f [] m all = omega arith
greatest_le f (x ∷ xs) m all =
    let here = all x (0, omega arith, refl) in
    let rest = greatest_le f xs m (λ y (k, inside, is). all y (suc k, omega arith, is)) in
    omega arith

-- a table drives a net, by the test on the tables and by that on their nets
by_nets : (tables : List Gate) (net : ℕ) → list_any (λ t. t.output == net) tables ≡ is_in (map (λ t. t.output) tables) net
by_nets [] net = refl
by_nets (t ∷ ts) net = ap (λ b. (t.output == net) || b) (by_nets ts net)

floor_one : (tables : List Gate) (net : ℕ) → Contains (map (λ t. t.output) tables) net → floor_in tables net ≡ 1
floor_one tables net c =
    let yes_net : list_any (λ t. t.output == net) tables ≡ true = by_nets tables net ∙ among_yes (map (λ t. t.output) tables) net c in
    ap (λ b. if b then 1 else 0) yes_net

floor_zero : (tables : List Gate) (net : ℕ) → ¬ Contains (map (λ t. t.output) tables) net → floor_in tables net ≡ 0
floor_zero tables net none =
    let no_net : list_any (λ t. t.output == net) tables ≡ false = by_nets tables net ∙ among_no (map (λ t. t.output) tables) net none in
    ap (λ b. if b then 1 else 0) no_net

-- the net that a table drives
out_at : (tables : List Gate) (k : ℕ) (d : Gate) → k < length tables → get_or (map (λ t. t.output) tables) k 0 ≡ (get_or tables k d).output
out_at tables k d inside = get_or-map (λ (t : Gate). t.output) tables k d 0 inside

out_in : (tables : List Gate) (k : ℕ) (t : Gate) → k < length tables → get_or tables k t ≡ t → Contains (map (λ t. t.output) tables) t.output
out_in tables k t inside is = (
  k,
  let long = length-map tables (λ (t : Gate). t.output) in omega arith,
  get_or-map (λ (t : Gate). t.output) tables k t t.output inside ∙ ap (λ (x : Gate). x.output) is,
)

-- tables that drive different nets
same_place : (tables : List Gate) → AllPairs (λ a b. a ≢ b) (map (λ t. t.output) tables) → (i j : ℕ) (d e : Gate) → i < length tables → j < length tables
    → (get_or tables i d).output ≡ (get_or tables j e).output → i ≡ j
same_place tables pairs i j d e low high same =
    let long = length-map tables (λ (t : Gate). t.output) in
    let one = out_at tables i d low in
    let two = out_at tables j e high in
    elim (cases_lt i j) [
      | inl lt ↦ absurd (pairs i j 0 lt (omega arith) (one ∙ (same ∙ sym two)))
      | inr ge ↦ elim (cases_lt j i) [
        | inl gt ↦ absurd (pairs j i 0 gt (omega arith) (two ∙ (sym same ∙ sym one)))
        | inr le ↦ omega arith
      ]
    ]

module _ (c : Circuit) (in_range : IsInRange c) (pairs : AllPairs (λ a b. a ≢ b) (drivers c)) (levels : List ℕ) (h : AreNetRanks c levels) where
  table_pairs : AllPairs (λ a b. a ≢ b) (table_nets c)
  table_pairs = pairs-right (columns c) (table_nets c) (pairs-left (columns c ++ table_nets c) (register_nets c) pairs)

  rises_at : (k : ℕ) (d : Gate) → k < length c.tables → (x : ℕ) → Contains (get_or c.tables k d).table.inputs x
      → get_or levels x 0 + 1 ≤ get_or levels (get_or c.tables k d).output 0
  rises_at k d inside x feeds = h.above x (get_or c.tables k d).output (k, get_or c.tables k d, inside, get_or_default c.tables k _ d inside, (feeds, refl))

  level_at : (k : ℕ) (d : Gate) → k < length c.tables
      → get_or levels (get_or c.tables k d).output 0 ≡ greatest (map (λ x. get_or levels x 0) (get_or c.tables k d).table.inputs) + 1
  level_at k d inside =
      let out : ℕ = (get_or c.tables k d).output in
      let there = out_in c.tables k (get_or c.tables k d) inside (get_or_default c.tables k _ d inside) in
      let one = floor_one c.tables (get_or c.tables k d).output there in
      let low : (get_or c.tables k d).output < length c.nets = (in_range.tables k d inside).1 in
      let least = h.least (get_or c.tables k d).output low in
      let above : (x : ℕ) → Contains (get_or c.tables k d).table.inputs x → get_or levels x 0 ≤ get_or levels (get_or c.tables k d).output 0 - 1 =
      λ x feeds. (let up = rises_at k d inside x feeds in omega arith) in
      let most = greatest_le (λ x. get_or levels x 0) (get_or c.tables k d).table.inputs (get_or levels (get_or c.tables k d).output 0 - 1) above in
      elim (h.tight (get_or c.tables k d).output low) [
        | inl e ↦ omega arith
        | inr (u, (j, t, within, is, (feeds, output)), e) ↦
            let same : j ≡ k = same_place c.tables table_pairs j k t d within inside (ap (λ (x : Gate). x.output) is ∙ output) in
            let table : t ≡ get_or c.tables k d = sym is ∙ (ap (λ n. get_or c.tables n t) same ∙ get_or_default c.tables k t d inside) in
            let has : Contains (get_or c.tables k d).table.inputs u = rw table at feeds in
            let up = le_greatest (λ x. get_or levels x 0) (get_or c.tables k d).table.inputs u has in
            omega arith
      ]

  pub are_levels : AreLevels c levels
  are_levels = record {
    one_each = h.size;
    not_driven = λ net none. elim (cases_lt net (length c.nets)) [
      | inl low ↦ elim (h.tight net low) [
        | inl e ↦ e ∙ floor_zero c.tables net none
        | inr (u, (j, t, within, is, (feeds, output)), e) ↦ absurd (none (rw output at (out_in c.tables j t within is)))
      ]
      | inr high ↦ get_or_past levels net 0 (omega (arith, h.size))
    ];
    driven = λ k d inside. level_at k d inside;
  }

  pub is_table_order : (order : List ℕ) → IsSortedByLevel c.tables levels (range_with_len 0 (length c.tables)) order → IsTableOrder c order
  is_table_order order sorted =
      let places = places_lem c.tables levels order sorted in
      record {
        places = places;
        once = once_lem c.tables levels order sorted;
        all = all_lem c.tables levels order sorted;
        before = λ i j d below inside reads. not_read c levels are_levels (get_or order i 0) (get_or order j 0) d (places i 0 (omega arith)) (places j 0 inside) (sorted.rising i j 0 below inside) reads;
        by_level = record { levels = levels; are = are_levels; rising = sorted.rising };
      }

-- no fault, and a rank that rises
pub accepts : (c : Circuit) → IsInRange c → fault_of c ≡ None → (levels : List ℕ) → AreNetRanks c levels → IsAccepted c
accepts c in_range none levels h =
    let (clocks, none1) = or_none (several_clocks (control_nets c)) _ none in
    let (edges, none2) = or_none (mixed_edges c.registers) _ none1 in
    let (driven, none3) = or_none (driven_clock c) _ none2 in
    let (apart, none4) = or_none (clock_as_data c) _ none3 in
    let (once, none5) = or_none (multiply_driven c) _ none4 in
    let (every, none6) = or_none (undriven c) _ none5 in
    record {
      one_clock = one_name (control_nets c) clocks;
      one_edge = one_edge c.registers edges;
      clock_not_driven = clock_apart (λ clock. DrivenClock clock) (table_nets c ++ register_nets c) (control_nets c) driven;
      clock_not_used = clock_apart (λ clock. ClockAsData clock) (used c) (control_nets c) apart;
      one_driver = one_driver c in_range once;
      all_driven = all_driven c in_range every;
      rank = λ net. get_or levels net 0;
      rises = λ k d inside i e within. (
          let t : Gate = get_or c.tables k d in
          let has : Contains (get_or c.tables k d).table.inputs (get_or (get_or c.tables k d).table.inputs i e) = (i, within, get_or_default (get_or c.tables k d).table.inputs i _ e within) in
          let up = h.above (get_or (get_or c.tables k d).table.inputs i e) (get_or c.tables k d).output (k, get_or c.tables k d, inside, get_or_default c.tables k _ d inside, (has, refl)) in
          omega arith);
    }

-- the places of an order are those of tables
pub places_of : (tables : List Gate) (levels order : List ℕ) → IsSortedByLevel tables levels (range_with_len 0 (length tables)) order → (gates : List Gate) → gates ≡ tables → All (λ k. k < length gates) order
places_of tables levels order sorted gates same = subst (λ (ts : List Gate). All (λ k. k < length ts) order) (sym same) (places_lem tables levels order sorted)

-- the parts of the netlist
pub are_parts : (c : Circuit) → IsInRange c → fault_of c ≡ None → (cols levels order : List ℕ) → cols ≡ columns c → AreNetRanks c levels
    → (tables : List Gate) (lent : List ℕ) → tables ≡ c.tables → lent ≡ levels → IsSortedByLevel tables lent (range_with_len 0 (length tables)) order
    → (gates : List Gate) (series : Ordered) → gates ≡ c.tables → series.order ≡ order → IsBankOf gates series.tables → AreNetlistParts c cols levels series.order series.tables
are_parts c in_range none cols levels order e h tables lent a b sorted gates series here kept banked =
    let accepted = accepts c in_range none levels h in
    let own = subst (λ (ts : List Gate). IsSortedByLevel ts levels (range_with_len 0 (length ts)) order) a (subst (λ (ls : List ℕ). IsSortedByLevel tables ls (range_with_len 0 (length tables)) order) b sorted) in
    record {
      in_range = in_range;
      accepted = accepted;
      columns_are = e;
      are_levels = are_levels c in_range accepted.one_driver levels h;
      is_order = subst (λ (o : List ℕ). IsTableOrder c o) (sym kept) (is_table_order c in_range accepted.one_driver levels h order own);
      is_bank = subst (λ (ts : List Gate). IsBankOf ts series.tables) here banked;
    }
