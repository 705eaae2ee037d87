-- Each check finds nothing exactly where a circuit is as an accepted one, and a fault of it names
-- what is there.
use Rattle.std.proofs.Common.{◌≡◌, ◌≢◌, ◌⊎◌, ◌∙◌, ℕ, suc, ◌<◌, Bool, true, false, List, [], ◌∷◌, ◌++◌, length, get_or, map, refl, subst, sym, ap, arith, inl, inr, not, Some, None, ◌==◌, ◌&&◌}
use Rattle.std.specs.Prelude.{All, AllPairs, Any, Contains, Option}
use Rattle.std.specs.List.{find, flat_map, list_any, position, range_with_len}
use Rattle.std.specs.Option.{option_map}
use Rattle.std.proofs.lemmas.Bool.{cases_lt, eq-eqb}
use Rattle.std.proofs.lemmas.Bool.Decides.{eqb_tells}
use Rattle.std.proofs.lemmas.List.{get_or_default, map-append, map-id}
use Rattle.std.proofs.lemmas.Simd.{map-map}
use Rattle.std.proofs.lemmas.List.Concat.{flat_map-cons}
use Rattle.std.proofs.lemmas.List.Elements.{All-contains, All-filter, Contains-append_cases, Contains-append_left, Contains-append_right}
use Rattle.std.proofs.lemmas.List.Quantifiers.{position-Some}
use Rattle.ds_base.proofs.ListLemmas.{Any-from_map, cases_Contains, Contains-head, Contains-tail, Contains-split}
use Rattle.ds_design.specs.Circuit.{Circuit, columns, control_nets, data_nets, register_nets, drivers, used}
use Rattle.ds_design.specs.InRange.{IsInRange}
use Rattle.ds_design.specs.Levels.{table_nets}
use Rattle.ds_design.specs.declared.design.Edge.{Edge}
use Rattle.ds_design.specs.declared.design.Edge.TheVariants.{Rising, Falling}
use Rattle.ds_design.specs.declared.design.Gate.{Gate}
use Rattle.ds_design.specs.declared.design.Register.{Register}
use Rattle.ds_design.proofs.ControlNames.{among_yes, among_no, control_in}
use Rattle.ds_netlist.specs.Drivers.{all_drivers, drivers_of}
use Rattle.ds_netlist.specs.Fault.{is_in, several_clocks, is_rising, is_falling, both_edges, mixed_edges, driven_clock, clock_as_data, twice_driven, multiply_driven, undriven}
use Rattle.ds_netlist.specs.Steps.{times_driven}
use Rattle.ds_netlist.specs.Named.{IsNamed}
use Rattle.ds_netlist.specs.declared.fault.Driver.{Driver}
use Rattle.ds_netlist.specs.declared.fault.Driver.TheVariants.{Input, Table, Latch}
use Rattle.ds_netlist.specs.declared.fault.NetFault.{NetFault}
use Rattle.ds_netlist.specs.declared.fault.NetFault.TheVariants.{SeveralClocks, MixedEdges, DrivenClock, ClockAsData, MultiplyDriven, Undriven, CombinationalCycle, Memory}
use Rattle.ds_netlist.proofs.FirstMatch.{cases_Bool, map_none, map_some, find_none, none_found, find_some, fails_in, none_in, some_in, first_none, none_first, some_first, position_none}
use Rattle.ds_netlist.proofs.Multiplicity.{absent, once_differ, differ_once, length_drivers}

-- a fault that a check finds: not a cycle, and not want of memory
abbrev pub IsPlain : NetFault → Type 0
IsPlain (SeveralClocks a b) = Unit {0}
IsPlain (MixedEdges a b) = Unit {0}
IsPlain (DrivenClock net) = Unit {0}
IsPlain (ClockAsData net) = Unit {0}
IsPlain (MultiplyDriven net d e) = Unit {0}
IsPlain (Undriven net) = Unit {0}
IsPlain (CombinationalCycle nets) = ⊥
IsPlain Memory = ⊥

-- what a check finds is plain, and names what is there
abbrev pub IsFound : Circuit → NetFault → Type 0
IsFound c fault = IsPlain fault × IsNamed c fault

-- a net that stands in a list, by the test
pub in_true : (nets : List ℕ) (net : ℕ) → is_in nets net ≡ true → Contains nets net
in_true nets net e = elim (cases_Contains nets net) [
  | inl c ↦ c
  | inr none ↦ absurd (let no_net = among_no nets net none in cc)
]

pub in_false : (nets : List ℕ) (net : ℕ) → is_in nets net ≡ false → ¬ Contains nets net
in_false nets net e c = let yes_net = among_yes nets net c in cc

-- control names that are all one
pub one_name : (names : List ℕ) → several_clocks names ≡ None → (a b : ℕ) → Contains names a → Contains names b → a ≡ b
one_name [] e a b in_a in_b = absurd (let none : in_a.0 < 0 = in_a.1 in omega arith)
one_name (x ∷ names) e a b in_a in_b =
    let all = find_none (λ b. not (b == x)) names (map_none (λ b. SeveralClocks x b) (find (λ b. not (b == x)) names) e) in
    let each : (y : ℕ) → Contains (x ∷ names) y → y ≡ x = λ y c. elim (Contains-split x names y c) [
      | inl same ↦ sym same
      | inr (k, inside, is) ↦ elim (eqb_tells y x) [
        | inl (yes_y, same) ↦ same
        | inr (no_y, ne) ↦ absurd (let fails = all k y inside in let test : not (y == x) ≡ false = rw is at fails in cc)
      ]
    ] in
    each a in_a ∙ sym (each b in_b)

pub no_other : (names : List ℕ) → ((a b : ℕ) → Contains names a → Contains names b → a ≡ b) → several_clocks names ≡ None
no_other [] one = refl
no_other (x ∷ names) one =
    let none = none_found (λ b. not (b == x)) names (λ k d inside.
    let same : get_or names k d ≡ x = one (get_or names k d) x (suc k, omega arith, sym (get_or_default names k d (get_or names k d) inside)) (Contains-head x names) in
    rw (eq-eqb (get_or names k d) x same) refl) in
    rw none refl

pub clocks_found : (c : Circuit) → IsInRange c → (fault : NetFault) → several_clocks (control_nets c) ≡ Some fault → IsFound c fault
clocks_found c in_range fault e = found (control_nets c) fault e (control_in c in_range)
  where
    found : (names : List ℕ) (fault : NetFault) → several_clocks names ≡ Some fault → ((net : ℕ) → Contains names net → net < length c.nets) → IsFound c fault
    found [] fault e inside = absurd (cc)
    found (x ∷ names) fault e inside =
        let (b, is, made) = map_some (λ b. SeveralClocks x b) (find (λ b. not (b == x)) names) fault e in
        let (there, passes) = find_some (λ b. not (b == x)) names b is in
        rw (← made) (tt, (inside x (Contains-head x names), inside b (Contains-tail x names b there)))

-- what is never something is nothing
none_if : {X : Type 0} (o : Option X) → ((x : X) → o ≡ Some x → ⊥) → o ≡ None
none_if None h = refl
none_if (Some x) h = absurd (h x refl)

-- two places, where both are there
both_none : (o p : Option ℕ) → both_edges o p ≡ None → (o ≡ None) ⊎ (p ≡ None)
both_none None p e = inl refl
both_none (Some a) None e = inr refl
both_none (Some a) (Some b) e = absurd (cc)

both_some : (o p : Option ℕ) (fault : NetFault) → both_edges o p ≡ Some fault
    → (a b : ℕ) × (o ≡ Some a) × (p ≡ Some b) × (MixedEdges a b ≡ fault)
both_some None p fault e = absurd (cc)
both_some (Some a) None fault e = absurd (cc)
both_some (Some a) (Some b) fault e = (a, b, refl, refl, cc)

rising_is : (edge : Option Edge) → is_rising edge ≡ true → edge ≡ Some Rising
rising_is None e = absurd (cc)
rising_is (Some Rising) e = refl
rising_is (Some Falling) e = absurd (cc)

falling_is : (edge : Option Edge) → is_falling edge ≡ true → edge ≡ Some Falling
falling_is None e = absurd (cc)
falling_is (Some Rising) e = absurd (cc)
falling_is (Some Falling) e = refl

-- no register has an edge that a test knows
none_has : (test : Option Edge → Bool) (edge : Edge) (registers : List Register) → test (Some edge) ≡ true
    → position (λ r. test r.edge) registers ≡ None → ¬ Any (λ r. r.edge ≡ Some edge) registers
none_has test edge registers knows none (k, r, inside, is, e) =
    let fails : test (get_or registers k r).edge ≡ false = position_none (λ r. test r.edge) registers none k r inside in
    let passes : test r.edge ≡ true = rw e knows in
    let same : test (get_or registers k r).edge ≡ test r.edge = ap (λ (x : Register). test x.edge) is in
    cc

-- the register at a place has the edge
has_at : (test : Option Edge → Bool) (edge : Edge) (registers : List Register) → ((o : Option Edge) → test o ≡ true → o ≡ Some edge)
    → (k : ℕ) → position (λ r. test r.edge) registers ≡ Some k → (k < length registers) × Any (λ r. r.edge ≡ Some edge) registers
has_at test edge [] known k e = absurd (cc)
has_at test edge (x ∷ xs) known k e =
    let (inside, passes, before) = position-Some (λ r. test r.edge) (x ∷ xs) k x e in
    (inside, (k, get_or (x ∷ xs) k x, inside, get_or_default (x ∷ xs) k _ _ inside, known (get_or (x ∷ xs) k x).edge passes))

pub one_edge : (registers : List Register) → mixed_edges registers ≡ None
    → Any (λ r. r.edge ≡ Some Rising) registers → ¬ Any (λ r. r.edge ≡ Some Falling) registers
one_edge registers e rising falling =
    elim (both_none (position (λ r. is_rising r.edge) registers) (position (λ r. is_falling r.edge) registers) e) [
      | inl none ↦ none_has is_rising Rising registers refl none rising
      | inr none ↦ none_has is_falling Falling registers refl none falling
    ]

pub no_mixed : (registers : List Register) → (Any (λ r. r.edge ≡ Some Rising) registers → ¬ Any (λ r. r.edge ≡ Some Falling) registers)
    → mixed_edges registers ≡ None
no_mixed registers one = none_if (mixed_edges registers) (λ fault e.
    let (a, b, at_a, at_b, made) = both_some (position (λ r. is_rising r.edge) registers) (position (λ r. is_falling r.edge) registers) fault e in
    one (has_at is_rising Rising registers rising_is a at_a).1 (has_at is_falling Falling registers falling_is b at_b).1)

pub edges_found : (c : Circuit) (fault : NetFault) → mixed_edges c.registers ≡ Some fault → IsFound c fault
edges_found c fault e =
    let (a, b, at_a, at_b, made) = both_some (position (λ r. is_rising r.edge) c.registers) (position (λ r. is_falling r.edge) c.registers) fault e in
    rw (← made) (tt, ((has_at is_rising Rising c.registers rising_is a at_a).0, (has_at is_falling Falling c.registers falling_is b at_b).0))

-- no control name stands in a list
pub clock_apart : (made : ℕ → NetFault) (nets names : List ℕ) → option_map made (find (is_in nets) names) ≡ None
    → All (λ clock. ¬ Contains nets clock) names
clock_apart made nets names e k d inside = in_false nets (get_or names k d) (find_none (is_in nets) names (map_none made (find (is_in nets) names) e) k d inside)

pub apart_clock : (made : ℕ → NetFault) (nets names : List ℕ) → All (λ clock. ¬ Contains nets clock) names
    → option_map made (find (is_in nets) names) ≡ None
apart_clock made nets names apart =
    let none = none_found (is_in nets) names (λ k d inside. among_no nets (get_or names k d) (apart k d inside)) in
    rw none refl

clock_some : (made : ℕ → NetFault) (nets names : List ℕ) (fault : NetFault) → option_map made (find (is_in nets) names) ≡ Some fault
    → (clock : ℕ) × Contains names clock × (made clock ≡ fault)
clock_some made nets names fault e =
    let (clock, is, same) = map_some made (find (is_in nets) names) fault e in
    (clock, (find_some (is_in nets) names clock is).0, same)

pub driven_found : (c : Circuit) → IsInRange c → (fault : NetFault) → driven_clock c ≡ Some fault → IsFound c fault
driven_found c in_range fault e =
    let (clock, there, made) = clock_some (λ clock. DrivenClock clock) (table_nets c ++ register_nets c) (control_nets c) fault e in
    rw (← made) (tt, control_in c in_range clock there)

pub data_found : (c : Circuit) → IsInRange c → (fault : NetFault) → clock_as_data c ≡ Some fault → IsFound c fault
data_found c in_range fault e =
    let (clock, there, made) = clock_some (λ clock. ClockAsData clock) (used c) (control_nets c) fault e in
    rw (← made) (tt, control_in c in_range clock there)

-- a list with fewer than two drivers shows no fault
twice_none : (net : ℕ) (ds : List Driver) → twice_driven net ds ≡ None → length ds < 2
twice_none net [] e = omega arith
twice_none net (d ∷ []) e = omega arith
twice_none net (d ∷ e ∷ more) is = absurd (cc)

pub few_none : (net : ℕ) (ds : List Driver) → length ds < 2 → twice_driven net ds ≡ None
few_none net [] few = refl
few_none net (d ∷ []) few = refl
few_none net (d ∷ e ∷ more) few = absurd (omega arith)

twice_some : (net : ℕ) (ds : List Driver) (fault : NetFault) → twice_driven net ds ≡ Some fault → (d e : Driver) × (MultiplyDriven net d e ≡ fault)
twice_some net [] fault is = absurd (cc)
twice_some net (d ∷ []) fault is = absurd (cc)
twice_some net (d ∷ e ∷ more) fault is = (d, e, cc)

-- an element of lists joined is in one of them
from_flat : {X : Type 0} (f : X → List ℕ) (xs : List X) (y : ℕ) → Contains (flat_map f xs) y → Any (λ x. Contains (f x) y) xs
from_flat f [] y some = absurd (let none : some.0 < 0 = some.1 in omega arith)
from_flat f (x ∷ xs) y some = elim (Contains-append_cases (f x) (flat_map f xs) y (subst (λ (ys : List ℕ). Contains ys y) (flat_map-cons f x xs) some)) [
  | inl here ↦ (0, x, omega arith, refl, here)
  | inr more ↦ let (k, z, inside, is, there) = from_flat f xs y more in (suc k, z, omega arith, is, there)
]

-- the nets of the drivers
module _ (c : Circuit) where
  driver_nets : map (λ pair. pair.0) (all_drivers c) ≡ drivers c
  driver_nets =
      map-append (λ (pair : ℕ × Driver). pair.0) (map (λ net. (net, Input)) (columns c) ++ map (λ t. (t.output, Table t.line)) c.tables) (map (λ r. (r.output, Latch r.line)) c.registers)
      ∙ (ap (λ (xs : List ℕ). xs ++ map (λ (pair : ℕ × Driver). pair.0) (map (λ r. (r.output, Latch r.line)) c.registers))
      (map-append (λ (pair : ℕ × Driver). pair.0) (map (λ net. (net, Input)) (columns c)) (map (λ t. (t.output, Table t.line)) c.tables)
      ∙ (ap (λ (xs : List ℕ). xs ++ map (λ (pair : ℕ × Driver). pair.0) (map (λ t. (t.output, Table t.line)) c.tables))
      (map-map (λ (pair : ℕ × Driver). pair.0) (λ (net : ℕ). (net, Input)) (columns c) ∙ map-id (columns c))
      ∙ ap (λ (xs : List ℕ). columns c ++ xs) (map-map (λ (pair : ℕ × Driver). pair.0) (λ (t : Gate). (t.output, Table t.line)) c.tables)))
      ∙ ap (λ (xs : List ℕ). columns c ++ table_nets c ++ xs) (map-map (λ (pair : ℕ × Driver). pair.0) (λ (r : Register). (r.output, Latch r.line)) c.registers))

  pub drivers_times : (net : ℕ) → length (drivers_of c net) ≡ times_driven net (drivers c)
  drivers_times net = length_drivers (all_drivers c) net ∙ ap (times_driven net) driver_nets

module _ (c : Circuit) (in_range : IsInRange c) where
  -- what drives or is used is a net
  pub part_in : (net : ℕ) → Contains (table_nets c ++ register_nets c) net → net < length c.nets
  part_in net some = elim (Contains-append_cases (table_nets c) (register_nets c) net some) [
    | inl one ↦ let (k, t, inside, is, e) = Any-from_map (λ t. t.output) c.tables net one in
        let low : (get_or c.tables k t).output < length c.nets = (in_range.tables k t inside).1 in
        rw (is, e) at low
    | inr more ↦ let (k, r, inside, is, e) = Any-from_map (λ r. r.output) c.registers net more in
        let low : (get_or c.registers k r).output < length c.nets = (in_range.registers k r inside).1 in
        rw (is, e) at low
  ]

  pub driver_in : (net : ℕ) → Contains (drivers c) net → net < length c.nets
  driver_in net some = elim (Contains-append_cases (columns c ++ table_nets c) (register_nets c) net some) [
    | inl front ↦ elim (Contains-append_cases (columns c) (table_nets c) net front) [
      | inl one ↦ All-contains (λ net. net < length c.nets) (columns c) net
          (All-filter (λ net. not (list_any (λ clock. clock == net) (control_nets c))) (λ net. net < length c.nets) c.inputs in_range.inputs) one
      | inr two ↦ part_in net (Contains-append_left (table_nets c) (register_nets c) net two)
    ]
    | inr three ↦ part_in net (Contains-append_right (table_nets c) (register_nets c) net three)
  ]

  pub used_in : (net : ℕ) → Contains (used c) net → net < length c.nets
  used_in net some = elim (Contains-append_cases (flat_map (λ t. t.table.inputs) c.tables ++ data_nets c) c.outputs net some) [
    | inl front ↦ elim (Contains-append_cases (flat_map (λ t. t.table.inputs) c.tables) (data_nets c) net front) [
      | inl one ↦ let (k, t, inside, is, there) = from_flat (λ t. t.table.inputs) c.tables net one in
          let low : All (λ net. net < length c.nets) (get_or c.tables k t).table.inputs = (in_range.tables k t inside).0 in
          All-contains (λ net. net < length c.nets) t.table.inputs net (rw is at low) there
      | inr two ↦ let (k, r, inside, is, e) = Any-from_map (λ r. r.data_net) c.registers net two in
          let low : (get_or c.registers k r).data_net < length c.nets = (in_range.registers k r inside).0 in
          rw (is, e) at low
    ]
    | inr three ↦ All-contains (λ net. net < length c.nets) c.outputs net in_range.outputs three
  ]

  -- one driver a net
  pub one_driver : multiply_driven c ≡ None → AllPairs (λ a b. a ≢ b) (drivers c)
  one_driver e = once_differ (drivers c) (λ net. elim (cases_lt net (length c.nets)) [
    | inl inside ↦
        let none = none_first (λ net. twice_driven net (drivers_of c net)) 0 (length c.nets) e net (omega arith) (omega arith) in
        omega (arith, twice_none net (drivers_of c net) none, drivers_times c net)
    | inr past ↦ omega (arith, absent net (drivers c) (λ some. let low = driver_in net some in omega arith))
  ])

  pub multiply_found : (fault : NetFault) → multiply_driven c ≡ Some fault → IsFound c fault
  multiply_found fault e =
      let (net, low, inside, is) = some_first (λ net. twice_driven net (drivers_of c net)) 0 (length c.nets) fault e in
      let (d, e, made) = twice_some net (drivers_of c net) fault is in
      rw (← made) (tt, omega arith)

  -- a driver for each net that is used
  pub all_driven : undriven c ≡ None → All (Contains (drivers c)) (used c)
  all_driven e k d inside =
      let net : ℕ = get_or (used c) k d in
      let there : Contains (used c) (get_or (used c) k d) = (k, inside, get_or_default (used c) k _ d inside) in
      let low = used_in (get_or (used c) k d) there in
      let fails = fails_in (λ net. is_in (used c) net && not (is_in (drivers c) net)) 0 (length c.nets)
      (map_none (λ net. Undriven net) _ e) (get_or (used c) k d) (omega arith) (omega arith) in
      let yes_net = among_yes (used c) (get_or (used c) k d) there in
      elim (cases_Bool (is_in (drivers c) (get_or (used c) k d))) [
        | inl driven ↦ in_true (drivers c) (get_or (used c) k d) driven
        | inr free ↦ absurd (let wrong : true ≡ false = rw (yes_net, free) at fails in cc)
      ]

  pub undriven_found : (fault : NetFault) → undriven c ≡ Some fault → IsFound c fault
  undriven_found fault e =
      let (net, is, made) = map_some (λ net. Undriven net) (find (λ net. is_in (used c) net && not (is_in (drivers c) net)) (range_with_len 0 (length c.nets))) fault e in
      let (low, inside, passes) = some_in (λ net. is_in (used c) net && not (is_in (drivers c) net)) 0 (length c.nets) net is in
      rw (← made) (tt, omega arith)

module _ (c : Circuit) where
  pub no_multiply : AllPairs (λ a b. a ≢ b) (drivers c) → multiply_driven c ≡ None
  no_multiply pairs = first_none (λ net. twice_driven net (drivers_of c net)) 0 (length c.nets) (λ net low high.
      few_none net (drivers_of c net) (omega (arith, differ_once (drivers c) pairs net, drivers_times c net)))

  pub no_undriven : All (Contains (drivers c)) (used c) → undriven c ≡ None
  no_undriven all =
      let none = none_in (λ net. is_in (used c) net && not (is_in (drivers c) net)) 0 (length c.nets) (λ net low high.
      elim (cases_Bool (is_in (used c) net)) [
        | inl yes_net ↦ let there = among_yes (drivers c) net (All-contains (Contains (drivers c)) (used c) net all (in_true (used c) net yes_net)) in
            rw (yes_net, there) refl
        | inr no_net ↦ rw no_net refl
      ]) in
      rw none refl
