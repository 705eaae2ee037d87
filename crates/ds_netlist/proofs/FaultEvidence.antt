-- What the counts and lists tell of the faults.
use Rattle.std.proofs.Common.{◌≡◌, ◌∙◌, ℕ, suc, ◌<◌, ◌≤◌, Bool, true, false, List, [], ◌∷◌, ◌++◌, length, get_or, refl, sym, ap, arith, inl, inr, append_assoc, not, ◌&&◌, Some, None}
use Rattle.std.specs.Prelude.{All, Contains, Option}
use Rattle.std.specs.List.{filter, find}
use Rattle.std.specs.Option.{option_map, option_or}
use Rattle.std.proofs.lemmas.Bool.Decides.{eqb_tells}
use Rattle.std.proofs.lemmas.List.{get_or_default}
use Rattle.ds_base.proofs.ListLemmas.{Contains-head, Contains-tail}
use Rattle.ds_design.specs.Circuit.{Circuit, columns, control_nets, register_nets, drivers, used}
use Rattle.ds_design.specs.InRange.{IsInRange}
use Rattle.ds_design.specs.Levels.{table_nets}
use Rattle.ds_design.specs.declared.design.Net.{Net}
use Rattle.ds_design.proofs.ControlNames.{among_yes, among_no}
use Rattle.ds_netlist.specs.Drivers.{drivers_of}
use Rattle.ds_netlist.specs.Fault.{fault_of, is_in, several_clocks, mixed_edges, driven_clock, clock_as_data, twice_driven, multiply_driven, undriven}
use Rattle.ds_netlist.specs.Steps.{AreTimes, IsFirstFree, IsFirstTwice, clock_among, driver_fault, first_listed, is_clock, later_fault, times_driven}
use Rattle.ds_netlist.specs.declared.fault.NetFault.{NetFault}
use Rattle.ds_netlist.specs.declared.fault.NetFault.TheVariants.{Undriven}
use Rattle.ds_netlist.proofs.FirstMatch.{cases_Bool, first_at, first_none, found_at, none_found, none_in}
use Rattle.ds_netlist.proofs.Multiplicity.{counted_in, present}
use Rattle.ds_netlist.proofs.Checked.{driver_in, drivers_times, few_none, in_true, one_name, used_in}

-- the lists joined are the drivers
pub are_drivers : (c : Circuit) (cols driven xs : List ℕ) → cols ≡ columns c → driven ≡ table_nets c ++ register_nets c → xs ≡ cols ++ driven → xs ≡ drivers c
are_drivers c cols driven xs a b e =
    e ∙ (ap (λ (ys : List ℕ). ys ++ driven) a ∙ (ap (λ (ys : List ℕ). columns c ++ ys) b ∙ sym (append_assoc (columns c) (table_nets c) (register_nets c))))

-- nets of a list are below the count
all_low : (xs : List ℕ) (n : ℕ) → ((net : ℕ) → Contains xs net → net < n) → All (λ net. net < n) xs
all_low xs n each k d inside = each (get_or xs k d) (k, inside, get_or_default xs k _ d inside)

pub drivers_low : (c : Circuit) → IsInRange c → (xs : List ℕ) (n : ℕ) → xs ≡ drivers c → n ≡ length c.nets → All (λ net. net < n) xs
drivers_low c in_range xs n e size = rw (e, size) (all_low (drivers c) (length c.nets) (driver_in c in_range))

pub used_low : (c : Circuit) → IsInRange c → (xs : List ℕ) (n : ℕ) → xs ≡ used c → n ≡ length c.nets → All (λ net. net < n) xs
used_low c in_range xs n e size = rw (e, size) (all_low (used c) (length c.nets) (used_in c in_range))

-- the counts of lists that are lent
pub times_are : (nets all : List Net) (xs ys counts lent : List ℕ) → nets ≡ all → xs ≡ ys → lent ≡ counts
    → AreTimes (length nets) xs counts → AreTimes (length all) ys lent
times_are nets all xs ys counts lent a b e h = record {
  size = ap (λ (zs : List ℕ). length zs) e ∙ (h.size ∙ ap (λ (zs : List Net). length zs) a);
  each = λ net low. (
      let size : length nets ≡ length all = ap (λ (zs : List Net). length zs) a in
      ap (λ (zs : List ℕ). get_or zs net 0) e ∙ (h.each net (omega arith) ∙ ap (times_driven net) b));
}

in_times : (net : ℕ) (xs : List ℕ) → 0 < times_driven net xs → is_in xs net ≡ true
in_times net xs some = among_yes xs net (counted_in net xs some)

no_times : (net : ℕ) (xs : List ℕ) → times_driven net xs ≡ 0 → is_in xs net ≡ false
no_times net xs none = among_no xs net (λ some. let up = present net xs some in omega arith)

module _ (c : Circuit) (counts : List ℕ) (h : AreTimes (length c.nets) (drivers c) counts) where
  pub twice_long : (net : ℕ) → IsFirstTwice counts net → 2 ≤ length (drivers_of c net)
  twice_long net is = (let own = h.each net (omega (arith, is.inside, h.size)) in omega (arith, drivers_times c net, is.twice))

  few_at : (net : ℕ) → net < length c.nets → get_or counts net 0 < 2 → twice_driven net (drivers_of c net) ≡ None
  few_at net inside few = few_none net (drivers_of c net) (omega (arith, drivers_times c net, h.each net inside))

  pub twice_found : (net : ℕ) → IsFirstTwice counts net → (fault : NetFault) → twice_driven net (drivers_of c net) ≡ Some fault → multiply_driven c ≡ Some fault
  twice_found net is fault e =
      let low : net < length c.nets = omega (arith, is.inside, h.size) in
      first_at (λ net. twice_driven net (drivers_of c net)) 0 (length c.nets) net fault (omega arith) (omega arith) e
      (λ j above below. few_at j (omega arith) (is.before j below))

  pub none_twice : ((k : ℕ) → k < length counts → get_or counts k 0 < 2) → multiply_driven c ≡ None
  none_twice few = first_none (λ net. twice_driven net (drivers_of c net)) 0 (length c.nets)
      (λ j low high. few_at j (omega arith) (few j (omega (arith, h.size))))

  module _ (uses : List ℕ) (u : AreTimes (length c.nets) (used c) uses) where
    not_free : (j : ℕ) → j < length c.nets → (0 < get_or uses j 0 → 0 < get_or counts j 0) → (is_in (used c) j && not (is_in (drivers c) j)) ≡ false
    not_free j low driven = elim (cases_Bool (is_in (used c) j)) [
      | inl yes_j ↦
          let some = present j (used c) (in_true (used c) j yes_j) in
          let up = driven (omega (arith, u.each j low)) in
          let is = in_times j (drivers c) (omega (arith, h.each j low)) in
          rw (yes_j, is) refl
      | inr no_j ↦ rw no_j refl
    ]

    pub free_found : (net : ℕ) → IsFirstFree uses counts net → undriven c ≡ Some (Undriven net)
    free_found net is =
        let low : net < length c.nets = omega (arith, is.inside, h.size) in
        let used_net = in_times net (used c) (omega (arith, u.each net low, is.used)) in
        let free_net = no_times net (drivers c) (omega (arith, h.each net low, is.free)) in
        let passes : (is_in (used c) net && not (is_in (drivers c) net)) ≡ true = rw (used_net, free_net) refl in
        let found = found_at (λ net. is_in (used c) net && not (is_in (drivers c) net)) 0 (length c.nets) net (omega arith) (omega arith) passes
        (λ j above below. not_free j (omega arith) (is.before j below)) in
        ap (λ o. option_map (λ net. Undriven net) o) found

    pub none_free : ((k : ℕ) → k < length counts → 0 < get_or uses k 0 → 0 < get_or counts k 0) → undriven c ≡ None
    none_free driven =
        let none = none_in (λ net. is_in (used c) net && not (is_in (drivers c) net)) 0 (length c.nets)
        (λ j low high. not_free j (omega arith) (driven j (omega (arith, h.size)))) in
        ap (λ o. option_map (λ net. Undriven net) o) none

-- the clock, where all control names are one
found_clock : (nets names : List ℕ) → ((a b : ℕ) → Contains names a → Contains names b → a ≡ b)
    → find (is_in nets) names ≡ clock_among nets (first_listed names)
found_clock nets [] one = refl
found_clock nets (x ∷ names) one = elim (cases_Bool (is_in nets x)) [
  | inl yes_x ↦ rw yes_x refl
  | inr no_x ↦
      let none = none_found (is_in nets) names (λ k d inside.
      let same : get_or names k d ≡ x = one (get_or names k d) x (suc k, omega arith, get_or_default names k _ d inside) (Contains-head x names) in
      rw same no_x) in
      rw no_x none
]

pub clock_found : (c : Circuit) (made : ℕ → NetFault) (nets : List ℕ) → several_clocks (control_nets c) ≡ None
    → option_map made (find (is_in nets) (control_nets c)) ≡ option_map made (clock_among nets (first_listed (control_nets c)))
clock_found c made nets none = ap (λ o. option_map made o) (found_clock nets (control_nets c) (one_name (control_nets c) none))

-- the columns, by the one clock
clock_is : (names : List ℕ) → ((a b : ℕ) → Contains names a → Contains names b → a ≡ b) → (net : ℕ)
    → is_clock (first_listed names) net ≡ is_in names net
clock_is [] one net = refl
clock_is (x ∷ names) one net = elim (eqb_tells x net) [
  | inl (is, e) ↦ rw is refl
  | inr (is, ne) ↦
      let none = among_no names net (λ some. ne (one x net (Contains-head x names) (Contains-tail x names net some))) in
      rw (is, none) refl
]

filter_same : (p q : ℕ → Bool) → ((x : ℕ) → p x ≡ q x) → (xs : List ℕ) → filter p xs ≡ filter q xs
filter_same p q same [] = refl
filter_same p q same (x ∷ xs) = elim (cases_Bool (q x)) [
  | inl yes_x ↦ rw (same x, yes_x) (ap (λ (ys : List ℕ). x ∷ ys) (filter_same p q same xs))
  | inr no_x ↦ rw (same x, no_x) (filter_same p q same xs)
]

pub are_columns : (c : Circuit) → several_clocks (control_nets c) ≡ None
    → filter (λ net. not (is_clock (first_listed (control_nets c)) net)) c.inputs ≡ columns c
are_columns c none = filter_same (λ net. not (is_clock (first_listed (control_nets c)) net)) (λ net. not (is_in (control_nets c) net))
    (λ net. ap not (clock_is (control_nets c) (one_name (control_nets c) none) net)) c.inputs

-- the same of lists that are lent
pub lent_clock : (c : Circuit) (made : ℕ → NetFault) (nets lent names : List ℕ) (first r : Option ℕ) → several_clocks (control_nets c) ≡ None
    → lent ≡ nets → names ≡ control_nets c → first ≡ first_listed names → r ≡ clock_among lent first
    → option_map made (find (is_in nets) (control_nets c)) ≡ option_map made r
lent_clock c made nets lent names first r none a b e is =
    clock_found c made nets none ∙ ap (λ o. option_map made o)
    (sym (is ∙ (ap (λ (xs : List ℕ). clock_among xs first) a ∙ ap (λ o. clock_among nets o) (e ∙ ap first_listed b))))

-- the fault after those that are not there
pub later_data : (c : Circuit) (fault : NetFault) → mixed_edges c.registers ≡ None → driven_clock c ≡ None → clock_as_data c ≡ Some fault
    → later_fault c ≡ Some fault
later_data c fault a b e =
    ap (λ o. option_or o (option_or (driven_clock c) (option_or (clock_as_data c) (driver_fault c)))) a
    ∙ (ap (λ o. option_or o (option_or (clock_as_data c) (driver_fault c))) b ∙ ap (λ o. option_or o (driver_fault c)) e)

pub later_rest : (c : Circuit) → mixed_edges c.registers ≡ None → driven_clock c ≡ None → clock_as_data c ≡ None → later_fault c ≡ driver_fault c
later_rest c a b e =
    ap (λ o. option_or o (option_or (driven_clock c) (option_or (clock_as_data c) (driver_fault c)))) a
    ∙ (ap (λ o. option_or o (option_or (clock_as_data c) (driver_fault c))) b ∙ ap (λ o. option_or o (driver_fault c)) e)

-- the fault of all, by the control names and the rest
pub all_clocks : (c : Circuit) (names lent : List ℕ) (o : Option NetFault) → names ≡ control_nets c → lent ≡ names → o ≡ several_clocks lent
    → several_clocks (control_nets c) ≡ o
all_clocks c names lent o a b e = sym (e ∙ (ap several_clocks b ∙ ap several_clocks a))

pub fault_first : (c : Circuit) (fault : NetFault) → several_clocks (control_nets c) ≡ Some fault → fault_of c ≡ Some fault
fault_first c fault e = ap (λ o. option_or o (later_fault c)) e

pub fault_later : (c : Circuit) (o p : Option NetFault) → several_clocks (control_nets c) ≡ None → o ≡ later_fault c → o ≡ p → fault_of c ≡ p
fault_later c o p none e is = ap (λ o. option_or o (later_fault c)) none ∙ (sym e ∙ is)

-- the columns that are lent
pub lent_columns : (c : Circuit) (names lent inputs cols : List ℕ) (first : Option ℕ) → several_clocks (control_nets c) ≡ None
    → names ≡ control_nets c → lent ≡ names → inputs ≡ c.inputs → first ≡ first_listed lent
    → cols ≡ filter (λ net. not (is_clock first net)) inputs → cols ≡ columns c
lent_columns c names lent inputs cols first none a b i f e =
    e ∙ (ap (λ (xs : List ℕ). filter (λ net. not (is_clock first net)) xs) i
    ∙ (ap (λ (o : Option ℕ). filter (λ net. not (is_clock o net)) c.inputs) (f ∙ (ap first_listed b ∙ ap first_listed a)) ∙ are_columns c none))
