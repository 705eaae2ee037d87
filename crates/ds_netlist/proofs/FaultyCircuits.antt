-- A circuit with a fault is not accepted, and has no other.
use Rattle.std.proofs.Common.{◌≡◌, ◌≢◌, ◌⊎◌, ◌∙◌, ℕ, ◌<◌, List, [], ◌∷◌, length, get_or, refl, ap, arith, inl, inr, Some, None, Ok, Err}
use Rattle.std.specs.Prelude.{All, IsErrAnd, MatchResult, Result}
use Rattle.std.specs.Option.{option_or}
use Rattle.std.proofs.lemmas.List.Elements.{All-cons, All-contains}
use Rattle.ds_rank.specs.Order.{IsCycle, IsWalk}
use Rattle.ds_design.specs.Circuit.{Circuit, control_nets, used}
use Rattle.ds_design.specs.InRange.{IsInRange}
use Rattle.ds_design.specs.Accepted.{IsAccepted}
use Rattle.ds_design.specs.Reach.{Feeds}
use Rattle.ds_netlist.specs.Fault.{IsNetFault, fault_of, several_clocks, mixed_edges, driven_clock, clock_as_data, multiply_driven, undriven}
use Rattle.ds_netlist.specs.Laws.{FaultsAreInRange, FaultsAreRefused, OneFault}
use Rattle.ds_netlist.specs.Edges.{IsCycleOnly}
use Rattle.ds_netlist.specs.Verdict.{IsRefusal}
use Rattle.ds_netlist.specs.declared.fault.NetFault.{NetFault}
use Rattle.ds_netlist.specs.declared.fault.NetFault.TheVariants.{SeveralClocks, MixedEdges, DrivenClock, ClockAsData, MultiplyDriven, Undriven, CombinationalCycle, Memory}
use Rattle.ds_rank.proofs.RankedEdges.{no_cycle}
use Rattle.ds_netlist.proofs.FirstMatch.{or_some}
use Rattle.ds_netlist.proofs.Checked.{IsFound, IsPlain, apart_clock, clocks_found, data_found, driven_found, edges_found, multiply_found, no_mixed, no_multiply, no_other, no_undriven, undriven_found}

-- an accepted circuit shows nothing
pub accepted_none : (c : Circuit) → IsAccepted c → fault_of c ≡ None
accepted_none c accepted =
    let clocks = no_other (control_nets c) accepted.one_clock in
    let edges = no_mixed c.registers accepted.one_edge in
    let driven : driven_clock c ≡ None = apart_clock (λ clock. DrivenClock clock) _ (control_nets c) accepted.clock_not_driven in
    let apart : clock_as_data c ≡ None = apart_clock (λ clock. ClockAsData clock) (used c) (control_nets c) accepted.clock_not_used in
    let once = no_multiply c accepted.one_driver in
    let all = no_undriven c accepted.all_driven in
    ap (λ o. option_or o (option_or (mixed_edges c.registers) (option_or (driven_clock c) (option_or (clock_as_data c) (option_or (multiply_driven c) (option_or (undriven c) None)))))) clocks
    ∙ (ap (λ o. option_or o (option_or (driven_clock c) (option_or (clock_as_data c) (option_or (multiply_driven c) (option_or (undriven c) None))))) edges
    ∙ (ap (λ o. option_or o (option_or (clock_as_data c) (option_or (multiply_driven c) (option_or (undriven c) None)))) driven
    ∙ (ap (λ o. option_or o (option_or (multiply_driven c) (option_or (undriven c) None))) apart
    ∙ (ap (λ o. option_or o (option_or (undriven c) None)) once
    ∙ ap (λ o. option_or o None) all))))

-- what is shown is plain, and names what is there
pub shown_found : (c : Circuit) → IsInRange c → (fault : NetFault) → fault_of c ≡ Some fault → IsFound c fault
shown_found c in_range fault e = elim (or_some (several_clocks (control_nets c)) _ fault e) [
  | inl is ↦ clocks_found c in_range fault is
  | inr (none, e1) ↦ elim (or_some (mixed_edges c.registers) _ fault e1) [
    | inl is ↦ edges_found c fault is
    | inr (none1, e2) ↦ elim (or_some (driven_clock c) _ fault e2) [
      | inl is ↦ driven_found c in_range fault is
      | inr (none2, e3) ↦ elim (or_some (clock_as_data c) _ fault e3) [
        | inl is ↦ data_found c in_range fault is
        | inr (none3, e4) ↦ elim (or_some (multiply_driven c) _ fault e4) [
          | inl is ↦ multiply_found c in_range fault is
          | inr (none4, e5) ↦ elim (or_some (undriven c) _ fault e5) [
            | inl is ↦ undriven_found c in_range fault is
            | inr (none5, e6) ↦ absurd (cc)
          ]
        ]
      ]
    ]
  ]
]

-- a plain fault that is shown is the circuit's
pub is_fault : (c : Circuit) (fault : NetFault) → IsPlain fault → fault_of c ≡ Some fault → IsNetFault c fault
is_fault c (SeveralClocks a b) plain e = e
is_fault c (MixedEdges a b) plain e = e
is_fault c (DrivenClock net) plain e = e
is_fault c (ClockAsData net) plain e = e
is_fault c (MultiplyDriven net d f) plain e = e
is_fault c (Undriven net) plain e = e
is_fault c (CombinationalCycle nets) plain e = absurd plain
is_fault c Memory plain e = tt

-- a fault is shown, or is a cycle where nothing is shown
shows : (c : Circuit) (fault : NetFault) → fault ≢ Memory → IsNetFault c fault
    → (fault_of c ≡ Some fault) ⊎ ((fault_of c ≡ None) × ((nets : List ℕ) × (fault ≡ CombinationalCycle nets) × IsCycle (Feeds c) nets))
shows c (SeveralClocks a b) some e = inl e
shows c (MixedEdges a b) some e = inl e
shows c (DrivenClock net) some e = inl e
shows c (ClockAsData net) some e = inl e
shows c (MultiplyDriven net d f) some e = inl e
shows c (Undriven net) some e = inl e
shows c (CombinationalCycle nets) some (none, cycle) = inr (none, (nets, refl, cycle))
shows c Memory some e = absurd (some refl)

pub one_fault_lem : OneFault
one_fault_lem c fault other some some' is is' = elim (shows c fault some is) [
  | inl e ↦ elim (shows c other some' is') [
    | inl e' ↦ inl (cc)
    | inr (none, cycle) ↦ absurd (cc)
  ]
  | inr (none, (nets, e, cycle)) ↦ elim (shows c other some' is') [
    | inl e' ↦ absurd (cc)
    | inr (none', (nets', e', cycle')) ↦ inr ((nets, e), (nets', e'))
  ]
]

-- an input of a table has a lower rank than its output
feeds_rises : (c : Circuit) (accepted : IsAccepted c) (u v : ℕ) → Feeds c u v → accepted.rank u < accepted.rank v
feeds_rises c accepted u v (k, t, inside, is, (feeds, output)) =
    let low : All (λ net. accepted.rank net < accepted.rank (get_or c.tables k t).output) (get_or c.tables k t).table.inputs = accepted.rises k t inside in
    let below : accepted.rank u < accepted.rank t.output = All-contains (λ net. accepted.rank net < accepted.rank t.output) t.table.inputs u (rw is at low) feeds in
    rw (← output) below

pub faults_are_refused_lem : FaultsAreRefused
faults_are_refused_lem c fault some is accepted = elim (shows c fault some is) [
  | inl e ↦ (let none = accepted_none c accepted in absurd (cc))
  | inr (none, (nets, e, cycle)) ↦ no_cycle (Feeds c) accepted.rank (feeds_rises c accepted) nets cycle
]

-- what holds of each target holds of all nodes of a cycle
walk_targets : (R : ℕ → ℕ → Type 0) (P : ℕ → Type 0) → ((u v : ℕ) → R u v → P v)
    → (a : ℕ) (xs : List ℕ) (b : ℕ) → IsWalk R a xs b → All P xs × P b
walk_targets R P each a [] b step = (λ k d inside. absurd (omega arith), each a b step)
walk_targets R P each a (x ∷ xs) b (step, more) =
    let (all, last) = walk_targets R P each x xs b more in
    (All-cons P x xs (each a x step) all, last)

cycle_targets : (R : ℕ → ℕ → Type 0) (P : ℕ → Type 0) → ((u v : ℕ) → R u v → P v) → (xs : List ℕ) → IsCycle R xs → All P xs
cycle_targets R P each [] cycle = absurd cycle
cycle_targets R P each (x ∷ xs) cycle =
    let (all, last) = walk_targets R P each x xs x cycle.0 in All-cons P x xs last all

pub faults_are_in_range_lem : FaultsAreInRange
faults_are_in_range_lem c in_range (CombinationalCycle nets) (none, cycle) =
    cycle_targets (Feeds c) (λ net. net < length c.nets) (λ u v (k, t, inside, is, (feeds, output)).
    let low : (get_or c.tables k t).output < length c.nets = (in_range.tables k t inside).1 in
    rw (is, output) at low) nets cycle
faults_are_in_range_lem c in_range Memory is = tt
faults_are_in_range_lem c in_range (SeveralClocks a b) is = (shown_found c in_range _ is).1
faults_are_in_range_lem c in_range (MixedEdges a b) is = (shown_found c in_range _ is).1
faults_are_in_range_lem c in_range (DrivenClock net) is = (shown_found c in_range _ is).1
faults_are_in_range_lem c in_range (ClockAsData net) is = (shown_found c in_range _ is).1
faults_are_in_range_lem c in_range (MultiplyDriven net d e) is = (shown_found c in_range _ is).1
faults_are_in_range_lem c in_range (Undriven net) is = (shown_found c in_range _ is).1

-- a fault that is shown is answered, and a cycle where nothing is shown
pub refusal : (c : Circuit) → IsInRange c → (fault : NetFault) → fault_of c ≡ Some fault → IsRefusal c fault
refusal c in_range fault e =
    let found = shown_found c in_range fault e in
    record { shown = is_fault c fault found.0 e; named = found.1 }

pub cycle_refusal : (c : Circuit) → IsInRange c → fault_of c ≡ None → (fault : NetFault) → IsCycleOnly c fault → IsRefusal c fault
cycle_refusal c in_range none (CombinationalCycle nets) cycle =
    let is : IsNetFault c (CombinationalCycle nets) = (none, cycle) in
    record { shown = is; named = faults_are_in_range_lem c in_range (CombinationalCycle nets) is }
cycle_refusal c in_range none Memory cycle = record { shown = tt; named = tt }
cycle_refusal c in_range none (SeveralClocks a b) cycle = absurd cycle
cycle_refusal c in_range none (MixedEdges a b) cycle = absurd cycle
cycle_refusal c in_range none (DrivenClock net) cycle = absurd cycle
cycle_refusal c in_range none (ClockAsData net) cycle = absurd cycle
cycle_refusal c in_range none (MultiplyDriven net d e) cycle = absurd cycle
cycle_refusal c in_range none (Undriven net) cycle = absurd cycle

-- what is known of the error of a result
pub matched : {T E : Type 0} (P : T → Type 0) (Q R : E → Type 0) (r : Result T E) → IsErrAnd r R → ((e : E) → R e → Q e) → MatchResult r P Q
matched P Q R (Ok x) h f = absurd h
matched P Q R (Err e) h f = f e h
