-- States have texts: each register stands in a cluster, and has the values of its slave there.
use Rattle.std.proofs.Common.{◌≡◌, ◌∙◌, ◌⊎◌, ◌*◌, ◌<◌, ◌≤◌, ℕ, List, [], ◌++◌, length, inl, inr, refl, arith, sym, subst}
use Rattle.std.specs.Prelude.{Contains}
use Rattle.std.specs.List.{flat_map, range_with_len}
use Rattle.std.proofs.lemmas.Bool.{cases_lt}
use Rattle.std.proofs.lemmas.List.{get_or_default}
use Rattle.ds_base.specs.Values.{Row}
use Rattle.ds_design.specs.Run.{IsRun}
use Rattle.ds_design.proofs.ClockedRuns.{some_run}
use Rattle.ds_latch.specs.Node.{Split, members}
use Rattle.ds_latch.specs.Plan.{IsSplit, Planned}
use Rattle.ds_latch.specs.Headline.{StandsAt, values_stored}
use Rattle.ds_latch.proofs.OrderTokens.{accepted_controls}
use Rattle.ds_latch.proofs.Flow.{some_firing}
use Rattle.ds_rows.specs.Log.{fired_line, stored_text}
use Rattle.ds_rows.specs.Nets.{register_of}
use Rattle.ds_table_laws.specs.Texts.{IsPlannedRun, StateTextsExist}

module _ (s : Split) (split : IsSplit s) where
  -- a register that is there stands somewhere
  register_stands : (r : ℕ) → r < length s.circuit.registers → (cluster place : ℕ) × StandsAt s r cluster place
  register_stands r low =
      let (d, cluster, is_cluster, is, in_cluster) = split.covered r low in
      let same : cluster ≡ members s d = sym is ∙ get_or_default s.clusters d cluster [] is_cluster in
      let (place, inside, here) : Contains (members s d) r = subst (λ (rs : List ℕ). Contains rs r) same in_cluster in
      (d, place, record { is_cluster = is_cluster; inside = inside; here = get_or_default (members s d) place 0 r inside ∙ here })

  -- where it stands, and no matter where if it is not there
  cluster_of : (r : ℕ) → (r < length s.circuit.registers) ⊎ (length s.circuit.registers ≤ r) → ℕ
  cluster_of r (inl low) = (register_stands r low).0
  cluster_of r (inr past) = 0

  place_in : (r : ℕ) → (r < length s.circuit.registers) ⊎ (length s.circuit.registers ≤ r) → ℕ
  place_in r (inl low) = (register_stands r low).1
  place_in r (inr past) = 0

  stands_there : (r : ℕ) (cases : (r < length s.circuit.registers) ⊎ (length s.circuit.registers ≤ r)) → r < length s.circuit.registers → StandsAt s r (cluster_of r cases) (place_in r cases)
  unfolding cluster_of place_in
  stands_there r (inl low) inside = (register_stands r low).2
  stands_there r (inr past) inside = absurd (omega arith)

-- a plan has a clocked run on its vectors
pub plan_runs : (p : Planned) (vectors : List Row) → IsPlannedRun p vectors → (state nets : ℕ → Row) × IsRun p.split.circuit p.split.initial vectors state nets
plan_runs p vectors ready = some_run p.split.circuit ready.in_range ready.accepted.split.accepted p.split.initial vectors ready.accepted.split.one_value_each ready.wide

-- by a state that the list leads to
pub state_texts_exist : StateTextsExist
state_texts_exist p vectors ready events legal =
    let s : Split = p.split in
    let (state, nets, run) = plan_runs p vectors ready in
    let (now, fires) = some_firing s p.graph (accepted_controls s p.graph ready.accepted) vectors state nets run events legal in
    let n : ℕ = length s.circuit.registers in
    let cluster : ℕ → ℕ = λ r. cluster_of s ready.accepted.split r (cases_lt r n) in
    let place : ℕ → ℕ = λ r. place_in s ready.accepted.split r (cases_lt r n) in
    let values : ℕ → Row = λ r. values_stored now (cluster r) (place r) in (
      flat_map (λ r. stored_text (register_of s.circuit r) (values r)) (range_with_len 0 n) ++ fired_line (length events) (length p.graph.events * length vectors),
      record {
        now = now;
        fires = fires;
        values = values;
        stored = λ r low. (cluster r, place r, stands_there s ready.accepted.split r (cases_lt r n) low, refl);
        spelt = refl;
      },
    )
