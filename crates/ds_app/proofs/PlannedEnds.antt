-- How a job ends that reads a netlist and makes its plan.
use Rattle.std.proofs.Common.{◌≡◌, ◌∙◌, ◌≤◌, ℕ, List, Option, Result, Err}
use Rattle.ds_base.specs.declared.number.Mode.{Mode}
use Rattle.ds_outside.specs.Held.{Held}
use Rattle.ds_outside.specs.declared.files.Which.{Which}
use Rattle.ds_design.specs.Circuit.{Circuit}
use Rattle.ds_latch.specs.Plan.{Planned}
use Rattle.ds_stage.specs.declared.stop.Stop.{Stop}
use Rattle.ds_stage.specs.Stage.{Stage, then_stage}
use Rattle.ds_stage.specs.Stages.{netlist_stage}
use Rattle.ds_stage.specs.PlanStage.{planned_stage}
use Rattle.ds_stage.specs.Ends.{Ends, Output, RoseIn, Stops}
use Rattle.ds_stage.proofs.Stages.{IsWider, widened}
use Rattle.ds_stage.proofs.StageEnds.{ended_first, ends_after, never_fell, planned_since}
use Rattle.ds_stage.proofs.StagesLeaveNothing.{netlist_nothing, planned_nothing}

-- files later: they hold what they held, and no count of faults fell
pub record IsLater {F : Type 0} (told : F → List ℕ → Held) (faults : F → Which → List ℕ → ℕ) (old new : F) : Type 0 where
  pub same_held : told new ≡ told old
  pub never_falls : (w : Which) (n : List ℕ) → faults old w n ≤ faults new w n

-- later than later
pub later_still : {F : Type 0} (told : F → List ℕ → Held) (faults : F → Which → List ℕ → ℕ) (old mid new : F)
    → IsLater told faults old mid → IsLater told faults mid new → IsLater told faults old new
later_still told faults old mid new one other = record {
  same_held = other.same_held ∙ one.same_held;
  never_falls = never_fell (faults old) (faults mid) (faults new) one.never_falls other.never_falls;
}

module _ {F : Type 0} (told : F → List ℕ → Held) (faults : F → Which → List ℕ → ℕ) (files : F)
    (net : List ℕ) (graph groups : Option (List ℕ)) (mode : Mode) (slack : ℕ) (next : Circuit → Planned → Stage (List ℕ)) where
  -- behind the netlist
  abbrev behind : Circuit → Stage (List ℕ)
  behind c = then_stage (planned_stage (told files) net graph groups mode slack c) (next c)

  -- all its stages
  abbrev whole : Stage (List ℕ)
  whole = then_stage (netlist_stage (told files) net) (λ (c : Circuit). then_stage (planned_stage (told files) net graph groups mode slack c) (next c))

  pub stops_netlist : (now : F) (out : Output) (stop : Stop) → out.new ≡ out.old
      → Stops (netlist_stage (told files) net) (RoseIn (faults files) (faults now)) stop
      → Ends {A = Unit {0}} whole (RoseIn (faults files) (faults now)) out (Err stop)
  stops_netlist now out stop same is =
      ended_first (Unit {0}) (netlist_stage (told files) net) behind (RoseIn (faults files) (faults now)) out stop (netlist_nothing (told files) net) same is

  module _ (read : F) (later : IsLater told faults files read) (c : Circuit) (accepted : (netlist_stage (told files) net).means c) where
    -- what is planned of the files behind the netlist is planned of them at first
    planned_here : (now : F) → IsWider (planned_stage (told read) net graph groups mode slack c) (planned_stage (told files) net graph groups mode slack c)
        (RoseIn (faults read) (faults now)) (RoseIn (faults files) (faults now))
    planned_here now = planned_since (told files) (told read) (faults files) (faults read) (faults now) later.same_held later.never_falls net graph groups mode slack c

    pub stops_plan : (now : F) (out : Output) (stop : Stop) → out.new ≡ out.old
        → Stops (planned_stage (told read) net graph groups mode slack c) (RoseIn (faults read) (faults now)) stop
        → Ends {A = Unit {0}} whole (RoseIn (faults files) (faults now)) out (Err stop)
    stops_plan now out stop same is =
        let few : Stops (planned_stage (told files) net graph groups mode slack c) (RoseIn (faults files) (faults now)) stop =
        widened {A = Planned} (planned_stage (told read) net graph groups mode slack c) (planned_stage (told files) net graph groups mode slack c)
        (RoseIn (faults read) (faults now)) (RoseIn (faults files) (faults now)) (planned_here now) (Err stop) is in
        ends_after {A = Unit {0}} (netlist_stage (told files) net) behind (RoseIn (faults files) (faults now)) out c accepted (Err stop)
        (ended_first (Unit {0}) (planned_stage (told files) net graph groups mode slack c) (next c) (RoseIn (faults files) (faults now)) out stop
        (planned_nothing (told files) net graph groups mode slack c) same few)

    -- behind its plan it ends as what stands there does
    pub ends_planned : (p : Planned) → (planned_stage (told read) net graph groups mode slack c).means p
        → (now : F) (out : Output) (result : Result (Unit {0}) Stop)
        → Ends (next c p) (RoseIn (faults files) (faults now)) out result
        → Ends whole (RoseIn (faults files) (faults now)) out result
    ends_planned p is now out result ends =
        ends_after (netlist_stage (told files) net) behind (RoseIn (faults files) (faults now)) out c accepted result
        (ends_after (planned_stage (told files) net graph groups mode slack c) (next c) (RoseIn (faults files) (faults now)) out p ((planned_here read).means p is) result ends)
