use Rattle.std.proofs.Common.{◌≡◌, ◌∙◌, ◌+◌, ℕ, List, Result, Ok, Err, ap, arith, length, subst, sym}
use Rattle.std.specs.Prelude.{IfOk}
use Rattle.ds_design.specs.Circuit.{Circuit}
use Rattle.ds_design.specs.declared.design.Net.{Net}
use Rattle.ds_latch.specs.Node.{Split}
use Rattle.ds_base.specs.Scratch.{Memory, Remembers}
use Rattle.ds_opening.specs.Noted.{slots_of}
use Rattle.ds_opening.proofs.Slots.{slots_long}
use Rattle.ds_run.specs.Openings.{RunWithMemory, memory_of}
use Rattle.ds_run.proofs.openings.OpeningsCompute.scratch.Goals as goal

-- what follows where there is an answer
if_ok : {T E : Type 0} (r : Result T E) (P Q : T → Type 0) → ((x : T) → P x → Q x) → IfOk r P → IfOk r Q
if_ok (Ok x) P Q so is = so x is
if_ok (Err e) P Q so is = tt

pub returns : goal.returns
returns c =
    let s : Split = c.self.inside.latches.now in
    let memory_is = ap (λ (m : RunWithMemory). m.memory) c.self.view_is in
    let m : Memory = memory_of s c.self.inside.cones.now.groups c.self.inside.order.now c.self.inside.vectors.now.rows in
    let nets : length s.circuit.nets ≡ length c.nets-nets.result.now =
    sym (ap (λ (ns : List Net). length ns) c.nets-nets.ensures ∙ ap (λ (d : Circuit). length d.nets) (c.design.ensures.design ∙ c.netlist.ensures.netlist)) in
    let slots : length (slots_of s c.self.inside.cones.now.groups) ≡ c.count.result + c.nodes.result =
    slots_long s c.self.invariant.openings.split c.self.inside.cones.now.groups ∙ omega (c.count.ensures.value, c.nodes.ensures.nodes, arith) in
    if_ok c.of.result (λ k. (m : Memory) → m.nets ≡ length c.nets-nets.result.now → length m.slots ≡ c.count.result + c.nodes.result → Remembers m k)
    (Remembers c.args.self.now.memory)
    (λ k remembers. subst (λ (m : Memory). Remembers m k) memory_is (remembers m nets slots))
    c.of.ensures.remembers
