use Rattle.std.proofs.Common.{◌≡◌, ◌∙◌, ◌<◌, ℕ, List, None, Option, Some, ap, arith, refl, sym, get_or, length, subst}
use Rattle.std.proofs.Math.ListN.{replicate}
use Rattle.ds_design.specs.Circuit.{Circuit}
use Rattle.ds_design.specs.declared.design.Gate.{Gate}
use Rattle.ds_settle.specs.Walk.{AreDrivers}
use Rattle.ds_settle.proofs.TableDrivers.{drivers_more, drivers_none}
use Rattle.ds_settle.proofs.CircuitTables.{net_is}
use Rattle.ds_settle.proofs.drivers.drivers_of.Goals as goal

-- where what holds of it holds of no number
only_none : (P : Option ℕ → Type 0) → ((k : ℕ) → ¬ P (Some k)) → (driver : Option ℕ) → P driver → driver ≡ None
only_none P no_number None is = refl
only_none P no_number (Some k) is = absurd (no_number k is)

pub loop-k-init : goal.loop-k-init
loop-k-init c =
    let none : c.in_ok-drivers.drivers.items ≡ replicate {A = Option ℕ} (length c.nets.result.now) None =
    c.in_ok-drivers.ensures.items_if_clones_equal (only_none _ (λ k some. some)) in
    let nets : length c.nets.result.now ≡ length c.args.netlist.now.nets = ap length (c.nets.ensures ∙ ap (λ (d : Circuit). d.nets) c.design-design.ensures.design) in
    subst (λ (ds : List (Option ℕ)). AreDrivers c.args.netlist.now 0 ds) (sym (none ∙ ap (λ (n : ℕ). replicate {A = Option ℕ} n None) nets)) (drivers_none c.args.netlist.now)

pub loop-k-preserved : goal.loop-k-preserved
loop-k-preserved c =
    let k : ℕ = c.loop-k.k in
    let gate : Gate = c.gate-item.result in
    let gates : c.tables-gate-items.result.now ≡ c.args.netlist.now.tables = c.tables-gate-items.ensures.tables ∙ ap (λ (d : Circuit). d.tables) c.design-design.ensures.design in
    let inside : c.loop-k.k < length c.args.netlist.now.tables = subst (λ (ts : List Gate). c.loop-k.k < length ts) gates c.loop-k-test.true in
    let gate_is : gate ≡ get_or c.args.netlist.now.tables k gate = c.gate-item.is ∙ ap (λ (ts : List Gate). get_or ts k gate) gates in
    let output : (get_or c.args.netlist.now.tables k gate).output ≡ c.index.result = ap (λ (t : Gate). t.output) (sym gate_is) ∙ sym c.index.ensures in
    let low : (get_or c.args.netlist.now.tables k gate).output < length c.args.netlist.now.nets = (c.design-design.ensures.in_range.tables k gate inside).1 in
    drivers_more c.args.netlist.now k c.index.result c.loop-k.drivers.items (net_is c.args.netlist.now k gate inside ∙ output)
    (subst (λ (n : ℕ). n < length c.args.netlist.now.nets) output low) c.loop-k.invariant

pub returns : goal.returns
returns c =
    let gates : c.tables-gate-items.result.now ≡ c.args.netlist.now.tables = c.tables-gate-items.ensures.tables ∙ ap (λ (d : Circuit). d.tables) c.design-design.ensures.design in
    let all : c.loop-k.k ≡ length c.args.netlist.now.tables = omega (arith, ap length gates) in
    subst (λ (n : ℕ). AreDrivers c.args.netlist.now n c.loop-k.drivers.items) all c.loop-k.invariant
