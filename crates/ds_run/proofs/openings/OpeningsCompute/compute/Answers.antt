use Rattle.std.proofs.Common.{◌≡◌, ◌∙◌, ◌+◌, ◌≤◌, ◌++◌, ℕ, Bool, List, refl, ap, arith, length, subst, sym}
use Rattle.std.specs.Prelude.{vec_capacity, vec_len}
use Rattle.ds_base.specs.Word.{count_of_words}
use Rattle.ds_latch.specs.Node.{nets_of}
use Rattle.ds_opening.specs.Learnt.{is_learnt}
use Rattle.ds_rule.specs.Run.{Run}
use Rattle.ds_rule.specs.Words.{width}
use Rattle.ds_rule.specs.Rows.{supply_but}
use Rattle.ds_base.specs.Scratch.{Kept, Memory, Remembers}
use Rattle.ds_run.specs.Openings.{RunWithMemory, memory_of}
use Rattle.ds_run.proofs.ComputedOpenings.{gives_row, opens_at, room_at}
use Rattle.ds_run.proofs.Remembered.{noted}
use Rattle.ds_run.proofs.openings.OpeningsCompute.compute.Goals as goal

-- the words, where the groups are counted
counted : (run : Run) (count groups : ℕ) → groups ≡ count → (k : Kept) (l turn : ℕ) (from : List ℕ)
    → from ≡ supply_but run (is_learnt count k turn) l turn (length run.edges)
    → from ≡ supply_but run (is_learnt groups k turn) l turn (length run.edges)
counted run count groups same k l turn from is =
    subst (λ (n : ℕ). from ≡ supply_but run (is_learnt n k turn) l turn (length run.edges))
    (sym same) is

pub open-requires-clause-opening : goal.open-requires-clause-opening
open-requires-clause-opening c = let (some, most) = c.requires.turn in
    let run_is = ap (λ (m : RunWithMemory). m.run) c.self.view_is in
    let memory_is = ap (λ (m : RunWithMemory). m.memory) c.self.view_is in
    let groups_are : length c.self.inside.cones.now.groups.groups ≡ c.args.self.now.groups = ap (λ (m : RunWithMemory). m.groups) c.self.view_is in
    let learnt : ℕ → Bool = is_learnt (length c.self.inside.cones.now.groups.groups) c.args.scratch.now c.args.turn in
    let from = counted c.args.self.now.run c.args.self.now.groups (length c.self.inside.cones.now.groups.groups)
    groups_are c.args.scratch.now c.args.node c.args.turn c.args.from.now c.requires.from in
    let o = opens_at c.self.invariant.openings (sym run_is) refl some c.requires.node most learnt c.args.from.now from in (
      o.node,
      o.turn,
      memory_of c.self.inside.latches.now c.self.inside.cones.now.groups c.self.inside.order.now c.self.inside.vectors.now.rows,
      noted c.self.invariant.openings (sym run_is) some most c.args.scratch.now o _ refl refl refl c.self.invariant.known
          (subst (λ (m : Memory). Remembers m c.args.scratch.now) (sym memory_is) c.requires.remembers),
    )

pub open-requires-clause-room : goal.open-requires-clause-room
open-requires-clause-room c n is_node is =
    let run_is = ap (λ (m : RunWithMemory). m.run) c.self.view_is in
    let nets = nets_of c.self.inside.latches.now n in
    let wide : width c.args.self.now.run c.args.node ≡ count_of_words (length nets) = room_at c.self.invariant.openings (sym run_is) refl n is_node is in
    let most : vec_len c.args.into.now + width c.args.self.now.run c.args.node ≤ vec_capacity c.args.into.now = c.requires.room in
    omega (wide, most, arith)

pub returns-clause-value : goal.returns-clause-value
returns-clause-value c = let (some, most) = c.requires.turn in
    let run_is = ap (λ (m : RunWithMemory). m.run) c.self.view_is in
    let memory_is = ap (λ (m : RunWithMemory). m.memory) c.self.view_is in
    let groups_are : length c.self.inside.cones.now.groups.groups ≡ c.args.self.now.groups = ap (λ (m : RunWithMemory). m.groups) c.self.view_is in
    let learnt : ℕ → Bool = is_learnt (length c.self.inside.cones.now.groups.groups) c.args.scratch.now c.args.turn in
    let from = counted c.args.self.now.run c.args.self.now.groups (length c.self.inside.cones.now.groups.groups)
    groups_are c.args.scratch.now c.args.node c.args.turn c.args.from.now c.requires.from in
    let o = opens_at c.self.invariant.openings (sym run_is) refl some c.requires.node most learnt c.args.from.now from in
    let row_is = gives_row c.self.invariant.openings (sym run_is) refl some in
    c.open.ensures.value o.node o.turn (memory_of c.self.inside.latches.now c.self.inside.cones.now.groups c.self.inside.order.now c.self.inside.vectors.now.rows)
    (noted c.self.invariant.openings (sym run_is) some most c.args.scratch.now o _ refl refl refl c.self.invariant.known
    (subst (λ (m : Memory). Remembers m c.args.scratch.now) (sym memory_is) c.requires.remembers))
    ∙ ap (λ (ws : List ℕ). c.args.into.now.items ++ ws) (o.gives ∙ row_is)

pub returns-clause-remembers : goal.returns-clause-remembers
returns-clause-remembers c = let (some, most) = c.requires.turn in
    let run_is = ap (λ (m : RunWithMemory). m.run) c.self.view_is in
    let memory_is = ap (λ (m : RunWithMemory). m.memory) c.self.view_is in
    let groups_are : length c.self.inside.cones.now.groups.groups ≡ c.args.self.now.groups = ap (λ (m : RunWithMemory). m.groups) c.self.view_is in
    let learnt : ℕ → Bool = is_learnt (length c.self.inside.cones.now.groups.groups) c.args.scratch.now c.args.turn in
    let from = counted c.args.self.now.run c.args.self.now.groups (length c.self.inside.cones.now.groups.groups)
    groups_are c.args.scratch.now c.args.node c.args.turn c.args.from.now c.requires.from in
    let o = opens_at c.self.invariant.openings (sym run_is) refl some c.requires.node most learnt c.args.from.now from in
    subst (λ (m : Memory). Remembers m c.open.new.scratch) memory_is
    (c.open.ensures.remembers o.node o.turn (memory_of c.self.inside.latches.now c.self.inside.cones.now.groups c.self.inside.order.now c.self.inside.vectors.now.rows)
    (noted c.self.invariant.openings (sym run_is) some most c.args.scratch.now o _ refl refl refl c.self.invariant.known
    (subst (λ (m : Memory). Remembers m c.args.scratch.now) (sym memory_is) c.requires.remembers)))
