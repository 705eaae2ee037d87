use Rattle.std.proofs.Common.{◌≡◌, ◌⊎◌, ℕ, inl, inr, sym, ◌∙◌, ◌+◌, ◌≤◌, ◌++◌, arith, ap, length, ◌-◌, take, drop, true, subst}
use Rattle.std.specs.Prelude.{All, vec_capacity, vec_len}
use Rattle.std.specs.Prelude.{List}
use Rattle.ds_base.specs.Scratch.{Kept, Memory}
use Rattle.ds_base.specs.Values.{AreKnown, Row}
use Rattle.ds_base.specs.Word.{count_of_words}
use Rattle.ds_latch.specs.Node.{Split, nets_of, number_of}
use Rattle.ds_latch.specs.declared.node.Node.{Node}
use Rattle.ds_latch.specs.declared.node.Node.TheVariants.{Out, Master}
use Rattle.ds_latch.proofs.OrderTokens.{same_node}
use Rattle.ds_split.specs.Settled.{IsSettling}
use Rattle.ds_opening.specs.Groups.{Grouping}
use Rattle.ds_opening.specs.Learnt.{is_learnt}
use Rattle.ds_opening.specs.Noted.{IsNotedOpening, IsSettlingOpening}
use Rattle.ds_opening.specs.TurnOfOpenings.{Turn}
use Rattle.ds_opening.specs.declared.opening.Opening.{Opening}
use Rattle.ds_opening.proofs.LearntRows.{master_unlearnt}
use Rattle.ds_opening.proofs.Slaves.{slave_reads, slave_room, slave_takes}
use Rattle.ds_opening.proofs.opening.open.Goals as goal

-- OUT and masters settle
settles : (n : Node) → (n ≡ Out) ⊎ ((i : ℕ) × (n ≡ Master i)) → IsSettling n
settles n (inl is) = subst IsSettling (sym is) tt
settles n (inr (i, is)) = subst IsSettling (sym is) tt

-- an opening of a node that settles
settling_opening : (s : Split) (rows : List Row) (g : Grouping) (o : Opening) (k : Kept) (n : Node) (t : Turn) (m : Memory)
    → IsNotedOpening s rows g o k n t m → (at : Node) → number_of at ≡ o.number → IsSettling at
    → IsSettlingOpening s g o k n t m
settling_opening s rows g o k n t m is at number settles = record {
  some = is.some;
  at = record {
    node = is.opening.node;
    settling = subst IsSettling (same_node at n (number ∙ sym is.opening.is)) settles;
    is = is.opening.is;
  };
  fed = is.opening.fed;
  memory = is.memory;
  known = subst (λ (vectors : List Row). o.known ≡ true → AreKnown s.initial × All AreKnown vectors) (sym is.opening.same) is.known;
}

pub open_groups-requires-clause-range : goal.open_groups-requires-clause-range
open_groups-requires-clause-range c = let (range, _) = c.requires.design in range

pub open_groups-requires-clause-split : goal.open_groups-requires-clause-split
open_groups-requires-clause-split c = let (_, split) = c.requires.design in split

pub open_groups-requires-clause-groups : goal.open_groups-requires-clause-groups
open_groups-requires-clause-groups c = c.requires.groups

pub open_groups-requires-clause-settling : goal.open_groups-requires-clause-settling
open_groups-requires-clause-settling c =
    let (n, t, m, o) = c.requires.opening in (
      n,
      t,
      m,
      settling_opening c.args.latches.now c.args.vectors.now.rows c.args.groups.now c.args.opening.now c.args.scratch.now n t m o
          c.of.result c.of.ensures (settles c.of.result c.in-Out.is),
    )

pub open_groups-requires-clause-room : goal.open_groups-requires-clause-room
open_groups-requires-clause-room c = c.requires.room

pub slice_bounds-words-count : goal.slice_bounds-words-count
slice_bounds-words-count c =
    let (n, t, m, o) = c.requires.opening in
    slave_reads c.args.latches.now c.args.vectors.now.rows c.args.opening.now.number (c.args.opening.now.turn - 1) c.in-Slave.field-0 (ap number_of (sym c.in-Slave.is) ∙ c.of.ensures)
    (is_learnt (length c.args.groups.now.groups) c.args.scratch.now c.args.opening.now.turn)
    (master_unlearnt (length c.args.groups.now.groups) c.args.scratch.now c.args.opening.now.turn) c.args.opening.now.from.now n t o.opening

pub slice_bounds-words-start : goal.slice_bounds-words-start
slice_bounds-words-start c = slice_bounds-words-count c

pub push_all-requires : goal.push_all-requires
push_all-requires c =
    let (n, t, m, o) = c.requires.opening in
    let size : length (take (length c.args.opening.now.from.now - 1) (drop 1 c.args.opening.now.from.now)) ≡ count_of_words (length (nets_of c.args.latches.now n)) = slave_room c.args.latches.now c.args.vectors.now.rows c.args.opening.now.number (c.args.opening.now.turn - 1) c.in-Slave.field-0 (ap number_of (sym c.in-Slave.is) ∙ c.of.ensures)
    (is_learnt (length c.args.groups.now.groups) c.args.scratch.now c.args.opening.now.turn)
    (master_unlearnt (length c.args.groups.now.groups) c.args.scratch.now c.args.opening.now.turn) c.args.opening.now.from.now n t o.opening in
    let most : vec_len c.args.into.now + count_of_words (length (nets_of c.args.latches.now n)) ≤ vec_capacity c.args.into.now = c.requires.room n o.opening.node o.opening.is in
    record { room = omega (size, most, arith) }

pub returns-in-Slave-clause-value : goal.returns-in-Slave-clause-value
returns-in-Slave-clause-value c n t m o =
    c.push_all.ensures.value ∙ ap (λ ws. c.args.into.now.items ++ ws) (slave_takes c.args.latches.now c.args.vectors.now.rows c.args.opening.now.number (c.args.opening.now.turn - 1) c.in-Slave.field-0 (ap number_of (sym c.in-Slave.is) ∙ c.of.ensures)
    (is_learnt (length c.args.groups.now.groups) c.args.scratch.now c.args.opening.now.turn)
    (master_unlearnt (length c.args.groups.now.groups) c.args.scratch.now c.args.opening.now.turn) c.args.opening.now.from.now n t o.opening)

pub returns-in-Slave-clause-remembers : goal.returns-in-Slave-clause-remembers
returns-in-Slave-clause-remembers c n t m o = o.memory.remembers

pub returns-in-Slave-clause-room : goal.returns-in-Slave-clause-room
returns-in-Slave-clause-room c = c.push_all.ensures.room

pub returns-in-Out-clause-value : goal.returns-in-Out-clause-value
returns-in-Out-clause-value c n t m o =
    c.open_groups.ensures.value n t m
    (settling_opening c.args.latches.now c.args.vectors.now.rows c.args.groups.now c.args.opening.now c.args.scratch.now n t m o
    c.of.result c.of.ensures (settles c.of.result c.in-Out.is))

pub returns-in-Out-clause-remembers : goal.returns-in-Out-clause-remembers
returns-in-Out-clause-remembers c n t m o =
    c.open_groups.ensures.remembers n t m
    (settling_opening c.args.latches.now c.args.vectors.now.rows c.args.groups.now c.args.opening.now c.args.scratch.now n t m o
    c.of.result c.of.ensures (settles c.of.result c.in-Out.is))

pub returns-in-Out-clause-room : goal.returns-in-Out-clause-room
returns-in-Out-clause-room c = c.open_groups.ensures.room
