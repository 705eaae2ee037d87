use Rattle.std.proofs.Common.{◌≡◌, ◌∙◌, ◌<◌, ◌≤◌, ◌+◌, ◌-◌, ℕ, List, [], arith, length, ap, get_or, refl, subst, sym, take, drop}
use Rattle.ds_base.specs.Word.{count_of_words}
use Rattle.ds_cover.specs.Cover.{values_at}
use Rattle.ds_split.proofs.NodeCones.{lent}
use Rattle.ds_opening.specs.Noted.{IsLearnt, IsSlot}
use Rattle.ds_opening.specs.Packed.{AreInside, packed}
use Rattle.ds_opening.proofs.RowsOfNodes.{IsReadTo, of_next, read_all, read_first, read_more, room, row_is}
use Rattle.ds_opening.proofs.opening.learn_rows.Goals as goal

pub rows-init : goal.rows-init
rows-init c = record {
  same = record { nets = refl; turns = refl; stayed = refl };
  read = λ foreseen nodes reads. read_first reads;
}

pub bounds-bits-node : goal.bounds-bits-node
bounds-bits-node c = let (foreseen, nodes, reads) = c.requires.read in
    of_next reads (c.rows.invariant.read foreseen nodes reads) c.rows-test.true (λ n. n < length c.args.bits.now) reads.inside

pub offset_bounds-bits-node : goal.offset_bounds-bits-node
offset_bounds-bits-node c = let (foreseen, nodes, reads) = c.requires.read in
    let inside = of_next reads (c.rows.invariant.read foreseen nodes reads) c.rows-test.true (λ n. n < length c.args.bits.now) reads.inside in
    omega (inside, c.requires.few, arith)

pub split_at-requires : goal.split_at-requires
split_at-requires c = let bits : List (List ℕ) = c.args.bits.now in
    let (foreseen, nodes, reads) = c.requires.read in
    let read = c.rows.invariant.read foreseen nodes reads in
    let node : ℕ = get_or c.rows.rest.now 0 0 in
    let inside : node < length bits = of_next reads read c.rows-test.true (λ n. n < length bits) reads.inside in
    let list : c.as_slice-these.result.now ≡ get_or bits node [] =
    lent bits node node c.index-bits-node.result c.as_slice-these.result.now c.as_slice-these.ensures c.index-bits-node.is refl inside in
    let most : count_of_words (length (get_or bits node [])) ≤ length (take (length c.rows.rest.now - 1) (drop 1 c.rows.rest.now)) = room reads read c.rows-test.true in
    rw (c.words_of.ensures, list) most

pub overflow_add-first : goal.overflow_add-first
overflow_add-first c = let (foreseen, nodes, reads) = c.requires.read in
    let inside = of_next reads (c.rows.invariant.read foreseen nodes reads) c.rows-test.true (λ n. n < length c.args.bits.now) reads.inside in
    omega (inside, c.requires.few, arith)

pub learn_row-requires-clause-within : goal.learn_row-requires-clause-within
learn_row-requires-clause-within c = let bits : List (List ℕ) = c.args.bits.now in
    let (foreseen, nodes, reads) = c.requires.read in
    let read = c.rows.invariant.read foreseen nodes reads in
    let node : ℕ = get_or c.rows.rest.now 0 0 in
    let inside : node < length bits = of_next reads read c.rows-test.true (λ n. n < length bits) reads.inside in
    let list : c.as_slice-these.result.now ≡ get_or bits node [] =
    lent bits node node c.index-bits-node.result c.as_slice-these.result.now c.as_slice-these.ensures c.index-bits-node.is refl inside in
    let within : AreInside (get_or bits node []) c.args.scratch.now.nets =
    of_next reads read c.rows-test.true (λ n. AreInside (get_or bits n []) c.args.scratch.now.nets) reads.within in
    subst (λ (xs : List ℕ). AreInside xs c.rows.scratch.nets) (sym list)
    (λ k d low. let h : get_or (get_or bits node []) k d < length c.args.scratch.now.nets = within k d low in
    omega (h, c.rows.invariant.same.nets, arith))

pub learn_row-requires-clause-slot : goal.learn_row-requires-clause-slot
learn_row-requires-clause-slot c = let (foreseen, nodes, reads) = c.requires.read in
    let near : c.args.first + get_or c.rows.rest.now 0 0 < length c.args.scratch.now.turns =
    of_next reads (c.rows.invariant.read foreseen nodes reads) c.rows-test.true (λ n. c.args.first + n < length c.args.scratch.now.turns) reads.slots in
    record {
      turn = omega (near, c.rows.invariant.same.turns, arith);
      stayed = omega (near, c.rows.invariant.same.stayed, c.requires.slots, arith);
    }

pub rows-preserved : goal.rows-preserved
rows-preserved c = record {
  same = record {
    nets = c.learn_row.ensures.same.nets ∙ c.rows.invariant.same.nets;
    turns = c.learn_row.ensures.same.turns ∙ c.rows.invariant.same.turns;
    stayed = c.learn_row.ensures.same.stayed ∙ c.rows.invariant.same.stayed;
  };
  read = λ foreseen nodes reads.
      let bits : List (List ℕ) = c.args.bits.now in
      let rest : List ℕ = c.rows.rest.now in
      let read = c.rows.invariant.read foreseen nodes reads in
      let node : ℕ = get_or rest 0 0 in
      let slot : ℕ = c.args.first + node in
      let turn : ℕ = c.args.opening.now.turn in
      let inside : node < length bits = of_next reads read c.rows-test.true (λ n. n < length bits) reads.inside in
      let list : c.as_slice-these.result.now ≡ get_or bits node [] =
      lent bits node node c.index-bits-node.result c.as_slice-these.result.now c.as_slice-these.ensures c.index-bits-node.is refl inside in
      let words : List ℕ = take (length rest - 1) (drop 1 rest) in
      let count : c.words_of.result ≡ count_of_words (length (get_or bits node [])) =
      c.words_of.ensures ∙ ap (λ (xs : List ℕ). count_of_words (length xs)) list in
      let row : c.split_at.result.0.now ≡ packed (values_at foreseen c.as_slice-these.result.now) =
      c.split_at.ensures.front ∙ (ap (λ (n : ℕ). take n words) count ∙ (row_is reads read c.rows-test.true
      ∙ ap (λ (xs : List ℕ). packed (values_at foreseen xs)) (sym list))) in
      let others : c.split_at.result.1.now ≡ drop (count_of_words (length (get_or bits node []))) words =
      c.split_at.ensures.back ∙ ap (λ (n : ℕ). drop n words) count in
      subst (λ (xs : List ℕ). IsReadTo bits c.args.first c.args.opening.now c.args.scratch.now foreseen nodes xs c.learn_row.new.scratch) (sym others)
      (read_more reads read c.rows-test.true c.learn_row.new.scratch (λ m at remembers.
      subst (λ (xs : List ℕ). IsLearnt m foreseen xs c.rows.scratch c.learn_row.new.scratch) list
      (c.learn_row.ensures.value m foreseen (subst (λ (xs : List ℕ). IsSlot m turn slot xs foreseen) (sym list) at) row remembers)));
}

pub returns-clause-value : goal.returns-clause-value
returns-clause-value c m foreseen nodes reads slots remembers =
    read_all reads (c.rows.invariant.read foreseen nodes reads) c.rows-test.false c.requires.turn m slots remembers
