use Rattle.std.proofs.Common.{◌≡◌, ◌∙◌, ◌-◌, ◌+◌, List, ℕ, ap, sym, arith, length, refl, subst}
use Rattle.std.proofs.lemmas.List.{length-map, take_all}
use Rattle.ds_base.specs.Values.{AreKnown, Row}
use Rattle.ds_cover.specs.Cover.{value_at, values_at}
use Rattle.ds_design.specs.Circuit.{Circuit, data_nets}
use Rattle.ds_design.specs.declared.design.Register.{Register}
use Rattle.ds_slices.specs.Turns.{turn_row}
use Rattle.ds_slices.proofs.TurnBits.{turns_known}
use Rattle.ds_clocked.specs.Appends.{PutsLines}
use Rattle.ds_clocked.proofs.WordLines.{puts_more, puts_none}
use Rattle.ds_clocked.proofs.words.put_words.Goals as goal

pub writing-init : goal.writing-init
writing-init g c = record {
  within = omega arith;
  begun = c.requires.begun;
  written = puts_none (g.P.Pen.writing c.args.pen.now) c.args.netlist.now c.args.first c.args.words.now.state c.args.vectors.now.rows;
}

pub set_words-requires-clause-known : goal.set_words-requires-clause-known
set_words-requires-clause-known g c = (
  c.writing.invariant.begun.start_known,
  λ k low inside. c.writing.invariant.begun.vectors_known (c.writing.from + k) _ inside,
)

pub writing-preserved : goal.writing-preserved
writing-preserved g c =
    let circuit : Circuit = c.args.netlist.now in
    let rows : List Row = c.args.vectors.now.rows in
    let bits : List ℕ = c.set_words.new.slices.words.items in
    let from : ℕ = c.writing.from in
    let count : ℕ = c.min-count.result in
    let state_is : c.put_slice.new.words.state ≡ values_at (turn_row bits (count - 1)) (data_nets circuit) = c.put_slice.ensures.state in
    record {
      within = omega arith;
      begun = record {
        state = refl;
        ready = c.put_slice.ensures.ready;
        one_each = ap length state_is ∙ (length-map (data_nets circuit) (value_at (turn_row bits (count - 1))) ∙ length-map circuit.registers (λ (r : Register). r.data_net));
        start_known = subst (λ (row : Row). AreKnown row) (sym state_is) (turns_known bits (count - 1) (data_nets circuit));
        vectors_known = c.writing.invariant.begun.vectors_known;
      };
      written = puts_more circuit c.args.first c.args.words.now.state c.writing.words.state c.put_slice.new.words.state rows from count bits c.writing.invariant.written
          c.set_words.ensures.turns (omega arith) (omega arith) (omega arith) c.put_slice.ensures.lines state_is;
    }

pub returns-clause-lines : goal.returns-clause-lines
returns-clause-lines g c =
    let all : c.writing.from ≡ length c.args.vectors.now.rows = omega arith in
    subst (λ (vs : List Row). PutsLines (g.P.Pen.writing c.args.pen.now) (g.P.Pen.writing c.writing.pen) c.args.netlist.now c.args.first c.args.words.now.state vs c.writing.words.state)
    (take_all c.writing.from c.args.vectors.now.rows (omega arith)) c.writing.invariant.written

pub returns-clause-ready : goal.returns-clause-ready
returns-clause-ready g c = c.writing.invariant.begun.ready
