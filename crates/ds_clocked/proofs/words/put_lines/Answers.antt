use Rattle.std.proofs.Common.{◌≡◌, ◌∙◌, ◌+◌, ◌/◌, ◌%◌, List, ℕ, ap, refl, sym, arith, subst}
use Rattle.ds_base.specs.Values.{Row}
use Rattle.ds_cover.specs.Cover.{values_at}
use Rattle.ds_design.specs.Circuit.{Circuit, register_nets}
use Rattle.ds_design.specs.Trace.{trace_line}
use Rattle.ds_outside.proofs.Pens.{puts_nothing, puts_on, with_put}
use Rattle.ds_slices.specs.Bytes.{AreTurnBytes}
use Rattle.ds_slices.specs.Turns.{turn_row}
use Rattle.ds_slices.specs.declared.slices.Slices.{Slices}
use Rattle.ds_clocked.specs.Words.{registers_in}
use Rattle.ds_clocked.proofs.WordLines.{line_more, row_of_bytes}
use Rattle.ds_clocked.proofs.words.put_lines.Goals as goal

pub loop-turn-init : goal.loop-turn-init
loop-turn-init g c = record {
  ready = c.requires.ready;
  same = refl;
  made = λ apart. absurd (apart refl);
  lines = puts_nothing (g.P.Pen.writing c.args.pen.now);
}

pub loop-turn-preserved : goal.loop-turn-preserved
loop-turn-preserved g c =
    let circuit : Circuit = c.args.netlist.now in
    let bits : List ℕ = c.args.slices.now.words.items in
    let slices : Slices = c.begin_turn.new.slices in
    let k : ℕ = c.loop-turn.turn in
    let same : c.begin_turn.new.slices.words ≡ c.args.slices.now.words = c.begin_turn.ensures.same ∙ c.loop-turn.invariant.same in
    let same_bits : c.begin_turn.new.slices.words.items ≡ c.args.slices.now.words.items = ap (λ v. v.items) same in
    let outputs : turn_row slices.output_bytes.items (k % 8) ≡ values_at (turn_row bits k) circuit.outputs =
    row_of_bytes slices.words.items bits circuit.outputs slices.output_bytes.items k same_bits c.begin_turn.ensures.made.outputs in
    let registers : turn_row slices.register_bytes.items (k % 8) ≡ registers_in circuit bits k =
    row_of_bytes slices.words.items bits (register_nets circuit) slices.register_bytes.items k same_bits c.begin_turn.ensures.made.registers in
    let line : trace_line (c.args.first + k) (turn_row slices.output_bytes.items (k % 8)) (turn_row slices.register_bytes.items (k % 8))
    ≡ trace_line (c.args.first + k) (values_at (turn_row bits k) circuit.outputs) (registers_in circuit bits k) =
    ap (λ (row : Row). trace_line (c.args.first + k) row (turn_row slices.register_bytes.items (k % 8))) outputs
    ∙ ap (λ (row : Row). trace_line (c.args.first + k) (values_at (turn_row bits k) circuit.outputs) row) registers in
    record {
      ready = c.begin_turn.ensures.ready;
      same = same;
      made = λ apart. subst (AreTurnBytes circuit slices) (let e : k / 8 ≡ (k + 1) / 8 = omega arith in e) c.begin_turn.ensures.made;
      lines = with_put (sym (line_more circuit c.args.first k bits)) (puts_on c.loop-turn.invariant.lines (with_put line c.put_turn_line.ensures));
    }
