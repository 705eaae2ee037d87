use Rattle.std.proofs.Common.{◌≡◌, ◌∙◌, ◌<◌, ◌+◌, List, map, ap, sym, arith, length, subst}
use Rattle.std.proofs.lemmas.List.{length-map}
use Rattle.ds_cover.specs.Cover.{value_at, values_at}
use Rattle.ds_design.specs.Circuit.{Circuit, data_nets}
use Rattle.ds_design.specs.Valuation.{IsValuation}
use Rattle.ds_design.specs.Trace.{trace_line}
use Rattle.ds_design.specs.declared.design.Register.{Register}
use Rattle.ds_outside.specs.Pen.{Puts}
use Rattle.ds_outside.proofs.Pens.{puts_nothing, puts_on, with_put}
use Rattle.ds_clocked.specs.Loop.{IsWrittenTo}
use Rattle.ds_clocked.proofs.OneMoreTurn.{no_turn, one_turn, last_turn}
use Rattle.ds_clocked.proofs.run.put_turns.Goals as goal
use Rattle.ds_base.specs.Values.{Row}

pub loop-k-init : goal.loop-k-init
loop-k-init g c = record {
  states = c.requires.state;
  nets = c.requires.nets;
  outputs = c.requires.outputs;
  done = no_turn c.args.netlist.now c.args.first c.args.rows.now.state c.args.vectors.now.rows (Puts (g.P.Pen.writing c.args.pen.now) (g.P.Pen.writing c.args.pen.now)) (puts_nothing (g.P.Pen.writing c.args.pen.now));
}

pub loop-k-preserved : goal.loop-k-preserved
loop-k-preserved g c =
    let circuit : Circuit = c.args.netlist.now in
    let nets : Row = c.settle.new.nets in
    let registers_are : c.registers-registers.result.now ≡ circuit.registers = c.registers-registers.ensures.registers ∙ ap (λ (k : Circuit). k.registers) c.design-design.ensures.design in
    let outputs_are : c.outputs-outputs.result.now ≡ circuit.outputs = c.outputs-outputs.ensures.outputs ∙ ap (λ (k : Circuit). k.outputs) c.design-design.ensures.design in
    let state_is : c.pick_data.new.into ≡ values_at nets (data_nets circuit) = c.pick_data.ensures ∙ ap (λ (rs : List Register). values_at nets (map (λ (r : Register). r.data_net) rs)) registers_are in
    let outputs_is : c.pick_values.new.into ≡ values_at nets circuit.outputs = c.pick_values.ensures ∙ ap (values_at nets) outputs_are in
    let settled : IsValuation circuit c.loop-k.rows.state c.row.result.now nets = c.settle.ensures in
    let inside : c.loop-k.k < length c.args.vectors.now.rows = (let e : c.count-k-end.result ≡ length c.args.vectors.now.rows = c.count-k-end.ensures.value in let t : c.loop-k.k < c.count-k-end.result = c.loop-k-test.true in omega arith) in
    record {
      states = ap length state_is ∙ (length-map (data_nets circuit) (value_at nets) ∙ length-map circuit.registers (λ (r : Register). r.data_net));
      nets = settled.one_each;
      outputs = ap length outputs_is ∙ length-map circuit.outputs (value_at nets);
      done = subst (λ (s : Row). IsWrittenTo circuit c.args.first c.args.rows.now.state c.args.vectors.now.rows (c.loop-k.k + 1) s (Puts (g.P.Pen.writing c.args.pen.now) (g.P.Pen.writing c.put_trace_line.new.pen))) (sym state_is)
          (one_turn circuit c.args.first c.args.rows.now.state c.args.vectors.now.rows c.loop-k.k c.loop-k.rows.state nets
          (Puts (g.P.Pen.writing c.args.pen.now) (g.P.Pen.writing c.loop-k.pen)) (Puts (g.P.Pen.writing c.args.pen.now) (g.P.Pen.writing c.put_trace_line.new.pen)) inside
          c.loop-k.invariant.done
          (subst (λ (row : Row). IsValuation circuit c.loop-k.rows.state row nets) c.row.ensures.row settled)
          (λ text before. puts_on before (with_put (ap (λ (o : Row). trace_line (c.args.first + c.loop-k.k) o c.loop-k.rows.state) outputs_is) c.put_trace_line.ensures)));
    }

pub returns : goal.returns
returns g c =
    let all : c.loop-k.k ≡ length c.args.vectors.now.rows = (let e : c.count-k-end.result ≡ length c.args.vectors.now.rows = c.count-k-end.ensures.value in omega arith) in
    last_turn c.args.netlist.now c.args.first c.args.rows.now.state c.args.vectors.now.rows c.loop-k.k c.loop-k.rows.state
    (Puts (g.P.Pen.writing c.args.pen.now) (g.P.Pen.writing c.loop-k.pen)) all c.loop-k.invariant.done
