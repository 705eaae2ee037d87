use Rattle.std.proofs.Common.{◌≡◌, ◌<◌, ◌≤◌, ◌+◌, ◌∷◌, [], ◌∙◌, ℕ, arith, subst, sym, refl}
use Rattle.std.proofs.Common.{length-append}
use Rattle.ds_rule.specs.Run.{Run}
use Rattle.ds_rule.proofs.GetElemLemmas.{each_snoc, at_below}
use Rattle.ds_fabric.specs.Begun.{first_word_of}
use Rattle.ds_fabric.specs.Showing.{IsBlank}
use Rattle.ds_fabric.specs.declared.history.History.{History}
use Rattle.ds_fabric.proofs.FirstPass.{AreLaidOut, first_small, first_next, first_up, side_by_side}
use Rattle.ds_fabric.proofs.build.blank_nodes.Goals as goal

pub loop-node-init : goal.loop-node-init
loop-node-init g c = (
  subst (AreLaidOut c.args.run.now 0 c.args.step) (sym c.in_ok-nodes.ensures.items) (record {
    long = refl;
    each = λ i h at. absurd (omega (arith, at_below {A = History} [] i h at));
  }),
  refl,
  omega (arith, c.in_ok-nodes.ensures.capacity, c.nodes.ensures),
)

pub overflow_add-first : goal.overflow_add-first
overflow_add-first g c = let run : Run = c.args.run.now in let (_, first, _) = c.loop-node.invariant in
    omega (
      arith,
      first,
      c.stride_of-stride.ensures,
      first_next run c.loop-node.node,
      first_small run (c.loop-node.node + 1) c.requires.sound (omega (
        arith,
        c.loop-node-test.true,
        c.loop-node.auto.node-end,
        c.nodes-node-end.ensures,
      )),
    )

pub loop-node-preserved : goal.loop-node-preserved
loop-node-preserved g c = let run : Run = c.args.run.now in let n : ℕ = c.loop-node.node in
    let (out, first, room) = c.loop-node.invariant in
    let near : n < run.nodes = omega (
      arith,
      c.loop-node-test.true,
      c.loop-node.auto.node-end,
      c.nodes-node-end.ensures,
    ) in
    let next = first_next run n in
    let ends : first_word_of run n + c.stride_of-stride.result ≤ c.args.step = omega (
      arith,
      c.requires.step,
      c.stride_of-stride.ensures,
      first_up run n run.nodes near,
    ) in
    let h : History = record {
      node = n;
      fired = 0;
      stride = c.stride_of-stride.result;
      first = c.loop-node.first;
      step = c.args.step;
      own = c.new.result;
    } in (
      subst (AreLaidOut run (n + 1) c.args.step) (sym c.in_ok-push.ensures.items) (record {
        long = omega (arith, length-append c.loop-node.nodes.items (h ∷ []), out.long);
        each = each_snoc c.loop-node.nodes.items h n
            (λ i x. IsBlank run i c.args.step x × (x.first ≡ first_word_of run i)) out.long (
              record {
                node = refl;
                fired = refl;
                stride = c.stride_of-stride.ensures;
                inside = omega (arith, first, ends);
                step_is = refl;
              },
              first,
            ) out.each;
      }),
      omega (arith, first, next, c.stride_of-stride.ensures),
      omega (arith, room, c.in_ok-push.ensures.capacity),
    )

pub returns-clause-blank : goal.returns-clause-blank
returns-clause-blank g c = let run : Run = c.args.run.now in
    let (out, _, _) = c.loop-node.invariant in
    let end : c.loop-node.node ≡ run.nodes = omega (
      arith,
      c.loop-node-test.false,
      c.loop-node.auto.node-end,
      c.nodes-node-end.ensures,
    ) in record {
      long = out.long ∙ end;
      each = λ i h at. (out.each i h at).0;
      beside = side_by_side run c.loop-node.node c.args.step c.loop-node.nodes.items out;
    }

pub returns-clause-room : goal.returns-clause-room
returns-clause-room g c = let (_, _, room) = c.loop-node.invariant in room
