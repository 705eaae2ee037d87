use Rattle.std.proofs.Common.{◌≡◌, ◌∙◌, ◌<◌, ℕ, List, length, get_or, refl, arith, subst}
use Rattle.ds_design.specs.Circuit.{Circuit}
use Rattle.ds_slices.specs.Linked.{linked_net}
use Rattle.ds_slices.proofs.LinkedWords.{AreLinkedTo, linked_all, linked_more, linked_none, net_within, place_in}
use Rattle.ds_slices.proofs.links.set_links.Goals as goal

pub loop-link-init : goal.loop-link-init
loop-link-init c = record { same = refl; done = linked_none c.args.netlist.now c.args.start.now c.args.order.now c.args.words.now }

pub loop-link-preserved : goal.loop-link-preserved
loop-link-preserved c =
    let circuit : Circuit = c.args.netlist.now in
    let order : List ℕ = c.args.order.now in
    let n : ℕ = c.loop-link.link-index in
    let inside : c.loop-link.link-index < length c.args.order.now = c.loop-link-test.true in
    let place = place_in circuit c.design-design.ensures.accepted c.args.start.now order c.requires.order n inside in
    let within : linked_net circuit (get_or order n 0) < length c.loop-link.words =
    (let low = net_within circuit c.design-design.ensures.in_range (get_or order n 0) place in
    let one : length c.args.words.now ≡ length circuit.nets = c.requires.words in
    let two : length c.loop-link.words ≡ length c.args.words.now = c.loop-link.invariant.done.size in omega arith) in
    record {
      same = c.set_link.ensures.same ∙ c.loop-link.invariant.same;
      done = linked_more circuit c.design-design.ensures.accepted c.args.start.now order c.requires.order c.args.words.now c.loop-link.words c.set_link.new.words n inside within
          c.set_link.ensures.set c.loop-link.invariant.done;
    }

pub returns-clause-linked : goal.returns-clause-linked
returns-clause-linked c =
    let all : c.loop-link.link-index ≡ length c.args.order.now = (let e = c.loop-link.auto.link-index-end in let t = c.loop-link-test.false in omega arith) in
    linked_all c.args.netlist.now c.design-design.ensures.accepted c.args.start.now c.args.order.now c.requires.order c.args.words.now c.loop-link.words
    (subst (λ (n : ℕ). AreLinkedTo c.args.netlist.now c.args.start.now c.args.order.now c.args.words.now c.loop-link.words n) all c.loop-link.invariant.done)
