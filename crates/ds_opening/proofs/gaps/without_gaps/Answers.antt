use Rattle.std.proofs.Common.{◌≡◌, ℕ, ◌+◌, List, length, get_or, set, replicate, ap, subst, sym, arith}
use Rattle.std.proofs.Common.{Global, Vec}
use Rattle.ds_opening.specs.Gaps.{AreAnewSoFar}
use Rattle.ds_opening.proofs.Renumbering.{anew_none, are_anew, step_new, step_old}
use Rattle.ds_opening.proofs.gaps.without_gaps.Goals as goal
use Rattle.ds_opening.proofs.gaps.without_gaps.Goals.{then-index-eq0, else-index-eq0}

pub loop-class-init : goal.loop-class-init
loop-class-init c =
    let classes : List ℕ = c.args.classes.now in
    let none : c.in_ok-numbers.numbers.items ≡ replicate {A = ℕ} c.args.count 0 =
    c.in_ok-numbers.ensures.items_if_clones_equal (λ y e. e) in
    subst (λ (ps : List ℕ). AreAnewSoFar classes c.args.count 0 ps 0 c.in_ok-of.of.items) (sym none)
    (subst (λ (xs : List ℕ). AreAnewSoFar classes c.args.count 0 (replicate {A = ℕ} c.args.count 0) 0 xs)
    (sym c.in_ok-of.ensures.items) (anew_none classes c.args.count))

pub loop-class-preserved : goal.loop-class-preserved
loop-class-preserved c =
    let classes : List ℕ = c.args.classes.now in
    let i : ℕ = c.loop-class.class-index in
    let class : ℕ = get_or classes i 0 in
    let places : List ℕ = c.loop-class.numbers.items in
    let next : ℕ = c.loop-class.next in
    elim c.if-index-eq0.branch [
      | then-index-eq0 w ↦
          (let same : c.if-index-eq0.numbers.items ≡ set places class (next + 1) = ap (λ (v : Vec ℕ Global). v.items) w.numbers-is in
          step_new classes c.args.count i places next c.loop-class.of.items c.loop-class.invariant
          (c.requires i 0 c.loop-class-test.true) c.index.result.now c.index.ensures
          c.if-index-eq0.numbers.items c.if-index-eq0.next c.index-in-loop-class.result.now c.push.new.self.items
          c.index-in-loop-class.ensures c.in_ok-push.ensures.items w.if-index-eq0.true same w.next-is)
      | else-index-eq0 w ↦
          (let same : c.if-index-eq0.numbers.items ≡ places = ap (λ (v : Vec ℕ Global). v.items) w.numbers-is in
          step_old classes c.args.count i places next c.loop-class.of.items c.loop-class.invariant
          (c.requires i 0 c.loop-class-test.true) c.index.result.now c.index.ensures
          c.if-index-eq0.numbers.items c.if-index-eq0.next c.index-in-loop-class.result.now c.push.new.self.items
          c.index-in-loop-class.ensures c.in_ok-push.ensures.items w.if-index-eq0.false same w.next-is)
    ]

pub returns : goal.returns
returns c =
    let all : length c.args.classes.now ≡ c.loop-class.class-index =
    omega (c.loop-class-test.false, c.loop-class.auto.class-index-end, arith) in
    record {
      ok = are_anew c.args.classes.now c.args.count c.loop-class.class-index c.loop-class.numbers.items c.loop-class.next
          c.loop-class.of.items c.loop-class.invariant all;
      few = omega (c.loop-class.invariant.few, c.loop-class.auto.class-index-end, arith);
    }
