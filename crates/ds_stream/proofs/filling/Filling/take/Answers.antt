use Rattle.std.proofs.Common.{◌∙◌, subst, arith, ℕ, ◌+◌, ◌≤◌, ◌<◌, ◌++◌, List, Ok, length, take, drop}
use Rattle.std.proofs.lemmas.List.{length-drop, take_rest}
use Rattle.ds_stream.specs.Filling.{Filled, TakesBytes}
use Rattle.ds_stream.proofs.Stepping.{any_rest, later_next, on_behind}
use Rattle.ds_stream.proofs.filling.Filling.take.Goals as goal

pub taking-preserved : goal.taking-preserved
taking-preserved c =
    let i = c.args.self.now in
    let f = c.taking.self in
    let g = c.take_some.new.self in
    let bytes = c.args.bytes.now in
    let done = c.taking.done in
    let n = c.in_ok-done.field-0 in
    let ensures_of = c.in_ok-done.ensures in
    let some : 0 < f.missing = subst (λ (v : Filled). 0 < v.missing) c.self.view_is c.if-self-gt0.true in
    let few : n ≤ length (drop done bytes) = subst (λ (l : List ℕ). n ≤ length l) (take_rest bytes done) ensures_of.within in
    let takes : TakesBytes (Ok tt) f g (take n (drop done bytes)) = subst (λ (l : List ℕ). TakesBytes (Ok tt) f g (take n l)) (take_rest bytes done) ensures_of.takes in
    record {
      within = omega (arith, length-drop done bytes, few, c.taking.invariant.within);
      so_far = λ size rest more. on_behind f g i bytes done n size rest takes (c.taking.invariant.so_far size rest some);
      whole = λ size rest more none. any_rest g size more (drop (done + n) bytes ++ rest) none ∙ on_behind f g i bytes done n size rest takes (c.taking.invariant.so_far size rest some);
      place = omega (arith, ensures_of.place, c.taking.invariant.place);
      first = λ none. absurd (omega (arith, none, ensures_of.some));
      same = later_next i f g c.taking.invariant.same ensures_of.same;
      bounds = λ near. ensures_of.bounds (c.taking.invariant.bounds near);
    }
