use Rattle.std.proofs.Common.{◌≡◌, ◌∙◌, ◌<◌, ◌%◌, ◌∷◌, [], ℕ, List, ap, refl, arith, get_or, length, set}
use Rattle.std.proofs.lemmas.List.{get_or_default, length-map, length-set}
use Rattle.ds_base.specs.Values.{Row}
use Rattle.ds_base.specs.declared.value.Value.{Value}
use Rattle.ds_base.specs.declared.value.Value.TheVariants.{Zero, One, Unknown}
use Rattle.ds_cover.specs.Cover.{value_at, values_at}
use Rattle.ds_opening.proofs.Packs.{all_learnt, learns_more, lowest, of_code}
use Rattle.ds_run.proofs.trace_rows.spread_word.Goals as goal

pub loop-register-preserved : goal.loop-register-preserved
loop-register-preserved c =
    let these : List ℕ = c.args.members.now in let i : ℕ = c.loop-register.register-index in
    let old : Row = c.loop-register.registers in let place : ℕ = c.index-place.result in
    let of : ℕ → Value = (λ code. get_or (Zero ∷ One ∷ Unknown ∷ Unknown ∷ []) code Zero) in
    let inside : i < length these = omega arith in
    let at : place ≡ get_or these i place = c.index-place.ensures
    ∙ (c.register-item.is ∙ get_or_default these i c.register-item.result place inside) in
    let low : get_or these i c.register-item.result < length c.args.registers.now =
    c.requires.within i c.register-item.result inside in
    let within : place < length old =
    omega (low, c.register-item.is, c.index-place.ensures, c.loop-register.invariant.same, arith) in
    record {
      same = length-set old place (of (c.loop-register.rest % 4)) ∙ c.loop-register.invariant.same;
      learns = λ row word. let before = c.loop-register.invariant.learns row word in
          let next = lowest (values_at row these) i c.loop-register.rest
          (rw (length-map these (value_at row)) inside) before.0 in (
            next.1,
            learns_more row these i place c.args.registers.now old
                (set old place (of (c.loop-register.rest % 4))) (of (c.loop-register.rest % 4))
                inside at within
                (ap of next.0 ∙ of_code (get_or (values_at row these) i Zero) Zero) refl before.1,
          );
    }

pub returns-clause-value : goal.returns-clause-value
returns-clause-value c = λ row word. all_learnt row c.args.members.now
    c.loop-register.register-index c.args.registers.now c.loop-register.registers (omega arith)
    (c.loop-register.invariant.learns row word).1
