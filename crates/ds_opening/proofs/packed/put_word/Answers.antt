use Rattle.std.proofs.Common.{◌≡◌, ◌∙◌, ◌<◌, ◌%◌, ◌∷◌, [], ℕ, List, ap, refl, arith, get_or, length, set, sym}
use Rattle.std.proofs.lemmas.List.{get_or_default, length-map, length-set}
use Rattle.ds_base.specs.Values.{Row}
use Rattle.ds_base.specs.declared.value.Value.{Value}
use Rattle.ds_base.specs.declared.value.Value.TheVariants.{Zero, One, Unknown}
use Rattle.ds_cover.specs.Cover.{value_at, values_at}
use Rattle.ds_opening.proofs.Packs.{all_learnt, learns_more, lowest, no_other, of_code, others_more, set_again}
use Rattle.ds_opening.proofs.packed.put_word.Goals.{then-ne, else-ne}
use Rattle.ds_opening.proofs.packed.put_word.Goals as goal

pub loop-net-preserved : goal.loop-net-preserved
loop-net-preserved c =
    let these : List ℕ = c.args.these.now in let i : ℕ = c.loop-net.net-index in
    let nets : Row = c.loop-net.nets in let place : ℕ = c.index-place.result in
    let value : Value = get_or (Zero ∷ One ∷ Unknown ∷ Unknown ∷ []) (c.loop-net.rest % 4) Zero in
    let inside : i < length these = omega arith in
    let place_is : place ≡ get_or these i place = c.index-place.ensures ∙ (c.net-item.is
    ∙ get_or_default these i c.net-item.result place inside) in
    let within : place < length nets =
    (let low : get_or these i c.net-item.result < length c.args.nets.now =
    c.requires.within i c.net-item.result inside in
    omega (low, c.net-item.is, c.index-place.ensures, c.loop-net.invariant.same, arith)) in record {
      same = length-set nets place value ∙ c.loop-net.invariant.same;
      learns = λ foreseen word. let before = c.loop-net.invariant.learns foreseen word in
          let low = lowest (values_at foreseen these) i c.loop-net.rest
          (rw (length-map these (value_at foreseen)) inside) before.0 in (
            low.1,
            learns_more foreseen these i place c.args.nets.now nets (set nets place value) value
                inside place_is within
                (ap (λ (code : ℕ). get_or (Zero ∷ One ∷ Unknown ∷ Unknown ∷ []) code Zero) low.0
                ∙ of_code (get_or (values_at foreseen these) i Zero) Zero)
                refl before.1,
          );
      others = others_more these i place c.args.nets.now nets (set nets place value) value
          inside place_is refl c.loop-net.invariant.others;
      stayed = λ so. elim c.if-ne.branch [
        | then-ne w ↦ absurd (cc)
        | else-ne w ↦ λ net.
            set_again nets place value within
            (no_other (value_at nets place) value (sym c.ne.ensures ∙ w.if-ne.false)) net
            ∙ c.loop-net.invariant.stayed (sym w.stayed-is ∙ so) net
      ];
    }

pub returns-clause-value : goal.returns-clause-value
returns-clause-value c = λ foreseen is. all_learnt foreseen c.args.these.now c.loop-net.net-index
    c.args.nets.now c.loop-net.nets (omega arith) (c.loop-net.invariant.learns foreseen is).1
