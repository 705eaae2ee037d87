use Rattle.std.proofs.Common.{◌≡◌, ◌∙◌, ◌<◌, ◌-◌, ℕ, Bool, List, ap, arith, get_or, length, set, subst, sym}
use Rattle.std.proofs.lemmas.List.{length-map, with_items_is}
use Rattle.ds_base.specs.Scratch.{IsNoted, Kept}
use Rattle.ds_base.specs.Turns.{IsSameOrLost, noted_turn, noted_turns}
use Rattle.ds_base.proofs.TurnBytes.{kept, now_noted}
use Rattle.ds_base.proofs.scratch.Scratch.note.Goals as goal

pub returns : goal.returns
returns c =
    let base : ℕ = c.self.inside.base in
    let old : List ℕ = c.self.inside.turns.items in
    let next : ℕ = c.base_for-self-inside.result in
    let moved : List ℕ = c.base_for-self-inside.new.bytes in
    let lent : c.as_mut_slice.result.now ≡ old = c.as_mut_slice.ensures.value in
    let long : length moved ≡ length c.as_mut_slice.result.now = c.base_for-self-inside.auto.bytes in
    let same : length moved ≡ length old = long ∙ ap (λ (xs : List ℕ). length xs) lent in
    let full : length moved ≡ c.self.inside.turns.len = omega (same, c.self.inside.turns.ok.0, arith) in
    let flags : List Bool = c.self.inside.stayed.items in
    let view : kept c.self.inside.nets base old flags ≡ c.args.self.now = c.self.view_is in
    let inside : c.args.slot < length old =
    (let long : length (noted_turns base old) ≡ length c.args.self.now.turns = ap (λ (k : Kept). length k.turns) view in
    let size : length (noted_turns base old) ≡ length old = length-map old (noted_turn base) in
    omega (c.requires.turn, long, size, arith)) in
    let others : (s : ℕ) → IsSameOrLost c.args.turn (noted_turn base (get_or old s 0)) (noted_turn next (get_or moved s 0)) =
    λ s. subst (λ (bytes : List ℕ). IsSameOrLost c.args.turn (noted_turn base (get_or bytes s 0)) (noted_turn next (get_or moved s 0))) lent
    (c.base_for-self-inside.ensures.others s) in
    let noted = now_noted c.self.inside.nets base next c.args.slot c.args.turn old moved flags c.args.stayed inside same (c.base_for-self-inside.ensures.turn.0, c.base_for-self-inside.ensures.turn.1) others in
    subst (λ (bytes : List ℕ). IsNoted c.args.slot c.args.turn c.args.stayed c.args.self.now
    (kept c.self.inside.nets next (set bytes c.args.slot (c.args.turn - next))
    (set flags c.args.slot c.args.stayed)))
    (sym (with_items_is c.self.inside.turns moved full))
    (subst (λ (k : Kept). IsNoted c.args.slot c.args.turn c.args.stayed k
    (kept c.self.inside.nets next (set moved c.args.slot (c.args.turn - next))
    (set flags c.args.slot c.args.stayed))) view noted)
