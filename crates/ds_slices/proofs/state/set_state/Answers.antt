use Rattle.std.proofs.Common.{◌≡◌, ◌∙◌, List, [], ◌∷◌, map, refl, ap, arith}
use Rattle.ds_base.specs.Values.{Row}
use Rattle.ds_cover.specs.Cover.{value_at, values_at}
use Rattle.ds_design.specs.declared.design.Register.{Register}
use Rattle.ds_settle.proofs.ByIndex.{map_by_index}
use Rattle.ds_slices.specs.Turns.{turn_row}
use Rattle.ds_slices.proofs.state.set_state.Goals as goal

maps : (nets : Row) (rs : List Register) → map (λ (r : Register). value_at nets r.data_net) rs ≡ values_at nets (map (λ (r : Register). r.data_net) rs)
maps nets [] = refl
maps nets (r ∷ rs) = ap (λ (bs : Row). value_at nets r.data_net ∷ bs) (maps nets rs)

pub returns : goal.returns
returns c = record {
  value = map_by_index (λ (r : Register). value_at (turn_row c.args.words.now c.args.turn) r.data_net) c.args.registers.now c.loop-i.state (c.loop-i.invariant.same ∙ c.requires.one_each)
      (λ k d inside. c.loop-i.invariant.front k d (omega arith)) ∙ maps (turn_row c.args.words.now c.args.turn) c.args.registers.now;
}
