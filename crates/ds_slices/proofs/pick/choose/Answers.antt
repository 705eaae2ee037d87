use Rattle.ds_slices.proofs.PickedBits.{chosen_one, chosen_zero}
use Rattle.ds_slices.proofs.pick.choose.Goals as goal

pub returns : goal.returns
returns c = record {
  zeros = λ k is. chosen_zero c.args.choice c.args.zero c.args.one k is;
  ones = λ k is. chosen_one c.args.choice c.args.zero c.args.one k is;
}
