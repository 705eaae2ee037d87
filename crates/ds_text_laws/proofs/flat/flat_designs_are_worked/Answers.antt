use Rattle.std.proofs.Common.{refl}
use Rattle.ds_flat.specs.Copies.{most_depth}
use Rattle.ds_text_laws.proofs.flat.flat_designs_are_worked.Goals as goal

pub returns : goal.returns
unfolding most_depth
returns c = record { two_inverters = refl; unknown_formal_z = refl; unknown_formal_empty = refl; unknown_model_inv = refl; recursive_loop = refl; recursive_pq = refl; unconnected = refl; repeated_input = refl }
