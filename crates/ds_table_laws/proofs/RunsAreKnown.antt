-- Known values give known values.
use Rattle.std.proofs.Common.{◌≢◌, arith, subst}
use Rattle.ds_base.proofs.ListLemmas.{get_or-default}
use Rattle.ds_base.specs.declared.value.Value.TheVariants.{Unknown, Zero}
use Rattle.ds_design.proofs.KnownRuns.{nets_known, state_known}
use Rattle.ds_table_laws.specs.Known.{KnownRunsAreKnown}

pub known_runs_are_known : KnownRunsAreKnown
known_runs_are_known c accepted start vectors starts rows state nets run k = (
  state_known c accepted start vectors starts rows state nets run k,
  λ below i d inside. subst (λ value. value ≢ Unknown) (get_or-default (nets k) i Zero d inside)
      (nets_known c accepted start vectors starts rows state nets run k below (state_known c accepted start vectors starts rows state nets run k (omega arith)) i),
)
