-- The numbered values of the nodes in the clocked run.
use Rattle.std.specs.Prelude.{ℕ, zero, suc, List}
use Rattle.ds_cover.specs.Cover.{values_at}
use Rattle.ds_design.specs.Run.{row_at}
use Rattle.ds_latch.specs.Node.{Split, members, nets_of, zeros}
use Rattle.ds_latch.specs.declared.node.Node.{Node}
use Rattle.ds_latch.specs.declared.node.Node.TheVariants.{In, Out, Master, Slave}
use Rattle.ds_base.specs.Values.{Row}

-- value k of a node, for a run's states and nets: of a slave its registers after k turns; of the
-- others, from 1 on, what the k-th turn has, and zeros at 0
abbrev pub numbered : Split → List Row → (ℕ → Row) → (ℕ → Row) → Node → ℕ → Row
numbered s vectors state nets (Slave i) k = values_at (state k) (members s i)
numbered s vectors state nets (Master i) zero = zeros s (Master i)
numbered s vectors state nets (Master i) (suc k) = values_at (state (suc k)) (members s i)
numbered s vectors state nets In zero = zeros s In
numbered s vectors state nets In (suc k) = row_at vectors k
numbered s vectors state nets Out zero = zeros s Out
numbered s vectors state nets Out (suc k) = values_at (nets k) (nets_of s Out)
