use Rattle.std.proofs.Common.{slice_index, arith}
use Rattle.std.proofs.lemmas.Bool.{false≢true}
use Rattle.ds_marked.specs.declared.blocked.Blocked.TheVariants as blocked
use Rattle.ds_marked.proofs.Enabling.{no_reason, not_free, its_reason}
use Rattle.ds_marked.proofs.marked.Marked.enabled.Goals as goal

pub returns-in-None-clause-fault : goal.returns-in-None-clause-fault
returns-in-None-clause-fault c b = no_reason c.args.self.now c.args.limit (slice_index c.args.counts.now) c.args.event (omega arith) c.in-None.ensures b

pub returns-in-Some-clause-ok : goal.returns-in-Some-clause-ok
returns-in-Some-clause-ok c = (
  λ e. absurd (false≢true e),
  λ enabled. absurd (not_free c.args.self.now c.args.limit (slice_index c.args.counts.now) c.args.event (blocked.Arc c.in-Some.arc) (omega arith, c.in-Some.ensures) enabled),
)

pub returns-in-Some-clause-fault : goal.returns-in-Some-clause-fault
returns-in-Some-clause-fault c b =
    its_reason c.args.self.now c.args.limit (slice_index c.args.counts.now) c.args.event (blocked.Arc c.in-Some.arc) (omega arith, c.in-Some.ensures) b
