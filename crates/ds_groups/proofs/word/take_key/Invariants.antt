use Rattle.std.proofs.Common.{◌&&◌}
use Rattle.ds_groups.specs.Keys.{net_of_key}
use Rattle.ds_groups.specs.Latest.{drives}
use Rattle.ds_groups.specs.Taking.{TakesFree}
use Rattle.ds_groups.proofs.Takings.{is_done, rank_of, IsNext}
use Rattle.ds_groups.proofs.word.take_key.Given as goal

abbrev pub invariant-taking : goal.invariant-taking
invariant-taking l = record {
  taken : TakesFree (λ r. drives l.named (net_of_key l.key) r && is_done l.next r) l.line l.fn.holders l.holders l.took;
  next : IsNext l.named (net_of_key l.key) l.next;
}

abbrev pub decreases-taking : goal.decreases-taking
decreases-taking l = rank_of l.next
