use Rattle.std.proofs.Common.{◌≤◌}
use Rattle.std.specs.List.{AllWithin}
use Rattle.ds_accept.proofs.unmet.most_tokens.Given as goal

abbrev pub invariant-loop-arc : goal.invariant-loop-arc
invariant-loop-arc l = AllWithin (λ arc. arc.tokens ≤ l.most) l.asked 0 l.arc-index
