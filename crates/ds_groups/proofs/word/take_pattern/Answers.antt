use Rattle.std.proofs.Common.{◌≡◌, ◌∙◌, ℕ, List, length, sym, ap, subst}
use Rattle.ds_rows.specs.Nets.{net_text}
use Rattle.ds_groups.specs.Latest.{driven_net}
use Rattle.ds_groups.specs.Match.{has_form}
use Rattle.ds_groups.specs.Taking.{some_of, TakesFree}
use Rattle.ds_groups.proofs.Takings.{took_known}
use Rattle.ds_groups.proofs.word.take_pattern.Goals as goal
use Rattle.ds_groups.proofs.word.take_pattern.Goals.{then-took, else-took}

pub returns : goal.returns
returns c =
    let is : c.in_ok-pattern.pattern ≡ c.args.word.now = c.in_ok-pattern.ensures in
    let takes : TakesFree (λ r. has_form c.args.word.now (net_text (driven_net c.args.named.now r))) c.args.line c.args.holders.now c.take_matching-took.new.holders c.take_matching-took.result =
    subst (λ (w : List ℕ). TakesFree (λ r. has_form w (net_text (driven_net c.args.named.now r))) c.args.line c.args.holders.now c.take_matching-took.new.holders c.take_matching-took.result) is c.take_matching-took.ensures in (
      takes,
      elim c.if-took.branch [
        | then-took w ↦ w.known-is ∙ w.if-took.true ∙ took_known (λ r. has_form c.args.word.now (net_text (driven_net c.args.named.now r))) c.args.line c.args.holders.now c.take_matching-took.new.holders c.take_matching-took.result takes w.if-took.true
        | else-took w ↦ w.known-is ∙ w.is_known-known.ensures ∙ ap (λ (p : List ℕ). some_of (length c.args.named.now) (λ r. has_form p (net_text (driven_net c.args.named.now r)))) is
            ∙ ap (λ (n : ℕ). some_of n (λ r. has_form c.args.word.now (net_text (driven_net c.args.named.now r)))) (sym c.requires.one_each)
      ],
    )
