use Rattle.std.proofs.Common.{◌∙◌, ◌&&◌, ◌+◌, ◌<◌, ℕ, Bool, List, length, arith, sym, ap, subst}
use Rattle.std.specs.Prelude.{nat_lt}
use Rattle.std.proofs.lemmas.Bool.{eq-eqb, ne_eqb}
use Rattle.ds_design.specs.declared.design.Net.{Net}
use Rattle.ds_rows.specs.Nets.{net_text}
use Rattle.ds_groups.specs.Latest.{driven_net}
use Rattle.ds_groups.specs.Match.{has_form}
use Rattle.ds_groups.specs.Read.{holder}
use Rattle.ds_groups.specs.Taking.{TakesFree}
use Rattle.ds_groups.proofs.Takings.{match_all, match_fails, match_held, match_none, match_taken}
use Rattle.ds_groups.proofs.word.take_matching.Goals as goal
use Rattle.ds_groups.proofs.word.take_matching.Goals.{then-line-eq0+then-matches, else-line-eq0, else-line-eq0-via-then-line-eq0+else-matches, else-line-eq0-via-else-line-eq0}

pub loop-i-init : goal.loop-i-init
loop-i-init c = match_none (λ r. has_form c.args.pattern.now (net_text (driven_net c.args.named.now r))) c.args.line c.args.holders.now

pub loop-i-preserved : goal.loop-i-preserved
loop-i-preserved c =
    let i : ℕ = c.loop-i.i in
    let inside : c.loop-i.i < length c.args.holders.now = omega (arith, c.count-i-end.ensures, c.loop-i-test.true) in
    elim c.if-line-eq0.branch [
      | then-line-eq0+then-matches w ↦ match_taken (λ r. has_form c.args.pattern.now (net_text (driven_net c.args.named.now r))) c.args.line c.args.holders.now c.loop-i.holders c.loop-i.took c.loop-i.i
          c.loop-i.invariant inside c.if-line-eq0.holders c.if-line-eq0.took
          (ap (λ (n : Net). has_form c.args.pattern.now (net_text n)) (sym w.net.ensures) ∙ (sym w.matches.ensures ∙ w.if-matches.true))
          (eq-eqb (holder c.loop-i.holders c.loop-i.i) 0 (sym c.line.ensures ∙ w.if-line-eq0.true))
          (w.holders-is ∙ w.take.ensures.taken) w.took-is
      | else-line-eq0 w ↦ subst (λ (h : List ℕ). TakesFree (λ r. has_form c.args.pattern.now (net_text (driven_net c.args.named.now r)) && nat_lt r (c.loop-i.i + 1)) c.args.line c.args.holders.now h c.if-line-eq0.took) (sym w.holders-is)
          (subst (λ (b : Bool). TakesFree (λ r. has_form c.args.pattern.now (net_text (driven_net c.args.named.now r)) && nat_lt r (c.loop-i.i + 1)) c.args.line c.args.holders.now c.loop-i.holders b) (sym w.took-is)
          (elim w.else-line-eq0.branch [
            | else-line-eq0-via-then-line-eq0+else-matches v ↦ match_fails (λ r. has_form c.args.pattern.now (net_text (driven_net c.args.named.now r))) c.args.line c.args.holders.now c.loop-i.holders c.loop-i.took c.loop-i.i
                c.loop-i.invariant inside
                (ap (λ (n : Net). has_form c.args.pattern.now (net_text n)) (sym v.net.ensures) ∙ (sym v.matches.ensures ∙ v.if-matches.false))
            | else-line-eq0-via-else-line-eq0 v ↦ match_held (λ r. has_form c.args.pattern.now (net_text (driven_net c.args.named.now r))) c.args.line c.args.holders.now c.loop-i.holders c.loop-i.took c.loop-i.i
                c.loop-i.invariant inside
                (ne_eqb (holder c.loop-i.holders c.loop-i.i) 0 (λ e. v.if-line-eq0.false (c.line.ensures ∙ e)))
          ]))
    ]

pub returns : goal.returns
returns c = match_all (λ r. has_form c.args.pattern.now (net_text (driven_net c.args.named.now r))) c.args.line c.args.holders.now c.loop-i.holders c.loop-i.took c.loop-i.i
    (omega (arith, c.count-i-end.ensures, c.loop-i-test.false)) c.loop-i.invariant
