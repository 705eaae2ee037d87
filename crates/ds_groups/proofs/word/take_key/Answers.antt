use Rattle.std.proofs.Common.{◌≡◌, ◌∙◌, ◌&&◌, ◌||◌, ℕ, Option, length, arith, sym, ap, subst, if◌then◌else◌, set}
use Rattle.ds_groups.specs.Keys.{net_of_key}
use Rattle.ds_groups.specs.Latest.{drives}
use Rattle.ds_groups.specs.Read.{is_free}
use Rattle.ds_groups.specs.Taking.{some_of}
use Rattle.ds_groups.proofs.Takings.{is_done, key_step, known_is, next_is, none_done, or_false, or_true, and_true, take_none, take_same}
use Rattle.ds_groups.proofs.word.take_key.Goals as goal
use Rattle.ds_groups.proofs.word.take_key.Goals.{then-take, else-take}

pub taking-init : goal.taking-init
taking-init c = record {
  taken = take_none (λ r. drives c.args.named.now (net_of_key c.args.key.now) r && is_done c.latest-next.result r) c.args.line c.args.holders.now
      (λ r low. none_done c.args.named.now (net_of_key c.args.key.now) c.latest-next.result c.latest-next.ensures r (omega (arith, c.requires.one_each)));
  next = next_is c.args.named.now (net_of_key c.args.key.now) (length c.args.named.now) c.latest-next.result (omega arith) c.latest-next.ensures;
}

pub taking-preserved : goal.taking-preserved
taking-preserved c =
    let took : c.if-take.took ≡ (is_free c.taking.holders c.index.result || c.taking.took) = elim c.if-take.branch [
      | then-take w ↦ or_true c.take.result c.taking.took c.if-take.took (is_free c.taking.holders c.index.result) c.take.ensures.free w.if-take.true (w.took-is ∙ w.if-take.true)
      | else-take w ↦ or_false c.take.result c.taking.took c.if-take.took (is_free c.taking.holders c.index.result) c.take.ensures.free w.if-take.false w.took-is
    ] in
    let (taken, next) = key_step c.args.named.now (net_of_key c.args.key.now) c.args.line c.args.holders.now c.taking.holders c.take.new.self c.taking.took c.if-take.took
    c.taking.next c.earlier-next.result c.in-Some.register c.requires.one_each c.in-Some.is c.taking.invariant.taken c.taking.invariant.next
    (subst (λ (x : ℕ). c.take.new.self ≡ (if is_free c.taking.holders x then set c.taking.holders x c.args.line else c.taking.holders)) c.index.ensures c.take.ensures.taken)
    (subst (λ (x : ℕ). c.if-take.took ≡ (is_free c.taking.holders x || c.taking.took)) c.index.ensures took) c.earlier-next.ensures in
    record { taken = taken; next = next }

pub returns : goal.returns
returns c = (
  take_same (λ r. drives c.args.named.now (net_of_key c.args.key.now) r && is_done c.taking.next r) (drives c.args.named.now (net_of_key c.args.key.now))
      c.args.line c.args.holders.now c.taking.holders c.taking.took
      (λ r low. ap (λ (n : Option ℕ). drives c.args.named.now (net_of_key c.args.key.now) r && is_done n r) c.in_default.is ∙ and_true (drives c.args.named.now (net_of_key c.args.key.now) r))
      c.taking.invariant.taken,
  c.is_some-known.ensures ∙ (known_is c.args.named.now (net_of_key c.args.key.now) c.latest-next.result c.latest-next.ensures
      ∙ ap (λ (n : ℕ). some_of n (drives c.args.named.now (net_of_key c.args.key.now))) (sym c.requires.one_each)),
)
