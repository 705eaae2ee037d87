use Rattle.std.proofs.Common.{◌≡◌, ◌∙◌, ◌-◌, ◌≤◌, ◌++◌, ◌∷◌, [], ℕ, List, length, get_or, map, ap, arith}
use Rattle.std.specs.List.{range_with_len}
use Rattle.ds_base.proofs.ListLemmas.{get_or-default}
use Rattle.std.proofs.lemmas.List.Elements.{All-get_or}
use Rattle.std.proofs.lemmas.List.FromFn.{length-map-range_with_len}
use Rattle.ds_groups.specs.Members.{members_of}
use Rattle.ds_groups.specs.Read.{holder}
use Rattle.ds_groups.proofs.Membered.{members_none, register_free, register_held}
use Rattle.ds_groups.proofs.members.members.Goals as goal
use Rattle.ds_groups.proofs.members.members.Goals.{then-line-gt0+in_ok-push, else-line-gt0}

pub loop-i-init : goal.loop-i-init
loop-i-init c = c.in_ok-groups.ensures ∙ members_none c.args.holders.now c.args.count

pub loop-i-preserved : goal.loop-i-preserved
loop-i-preserved c =
    let low : holder c.args.holders.now c.loop-i.i ≤ c.args.count = All-get_or (λ n. n ≤ c.args.count) c.args.holders.now c.loop-i.i 0 (omega (arith, c.count-i-end.ensures, c.loop-i-test.true)) c.requires.within in
    let size : length c.loop-i.groups.items ≡ c.args.count = ap length c.loop-i.invariant ∙ length-map-range_with_len (members_of c.args.holders.now c.loop-i.i) 1 c.args.count in
    elim c.if-line-gt0.branch [
      | then-line-gt0+in_ok-push w ↦ ap (λ v. v.items) w.groups-is
          ∙ register_held c.args.holders.now c.args.count c.loop-i.i c.loop-i.groups.items c.loop-i.invariant (c.line-line.result - 1) w.push.new.self
          (omega (arith, low, c.line-line.ensures, w.if-line-gt0.true)) (omega (arith, c.line-line.ensures, w.if-line-gt0.true))
          (w.in_ok-push.ensures.ok ∙ ap (λ (xs : List ℕ). xs ++ w.new.result ∷ [])
          (w.index_mut.ensures.value ∙ get_or-default c.loop-i.groups.items (c.line-line.result - 1) w.index_mut.result.now [] (omega (arith, low, size, c.line-line.ensures, w.if-line-gt0.true)))
          ∙ ap (λ (k : ℕ). get_or c.loop-i.groups.items (c.line-line.result - 1) [] ++ k ∷ []) w.new.ensures)
      | else-line-gt0 w ↦ ap (λ v. v.items) w.groups-is
          ∙ register_free c.args.holders.now c.args.count c.loop-i.i c.loop-i.groups.items c.loop-i.invariant (omega (arith, c.line-line.ensures, w.if-line-gt0.false))
    ]

pub returns : goal.returns
returns c = c.of.ensures ∙ c.loop-i.invariant
    ∙ ap (λ (n : ℕ). map (members_of c.args.holders.now n) (range_with_len 1 c.args.count)) (let e : c.loop-i.i ≡ length c.args.holders.now = omega (arith, c.count-i-end.ensures, c.loop-i-test.false) in e)
