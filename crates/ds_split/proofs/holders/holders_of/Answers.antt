use Rattle.std.proofs.Common.{◌≡◌, ℕ, ◌+◌, ◌<◌, List, [], length, get_or, sym, ◌∙◌, subst, arith}
use Rattle.std.specs.Prelude.{All, Contains}
use Rattle.std.proofs.lemmas.List.{get_or_default}
use Rattle.std.proofs.lemmas.List.Elements.{Contains-get_or}
use Rattle.ds_base.proofs.ListLemmas.{cases_Contains}
use Rattle.ds_split.specs.Groups.{group}
use Rattle.ds_split.specs.Keyed.{AreHolders}
use Rattle.ds_split.specs.Nets.{AreMarked}
use Rattle.ds_split.proofs.Keyed.{holders_more}
use Rattle.ds_split.proofs.holders.holders_of.Goals as goal

pub hold-requires : goal.hold-requires
hold-requires c =
    let these : c.as_slice.result.now ≡ group c.args.groups.now c.loop-i.i =
    c.as_slice.ensures ∙ (c.index-groups-i.is ∙ get_or_default c.args.groups.now c.loop-i.i c.index-groups-i.result [] (omega arith)) in
    let all : All (λ r. r < length c.loop-i.holders.items) (group c.args.groups.now c.loop-i.i) = (λ k d inside.
    let low : get_or (group c.args.groups.now c.loop-i.i) k d < c.args.count =
    c.requires.within c.loop-i.i (get_or (group c.args.groups.now c.loop-i.i) k d) (Contains-get_or (group c.args.groups.now c.loop-i.i) k d inside) in
    let n : length c.loop-i.holders.items ≡ c.args.count = c.loop-i.invariant.one_each in omega arith) in
    subst (λ (xs : List ℕ). All (λ r. r < length c.loop-i.holders.items) xs) (sym these) all

pub loop-i-preserved : goal.loop-i-preserved
loop-i-preserved c =
    let these : c.as_slice.result.now ≡ group c.args.groups.now c.loop-i.i =
    c.as_slice.ensures ∙ (c.index-groups-i.is ∙ get_or_default c.args.groups.now c.loop-i.i c.index-groups-i.result [] (omega arith)) in
    holders_more c.args.count c.args.groups.now c.requires c.loop-i.i c.loop-i.holders.items c.hold.new.holders.items c.loop-i.invariant
    (subst (λ (xs : List ℕ). AreMarked (Contains xs) (c.loop-i.i + 1) c.loop-i.holders.items c.hold.new.holders.items) these c.hold.ensures)
    (λ r. cases_Contains (group c.args.groups.now c.loop-i.i) r)

pub returns : goal.returns
returns c =
    let e : c.loop-i.i ≡ length c.args.groups.now = omega arith in
    subst (λ (n : ℕ). AreHolders c.args.count n c.args.groups.now c.loop-i.holders.items) e c.loop-i.invariant
