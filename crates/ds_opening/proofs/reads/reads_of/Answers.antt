use Rattle.std.proofs.Common.{◌≡◌, ◌∙◌, ◌<◌, ◌≤◌, ◌+◌, [], ℕ, List, length, get_or, map, ◌∷◌, ap, replicate, sym, subst, arith}
use Rattle.std.specs.Prelude.{All}
use Rattle.std.specs.List.{range_with_len}
use Rattle.std.proofs.lemmas.List.{length-replicate}
use Rattle.std.proofs.lemmas.List.Elements.{All-weaker}
use Rattle.ds_base.proofs.ListLemmas.{get_or-default}
use Rattle.ds_design.specs.Circuit.{Circuit}
use Rattle.ds_opening.specs.Seen.{AreReadBy, AreReadsOf, IsReadBy}
use Rattle.ds_opening.proofs.Searched.{are_reads, net_slots_low, if_ok, own_read, reads_more, reads_none, unseen_slots}
use Rattle.ds_opening.proofs.reads.reads_of.Goals as goal

pub net_slots_of-requires-clause-groups : goal.net_slots_of-requires-clause-groups
net_slots_of-requires-clause-groups c = c.requires.groups

pub net_slots_of-requires-clause-others : goal.net_slots_of-requires-clause-others
net_slots_of-requires-clause-others c = c.requires.others

pub loop-own-init : goal.loop-own-init
loop-own-init c =
    let groups : List (List ℕ) = c.args.groups.now in
    let slots : ℕ = length groups + length c.args.others.now in
    let seen : c.in_ok-seen.seen.items ≡ replicate {A = ℕ} slots 0 =
    c.in_ok-seen.ensures.items_if_clones_equal (λ y e. e) in
    record {
      are = reads_none c.args.design.now c.in_ok-net_slots.net_slots.items slots groups c.in_ok-reads.reads.items c.in_ok-reads.ensures.items;
      long = ap (λ (xs : List ℕ). length xs) seen ∙ length-replicate {A = ℕ} slots 0;
      unseen = unseen_slots slots c.in_ok-seen.seen.items seen;
    }

pub read_by-requires-clause-tables : goal.read_by-requires-clause-tables
read_by-requires-clause-tables c =
    let groups : List (List ℕ) = c.args.groups.now in
    let own : ℕ = c.loop-own.own in
    subst (λ (xs : List ℕ). All (λ k. k < length c.args.design.now.tables) xs)
    (sym (c.as_slice.ensures ∙ (c.index-groups-own.is ∙ get_or-default groups own c.index-groups-own.result [] c.loop-own-test.true)))
    (c.requires.groups own [] c.loop-own-test.true)

pub read_by-requires-clause-nets : goal.read_by-requires-clause-nets
read_by-requires-clause-nets c = c.in_ok-net_slots.ensures.ok.one_each

pub read_by-requires-clause-net_slots : goal.read_by-requires-clause-net_slots
read_by-requires-clause-net_slots c =
    net_slots_low c.args.design.now c.args.groups.now c.args.others.now (length c.args.design.now.nets) (length c.loop-own.seen.items)
    c.in_ok-net_slots.net_slots.items c.in_ok-net_slots.ensures.ok c.loop-own.invariant.long

pub read_by-requires-clause-own : goal.read_by-requires-clause-own
read_by-requires-clause-own c =
    omega (c.loop-own-test.true, c.loop-own.invariant.long, arith)

pub read_by-requires-clause-unseen : goal.read_by-requires-clause-unseen
read_by-requires-clause-unseen c = c.loop-own.invariant.unseen

pub loop-own-preserved : goal.loop-own-preserved
loop-own-preserved c =
    let d : Circuit = c.args.design.now in
    let net_slots : List ℕ = c.in_ok-net_slots.net_slots.items in
    let groups : List (List ℕ) = c.args.groups.now in
    let slots : ℕ = length groups + length c.args.others.now in
    let own : ℕ = c.loop-own.own in
    let by : IsReadBy d net_slots slots own (get_or groups own []) c.in_ok-read_by.field-0 =
    subst (λ (xs : List ℕ). IsReadBy d net_slots slots own xs c.in_ok-read_by.field-0)
    (c.as_slice.ensures ∙ (c.index-groups-own.is ∙ get_or-default groups own c.index-groups-own.result [] c.loop-own-test.true))
    (subst (λ (n : ℕ). IsReadBy d net_slots n own c.as_slice.result.now c.in_ok-read_by.field-0) c.loop-own.invariant.long c.in_ok-read_by.ensures.ok) in
    record {
      are = subst (λ (rs : List (List ℕ)). AreReadBy d net_slots slots (own + 1) groups rs) (sym c.in_ok-push.ensures.items)
          (reads_more d net_slots slots own groups c.loop-own.reads.items c.in_ok-read_by.field-0 c.loop-own.invariant.are by);
      long = c.in_ok-read_by.ensures.same ∙ c.loop-own.invariant.long;
      unseen = All-weaker (λ s. s ≤ own + 1) (λ s. s < own + 1 + 1) (λ s low. omega (low, arith)) c.read_by.new.seen.items c.in_ok-read_by.ensures.seen;
    }

pub returns : goal.returns
returns c =
    let d : Circuit = c.args.design.now in
    let net_slots : List ℕ = c.in_ok-net_slots.net_slots.items in
    let groups : List (List ℕ) = c.args.groups.now in
    let others : List (List ℕ) = c.args.others.now in
    let at_end : c.loop-own.own ≡ length groups = omega (c.loop-own-test.false, c.loop-own.auto.own-end, arith) in
    record {
      ok = are_reads d c.requires.in_range others groups c.loop-own.reads.items net_slots c.requires.groups c.in_ok-net_slots.ensures.ok
          (subst (λ (n : ℕ). AreReadBy d net_slots (length groups + length others) n groups c.loop-own.reads.items) at_end c.loop-own.invariant.are);
    }

pub returns-then-not-are_large : goal.returns-then-not-are_large
returns-then-not-are_large c = record {
  ok = if_ok c.own_lists.result
      (λ v. v.items ≡ map (λ own. own ∷ []) (range_with_len 0 (length c.args.groups.now)))
      (λ v. AreReadsOf c.args.design.now c.args.others.now c.args.groups.now v.items)
      (λ v is. own_read c.args.design.now c.args.others.now c.args.groups.now v.items is)
      c.own_lists.ensures.ok;
}
