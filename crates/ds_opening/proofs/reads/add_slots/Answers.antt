use Rattle.std.proofs.Common.{◌≡◌, ◌∙◌, ◌<◌, ◌+◌, ◌++◌, ◌∷◌, [], ℕ, List, length, get_or, take, set, sym, ap, subst, arith, inl, inr}
use Rattle.std.proofs.Common.{Vec, Global}
use Rattle.std.specs.Prelude.{All}
use Rattle.std.proofs.lemmas.List.{take_all}
use Rattle.ds_base.proofs.ListLemmas.{get_or-default}
use Rattle.ds_opening.specs.Seen.{AreSearched, IsReadAt}
use Rattle.ds_opening.proofs.ListPrefix.{take_item}
use Rattle.ds_opening.proofs.Searched.{searched_new, searched_old}
use Rattle.ds_opening.proofs.reads.add_slots.Goals as goal
use Rattle.ds_opening.proofs.reads.add_slots.Goals.{then-index-own+in_ok-push, else-index-own}

pub loop-net-preserved : goal.loop-net-preserved
loop-net-preserved c =
    let net_slots : List ℕ = c.args.net_slots.now in
    let nets : List ℕ = c.args.nets.now in
    let own : ℕ = c.args.own in
    let slots : ℕ = length c.args.seen.now.items in
    let before : List ℕ = c.args.list.now in
    let i : ℕ = c.loop-net.net-index in
    let net : ℕ = c.index.result in
    let seen : List ℕ = c.loop-net.seen.items in
    let list : List ℕ = c.loop-net.list in
    let net_slot : ℕ = get_or net_slots net 0 in
    let net_is : net ≡ get_or nets i net = c.index.ensures ∙ (c.net-item.is ∙ get_or-default nets i c.net-item.result net c.loop-net-test.true) in
    let within : get_or nets i net < length net_slots = c.requires.nets i net c.loop-net-test.true in
    let long : length seen ≡ slots = c.loop-net.invariant.long in
    let inside : net_slot < length seen = elim (c.requires.net_slots net 0 (omega (net_is, within, arith))) [
      | inl low ↦ (let h : net_slot < slots = low in omega (h, long, arith))
      | inr none ↦ absurd (c.if-net_slot.false none)
    ] in
    let read : c.index-in-loop-net.result.now ≡ get_or seen net_slot 0 =
    c.index-in-loop-net.ensures ∙ get_or-default seen net_slot c.index-in-loop-net.result.now 0 inside in
    subst (λ (xs : List ℕ). AreSearched net_slots own slots before xs c.if-index-own.seen.items c.if-index-own.list)
    (sym (take_item nets i net c.loop-net-test.true net_is))
    (elim c.if-index-own.branch [
      | then-index-own+in_ok-push w ↦
          (let s : c.if-index-own.seen.items ≡ set seen net_slot (own + 1) = ap (λ (v : Vec ℕ Global). v.items) w.seen-is in
          let l : c.if-index-own.list ≡ list ++ net_slot ∷ [] = w.list-is ∙ w.in_ok-push.ensures.ok in
          subst (λ (xs : List ℕ). AreSearched net_slots own slots before (take i nets ++ net ∷ []) xs c.if-index-own.list) (sym s)
          (subst (λ (xs : List ℕ). AreSearched net_slots own slots before (take i nets ++ net ∷ []) (set seen net_slot (own + 1)) xs) (sym l)
          (searched_new net_slots own slots before (take i nets) seen list c.loop-net.invariant net inside)))
      | else-index-own w ↦
          (let s : c.if-index-own.seen.items ≡ seen = ap (λ (v : Vec ℕ Global). v.items) w.seen-is in
          subst (λ (xs : List ℕ). AreSearched net_slots own slots before (take i nets ++ net ∷ []) xs c.if-index-own.list) (sym s)
          (subst (λ (xs : List ℕ). AreSearched net_slots own slots before (take i nets ++ net ∷ []) seen xs) (sym w.list-is)
          (searched_old net_slots own slots before (take i nets) seen list c.loop-net.invariant net inside
          (sym read ∙ w.if-index-own.false))))
    ])

pub returns-clause-all : goal.returns-clause-all
returns-clause-all c met =
    subst (λ (xs : List ℕ). All (IsReadAt c.args.net_slots.now c.args.own c.loop-net.list) xs)
    (take_all c.loop-net.net-index c.args.nets.now c.loop-net-test.false) c.loop-net.invariant.at
