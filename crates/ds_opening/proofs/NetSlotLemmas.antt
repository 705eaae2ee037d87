-- The slots of nets.
use Rattle.std.proofs.Common.{◌≡◌, ◌∙◌, ◌⊎◌, ℕ, ◌+◌, ◌-◌, ◌<◌, ◌^◌, List, [], ◌++◌, length, get_or}
use Rattle.std.proofs.Common.{replicate, refl, sym, ap, subst, arith, inl, inr, length-append}
use Rattle.std.specs.Prelude.{All, Contains}
use Rattle.std.proofs.Math.ListN.{set}
use Rattle.std.proofs.lemmas.Bool.{cases_eq}
use Rattle.std.proofs.lemmas.List.{get_or-append-add, get_or-replicate, get_or_append_left, length-replicate}
use Rattle.std.proofs.lemmas.List.{get_or-set_other, get_or-set_same, length-set}
use Rattle.std.proofs.lemmas.List.Elements.{Contains-get_or}
use Rattle.ds_base.proofs.ListLemmas.{Contains-map, get_or-default}
use Rattle.ds_design.specs.Circuit.{Circuit}
use Rattle.ds_design.specs.InRange.{IsInRange}
use Rattle.ds_design.specs.declared.design.Gate.{Gate}
use Rattle.ds_settle.specs.Cone.{net_of, nets_of_tables}
use Rattle.ds_settle.proofs.CircuitTables.{net_is}
use Rattle.ds_opening.specs.NetSlots.{AreNetSlots, AreNetsAssigned, IsAssigned}

-- before the first net
pub assigned_none : (slot : ℕ) (nets old : List ℕ) → IsAssigned slot nets old old
assigned_none slot nets old = record { same = refl; each = λ net. inl refl }

-- one net more
pub assigned_one : (slot : ℕ) (nets old now : List ℕ) (net : ℕ) → IsAssigned slot nets old now
    → net < length now → Contains nets net → IsAssigned slot nets old (set now net slot)
assigned_one slot nets old now net so_far inside has = record {
  same = length-set now net slot ∙ so_far.same;
  each = λ x. elim (cases_eq x net) [
    | inl e ↦ inr (
      ap (λ (n : ℕ). get_or (set now net slot) n 0) e ∙ get_or-set_same now net slot 0 inside,
      subst (λ (n : ℕ). Contains nets n) (sym e) has,
    )
    | inr ne ↦
        (let kept : get_or (set now net slot) x 0 ≡ get_or now x 0 = get_or-set_other now net x slot 0 ne in
        elim (so_far.each x) [
          | inl still ↦ inl (kept ∙ still)
          | inr (net_slot, there) ↦ inr (kept ∙ net_slot, there)
        ])
  ];
}

-- the net of one table more
pub assigned_table : (c : Circuit) (tables : List ℕ) (slot i : ℕ) (old now : List ℕ) (gates : List Gate) (gate : Gate)
    (net : ℕ) → IsInRange c → All (λ k. k < length c.tables) tables → length old ≡ length c.nets
    → i < length tables → gates ≡ c.tables → net ≡ (get_or gates (get_or tables i 0) gate).output
    → IsAssigned slot (nets_of_tables c tables) old now
    → IsAssigned slot (nets_of_tables c tables) old (set now net slot)
assigned_table c tables slot i old now gates gate net in_range within long inside same is so_far =
    let table : ℕ = get_or tables i 0 in
    let low : table < length c.tables = within i 0 inside in
    let at : net ≡ (get_or c.tables table gate).output =
    is ∙ ap (λ (gs : List Gate). (get_or gs table gate).output) same in
    let near : (get_or c.tables table gate).output < length c.nets = (in_range.tables table gate low).1 in
    assigned_one slot (nets_of_tables c tables) old now net so_far (omega (at, near, so_far.same, long, arith))
    (subst (λ (n : ℕ). Contains (nets_of_tables c tables) n) (net_is c table gate low ∙ sym at)
    (Contains-map (net_of c) tables table (Contains-get_or tables i 0 inside)))

-- the nets of one list more
pub assigned_more : (first : ℕ) (lists : List (List ℕ)) (old now new : List ℕ) (slot j : ℕ) (nets : List ℕ)
    → AreNetsAssigned first lists old now → j < length lists → slot ≡ first + j → nets ≡ get_or lists j []
    → IsAssigned slot nets now new → AreNetsAssigned first lists old new
assigned_more first lists old now new slot j nets so_far inside at is step = record {
  same = step.same ∙ so_far.same;
  each = λ net. elim (step.each net) [
    | inl kept ↦ elim (so_far.each net) [
      | inl still ↦ inl (kept ∙ still)
      | inr (i, low, net_slot, has) ↦ inr (i, low, kept ∙ net_slot, has)
    ]
    | inr (net_slot, has) ↦ inr (j, inside, net_slot ∙ at, subst (λ (xs : List ℕ). Contains xs net) is has)
  ];
}

module _ (xs ys : List (List ℕ)) (few : length xs + length ys < 2 ^ 64) (count : ℕ) (none some all : List ℕ)
    (begins : none ≡ replicate count (2 ^ 64 - 1)) (left : AreNetsAssigned 0 xs none some)
    (right : AreNetsAssigned (length xs) ys some all) where
  long : length all ≡ count
  long = right.same ∙ (left.same ∙ (ap (λ (hs : List ℕ). length hs) begins ∙ length-replicate count (2 ^ 64 - 1)))

  -- the slot of a net has the net, or there is none
  net_slot_is : (net : ℕ) → net < count
      → ((get_or all net 0 < length (xs ++ ys)) × Contains (get_or (xs ++ ys) (get_or all net 0) []) net)
      ⊎ (get_or all net 0 ≡ 2 ^ 64 - 1)
  net_slot_is net inside = elim (right.each net) [
    | inr (j, low, net_slot, has) ↦ inl (
      omega (low, net_slot, length-append xs ys, arith),
      subst (λ (s : ℕ). Contains (get_or (xs ++ ys) s []) net) (sym net_slot)
          (subst (λ (these : List ℕ). Contains these net) (sym (get_or-append-add xs ys j [])) has),
    )
    | inl kept ↦ elim (left.each net) [
      | inr (j, low, net_slot, has) ↦
          (let at : get_or all net 0 ≡ j = omega (kept, net_slot, arith) in inl (
            omega (low, at, length-append xs ys, arith),
            subst (λ (s : ℕ). Contains (get_or (xs ++ ys) s []) net) (sym at)
                (subst (λ (these : List ℕ). Contains these net) (sym (get_or_append_left xs ys [] j low)) has),
          ))
      | inl still ↦
          inr (kept ∙ (still ∙ (ap (λ (hs : List ℕ). get_or hs net 0) begins
          ∙ get_or-replicate count net (2 ^ 64 - 1) 0 inside)))
    ]
  ]

  pub are_net_slots : AreNetSlots (xs ++ ys) count all
  are_net_slots = record {
    one_each = long;
    low = λ net d inside.
        let same : get_or all net d ≡ get_or all net 0 = get_or-default all net d 0 inside in
        elim (net_slot_is net (omega (inside, long, arith))) [
          | inl (low, has) ↦ inl (omega (low, same, arith))
          | inr none_is ↦ inr (same ∙ none_is)
        ];
    has = λ net inside low. elim (net_slot_is net inside) [
      | inl (low, has) ↦ has
      | inr none_is ↦ absurd (omega (low, none_is, few, length-append xs ys, arith))
    ];
  }
