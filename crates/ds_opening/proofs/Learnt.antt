-- Slots that are noted, one after another.
use Rattle.std.proofs.Common.{◌≡◌, ◌≢◌, ◌∙◌, ◌⊎◌, ℕ, ◌+◌, ◌-◌, ◌<◌, List, [], ◌∷◌, ◌++◌, length, Bool, false, get_or, suc, true, refl, sym, ap, subst, arith, inl, inr, drop, take}
use Rattle.std.specs.Prelude.{All, Contains}
use Rattle.std.proofs.Math.ListN.{set}
use Rattle.std.proofs.lemmas.Bool.{cases_eq}
use Rattle.std.specs.List.{flat_map}
use Rattle.std.proofs.lemmas.Grind.{flat_map-append}
use Rattle.std.proofs.lemmas.List.Concat.{flat_map-cons}
use Rattle.ds_opening.specs.Groups.{Grouping, group_of, tables_in}
use Rattle.std.proofs.lemmas.List.{append-nil, drop_more, get_or-set_other, get_or-set_same, length-set, map-append, take_more}
use Rattle.std.proofs.lemmas.List.Elements.{All-contains, All-map, Contains-append_cases, Contains-get_or}
use Rattle.ds_base.specs.Values.{AreKnown, Row}
use Rattle.ds_base.proofs.ListLemmas.{Contains-head, Contains-split, Contains-tail}
use Rattle.ds_cover.specs.Bank.{Driven, IsDriven, after_table, after_tables, driven_at}
use Rattle.ds_cover.specs.Packed.{packed_value}
use Rattle.ds_cover.specs.Cover.{value_at, value_of, values_at}
use Rattle.ds_cover.specs.Series.{FindsKnown, in_table_order}
use Rattle.ds_cover.proofs.TableValues.{value_agrees}
use Rattle.ds_base.specs.declared.value.Value.{Value}
use Rattle.ds_base.specs.declared.value.Value.TheVariants.{Unknown, Zero}
use Rattle.ds_design.proofs.PackedTables.{after_table-is}
use Rattle.ds_design.specs.Banked.{IsBankOf}
use Rattle.ds_design.specs.Circuit.{Circuit}
use Rattle.ds_design.specs.InRange.{IsInRange}
use Rattle.ds_design.specs.declared.design.Gate.{Gate}
use Rattle.ds_base.specs.LentNets.{with_nets}
use Rattle.ds_base.specs.Scratch.{HoldsTurn, IsNoted, Kept, Memory, Remembers, value_in}
use Rattle.ds_settle.specs.Cone.{net_of, nets_of_tables}
use Rattle.ds_settle.specs.Settle.{LeavesOthers}
use Rattle.ds_settle.proofs.SetBits.{value_at-set_other}
use Rattle.ds_settle.proofs.CircuitTables.{net_is}
use Rattle.ds_opening.specs.Noted.{FindInputs, IsAsForeseen, IsLearnt, IsSlot}
use Rattle.ds_opening.specs.Packed.{AreAsBefore, Learns}

-- stands for a table where there is none
pub blank : Gate
blank = record { table = record { inputs = []; rows = []; on = true }; output = 0; line = 0 }

module _ (m : Memory) (turn slot : ℕ) (these : List ℕ) (foreseen : Row)
    (at : IsSlot m turn slot these foreseen) (some : 0 < turn)
    (old : Kept) (remembers : Remembers m old) where
  -- a slot that is noted has its values
  pub was_noted : get_or old.turns slot 0 ≡ turn → IsLearnt m foreseen these old old
  was_noted is =
      let held : HoldsTurn m old.nets (get_or old.turns slot 0) (get_or m.slots slot []) =
      remembers.each slot at.inside (subst (λ (n : ℕ). 0 < n) (sym is) some) in
      let here : HoldsTurn m old.nets turn these =
      subst (λ (xs : List ℕ). HoldsTurn m old.nets turn xs) at.is
      (subst (λ (n : ℕ). HoldsTurn m old.nets n (get_or m.slots slot [])) is held) in
      record {
        remembers = remembers;
        learns = λ net which. elim which [
          | inl has ↦
              All-contains (λ n. get_or old.nets n Zero ≡ value_in m turn n) these net here has ∙ at.values net
          | inr before ↦ before
        ];
      }

  -- a slot that was noted for the turn before holds its values while they are as before
  pub held_before : 1 < turn → get_or old.turns slot 0 ≡ turn - 1 → (nets : Row)
      → AreAsBefore old.nets nets → HoldsTurn m nets (turn - 1) these
  held_before later is nets as_before k d low =
      let held : HoldsTurn m old.nets (get_or old.turns slot 0) (get_or m.slots slot []) =
      remembers.each slot at.inside (omega (is, later, arith)) in
      let here : HoldsTurn m old.nets (turn - 1) these =
      subst (λ (xs : List ℕ). HoldsTurn m old.nets (turn - 1) xs) at.is
      (subst (λ (n : ℕ). HoldsTurn m old.nets n (get_or m.slots slot [])) is held) in
      as_before (get_or these k d) ∙ here k d low

  module _ (nets : Row) (size : length nets ≡ length old.nets)
      (learns : Learns foreseen these old.nets nets) (others : LeavesOthers these old.nets nets)
      (stays : Bool) (held : stays ≡ true → 1 < turn → HoldsTurn m nets (turn - 1) these)
      (new : Kept) (noted : IsNoted slot turn stays (with_nets old nets) new) where
    holds_these : HoldsTurn m nets turn these
    holds_these k d low =
        learns (get_or these k d) (inl (Contains-get_or these k d low)) ∙ sym (at.values (get_or these k d))

    -- another slot that is noted is noted for the turn that it had
    kept_turn : (s : ℕ) → s ≢ slot → 0 < get_or new.turns s 0 → get_or new.turns s 0 ≡ get_or old.turns s 0
    kept_turn s ne turned = elim (noted.others s ne) [
      | inl same ↦ same
      | inr lost ↦ absurd (omega (lost.0, turned, arith))
    ]

    -- another slot holds what it held
    holds_on : (s turned : ℕ) → s ≢ slot → HoldsTurn m old.nets turned (get_or m.slots s [])
        → HoldsTurn m nets turned (get_or m.slots s [])
    holds_on s turned ne before k d low =
        let net : ℕ = get_or (get_or m.slots s []) k d in
        let has : Contains (get_or m.slots s []) net = Contains-get_or (get_or m.slots s []) k d low in
        others net (λ this. ne (at.distinct s slot net has (subst (λ (xs : List ℕ). Contains xs net) (sym at.is) this)))
        ∙ before k d low

    holds : (s : ℕ) → s < length m.slots → 0 < get_or new.turns s 0
        → HoldsTurn m nets (get_or new.turns s 0) (get_or m.slots s [])
    holds s there turned = elim (cases_eq s slot) [
      | inl e ↦
          (let t : get_or new.turns s 0 ≡ turn = ap (λ (n : ℕ). get_or new.turns n 0) e ∙ noted.here in
          let is : get_or m.slots s [] ≡ these = ap (λ (n : ℕ). get_or m.slots n []) e ∙ at.is in
          subst (λ (n : ℕ). HoldsTurn m nets n (get_or m.slots s [])) (sym t)
          (subst (λ (xs : List ℕ). HoldsTurn m nets turn xs) (sym is) holds_these))
      | inr ne ↦
          (let t : get_or new.turns s 0 ≡ get_or old.turns s 0 = kept_turn s ne turned in
          let before : HoldsTurn m old.nets (get_or old.turns s 0) (get_or m.slots s []) =
          remembers.each s there (subst (λ (n : ℕ). 0 < n) t turned) in
          subst (λ (n : ℕ). HoldsTurn m nets n (get_or m.slots s [])) (sym t)
          (holds_on s (get_or old.turns s 0) ne before))
    ]

    has_flag : slot < length old.stayed
    has_flag = (let long : length old.stayed ≡ length m.slots = remembers.stayed in omega (at.inside, long, arith))

    -- a slot that has stayed holds the values of the turn before
    holds_before : (s : ℕ) → s < length m.slots → 1 < get_or new.turns s 0
        → get_or new.stayed s false ≡ true
        → HoldsTurn m nets (get_or new.turns s 0 - 1) (get_or m.slots s [])
    holds_before s there turned is = elim (cases_eq s slot) [
      | inl e ↦
          (let t : get_or new.turns s 0 ≡ turn = ap (λ (n : ℕ). get_or new.turns n 0) e ∙ noted.here in
          let list : get_or m.slots s [] ≡ these = ap (λ (n : ℕ). get_or m.slots n []) e ∙ at.is in
          let stayed : stays ≡ true =
          sym (get_or-set_same old.stayed slot stays false has_flag)
          ∙ (ap (λ (bs : List Bool). get_or bs slot false) (sym noted.stayed)
          ∙ (ap (λ (n : ℕ). get_or new.stayed n false) (sym e) ∙ is)) in
          subst (λ (n : ℕ). HoldsTurn m nets (n - 1) (get_or m.slots s [])) (sym t)
          (subst (λ (xs : List ℕ). HoldsTurn m nets (turn - 1) xs) (sym list)
          (held stayed (subst (λ (n : ℕ). 1 < n) t turned))))
      | inr ne ↦
          (let t : get_or new.turns s 0 ≡ get_or old.turns s 0 = kept_turn s ne (omega (turned, arith)) in
          let stayed : get_or old.stayed s false ≡ true =
          sym (get_or-set_other old.stayed slot s stays false ne)
          ∙ (ap (λ (bs : List Bool). get_or bs s false) (sym noted.stayed) ∙ is) in
          subst (λ (n : ℕ). HoldsTurn m nets (n - 1) (get_or m.slots s [])) (sym t)
          (holds_on s (get_or old.turns s 0 - 1) ne
          (remembers.before s there (subst (λ (n : ℕ). 1 < n) t turned) stayed)))
    ]

    -- a slot is noted now
    pub now_noted : IsLearnt m foreseen these old new
    now_noted = record {
      remembers = record {
        nets = ap (λ (r : Row). length r) noted.nets ∙ (size ∙ remembers.nets);
        turns = noted.turns ∙ remembers.turns;
        stayed = ap (λ (bs : List Bool). length bs) noted.stayed
            ∙ (length-set old.stayed slot stays ∙ remembers.stayed);
        each = λ s there turned.
            subst (λ (r : Row). HoldsTurn m r (get_or new.turns s 0) (get_or m.slots s [])) (sym noted.nets)
            (holds s there turned);
        before = λ s there turned is.
            subst (λ (r : Row). HoldsTurn m r (get_or new.turns s 0 - 1) (get_or m.slots s [])) (sym noted.nets)
            (holds_before s there turned is);
      };
      learns = subst (λ (r : Row). Learns foreseen these old.nets r) (sym noted.nets) learns;
    }

pub learnt_none : (m : Memory) (foreseen : Row) (old : Kept) → Remembers m old → IsLearnt m foreseen [] old old
learnt_none m foreseen old remembers = record {
  remembers = remembers;
  learns = λ net which. elim which [
    | inl has ↦ absurd (let (k, low, is) = has in let h : k < 0 = low in omega (h, arith))
    | inr before ↦ before
  ];
}

pub learnt_more : (m : Memory) (foreseen : Row) (xs ys : List ℕ) (old between new : Kept)
    → IsLearnt m foreseen xs old between → IsLearnt m foreseen ys between new
    → IsLearnt m foreseen (xs ++ ys) old new
learnt_more m foreseen xs ys old between new first then = record {
  remembers = then.remembers;
  learns = λ net which. elim which [
    | inl has ↦ elim (Contains-append_cases xs ys net has) [
      | inl early ↦ then.learns net (inr (first.learns net (inl early)))
      | inr late ↦ then.learns net (inl late)
    ]
    | inr before ↦ then.learns net (inr (first.learns net (inr before)))
  ];
}

-- setting tables leaves the row as long
pub after_long : (bank : List Driven) (ks : List ℕ) (nets : Row)
    → length (after_tables bank nets ks) ≡ length nets
after_long bank [] nets = refl
after_long bank (k ∷ ks) nets =
    after_long bank ks (after_table bank nets k)
    ∙ length-set nets (driven_at bank k).output (packed_value (driven_at bank k).cover nets)

module _ (c : Circuit) (foreseen : Row) where
  pub finds_weaker : (P Q : ℕ → Type 0) → ((net : ℕ) → P net → Q net) → (ks : List ℕ)
      → FindInputs c foreseen P ks → FindInputs c foreseen Q ks
  finds_weaker P Q so [] finds = tt
  finds_weaker P Q so (k ∷ ks) finds = (
    λ d. ((finds.0 d).0, λ i e low. so (get_or (get_or c.tables k d).table.inputs i e) ((finds.0 d).1 i e low)),
    finds_weaker (λ net. P net ⊎ (net ≡ net_of c k)) (λ net. Q net ⊎ (net ≡ net_of c k))
        (λ net which. elim which [ inl p ↦ inl (so net p) | inr e ↦ inr e ]) ks finds.1,
  )

  pub finds_front : (P : ℕ → Type 0) (xs ys : List ℕ) → FindInputs c foreseen P (xs ++ ys) → FindInputs c foreseen P xs
  finds_front P [] ys finds = tt
  finds_front P (k ∷ xs) ys finds = (finds.0, finds_front (λ net. P net ⊎ (net ≡ net_of c k)) xs ys finds.1)

  pub finds_back : (P : ℕ → Type 0) (xs ys : List ℕ) → FindInputs c foreseen P (xs ++ ys)
      → FindInputs c foreseen (λ net. P net ⊎ Contains (nets_of_tables c xs) net) ys
  finds_back P [] ys finds = finds_weaker P (λ net. P net ⊎ Contains [] net) (λ net p. inl p) ys finds
  finds_back P (k ∷ xs) ys finds =
      finds_weaker (λ net. (P net ⊎ (net ≡ net_of c k)) ⊎ Contains (nets_of_tables c xs) net)
      (λ net. P net ⊎ Contains (nets_of_tables c (k ∷ xs)) net)
      (λ net which. elim which [
        | inl first ↦ elim first [
          | inl p ↦ inl p
          | inr e ↦ inr (subst (λ (n : ℕ). Contains (nets_of_tables c (k ∷ xs)) n) (sym e) (Contains-head (net_of c k) (nets_of_tables c xs)))
        ]
        | inr has ↦ inr (Contains-tail (net_of c k) (nets_of_tables c xs) net has)
      ]) ys (finds_back (λ net. P net ⊎ (net ≡ net_of c k)) xs ys finds.1)

  module _ (range : IsInRange c) (bank : List Driven) (banked : IsBankOf c.tables bank) where
    -- what the tables of a group set
    pub record AreSet (ks : List ℕ) (old new : Row) : Type 0 where
      pub size : length new ≡ length old
      pub learns : Learns foreseen (nets_of_tables c ks) old new
      pub others : LeavesOthers (nets_of_tables c ks) old new

    module _ (k : ℕ) (inside : k < length c.tables) (nets : Row) (size : length nets ≡ length c.nets)
        (finds : (d : Gate) → (value_at foreseen (get_or c.tables k d).output ≡ value_of (get_or c.tables k d).table foreseen)
        × All (IsAsForeseen foreseen nets) (get_or c.tables k d).table.inputs) where
      abbrev gate : Gate
      gate = get_or c.tables k blank

      net_of_gate : net_of c k ≡ gate.output
      net_of_gate = net_is c k blank inside

      near : gate.output < length nets
      near = (let low : gate.output < length c.nets = (range.tables k blank inside).1 in omega (low, size, arith))

      value_is : value_of gate.table nets ≡ value_at foreseen gate.output
      value_is = value_agrees gate.table nets foreseen (finds blank).1 ∙ sym (finds blank).0

      set_is : after_table bank nets k ≡ set nets gate.output (value_of gate.table nets)
      set_is = after_table-is c.tables bank banked nets k blank inside

      one_set : AreSet (k ∷ []) nets (after_table bank nets k)
      one_set = record {
        size = ap (λ (r : Row). length r) set_is ∙ length-set nets gate.output (value_of gate.table nets);
        learns = λ net which. elim (cases_eq net gate.output) [
          | inl e ↦
              ap (value_at (after_table bank nets k)) e
              ∙ (ap (λ (r : Row). value_at r gate.output) set_is
              ∙ (get_or-set_same nets gate.output (value_of gate.table nets) Zero near
              ∙ (value_is ∙ ap (value_at foreseen) (sym e))))
          | inr ne ↦
              ap (λ (r : Row). value_at r net) set_is
              ∙ (value_at-set_other nets gate.output net (value_of gate.table nets) ne
              ∙ elim which [
                | inl has ↦ absurd (ne (alone net has ∙ net_of_gate))
                | inr before ↦ before
              ])
        ];
        others = λ net free.
            ap (λ (r : Row). value_at r net) set_is
            ∙ value_at-set_other nets gate.output net (value_of gate.table nets)
            (λ e. free (subst (λ (n : ℕ). Contains (net_of c k ∷ []) n) (net_of_gate ∙ sym e) (Contains-head (net_of c k) [])));
      }
        where
          alone : (net : ℕ) → Contains (net_of c k ∷ []) net → net ≡ net_of c k
          alone net has = elim (Contains-split (net_of c k) [] net has) [
            | inl e ↦ sym e
            | inr none ↦ absurd (let (j, low, is) = none in let h : j < 0 = low in omega (h, arith))
          ]

    -- those behind a table that is set
    finds_on : (k : ℕ) (ks : List ℕ) (nets next : Row) → AreSet (k ∷ []) nets next
        → FindInputs c foreseen (λ net. IsAsForeseen foreseen nets net ⊎ (net ≡ net_of c k)) ks → FindInputs c foreseen (IsAsForeseen foreseen next) ks
    finds_on k ks nets next one finds =
        finds_weaker (λ net. IsAsForeseen foreseen nets net ⊎ (net ≡ net_of c k)) (IsAsForeseen foreseen next)
        (λ net which. elim which [
          | inl before ↦ one.learns net (inr before)
          | inr e ↦ one.learns net (inl (subst (λ (n : ℕ). Contains (net_of c k ∷ []) n) (sym e) (Contains-head (net_of c k) [])))
        ]) ks finds

    pub all_set : (ks : List ℕ) (nets : Row) → All (λ k. k < length c.tables) ks
        → length nets ≡ length c.nets → FindInputs c foreseen (IsAsForeseen foreseen nets) ks
        → AreSet ks nets (after_tables bank nets ks)
    all_set [] nets within size finds = record {
      size = refl;
      learns = λ net which. elim which [
        | inl has ↦ absurd (let (k, low, is) = has in let h : k < 0 = low in omega (h, arith))
        | inr before ↦ before
      ];
      others = λ net free. refl;
    }
    all_set (k ∷ ks) nets within size finds =
        let inside : k < length c.tables = within 0 0 (omega arith) in
        let next : Row = after_table bank nets k in
        let one : AreSet (k ∷ []) nets next = one_set k inside nets size finds.0 in
        let rest : FindInputs c foreseen (IsAsForeseen foreseen next) ks = finds_on k ks nets next one finds.1 in
        let more : AreSet ks next (after_tables bank next ks) =
        all_set ks next (λ i d low. within (suc i) d (omega (low, arith))) (one.size ∙ size) rest in
        record {
          size = more.size ∙ one.size;
          learns = λ net which. elim which [
            | inl has ↦ elim (Contains-split (net_of c k) (nets_of_tables c ks) net has) [
              | inl e ↦ more.learns net (inr (one.learns net (inl (subst (λ (n : ℕ). Contains (net_of c k ∷ []) n) e (Contains-head (net_of c k) [])))))
              | inr late ↦ more.learns net (inl late)
            ]
            | inr before ↦ more.learns net (inr (one.learns net (inr before)))
          ];
          others = λ net free.
              more.others net (λ has. free (Contains-tail (net_of c k) (nets_of_tables c ks) net has))
              ∙ one.others net (λ has. free (first net has));
        }
      where
        first : (net : ℕ) → Contains (net_of c k ∷ []) net → Contains (nets_of_tables c (k ∷ ks)) net
        first net has = elim (Contains-split (net_of c k) [] net has) [
          | inl e ↦ subst (λ (n : ℕ). Contains (nets_of_tables c (k ∷ ks)) n) e (Contains-head (net_of c k) (nets_of_tables c ks))
          | inr none ↦ absurd (let (j, low, is) = none in let h : j < 0 = low in omega (h, arith))
        ]

    -- where no foreseen value is unknown, each of these tables finds its inputs known
    pub all_found : (ks : List ℕ) (nets : Row) → ((net : ℕ) → value_at foreseen net ≢ Unknown) → All (λ k. k < length c.tables) ks
        → length nets ≡ length c.nets → FindInputs c foreseen (IsAsForeseen foreseen nets) ks → FindsKnown (in_table_order bank ks) nets
    all_found [] nets sure within size finds = tt
    all_found (k ∷ ks) nets sure within size finds =
        let inside : k < length c.tables = within 0 0 (omega arith) in
        let next : Row = after_table bank nets k in
        let stands : IsDriven (driven_at bank k) (get_or c.tables k blank).table (get_or c.tables k blank).output = banked.table k blank inside in
        let one : AreSet (k ∷ []) nets next = one_set k inside nets size finds.0 in
        let here : AreKnown (values_at nets (driven_at bank k).cover.inputs) =
        subst (λ (ns : List ℕ). AreKnown (values_at nets ns)) (sym stands.packs.inputs)
        (All-map (λ value. value ≢ Unknown) (value_at nets) (get_or c.tables k blank).table.inputs
        (λ i e low. subst (λ (value : Value). value ≢ Unknown) (sym ((finds.0 blank).1 i e low)) (sure (get_or (get_or c.tables k blank).table.inputs i e)))) in
        (here, all_found ks next sure (λ i d low. within (suc i) d (omega (low, arith))) (one.size ∙ size) (finds_on k ks nets next one finds.1))

-- one group more
module _ (c : Circuit) (g : Grouping) (list : List ℕ) (i : ℕ) (inside : i < length list) where
  abbrev next : ℕ
  next = get_or list i 0

  nets_append : (xs ys : List ℕ) → nets_of_tables c (xs ++ ys) ≡ nets_of_tables c xs ++ nets_of_tables c ys
  nets_append xs ys = map-append (net_of c) xs ys

  front_is : tables_in g (take (i + 1) list) ≡ tables_in g (take i list) ++ group_of g next
  front_is =
      ap (λ (xs : List ℕ). flat_map (group_of g) xs) (take_more list i 0 inside)
      ∙ (flat_map-append (group_of g) (take i list) (next ∷ [])
      ∙ ap (λ (xs : List ℕ). tables_in g (take i list) ++ xs) (flat_map-cons (group_of g) next [] ∙ append-nil (group_of g next)))

  back_is : tables_in g (drop i list) ≡ group_of g next ++ tables_in g (drop (i + 1) list)
  back_is =
      ap (λ (xs : List ℕ). flat_map (group_of g) xs) (drop_more list i 0 inside)
      ∙ flat_map-cons (group_of g) next (drop (i + 1) list)

  pub groups_more : (m : Memory) (foreseen : Row) (old between new : Kept)
      → IsLearnt m foreseen (nets_of_tables c (tables_in g (take i list))) old between
      → IsLearnt m foreseen (nets_of_tables c (group_of g next)) between new
      → IsLearnt m foreseen (nets_of_tables c (tables_in g (take (i + 1) list))) old new
  groups_more m foreseen old between new first then =
      subst (λ (xs : List ℕ). IsLearnt m foreseen xs old new)
      (sym (ap (nets_of_tables c) front_is ∙ nets_append (tables_in g (take i list)) (group_of g next)))
      (learnt_more m foreseen (nets_of_tables c (tables_in g (take i list))) (nets_of_tables c (group_of g next)) old between new first then)

  -- the tables of the next group, and those behind them once these are set
  pub rest_finds : (foreseen nets : Row) → FindInputs c foreseen (IsAsForeseen foreseen nets) (tables_in g (drop i list))
      → FindInputs c foreseen (IsAsForeseen foreseen nets) (group_of g next)
      × ((new : Row) → Learns foreseen (nets_of_tables c (group_of g next)) nets new
      → FindInputs c foreseen (IsAsForeseen foreseen new) (tables_in g (drop (i + 1) list)))
  rest_finds foreseen nets finds =
      let cut : FindInputs c foreseen (IsAsForeseen foreseen nets) (group_of g next ++ tables_in g (drop (i + 1) list)) =
      subst (λ (xs : List ℕ). FindInputs c foreseen (IsAsForeseen foreseen nets) xs) back_is finds in (
        finds_front c foreseen (IsAsForeseen foreseen nets) (group_of g next) (tables_in g (drop (i + 1) list)) cut,
        λ new learns. finds_weaker c foreseen (λ net. IsAsForeseen foreseen nets net ⊎ Contains (nets_of_tables c (group_of g next)) net)
            (IsAsForeseen foreseen new)
            (λ net which. elim which [ inl before ↦ learns net (inr before) | inr has ↦ learns net (inl has) ])
            (tables_in g (drop (i + 1) list))
            (finds_back c foreseen (IsAsForeseen foreseen nets) (group_of g next) (tables_in g (drop (i + 1) list)) cut),
      )
