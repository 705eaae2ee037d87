-- A group that reads what has stayed keeps its values.
use Rattle.std.proofs.Common.{◌≡◌, ◌∙◌, ◌⊎◌, ℕ, ◌-◌, ◌<◌, List, [], ◌∷◌, length, get_or, suc, ap, arith, false, inl, inr, subst, sym, true}
use Rattle.std.specs.Prelude.{All, Contains}
use Rattle.std.proofs.lemmas.List.Elements.{All-contains}
use Rattle.ds_base.specs.Values.{Row}
use Rattle.ds_base.proofs.ListLemmas.{Contains-head, Contains-split, Contains-tail}
use Rattle.ds_base.specs.declared.value.Value.TheVariants.{Zero}
use Rattle.ds_cover.specs.Cover.{value_at}
use Rattle.ds_cover.proofs.TableValues.{value_agrees}
use Rattle.ds_design.specs.Circuit.{Circuit}
use Rattle.ds_design.specs.declared.design.Gate.{Gate}
use Rattle.ds_opening.specs.Groups.{Grouping, group_of}
use Rattle.ds_base.specs.Scratch.{HoldsTurn, Kept, Memory, Remembers, value_in}
use Rattle.ds_settle.specs.Cone.{net_of, nets_of_tables}
use Rattle.ds_settle.proofs.CircuitTables.{net_is}
use Rattle.ds_opening.specs.Noted.{AreDriven, FindInputs, HasReads, IsAsForeseen, IsGroupBefore, IsSlot, KeepsGroup, nets_of_turn}
use Rattle.ds_opening.proofs.Learnt.{blank}

-- the slots are there as the row goes on
pub reads_on : (g : Grouping) (old new : Kept) → length new.turns ≡ length old.turns
    → length new.stayed ≡ length old.stayed → HasReads g old → HasReads g new
reads_on g old new turns stayed has = record {
  one_each = has.one_each;
  groups = omega (has.groups, turns, arith);
  stayed = omega (has.stayed, turns, stayed, arith);
  slots = λ a k d low. let near : get_or (get_or g.reads a []) k d < length old.turns = has.slots a k d low in omega (near, turns, arith);
}

-- tables that read on these nets what they read the turn before drive what they drove, and where
-- they read foreseen values, that is as foreseen
module _ (c : Circuit) (foreseen before nets : Row) where
  -- these nets have the values of the turn before
  abbrev IsAsBefore : ℕ → Type 0
  IsAsBefore net = value_at nets net ≡ value_at before net

  pub all_foreseen : (ks : List ℕ) → All (λ k. k < length c.tables) ks → AreDriven c before ks
      → ((k : ℕ) (d : Gate) → Contains ks k → All IsAsBefore (get_or c.tables k d).table.inputs)
      → ((net : ℕ) → Contains (nets_of_tables c ks) net → IsAsBefore net)
      → (P : ℕ → Type 0) → ((net : ℕ) → P net → IsAsForeseen foreseen nets net)
      → FindInputs c foreseen P ks
      → (net : ℕ) → Contains (nets_of_tables c ks) net → IsAsForeseen foreseen nets net
  all_foreseen [] within driven reads drives P so finds net has =
      absurd (let (k, low, is) = has in let h : k < 0 = low in omega (h, arith))
  all_foreseen (k ∷ ks) within driven reads drives P so finds net has =
      let gate : Gate = get_or c.tables k blank in
      let inside : k < length c.tables = within 0 0 (omega arith) in
      let here : Contains (k ∷ ks) k = Contains-head k ks in
      let out : net_of c k ≡ gate.output = net_is c k blank inside in
      let first : IsAsForeseen foreseen nets (net_of c k) =
      drives (net_of c k) (Contains-head (net_of c k) (nets_of_tables c ks))
      ∙ (ap (value_at before) out ∙ (driven k blank here
      ∙ (sym (value_agrees gate.table nets before (reads k blank here))
      ∙ (value_agrees gate.table nets foreseen (λ i d low. so (get_or gate.table.inputs i d) ((finds.0 blank).1 i d low))
      ∙ (sym (finds.0 blank).0 ∙ ap (value_at foreseen) (sym out)))))) in
      elim (Contains-split (net_of c k) (nets_of_tables c ks) net has) [
        | inl e ↦ subst (IsAsForeseen foreseen nets) e first
        | inr late ↦ all_foreseen ks (λ i d low. within (suc i) d (omega (low, arith)))
            (λ j d has_j. driven j d (Contains-tail k ks j has_j))
            (λ j d has_j. reads j d (Contains-tail k ks j has_j))
            (λ n has_n. drives n (Contains-tail (net_of c k) (nets_of_tables c ks) n has_n))
            (λ n. P n ⊎ (n ≡ net_of c k))
            (λ n which. elim which [
              | inl p ↦ so n p
              | inr e ↦ subst (IsAsForeseen foreseen nets) (sym e) first
            ]) finds.1 net late
      ]

module _ (c : Circuit) (g : Grouping) (m : Memory) (turn a : ℕ) (foreseen : Row)
    (at : IsSlot m turn a (nets_of_tables c (group_of g a)) foreseen)
    (was : IsGroupBefore c g m turn a) (old : Kept) (remembers : Remembers m old)
    (keeps : KeepsGroup g turn a old)
    (within : All (λ s. s < length old.turns) (get_or g.reads a [])) where
  -- a slot that holds what it held the turn before
  abbrev before : Row
  before = nets_of_turn m (turn - 1)

  own : HoldsTurn m old.nets (turn - 1) (get_or m.slots a [])
  own = subst (λ (n : ℕ). HoldsTurn m old.nets n (get_or m.slots a [])) keeps.noted
      (remembers.each a at.inside (omega (keeps.noted, keeps.later, arith)))

  of_slot : (s : ℕ) → Contains (get_or g.reads a []) s
      → HoldsTurn m old.nets (turn - 1) (get_or m.slots s [])
  of_slot s has =
      let inside : s < length old.turns =
      All-contains (λ n. n < length old.turns) (get_or g.reads a []) s within has in
      let is : (get_or old.turns s 0 ≡ turn) × (get_or old.stayed s false ≡ true) =
      All-contains (λ n. (get_or old.turns n 0 ≡ turn) × (get_or old.stayed n false ≡ true))
      (get_or g.reads a []) s keeps.stayed has in
      subst (λ (n : ℕ). HoldsTurn m old.nets (n - 1) (get_or m.slots s [])) is.0
      (remembers.before s (let long : length old.turns ≡ length m.slots = remembers.turns in omega (inside, long, arith))
      (omega (is.0, keeps.later, arith)) is.1)

  -- the group's own slot is not noted for the turn, so it is not in the list
  not_own : ¬ Contains (get_or g.reads a []) a
  not_own has =
      let is : (get_or old.turns a 0 ≡ turn) × (get_or old.stayed a false ≡ true) =
      All-contains (λ n. (get_or old.turns n 0 ≡ turn) × (get_or old.stayed n false ≡ true))
      (get_or g.reads a []) a keeps.stayed has in
      absurd (omega (is.0, keeps.noted, keeps.later, arith))

  held : (s net : ℕ) → HoldsTurn m old.nets (turn - 1) (get_or m.slots s [])
      → Contains (get_or m.slots s []) net → value_at old.nets net ≡ value_at before net
  held s net holds has =
      All-contains (λ n. get_or old.nets n Zero ≡ value_in m (turn - 1) n) (get_or m.slots s []) net holds has

  reads : (k : ℕ) (d : Gate) → Contains (group_of g a) k
      → All (λ net. value_at old.nets net ≡ value_at before net) (get_or c.tables k d).table.inputs
  reads k d has i e low =
      let net : ℕ = get_or (get_or c.tables k d).table.inputs i e in
      let (s, which, here) = was.reads not_own k d has i e low in
      held s net (elim which [
        | inl e ↦ subst (λ (n : ℕ). HoldsTurn m old.nets (turn - 1) (get_or m.slots n [])) (sym e) own
        | inr listed ↦ of_slot s listed
      ]) here

  drives : (net : ℕ) → Contains (nets_of_tables c (group_of g a)) net
      → value_at old.nets net ≡ value_at before net
  drives net has = held a net own (subst (λ (xs : List ℕ). Contains xs net) (sym at.is) has)

  -- what the group holds is as foreseen, and it is what it held the turn before
  pub group_foreseen : All (λ k. k < length c.tables) (group_of g a)
      → FindInputs c foreseen (IsAsForeseen foreseen old.nets) (group_of g a)
      → (net : ℕ) → Contains (nets_of_tables c (group_of g a)) net → IsAsForeseen foreseen old.nets net
  group_foreseen inside finds =
      all_foreseen c foreseen before old.nets (group_of g a) inside (was.driven keeps.later) reads drives
      (IsAsForeseen foreseen old.nets) (λ net p. p) finds

  pub group_held : HoldsTurn m old.nets (turn - 1) (nets_of_tables c (group_of g a))
  group_held = subst (λ (xs : List ℕ). HoldsTurn m old.nets (turn - 1) xs) at.is own
