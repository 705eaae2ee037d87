-- The words of tables and registers, one after another.
use Rattle.std.proofs.Common.{◌≡◌, ◌≢◌, ◌∙◌, ℕ, ◌+◌, ◌<◌, ◌≤◌, List, [], ◌∷◌, ◌++◌, length, get_or, map, set, true, refl, sym, ap, arith, inl, inr, subst}
use Rattle.std.specs.Prelude.{AllPairs, Contains}
use Rattle.std.specs.Int.{bit_at}
use Rattle.std.proofs.lemmas.Bool.{cases_eq, cases_lt}
use Rattle.std.proofs.lemmas.List.{append_assoc, get_or-map, get_or-set_other, get_or-set_same, get_or_default, length-append, length-map, length-set, map-append}
use Rattle.std.proofs.lemmas.List.Elements.{Contains-get_or}
use Rattle.std.proofs.lemmas.Simd.{map-map}
use Rattle.ds_base.proofs.AppendedPairs.{get_or-left, get_or-right, pairs-between, pairs-right}
use Rattle.ds_base.specs.Values.{Row}
use Rattle.ds_cover.proofs.TableValues.{value_agrees}
use Rattle.ds_cover.specs.Cover.{Cover, value_at, value_of}
use Rattle.ds_cover.specs.Kept.{bit_value}
use Rattle.ds_design.specs.Accepted.{IsAccepted}
use Rattle.ds_design.specs.Circuit.{Circuit, columns, register_nets}
use Rattle.ds_design.specs.InRange.{IsInRange}
use Rattle.ds_design.specs.Levels.{table_nets}
use Rattle.ds_feedback.proofs.LinkLemmas.{links_within}
use Rattle.ds_design.specs.declared.design.Gate.{Gate}
use Rattle.ds_design.specs.declared.design.Register.{Register}
use Rattle.ds_feedback.specs.Links.{link_of_register, link_of_table, links}
use Rattle.ds_feedback.specs.Sequence.{IsSequence}
use Rattle.ds_slices.specs.Linked.{AreLinked, IsLinkWord, LeavesSources, SetsLink, linked_net}
use Rattle.ds_cover.specs.Bank.{Driven, driven_at}
use Rattle.ds_design.specs.Banked.{IsBankOf}
use Rattle.ds_slices.specs.Picked.{IsPackedWord}
use Rattle.ds_slices.specs.Turns.{IsShifted, turn_row}
use Rattle.ds_slices.proofs.TurnBits.{value_in}

-- some table, past the end of lists
abbrev pub a_gate : Gate
a_gate = record { table = record { inputs = []; rows = []; on = true }; output = 0; line = 0 }

module _ (c : Circuit) where
  pub count_links : length (links c) ≡ length c.tables + length c.registers
  count_links =
      length-append (map link_of_table c.tables) (map link_of_register c.registers)
      ∙ (let one = length-map c.tables link_of_table in let two = length-map c.registers link_of_register in omega arith)

  -- what a link drives
  link_nets : map (λ (t : Gate). t.output) (links c) ≡ table_nets c ++ register_nets c
  link_nets =
      map-append (λ (t : Gate). t.output) (map link_of_table c.tables) (map link_of_register c.registers)
      ∙ (ap (λ (ns : List ℕ). ns ++ map (λ (t : Gate). t.output) (map link_of_register c.registers)) (map-map (λ (t : Gate). t.output) link_of_table c.tables)
      ∙ ap (λ (ns : List ℕ). table_nets c ++ ns) (map-map (λ (t : Gate). t.output) link_of_register c.registers))

  pub net_of_link : (k : ℕ) (d : Gate) → k < length (links c) → (get_or (links c) k d).output ≡ linked_net c k
  net_of_link k d inside =
      sym (get_or-map (λ (t : Gate). t.output) (links c) k d 0 inside) ∙ ap (λ (ns : List ℕ). get_or ns k 0) link_nets

  link_of_own_table : (k : ℕ) (d : Gate) → k < length c.tables → get_or (links c) k d ≡ link_of_table (get_or c.tables k d)
  link_of_own_table k d inside =
      let long = length-map c.tables link_of_table in
      get_or-left (map link_of_table c.tables) (map link_of_register c.registers) k d (omega arith)
      ∙ get_or-map link_of_table c.tables k d d inside

  link_of_own_register : (i : ℕ) (e : Gate) (d : Register) → i < length c.registers
      → get_or (links c) (length c.tables + i) e ≡ link_of_register (get_or c.registers i d)
  link_of_own_register i e d inside =
      let long = length-map c.tables link_of_table in
      get_or-right (map link_of_table c.tables) (map link_of_register c.registers) i (length c.tables + i) e (omega arith)
      ∙ get_or-map link_of_register c.registers i d e inside

  -- a word stays where the net that changes is not read
  module _ (start : Row) (words : List ℕ) (net v k word : ℕ) (g : Gate) (free : ¬ Contains (get_or (links c) k g).table.inputs net) where
    same_value : (cover : Cover) → ¬ Contains cover.inputs net → (j : ℕ) → value_of cover (turn_row words j) ≡ value_of cover (turn_row (set words net v) j)
    same_value cover apart j =
        value_agrees cover (turn_row words j) (turn_row (set words net v) j)
        (λ i d inside.
        let other : get_or cover.inputs i d ≢ net = (λ e. apart (subst (λ (x : ℕ). Contains cover.inputs x) e (Contains-get_or cover.inputs i d inside))) in
        value_in words j (get_or cover.inputs i d)
        ∙ sym (value_in (set words net v) j (get_or cover.inputs i d)
        ∙ ap (λ (w : ℕ). bit_value (bit_at w j)) (get_or-set_other words net (get_or cover.inputs i d) v 0 other)))

    pub word_stays : IsLinkWord c start words k word → IsLinkWord c start (set words net v) k word
    word_stays is = record {
      table = λ d inside j below.
          let own : get_or (links c) k g ≡ link_of_table (get_or c.tables k g) = link_of_own_table k g inside in
          let same : get_or c.tables k g ≡ get_or c.tables k d = get_or_default c.tables k g d inside in
          let apart : ¬ Contains (get_or c.tables k d).table.inputs net =
          subst (λ (t : Gate). ¬ Contains t.table.inputs net) same (subst (λ (t : Gate). ¬ Contains t.table.inputs net) own free) in
          is.table d inside j below ∙ same_value (get_or c.tables k d).table apart j;
      register = λ i d inside at.
          let own : get_or (links c) k g ≡ link_of_register (get_or c.registers i d) = ap (λ (n : ℕ). get_or (links c) n g) at ∙ link_of_own_register i g d inside in
          let apart : ¬ Contains ((get_or c.registers i d).data_net ∷ []) net = subst (λ (t : Gate). ¬ Contains t.table.inputs net) own free in
          let other : (get_or c.registers i d).data_net ≢ net = (λ e. apart (0, omega arith, e)) in
          let fed : get_or words (get_or c.registers i d).data_net 0 ≡ get_or (set words net v) (get_or c.registers i d).data_net 0 =
          sym (get_or-set_other words net (get_or c.registers i d).data_net v 0 other) in
          let before = is.register i d inside at in
          record { begins = before.begins; later = λ j below. before.later j below ∙ ap (λ (w : ℕ). bit_at w j) fed };
    }

-- links at different places drive different nets
pub nets_differ : (c : Circuit) → IsAccepted c → (j k : ℕ) → j < length c.tables + length c.registers → k < length c.tables + length c.registers → j ≢ k
    → linked_net c j ≢ linked_net c k
nets_differ c accepted j k inside within ne e =
    let once : AllPairs (λ a b. a ≢ b) (table_nets c ++ register_nets c) =
    pairs-right (columns c) (table_nets c ++ register_nets c)
    (subst (λ (ns : List ℕ). AllPairs (λ a b. a ≢ b) ns) (append_assoc (columns c) (table_nets c) (register_nets c)) accepted.one_driver) in
    let long : length (table_nets c ++ register_nets c) ≡ length c.tables + length c.registers =
    length-append (table_nets c) (register_nets c)
    ∙ (let one = length-map c.tables (λ (t : Gate). t.output) in let two = length-map c.registers (λ (r : Register). r.output) in omega arith) in
    elim (cases_lt j k) [
      | inl below ↦ once j k 0 below (omega arith) e
      | inr above ↦ once k j 0 (omega arith) (omega arith) (sym e)
    ]

-- the first links of an order have their words
pub record AreLinkedTo (c : Circuit) (start : Row) (order old words : List ℕ) (n : ℕ) : Type 0 where
  pub size : length words ≡ length old
  pub told : (i : ℕ) → i < n → IsLinkWord c start words (get_or order i 0) (get_or words (linked_net c (get_or order i 0)) 0)
  pub others : LeavesSources c old words

pub linked_none : (c : Circuit) (start : Row) (order old : List ℕ) → AreLinkedTo c start order old old 0
linked_none c start order old = record { size = refl; told = λ i below. absurd (omega arith); others = λ net apart. refl }

module _ (c : Circuit) (accepted : IsAccepted c) (start : Row) (order : List ℕ) (sequence : IsSequence c order) where
  pub place_in : (k : ℕ) → k < length order → get_or order k 0 < length c.tables + length c.registers
  place_in k below = (let at : get_or order k 0 < length (links c) = sequence.places k 0 below in let many = count_links c in omega arith)

  pub linked_more : (old words new : List ℕ) (n : ℕ) → n < length order → linked_net c (get_or order n 0) < length words
      → SetsLink c start (get_or order n 0) words new → AreLinkedTo c start order old words n → AreLinkedTo c start order old new (n + 1)
  linked_more old words new n inside within sets before =
      let here : ℕ = get_or order n 0 in
      let net : ℕ = linked_net c here in
      let g : Gate = record { table = record { inputs = []; rows = []; on = true }; output = 0; line = 0 } in
      let many = count_links c in
      let free : (i : ℕ) → i ≤ n → ¬ Contains (get_or (links c) (get_or order i 0) g).table.inputs net =
      (λ i below. subst (λ (x : ℕ). ¬ Contains (get_or (links c) (get_or order i 0) g).table.inputs x)
      (net_of_link c here g (sequence.places n 0 inside)) (sequence.before i n g below inside)) in
      let put : List ℕ = set words net sets.word in
      let put_here : get_or put net 0 ≡ sets.word = get_or-set_same words net sets.word 0 within in
      let each : (i : ℕ) → i < n + 1 → IsLinkWord c start put (get_or order i 0) (get_or put (linked_net c (get_or order i 0)) 0) =
      (λ i below. elim (cases_eq i n) [
        | inl e ↦
            subst (λ (j : ℕ). IsLinkWord c start put (get_or order j 0) (get_or put (linked_net c (get_or order j 0)) 0)) (sym e)
            (subst (IsLinkWord c start put here) (sym put_here)
            (word_stays c start words net sets.word here sets.word g (free n (omega arith)) sets.is))
        | inr ne ↦
            let lower : i < n = omega arith in
            let apart : linked_net c (get_or order i 0) ≢ net =
            nets_differ c accepted (get_or order i 0) here (place_in i (omega arith)) (place_in n inside) (sequence.once i n 0 lower inside) in
            subst (IsLinkWord c start put (get_or order i 0)) (sym (get_or-set_other words net (linked_net c (get_or order i 0)) sets.word 0 apart))
            (word_stays c start words net sets.word (get_or order i 0) (get_or words (linked_net c (get_or order i 0)) 0) g (free i (omega arith)) (before.told i lower))
      ]) in
      subst (λ (ws : List ℕ). AreLinkedTo c start order old ws (n + 1)) (sym sets.sets) (record {
        size = length-set words net sets.word ∙ before.size;
        told = each;
        others = λ other apart.
            get_or-set_other words net other sets.word 0 (λ e. apart here (place_in n inside) (sym e)) ∙ before.others other apart;
      })

  pub linked_all : (old words : List ℕ) → AreLinkedTo c start order old words (length order) → AreLinked c start words
  linked_all old words done k inside =
      let many = count_links c in
      let (j, below, at) = sequence.all k (omega arith) in
      let place : get_or order j 0 ≡ k = get_or_default order j 0 k below ∙ at in
      subst (λ (p : ℕ). IsLinkWord c start words p (get_or words (linked_net c p) 0)) place (done.told j below)

-- the word of a packed table is that of its link
pub table_set : (c : Circuit) (start : Row) (bank : List Driven) → IsBankOf c.tables bank → (old new : List ℕ) (k word : ℕ) → k < length c.tables
    → new ≡ set old (driven_at bank k).output word → IsPackedWord (driven_at bank k).cover old word → SetsLink c start k old new
table_set c start bank banked old new k word inside is packed =
    let none : Gate = record { table = record { inputs = []; rows = []; on = true }; output = 0; line = 0 } in
    let driven = banked.table k none inside in
    let long = length-map c.tables (λ (t : Gate). t.output) in
    let net : (driven_at bank k).output ≡ linked_net c k =
    driven.drives ∙ sym (get_or-left (table_nets c) (register_nets c) k 0 (omega arith) ∙ get_or-map (λ (t : Gate). t.output) c.tables k none 0 inside) in
    record {
      word = word;
      sets = is ∙ ap (λ (n : ℕ). set old n word) net;
      is = record {
        table = λ d within j below. packed j below ∙ (banked.table k d inside).packs.value (turn_row old j);
        register = λ i d within at. absurd (omega arith);
      };
    }

-- and that of a register
pub register_set : (c : Circuit) (start : Row) (old new : List ℕ) (i word : ℕ) (r : Register) → i < length c.registers → r ≡ get_or c.registers i r
    → new ≡ set old r.output word → IsShifted (value_at start i) (get_or old r.data_net 0) word → SetsLink c start (length c.tables + i) old new
register_set c start old new i word r inside own is shifted =
    let long = length-map c.tables (λ (t : Gate). t.output) in
    let net : r.output ≡ linked_net c (length c.tables + i) =
    ap (λ (s : Register). s.output) own ∙ sym (get_or-right (table_nets c) (register_nets c) i (length c.tables + i) 0 (omega arith)
    ∙ get_or-map (λ (s : Register). s.output) c.registers i r 0 inside) in
    record {
      word = word;
      sets = is ∙ ap (λ (n : ℕ). set old n word) net;
      is = record {
        table = λ d within. absurd (omega arith);
        register = λ j d within at.
            let same : i ≡ j = omega arith in
            let fed : r.data_net ≡ (get_or c.registers j d).data_net =
            ap (λ (s : Register). s.data_net) (own ∙ (get_or_default c.registers i r d inside ∙ ap (λ (n : ℕ). get_or c.registers n d) same)) in
            subst (λ (n : ℕ). IsShifted (value_at start n) (get_or old (get_or c.registers j d).data_net 0) word) same
            (subst (λ (n : ℕ). IsShifted (value_at start i) (get_or old n 0) word) fed shifted);
      };
    }

-- what a link drives is a net
pub net_within : (c : Circuit) → IsInRange c → (k : ℕ) → k < length c.tables + length c.registers → linked_net c k < length c.nets
net_within c range k inside =
    let none : Gate = record { table = record { inputs = []; rows = []; on = true }; output = 0; line = 0 } in
    let many = count_links c in
    let low : k < length (links c) = omega arith in
    subst (λ (n : ℕ). n < length c.nets) (net_of_link c k none low) (links_within c range k none low).1

-- a column is driven by no link
pub column_apart : (c : Circuit) → IsAccepted c → (i : ℕ) → i < length (columns c) → (k : ℕ) → k < length c.tables + length c.registers
    → linked_net c k ≢ get_or (columns c) i 0
column_apart c accepted i low k inside e =
    let pairs : AllPairs (λ a b. a ≢ b) (columns c ++ (table_nets c ++ register_nets c)) =
    subst (λ (ns : List ℕ). AllPairs (λ a b. a ≢ b) ns) (append_assoc (columns c) (table_nets c) (register_nets c)) accepted.one_driver in
    let long : length (table_nets c ++ register_nets c) ≡ length c.tables + length c.registers =
    length-append (table_nets c) (register_nets c)
    ∙ (let one = length-map c.tables (λ (t : Gate). t.output) in let two = length-map c.registers (λ (r : Register). r.output) in omega arith) in
    pairs-between (columns c) (table_nets c ++ register_nets c) pairs (get_or (columns c) i 0) (Contains-get_or (columns c) i 0 low)
    (subst (λ (x : ℕ). Contains (table_nets c ++ register_nets c) x) e (Contains-get_or (table_nets c ++ register_nets c) k 0 (omega arith)))
