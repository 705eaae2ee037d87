-- The slots of a split design, of which no two share a net.
use Rattle.std.proofs.Common.{◌≡◌, ◌≢◌, ◌∙◌, ◌⊎◌, ℕ, zero, suc, ◌+◌, ◌-◌, ◌<◌, List, [], ◌∷◌, ◌++◌, length, get_or, map, refl, sym, ap, subst, arith, inl, inr, length-append}
use Rattle.std.specs.Prelude.{AllPairs, Contains}
use Rattle.std.specs.List.{flat_map, range_with_len}
use Rattle.std.proofs.lemmas.Bool.{cases_eq, cases_lt}
use Rattle.std.proofs.lemmas.List.{get_or-append-add, get_or-map, get_or_append_left, get_or_past, length-map}
use Rattle.std.proofs.lemmas.List.Elements.{Contains-append_left, Contains-append_right, Contains-get_or}
use Rattle.std.proofs.lemmas.List.FromFn.{get_or-map-range_with_len, length-map-range_with_len}
use Rattle.ds_base.proofs.ListLemmas.{Any-from_map}
use Rattle.ds_base.proofs.AppendedPairs.{pairs-between, pairs-left, pairs-right}
use Rattle.ds_design.specs.Circuit.{Circuit, columns, register_nets}
use Rattle.ds_design.specs.Levels.{table_nets}
use Rattle.ds_opening.specs.Groups.{AreGroupsOf, Grouping, group_of}
use Rattle.ds_latch.specs.Node.{Split, IsNode, members, nets_of, nodes, number_of}
use Rattle.ds_latch.specs.declared.node.Node.{Node}
use Rattle.ds_latch.specs.declared.node.Node.TheVariants.{In, Out, Master, Slave}
use Rattle.ds_latch.proofs.OrderTokens.{number_below}
use Rattle.ds_latch.specs.Order.{IsSource}
use Rattle.ds_latch.specs.Plan.{IsSplit}
use Rattle.ds_settle.specs.Cone.{Parts as Cone, net_of, nets_of_tables}
use Rattle.ds_settle.proofs.CircuitTables.{net_driven, same_table}
use Rattle.ds_opening.specs.Foreseen.{node_at}
use Rattle.ds_opening.specs.Noted.{AreSlotsApart, learnt_nets, slots_of}
use Rattle.ds_opening.proofs.ForeseenRows.{node_by_number, one_number}

nothing : (x : ℕ) → ¬ Contains [] x
nothing x (k, inside, is) = absurd (let h : k < 0 = inside in omega (h, arith))

-- a number stands at one place of a list without repeats
one_place : (these : List ℕ) → AllPairs (λ a b. a ≢ b) these → (j k : ℕ) → j < length these → k < length these
    → get_or these j 0 ≡ get_or these k 0 → j ≡ k
one_place these once j k inside within e =
    elim (cases_eq j k) [
      | inl same ↦ same
      | inr ne ↦ absurd (elim (cases_lt j k) [
        | inl below ↦ once j k 0 below within e
        | inr above ↦ once k j 0 (omega (above, ne, arith)) inside (sym e)
      ])
    ]

abbrev flat : List (List ℕ) → List ℕ
flat clusters = flat_map (λ registers. registers) clusters

in_flat : (clusters : List (List ℕ)) (i r : ℕ) → i < length clusters → Contains (get_or clusters i []) r → Contains (flat clusters) r
in_flat [] i r inside has = absurd (omega (inside, arith))
in_flat (c ∷ cs) zero r inside has = Contains-append_left c (flat cs) r has
in_flat (c ∷ cs) (suc i) r inside has = Contains-append_right c (flat cs) r (in_flat cs i r (omega (inside, arith)) has)

one_cluster : (clusters : List (List ℕ)) → AllPairs (λ a b. a ≢ b) (flat clusters) → (d i r : ℕ) → d < length clusters → i < length clusters
    → Contains (get_or clusters d []) r → Contains (get_or clusters i []) r → d ≡ i
one_cluster [] once d i r low inside one two = absurd (omega (low, arith))
one_cluster (c ∷ cs) once zero zero r low inside one two = refl
one_cluster (c ∷ cs) once zero (suc i) r low inside one two = absurd (pairs-between c (flat cs) once r one (in_flat cs i r (omega (inside, arith)) two))
one_cluster (c ∷ cs) once (suc d) zero r low inside one two = absurd (pairs-between c (flat cs) once r two (in_flat cs d r (omega (low, arith)) one))
one_cluster (c ∷ cs) once (suc d) (suc i) r low inside one two = ap suc (one_cluster cs (pairs-right c (flat cs) once) d i r (omega (low, arith)) (omega (inside, arith)) one two)

module _ (s : Split) (split : IsSplit s) where
  abbrev c : Circuit
  c = s.circuit

  not_both : (net : ℕ) → Contains (columns c) net → ¬ Contains (register_nets c) net
  not_both net column register =
      pairs-between (columns c ++ table_nets c) (register_nets c) split.accepted.one_driver net
      (Contains-append_left (columns c) (table_nets c) net column) register

  -- a register of a cluster that drives a net
  record Register (i net : ℕ) : Type 0 where
    place : ℕ
    inside : i < length s.clusters
    has : Contains (members s i) place
    low : place < length (register_nets c)
    is : get_or (register_nets c) place 0 ≡ net

  cluster_there : (i net : ℕ) → Contains (nets_of s (Slave i)) net → i < length s.clusters
  cluster_there i net has = elim (cases_lt i (length s.clusters)) [
    | inl inside ↦ inside
    | inr past ↦
        (let none : members s i ≡ [] = get_or_past s.clusters i [] past in
        absurd (nothing net (subst (λ (rs : List ℕ). Contains (map (λ r. get_or (register_nets c) r 0) rs) net) none has)))
  ]

  register_of : (i net : ℕ) → Contains (nets_of s (Slave i)) net → Register i net
  register_of i net has =
      let inside : i < length s.clusters = cluster_there i net has in
      let (j, r, at, is_r, e) = Any-from_map (λ r. get_or (register_nets c) r 0) (members s i) net has in
      let near : r < length c.registers = subst (λ (n : ℕ). n < length c.registers) is_r (split.within i [] inside j r at) in
      let size : length (register_nets c) ≡ length c.registers = length-map c.registers (λ r. r.output) in
      record {
        place = r;
        inside = inside;
        has = (j, at, is_r);
        low = omega (near, size, arith);
        is = e;
      }

  slave_register : (i net : ℕ) → Contains (nets_of s (Slave i)) net → Contains (register_nets c) net
  slave_register i net has =
      let r : Register i net = register_of i net has in
      subst (Contains (register_nets c)) r.is (Contains-get_or (register_nets c) r.place 0 r.low)

  same_slave : (i j net : ℕ) → Contains (nets_of s (Slave i)) net → Contains (nets_of s (Slave j)) net → i ≡ j
  same_slave i j net one two =
      let r : Register i net = register_of i net one in
      let q : Register j net = register_of j net two in
      let once : AllPairs (λ a b. a ≢ b) (register_nets c) =
      pairs-right (columns c ++ table_nets c) (register_nets c) split.accepted.one_driver in
      let same : r.place ≡ q.place = one_place (register_nets c) once r.place q.place r.low q.low (r.is ∙ sym q.is) in
      one_cluster s.clusters split.once i j q.place r.inside q.inside
      (subst (Contains (members s i)) same r.has) q.has

  -- a net is learnt of one node
  same_source : (p q : Node) (net : ℕ) → Contains (learnt_nets s p) net → Contains (learnt_nets s q) net → p ≡ q
  same_source In In net one two = refl
  same_source In Out net one two = absurd (nothing net two)
  same_source In (Master j) net one two = absurd (nothing net two)
  same_source In (Slave j) net one two = absurd (not_both net one (slave_register j net two))
  same_source Out q net one two = absurd (nothing net one)
  same_source (Master i) q net one two = absurd (nothing net one)
  same_source (Slave i) In net one two = absurd (not_both net two (slave_register i net one))
  same_source (Slave i) Out net one two = absurd (nothing net two)
  same_source (Slave i) (Master j) net one two = absurd (nothing net two)
  same_source (Slave i) (Slave j) net one two = ap Slave (same_slave i j net one two)

  -- what is learnt is driven by no table
  source_free : (p : Node) (net : ℕ) → Contains (learnt_nets s p) net → ¬ Contains (table_nets c) net
  source_free In net has driven =
      pairs-between (columns c) (table_nets c)
      (pairs-left (columns c ++ table_nets c) (register_nets c) split.accepted.one_driver) net has driven
  source_free Out net has driven = absurd (nothing net has)
  source_free (Master i) net has driven = absurd (nothing net has)
  source_free (Slave i) net has driven =
      pairs-between (columns c ++ table_nets c) (register_nets c) split.accepted.one_driver net
      (Contains-append_right (columns c) (table_nets c) net driven) (slave_register i net has)

  -- the nets that are learnt of the node with a number
  abbrev source_nets : ℕ → List ℕ
  source_nets number = learnt_nets s (node_at number)

  module _ (g : Grouping) where
    abbrev fronts : List (List ℕ)
    fronts = map (nets_of_tables c) g.groups

    abbrev backs : List (List ℕ)
    backs = map source_nets (range_with_len 0 (nodes s))

    fronts_long : length fronts ≡ length g.groups
    fronts_long = length-map g.groups (nets_of_tables c)

    backs_long : length backs ≡ nodes s
    backs_long = length-map-range_with_len source_nets 0 (nodes s)

    pub slots_long : length (slots_of s g) ≡ length g.groups + nodes s
    slots_long =
        (let sum : length (slots_of s g) ≡ length fronts + length backs = length-append fronts backs in
        omega (sum, fronts_long, backs_long, arith))

    pub slot_of_group : (a : ℕ) → a < length g.groups → get_or (slots_of s g) a [] ≡ nets_of_tables c (group_of g a)
    slot_of_group a low =
        get_or_append_left fronts backs [] a (omega (low, fronts_long, arith))
        ∙ get_or-map (nets_of_tables c) g.groups a [] [] low

    slot_at : (i : ℕ) → i < nodes s → get_or (slots_of s g) (length g.groups + i) [] ≡ source_nets i
    slot_at i low =
        ap (λ (n : ℕ). get_or (slots_of s g) (n + i) []) (sym fronts_long)
        ∙ (get_or-append-add fronts backs i []
        ∙ get_or-map-range_with_len source_nets 0 (nodes s) i i [] low (omega arith))

    -- the slot of a node, by its number
    slot_of_node : (p : Node) → IsNode s p
        → get_or (slots_of s g) (length g.groups + number_of p) [] ≡ learnt_nets s p
    slot_of_node p is_node =
        slot_at (number_of p) (number_below s p is_node) ∙ ap (learnt_nets s) (node_by_number p)

    -- that of IN or a slave
    pub slot_of_source : (p : Node) → IsNode s p → IsSource p
        → get_or (slots_of s g) (length g.groups + number_of p) [] ≡ nets_of s p
    slot_of_source In is_node source = slot_of_node In is_node
    slot_of_source Out is_node source = absurd source
    slot_of_source (Master i) is_node source = absurd source
    slot_of_source (Slave i) is_node source = slot_of_node (Slave i) is_node

    module _ (cones : List Cone) (are : AreGroupsOf c cones g) where
      -- the slot of a net: a group's, or that of IN or a slave
      record InGroup (a net : ℕ) : Type 0 where
        table : ℕ
        has : Contains (group_of g a) table
        low : table < length c.tables
        is : net_of c table ≡ net

      record InSource (a net : ℕ) : Type 0 where
        place : ℕ
        is : a ≡ length g.groups + place
        has : Contains (source_nets place) net

      in_slot : (a net : ℕ) → Contains (get_or (slots_of s g) a []) net → InGroup a net ⊎ InSource a net
      in_slot a net has = elim (cases_lt a (length g.groups)) [
        | inl low ↦
            (let (j, k, at, is, e) = Any-from_map (net_of c) (group_of g a) net
            (subst (λ (xs : List ℕ). Contains xs net) (slot_of_group a low) has) in
            inl (record {
              table = k;
              has = (j, at, is);
              low = subst (λ (n : ℕ). n < length c.tables) is (are.within a j k at);
              is = e;
            }))
        | inr past ↦
            (let l : ℕ = a - length g.groups in
            let a_is : a ≡ length g.groups + l = omega (past, arith) in
            elim (cases_lt l (nodes s)) [
              | inl near ↦ inr (record {
                place = l;
                is = a_is;
                has = subst (λ (xs : List ℕ). Contains xs net)
                    (ap (λ (n : ℕ). get_or (slots_of s g) n []) a_is ∙ slot_at l near) has;
              })
              | inr far ↦
                  absurd (nothing net (subst (λ (xs : List ℕ). Contains xs net)
                  (get_or_past (slots_of s g) a [] (omega (a_is, far, slots_long, arith))) has))
            ])
      ]

      apart_in : (a b net : ℕ) → InGroup a net ⊎ InSource a net → InGroup b net ⊎ InSource b net → a ≡ b
      apart_in a b net (inl p) (inl q) =
          let same : p.table ≡ q.table = same_table c split.accepted p.table q.table p.low q.low (p.is ∙ sym q.is) in
          are.distinct a b q.table (subst (Contains (group_of g a)) same p.has) q.has
      apart_in a b net (inl p) (inr q) =
          absurd (source_free (node_at q.place) net q.has (subst (Contains (table_nets c)) p.is (net_driven c p.table p.low)))
      apart_in a b net (inr p) (inl q) =
          absurd (source_free (node_at p.place) net p.has (subst (Contains (table_nets c)) q.is (net_driven c q.table q.low)))
      apart_in a b net (inr p) (inr q) =
          p.is ∙ (ap (λ (n : ℕ). length g.groups + n) (one_number p.place q.place (same_source (node_at p.place) (node_at q.place) net p.has q.has)) ∙ sym q.is)

      pub slots_apart : AreSlotsApart (slots_of s g)
      slots_apart a b net one two = apart_in a b net (in_slot a net one) (in_slot b net two)
