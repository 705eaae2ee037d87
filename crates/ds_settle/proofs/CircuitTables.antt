-- The tables of a circuit, and the nets that they drive.
use Rattle.std.proofs.Common.{◌≡◌, ◌≢◌, ◌∙◌, ℕ, ◌<◌, ◌++◌, length, get_or, sym, arith, inl, inr}
use Rattle.std.specs.Prelude.{AllPairs, Contains}
use Rattle.std.proofs.lemmas.Bool.{cases_lt}
use Rattle.std.proofs.lemmas.List.{get_or_default, get_or-map, length-map}
use Rattle.ds_base.proofs.AppendedPairs.{pairs-left, pairs-right}
use Rattle.ds_design.specs.Accepted.{IsAccepted}
use Rattle.ds_design.specs.Circuit.{Circuit, columns, register_nets}
use Rattle.ds_design.specs.Levels.{table_nets}
use Rattle.ds_design.specs.declared.design.Gate.{Gate}
use Rattle.ds_settle.specs.Cone.{net_of}

module _ (c : Circuit) where
  pub nets_long : length (table_nets c) ≡ length c.tables
  nets_long = length-map c.tables (λ (t : Gate). t.output)

  -- the net of a table is its output
  pub net_is : (k : ℕ) (d : Gate) → k < length c.tables → net_of c k ≡ (get_or c.tables k d).output
  net_is k d inside = get_or-map (λ (t : Gate). t.output) c.tables k d 0 inside

  pub net_driven : (k : ℕ) → k < length c.tables → Contains (table_nets c) (net_of c k)
  net_driven k inside = let long = nets_long in (k, omega arith, get_or_default (table_nets c) k _ 0 (omega arith))

  -- what tables drive, some table drives
  pub driver_of : (net : ℕ) → Contains (table_nets c) net → (k : ℕ) × (k < length c.tables) × (net_of c k ≡ net)
  driver_of net (k, inside, is) = let long = nets_long in (k, omega arith, get_or_default (table_nets c) k 0 net inside ∙ is)

  -- tables that drive one net are one
  pub same_table : IsAccepted c → (j k : ℕ) → j < length c.tables → k < length c.tables → net_of c j ≡ net_of c k → j ≡ k
  same_table accepted j k low high same =
      let long = nets_long in
      let once : AllPairs (λ a b. a ≢ b) (table_nets c) =
      pairs-right (columns c) (table_nets c) (pairs-left (columns c ++ table_nets c) (register_nets c) accepted.one_driver) in
      elim (cases_lt j k) [
        | inl below ↦ absurd (once j k 0 below (omega arith) same)
        | inr above ↦ elim (cases_lt k j) [
          | inl lower ↦ absurd (once k j 0 lower (omega arith) (sym same))
          | inr least ↦ omega arith
        ]
      ]
