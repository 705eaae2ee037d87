-- The homes of nets, and of the sources of cones.
use Rattle.std.proofs.Common.{◌≡◌, ◌∙◌, ℕ, ◌<◌, List, [], ◌++◌, length, get_or, inl, inr, arith, sym, subst}
use Rattle.std.specs.Prelude.{All, Contains}
use Rattle.std.proofs.lemmas.List.{length-map, get_or_default}
use Rattle.std.proofs.lemmas.List.Elements.{All-contains, Contains-append_cases}
use Rattle.ds_base.proofs.ListLemmas.{Contains-map}
use Rattle.ds_design.specs.Circuit.{columns, register_nets, used}
use Rattle.ds_latch.specs.Node.{Split, IsNode, number_of, members, nets_of}
use Rattle.ds_latch.specs.declared.node.Node.{Node}
use Rattle.ds_latch.specs.declared.node.Node.TheVariants.{In, Out, Master, Slave}
use Rattle.ds_latch.specs.Order.{IsSource}
use Rattle.ds_latch.specs.Plan.{IsSplit}
use Rattle.ds_design.specs.declared.design.Register.{Register}
use Rattle.ds_settle.specs.Cone.{IsCone, Parts}
use Rattle.ds_settle.proofs.ConeReach.{sources_known}
use Rattle.ds_split.specs.Settled.{IsSettling}
use Rattle.ds_split.proofs.SettlesNextValue.{settling_used}
use Rattle.ds_fire.specs.Feeds.{AreSourceNetsHoused, AreSourceHomes, IsSourceHome, IsNetOfNode, IsSourceNetPlacedOrKept, home_of}
use Rattle.ds_fire.specs.declared.homes.NetHome.{NetHome}

-- the nets of a source that were placed have their homes
pub housed_here : (s : Split) (p : Node) → IsSource p → IsNode s p → (bits : List ℕ) → bits ≡ nets_of s p → (node : ℕ) → node ≡ number_of p → (homes : List NetHome) → All (λ net. IsNetOfNode bits node net (home_of homes net)) bits → AreSourceNetsHoused s homes p
housed_here s p source is_p bits are node is homes placed k d inside =
    let all : All (λ net. IsNetOfNode (nets_of s p) (number_of p) net (home_of homes net)) (nets_of s p) =
    subst (λ (n : ℕ). All (λ net. IsNetOfNode (nets_of s p) n net (home_of homes net)) (nets_of s p)) is
    (subst (λ (bs : List ℕ). All (λ net. IsNetOfNode bs node net (home_of homes net)) bs) are placed) in
    (p, source, is_p, all k d inside)

-- those of others keep theirs, or have a new one
pub housed_kept : (s : Split) (p : Node) → IsSource p → IsNode s p → (bits : List ℕ) → bits ≡ nets_of s p → (node : ℕ) → node ≡ number_of p → (old new : List NetHome) → ((net : ℕ) → IsSourceNetPlacedOrKept bits node net (home_of old net) (home_of new net)) → (q : Node) → AreSourceNetsHoused s old q → AreSourceNetsHoused s new q
housed_kept s p source is_p bits are node is old new kept q housed k d inside =
    let net : ℕ = get_or (nets_of s q) k d in
    elim (kept net) [
      | inl same ↦ subst (IsSourceHome s net) (sym same) (housed k d inside)
      | inr placed ↦ (p, source, is_p, subst (λ (n : ℕ). IsNetOfNode (nets_of s p) n net (home_of new net)) is (subst (λ (bs : List ℕ). IsNetOfNode bs node net (home_of new net)) are placed))
    ]

-- a column or a net of a register has its home
known_home : (s : Split) → IsSplit s → (homes : List NetHome) → AreSourceHomes s homes → (net : ℕ) → Contains (columns s.circuit ++ register_nets s.circuit) net → IsSourceHome s net (home_of homes net)
known_home s split homes are net known =
    elim (Contains-append_cases (columns s.circuit) (register_nets s.circuit) net known) [
      | inl column ↦ All-contains (λ n. IsSourceHome s n (home_of homes n)) (columns s.circuit) net (are.each In tt tt) column
      | inr register ↦
          (let (r, in_range, is_r) = register in
          let is_register : r < length s.circuit.registers = (let n : length (register_nets s.circuit) ≡ length s.circuit.registers = length-map s.circuit.registers (λ (r : Register). r.output) in omega arith) in
          let (d, cluster, inside, is, in_cluster) = split.covered r is_register in
          let at : cluster ≡ members s d = sym is ∙ get_or_default s.clusters d cluster [] inside in
          let in_members : Contains (members s d) r = subst (λ (rs : List ℕ). Contains rs r) at in_cluster in
          let net_of : get_or (register_nets s.circuit) r 0 ≡ net = get_or_default (register_nets s.circuit) r 0 net in_range ∙ is_r in
          let in_slave : Contains (nets_of s (Slave d)) net = subst (λ (net : ℕ). Contains (nets_of s (Slave d)) net) net_of (Contains-map (λ r. get_or (register_nets s.circuit) r 0) (members s d) r in_members) in
          All-contains (λ n. IsSourceHome s n (home_of homes n)) (nets_of s (Slave d)) net (are.each (Slave d) tt inside) in_slave)
    ]

-- each source of the cone of a node that settles has its home
pub source_homes : (s : Split) → IsSplit s → (n : Node) → IsNode s n → IsSettling n → (homes : List NetHome) → AreSourceHomes s homes → (cone : Parts) → IsCone s.circuit (nets_of s n) cone → All (λ net. IsSourceHome s net (home_of homes net)) cone.sources
source_homes s split n is_node settling homes are cone is_cone k d inside =
    known_home s split homes are (get_or cone.sources k d) (sources_known s.circuit split.accepted (nets_of s n) cone is_cone (settling_used s split n is_node settling) k d inside)

housed_each : (s : Split) (homes : List NetHome) → AreSourceNetsHoused s homes In → ((j : ℕ) → j < length s.clusters → AreSourceNetsHoused s homes (Slave j)) → (p : Node) → IsSource p → IsNode s p → AreSourceNetsHoused s homes p
housed_each s homes first slaves In source is_p = first
housed_each s homes first slaves Out source is_p = absurd source
housed_each s homes first slaves (Master i) source is_p = absurd source
housed_each s homes first slaves (Slave i) source is_p = slaves i is_p

pub homes_from : (s : Split) (homes : List NetHome) → length homes ≡ length s.circuit.nets → AreSourceNetsHoused s homes In → ((j : ℕ) → j < length s.clusters → AreSourceNetsHoused s homes (Slave j)) → AreSourceHomes s homes
homes_from s homes long first slaves = record { one_each = long; each = housed_each s homes first slaves }
