-- The cone of each node that settles.
use Rattle.std.specs.Prelude.{◌≡◌, ℕ, ◌+◌, List, [], ◌∷◌, ◌++◌, length, slice_index_or}
use Rattle.ds_latch.specs.Node.{Split, IsNode, number_of, nets_of}
use Rattle.ds_latch.specs.declared.node.Node.{Node}
use Rattle.ds_latch.specs.declared.node.Node.TheVariants.{In, Out, Master, Slave}
use Rattle.ds_settle.specs.Cone.{IsCone, Parts as Cone}
use Rattle.ds_split.specs.Settled.{IsSettling}

-- a node that settles has this number
pub record IsSettlingAt (s : Split) (n : Node) (number : ℕ) : Type 0 where
  pub node : IsNode s n
  pub settling : IsSettling n
  pub is : number_of n ≡ number

-- the cone of the node with this number, where it settles
abbrev pub IsConeAt : Split → ℕ → Cone → Type 0
IsConeAt s number cone = (n : Node) → IsSettlingAt s n number → IsCone s.circuit (nets_of s n) cone

-- with the cone of the node with this number at the end
abbrev pub HasConeMore : Split → ℕ → List Cone → List Cone → Type 0
HasConeMore s number old new = (cone : Cone) × IsConeAt s number cone × (new ≡ old ++ cone ∷ [])

-- the place of the cone of a node that settles: OUT, M0, M1, ..
abbrev pub cone_place : Node → ℕ
cone_place In = 0
cone_place Out = 0
cone_place (Master i) = i + 1
cone_place (Slave i) = 0

-- a cone for each node that settles
pub record AreCones (s : Split) (cones : List Cone) : Type 0 where
  pub one_each : length cones ≡ length s.clusters + 1
  pub each : (n : Node) → IsNode s n → IsSettling n → (d : Cone)
      → IsCone s.circuit (nets_of s n) (slice_index_or cones (cone_place n) d)
