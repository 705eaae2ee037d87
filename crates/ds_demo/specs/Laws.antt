-- What follows from the definitions.
use Rattle.std.specs.Prelude.{◌≡◌, ℕ, ◌+◌, ◌*◌, ◌≤◌, List, [], ◌∷◌, ◌++◌, length}
use Rattle.std.specs.Int.{bit_at}
use Rattle.ds_base.specs.Limit.{most_of}
use Rattle.ds_base.specs.declared.number.Limit.TheVariants.{Vectors}
use Rattle.ds_base.specs.Values.{Row}
use Rattle.ds_cover.specs.Cover.{values_at, value_of}
use Rattle.ds_design.specs.Accepted.{IsAccepted}
use Rattle.ds_design.specs.Circuit.{columns}
use Rattle.ds_design.specs.InRange.{IsInRange}
use Rattle.ds_design.specs.Rows.{AreVectors}
use Rattle.ds_demo.specs.Demo.{demo_design, demo_vectors, inputs_of, function_of, cover_of}
use Rattle.ds_demo.specs.Demo.{demo_bit_value}
use Rattle.ds_demo.specs.Fold.{Folded, nothing, fold_after, fold_of}

-- the design has a meaning
abbrev pub DesignIsAccepted : Type 0
DesignIsAccepted = (seed registers : ℕ) → 1 ≤ registers → IsAccepted (demo_design seed registers)

-- its numbers name what is there
abbrev pub DesignIsInRange : Type 0
DesignIsInRange = (seed registers : ℕ) → 1 ≤ registers → registers ≤ 4096
    → IsInRange (demo_design seed registers)

-- where the nets that the table of a word reads have the values of three bits, it has the value of
-- the bit of its function whose number they spell, the first bit the lowest
abbrev pub TableIsItsFunction : Type 0
TableIsItsFunction = (registers word first second third : ℕ) (nets : Row)
    → first ≤ 1 → second ≤ 1 → third ≤ 1
    → values_at nets (inputs_of registers word)
    ≡ demo_bit_value first ∷ demo_bit_value second ∷ demo_bit_value third ∷ []
    → value_of (cover_of registers word) nets
    ≡ demo_bit_value (bit_at (function_of word) (first + 2 * second + 4 * third))

-- its columns are the first two nets
abbrev pub TwoColumns : Type 0
TwoColumns = (seed registers : ℕ) → columns (demo_design seed registers) ≡ 0 ∷ 1 ∷ []

-- the vectors are as wide as the columns, one a turn
pub record FitsColumns (seed registers turns : ℕ) : Type 0 where
  pub vectors : AreVectors (demo_vectors seed registers turns)
  pub one_a_turn : length (demo_vectors seed registers turns).rows ≡ turns
  pub width : (demo_vectors seed registers turns).width
      ≡ length (columns (demo_design seed registers))

-- the vectors fit the design
abbrev pub VectorsFit : Type 0
VectorsFit = (seed registers turns : ℕ) → turns ≤ most_of Vectors
    → FitsColumns seed registers turns

-- what is added in two pieces is added as one
abbrev pub FoldInPieces : Type 0
FoldInPieces = (f : Folded) (first second : List ℕ)
    → fold_after (fold_after f first) second ≡ fold_after f (first ++ second)

-- the sum after a text is that of the text
abbrev pub FoldOfText : Type 0
FoldOfText = (text : List ℕ) → (fold_after nothing text).sum ≡ fold_of text
