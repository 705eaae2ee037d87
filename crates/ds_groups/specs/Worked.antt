-- Groups of three registers, worked out.
use Rattle.std.specs.Prelude.{◌≡◌, ℕ, List, [], ◌∷◌, codes, Ok, Err, Result}
use Rattle.ds_lines.specs.Line.{lines_of}
use Rattle.ds_lines.specs.declared.at.At.{At}
use Rattle.ds_groups.specs.Read.{groups_of}
use Rattle.ds_groups.specs.declared.fault.GroupKind.{GroupKind}
use Rattle.ds_groups.specs.declared.fault.GroupKind.TheVariants.{UnknownRegister, RepeatedRegister}

-- two bits of a bus, and a register between them
abbrev pub three : List (List ℕ)
three = codes "q[0]" ∷ codes "r" ∷ codes "q[1]" ∷ []

-- what a text says of them
abbrev pub of_three : List ℕ → Result (List (List ℕ)) (At GroupKind)
of_three text = groups_of three (lines_of text)

-- groups by names and by patterns, and the first faults
pub record GroupsAreWorked : Type 0 where
  pub named : of_three (codes "r q[1]") ≡ Ok ((1 ∷ 2 ∷ []) ∷ [])
  pub matched : of_three (codes "q*") ≡ Ok ((0 ∷ 2 ∷ []) ∷ [])
  pub rest : of_three (codes "q[0]\n*") ≡ Ok ((0 ∷ []) ∷ (1 ∷ 2 ∷ []) ∷ [])
  pub twice : of_three (codes "r\nr")
      ≡ Err (record { line = 2; kind = RepeatedRegister (codes "r") })
  pub unknown : of_three (codes "x*")
      ≡ Err (record { line = 1; kind = UnknownRegister (codes "x*") })
  pub joined : of_three (codes "q[0] # one\n# two\nq[1] \\\nr") ≡ Ok ((0 ∷ []) ∷ (1 ∷ 2 ∷ []) ∷ [])
