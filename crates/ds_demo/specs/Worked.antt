-- Two registers and three turns of the seed 0, worked by hand, and sums of texts.
use Rattle.std.specs.Prelude.{◌≡◌, ℕ, true, List, [], ◌∷◌, None, Some, codes}
use Rattle.ds_base.specs.declared.value.Value.TheVariants.{Zero, One}
use Rattle.ds_design.specs.declared.design.Net.{Net}
use Rattle.ds_design.specs.declared.design.Gate.{Gate}
use Rattle.ds_design.specs.declared.design.Register.{Register}
use Rattle.ds_design.specs.declared.design.Edge.TheVariants.{Rising}
use Rattle.ds_demo.specs.Demo.{seed_words, demo_design, demo_vectors}
use Rattle.ds_demo.specs.Fold.{fold_of}

-- a net of the main model
abbrev pub main_net : List ℕ → Net
main_net name = record { copy = 0; name = name }

-- a table that drives a net
abbrev pub table : List ℕ → List (List ℕ) → ℕ → Gate
table inputs rows output = record {
  table = record { inputs = inputs; rows = rows; on = true };
  output = output;
  line = 0;
}

-- a register that starts at 0
abbrev pub register : ℕ → ℕ → Register
register data_net output = record {
  data_net = data_net;
  output = output;
  edge = Some Rising;
  control = None;
  initial = 0;
  line = 0;
}

-- the first five words of the seed 0, and what two registers and three turns make of them
pub record SeedZeroIsWorked : Type 0 where
  pub words : seed_words 5 0 ≡ 0xe220a8397b1dcdaf ∷ 0x6e789e6aa1b965f4 ∷ 0x06c45d188009454f
      ∷ 0xf88bb8a8724c81ec ∷ 0x1b39896a51a8749b ∷ []
  pub nets : (demo_design 0 2).nets ≡ main_net (codes "x0") ∷ main_net (codes "x1")
      ∷ main_net (codes "r0")
      ∷ main_net (codes "r1") ∷ main_net (codes "d0") ∷ main_net (codes "d1") ∷ []
  pub outputs : (demo_design 0 2).outputs ≡ 4 ∷ 3 ∷ []
  pub tables : (demo_design 0 2).tables ≡ table (3 ∷ 1 ∷ 1 ∷ []) (codes "101" ∷ []) 4
      ∷ table (0 ∷ 1 ∷ 2 ∷ []) (codes "110" ∷ codes "001" ∷ codes "101" ∷ codes "011" ∷ []) 5 ∷ []
  pub registers : (demo_design 0 2).registers ≡ register 4 2 ∷ register 5 3 ∷ []
  pub vectors : (demo_vectors 0 2 3).rows
      ≡ (One ∷ One ∷ []) ∷ (Zero ∷ Zero ∷ []) ∷ (One ∷ One ∷ []) ∷ []

-- a last line alone, and a trace of three turns
pub record SumsAreWorked : Type 0 where
  pub line : fold_of (codes "end 00\n") ≡ 1347
  pub trace : fold_of (codes "0 00 00\n1 01 01\n2 00 00\nend 01\n") ≡ 23695
