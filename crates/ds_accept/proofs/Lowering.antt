-- Sums that are lowered, one step behind another.
use Rattle.std.proofs.Common.{◌∙◌, ℕ, List, Bool, Option}
use Rattle.std.specs.Prelude.{Contains}
use Rattle.std.proofs.lemmas.List.Elements.{All-contains}
use Rattle.ds_marked.specs.declared.marked.Arc.{Arc}
use Rattle.ds_accept.specs.Lowered.{AreLowered, IsLowering}

module _ (known : List Arc) where
  pub lowered_both : (old mid new : List (Option ℕ)) → AreLowered known old mid → AreLowered known mid new → AreLowered known old new
  lowered_both old mid new s t = record {
    size = t.size ∙ s.size;
    bounded = t.bounded;
    walks = λ arcs from all w. t.walks arcs from all (s.walks arcs from all w);
    start = λ from e. t.start from (s.start from e);
  }

  -- one arc of these
  pub lowered_by : (arc : Arc) (low : List (Option ℕ) → Type 0) (old new : List (Option ℕ)) (changed : Bool) → Contains known arc
      → ((arcs : List Arc) → Contains arcs arc → IsLowering arcs low old new changed) → AreLowered known old new
  lowered_by arc low old new changed at step = record {
    size = (step known at).size;
    bounded = (step known at).bounded;
    walks = λ arcs from all w. (step arcs (All-contains (Contains arcs) known arc all at)).walks from w;
    start = λ from e. (step known at).start from e;
  }
