use Rattle.std.proofs.Common.{◌∙◌, ℕ, Bool, true, List, ap, map, ◌==◌}
use Rattle.std.proofs.Math.ListN.{set}
use Rattle.std.proofs.lemmas.List.{map-set}
use Rattle.ds_settle.proofs.Stamps.{same_stamp}
use Rattle.ds_settle.proofs.marks.Marks.mark.Goals as goal

pub returns : goal.returns
returns c =
    let stamp : ℕ = c.self.inside.stamp in
    let marks : List ℕ = c.self.inside.marks.items in
    map-set (λ mark. mark == stamp) marks c.index.result stamp
    ∙ (ap (λ (b : Bool). set (map (λ mark. mark == stamp) marks) c.index.result b) (same_stamp stamp)
    ∙ (ap (λ (n : ℕ). set (map (λ mark. mark == stamp) marks) n true) c.index.ensures
    ∙ ap (λ (bs : List Bool). set bs c.args.net true) c.self.view_is))
