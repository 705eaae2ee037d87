-- The text of a period, line by line.
use Rattle.std.proofs.Common.{◌≡◌, ◌∙◌, ◌+◌, ◌++◌, ℕ, List, ap, sym}
use Rattle.std.specs.Prelude.{slice_index}
use Rattle.std.proofs.lemmas.List.{append_assoc}
use Rattle.ds_control.proofs.TwoForEach.{flat_map_next}
use Rattle.ds_marked.specs.Graph.{Graph}
use Rattle.ds_stage.specs.PeriodStage.{potential_line, potential_lines}

-- the line of one event more
pub one_line_more : (g : Graph) (potentials : List ℕ) (v event : ℕ) (start before after : List ℕ)
    → before ≡ start ++ potential_lines g potentials v → event ≡ v
    → after ≡ before ++ potential_line g event (slice_index potentials v)
    → after ≡ start ++ potential_lines g potentials (v + 1)
one_line_more g potentials v event start before after so_far same more =
    let line : List ℕ = potential_line g v (slice_index potentials v) in
    more ∙ (ap (λ (e : ℕ). before ++ potential_line g e (slice_index potentials v)) same
    ∙ (ap (λ (t : List ℕ). t ++ line) so_far
    ∙ (append_assoc start (potential_lines g potentials v) line
    ∙ ap (λ (t : List ℕ). start ++ t)
    (sym (flat_map_next (λ w. potential_line g w (slice_index potentials w)) v)))))
