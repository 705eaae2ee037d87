-- The text of an arc's ends.
use Rattle.std.proofs.Common.{◌≡◌, ◌∙◌, ℕ, ◌<◌, List, [], ◌++◌, length, get_or, codes, Option, Some, refl, ap, sym}
use Rattle.std.specs.Prelude.{slice_get}
use Rattle.std.specs.Option.{option_map_or}
use Rattle.std.proofs.lemmas.List.{append_assoc}
use Rattle.std.proofs.lemmas.Option.{slice_get_read}
use Rattle.ds_marked.specs.Graph.{Graph}
use Rattle.ds_marked.specs.declared.marked.Arc.{Arc}
use Rattle.ds_marked.specs.Log.{text_of_event}
use Rattle.ds_stage.specs.ReplayStage.{ends_text}

pub ends_are : (g : Graph) (arcs : List Arc) (text one mid last : List ℕ) (arc k : ℕ) (a : Arc) → arcs ≡ g.arcs → k ≡ arc → k < length arcs → a ≡ get_or arcs k a
    → one ≡ text ++ text_of_event g a.source → mid ≡ one ++ codes " to " → last ≡ mid ++ text_of_event g a.target
    → last ≡ text ++ option_map_or (ends_text g) (slice_get g.arcs arc) []
ends_are g arcs text one mid last arc k a are same inside at source between target =
    let found : slice_get g.arcs arc ≡ Some a =
    ap (λ (xs : List Arc). slice_get xs arc) (sym are) ∙ (ap (λ (n : ℕ). slice_get arcs n) (sym same) ∙ slice_get_read arcs (length arcs) k a refl inside at) in
    let here : text ++ (text_of_event g a.source ++ codes " to " ++ text_of_event g a.target) ≡ text ++ option_map_or (ends_text g) (slice_get g.arcs arc) [] =
    ap (λ (o : Option Arc). text ++ option_map_or (ends_text g) o []) (sym found) in
    let src : List ℕ = text_of_event g a.source in
    let tgt : List ℕ = text_of_event g a.target in
    target
    ∙ (ap (λ (t : List ℕ). t ++ tgt) (between ∙ ap (λ (t : List ℕ). t ++ codes " to ") source)
    ∙ (ap (λ (t : List ℕ). t ++ tgt) (append_assoc text src (codes " to "))
    ∙ (append_assoc text (src ++ codes " to ") tgt ∙ here)))
