use Rattle.std.proofs.Common.{◌≡◌, ◌∙◌, ap, sym, arith, ℕ, ◌+◌, ◌-◌, ◌++◌, ◌∷◌, [], map, take}
use Rattle.ds_rows.specs.Vector.{value_of_character}
use Rattle.ds_stream.specs.Filling.{Filled, on_text}
use Rattle.ds_stream.proofs.PlainLines.{plain_taken}
use Rattle.ds_stream.proofs.filling.Filling.take_plain.Goals as goal

pub returns-clause-takes : goal.returns-clause-takes
returns-clause-takes c = λ size rest.
    let f = c.args.self.now in
    let row = c.of.result in
    let bytes = c.args.bytes.now in
    let w : c.self.inside.width ≡ f.width = ap (λ (v : Filled). v.width) c.self.view_is in
    let is : row ≡ map value_of_character (take f.width bytes) = c.of.ensures ∙ (c.in_ok-values.ensures ∙ ap (λ (n : ℕ). map value_of_character (take n bytes)) w) in
    ap (λ (g : Filled). on_text g size rest) (c.begin_line.ensures
    ∙ ap (λ (g : Filled). record g { first = g.lines + 1; line = [] }) (c.in_ok-give.ensures
    ∙ ap (λ (g : Filled). record g { rows = g.rows ++ row ∷ []; seen = g.seen + 1; missing = g.missing - 1; behind = record { place = g.place; lines = g.lines } }) c.pass.ensures))
    ∙ (plain_taken f row bytes (f.place + (c.self.inside.width + 1)) size rest c.requires.missing c.requires.plain is (omega (arith, w))
    ∙ ap (λ (n : ℕ). on_text f size (take (n + 1) bytes ++ rest)) (sym w))
