use Rattle.std.proofs.Common.{◌≡◌, ap, subst, arith, ℕ, ◌+◌, ◌-◌, ◌*◌, ◌≤◌, ◌<◌, ◌⊎◌, length}
use Rattle.std.specs.Prelude.{max}
use Rattle.std.proofs.lemmas.Grind.{common_steps}
use Rattle.ds_stream.specs.Filling.{Filled}
use Rattle.ds_stream.proofs.FewestBytes.{asks, bytes_in, kept_told, may_ask, one_or}
use Rattle.ds_stream.proofs.filling.Filling.least.Goals as goal

pub returns-clause-before : goal.returns-clause-before
returns-clause-before c = λ n few.
    let f = c.args.self.now in
    let inside = c.self.inside in
    let w : inside.width ≡ f.width = ap (λ (v : Filled). v.width) c.self.view_is in
    let m : inside.missing ≡ f.missing = ap (λ (v : Filled). v.missing) c.self.view_is in
    let had = length inside.line.items in
    let unit = c.saturating_add-unit.result in
    let others = c.saturating_mul-others.result in
    let rest = c.saturating_sub.result in
    let sum = c.saturating_add.result in
    let wide : unit ≤ max f.width 1 + 1 = grind (arith, common_steps) in
    let less_rest : rest ≤ unit - had - 1 = grind (arith, common_steps) in
    let product : others ≤ (inside.missing - 1) * unit = grind (arith, common_steps) in
    let less : others ≤ (f.missing - 1) * unit = subst (λ (k : ℕ). others ≤ (k - 1) * unit) m product in
    let sums : sum ≤ others + rest = grind (arith, common_steps) in
    let least_is : c.max-2.result ≡ max sum 1 = grind (arith, common_steps) in
    may_ask f had n c.requires
    (subst (λ (v : Filled). (bytes_in v.line ≤ had) ⊎ (max v.width 1 < had)) c.self.view_is (kept_told inside.width inside.comment inside.joined inside.line.items c.self.invariant.0.plain c.self.invariant.9))
    (asks f had unit others rest sum n wide less_rest less sums (one_or n sum c.max-2.result few least_is))
