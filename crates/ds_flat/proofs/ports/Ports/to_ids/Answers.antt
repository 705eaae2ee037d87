use Rattle.std.proofs.Common.{◌≡◌, ◌≢◌, ◌∙◌, ℕ, List, AllPairs, subst, sym}
use Rattle.std.proofs.lemmas.Bool.Decides.{Decides-eqb}
use Rattle.std.proofs.lemmas.List.{take_all}
use Rattle.std.proofs.lemmas.Map.Made.{AllPairs-from_IsDistinct}
use Rattle.ds_flat.proofs.ports.Ports.to_ids.Goals as goal

pub returns-clause-once : goal.returns-clause-once
returns-clause-once c =
    let keys : List ℕ = c.self.inside.numbers.keys in
    let same : c.of.result ≡ keys = c.of.ensures ∙ (c.loop-number.invariant
    ∙ (take_all _ _ c.loop-number-test.false ∙ c.as_slice-number-items.ensures.keys)) in
    subst (λ (ids : List ℕ). AllPairs (λ a b. a ≢ b) ids) (sym same)
    (AllPairs-from_IsDistinct Decides-eqb keys c.as_slice-number-items.ensures.unique)
