-- Logs in windows.
use Rattle.std.proofs.Common.{◌≡◌, ℕ, ◌+◌, List, [], ◌∷◌, ◌++◌, ap, sym, ◌∙◌, subst, append_assoc}
use Rattle.std.specs.Prelude.{codes, decimal}
use Rattle.ds_marked.specs.Graph.{Graph, counted, counts_after}
use Rattle.ds_marked.specs.Log.{IsLogFrom}

-- five texts and a sixth, joined
five : (a b c d e f : List ℕ) → (a ++ b ++ c ++ d ++ e) ++ f ≡ a ++ b ++ c ++ d ++ (e ++ f)
five a b c d e f = append_assoc (a ++ b ++ c ++ d) e f

pub logs_in_windows : (g : Graph) (count : ℕ → ℕ) (events more : List ℕ) (text rest : List ℕ) → IsLogFrom g count events text → IsLogFrom g (counts_after count events) more rest → IsLogFrom g count (events ++ more) (text ++ rest)
logs_in_windows g count [] more text rest none others = subst (λ (t : List ℕ). IsLogFrom g count more t) (sym (ap (λ (t : List ℕ). t ++ rest) none)) others
logs_in_windows g count (v ∷ events) more text rest (name, after, is_name, is_log, spelt) others = (
  name,
  after ++ rest,
  is_name,
  logs_in_windows g (counted v count) events more after rest is_log others,
  ap (λ (t : List ℕ). t ++ rest) spelt ∙ five name (codes " ") (decimal (count v + 1)) (codes "\n") after rest,
)
