-- There are legal lists of firings, of each length that they may have.
use Rattle.std.specs.Prelude.{◌≡◌, ℕ, ◌*◌, ◌≤◌, List, length}
use Rattle.ds_marked.specs.Graph.{Graph, IsLegal, IsLive, counts_after}
use Rattle.ds_marked.specs.Progress.{HasFiredAll}

-- a legal list of so many firings; where these are all that there may be, each event has fired once
-- a turn
pub record IsLegalOf (g : Graph) (turns many : ℕ) (events : List ℕ) : Type 0 where
  pub legal : IsLegal g turns events
  pub many_are : length events ≡ many
  pub whole : many ≡ length g.events * turns → HasFiredAll g turns (counts_after (λ _. 0) events)

-- where nothing waits for itself, there is a legal list of as many firings as are wanted, up to one
-- a turn of each event
abbrev pub LegalListsExist : Type 0
LegalListsExist = (g : Graph) → IsLive g → (turns many : ℕ) → many ≤ length g.events * turns
    → (events : List ℕ) × IsLegalOf g turns many events
