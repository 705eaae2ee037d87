-- Logs that are printed, and what they fire where they are read.
use Rattle.std.specs.Prelude.{◌≡◌, ◌≢◌, ◌<◌, ◌≤◌, ◌^◌, ℕ, List, [], ◌∷◌, ◌++◌, length, codes, Ok}
use Rattle.std.specs.Prelude.{All}
use Rattle.std.specs.List.{AllByRecursion}
use Rattle.ds_base.specs.Values.{Row}
use Rattle.ds_lines.specs.Line.{lines_of}
use Rattle.ds_lines.specs.Print.{IsPlain, IsWord, text_of}
use Rattle.ds_design.specs.Circuit.{Circuit}
use Rattle.ds_design.specs.Trace.{IsTrace}
use Rattle.ds_marked.specs.Graph.{Graph, IsKept, IsLegal}
use Rattle.ds_marked.specs.Log.{event_text, IsLog}
use Rattle.ds_latch.specs.Node.{Split}
use Rattle.ds_latch.specs.Plan.{split_events}
use Rattle.ds_replay.specs.Replay.{replay_of}
use Rattle.ds_replay.specs.Legal.{HasOwnTexts}

-- each event is written as a word of its own
pub record HasOwnWords (g : Graph) : Type 0 where
  pub own : HasOwnTexts g
  pub words : All (λ e. IsWord (event_text e)) g.events

-- a graph of the nodes' events has such words
abbrev pub NodesHaveOwnWords : Type 0
NodesHaveOwnWords = (s : Split) (g : Graph) → IsKept g → length s.clusters ≤ 2 ^ 64
    → g.events ≡ split_events s → HasOwnWords g

-- whole lines, none of which is the one word `firings`
pub record IsFront (text : List ℕ) : Type 0 where
  pub lines : List (List (List ℕ))
  pub spelt : text ≡ text_of lines
  pub plain : AllByRecursion IsPlain lines
  pub other : AllByRecursion (λ words. words ≢ codes "firings" ∷ []) lines

-- a trace is such lines
abbrev pub TraceIsFront : Type 0
TraceIsFront = (c : Circuit) (vectors : List Row) (trace : List ℕ)
    → length vectors < 2 ^ 64 → IsTrace c vectors trace → IsFront trace

-- the log of a legal list is read and fired to the list's end
abbrev pub PrintedIsFired : Type 0
PrintedIsFired = (g : Graph) → HasOwnWords g → (turns : ℕ) → turns < 10 ^ 10
    → (events log : List ℕ) → IsLegal g turns events → IsLog g events log
    → replay_of g turns (lines_of log) ≡ Ok events

-- so it is behind other lines and the line `firings`
abbrev pub PrintedBehindIsFired : Type 0
PrintedBehindIsFired = (g : Graph) → HasOwnWords g → (turns : ℕ) → turns < 10 ^ 10
    → (events log : List ℕ) → IsLegal g turns events → IsLog g events log
    → (front : List ℕ) → IsFront front
    → replay_of g turns (lines_of (front ++ codes "firings\n" ++ log)) ≡ Ok events
