-- What `times` prints is a log, with a time behind each firing.
use Rattle.std.specs.Prelude.{◌≡◌, ℕ, ◌<◌, ◌^◌, List, length, map, take}
use Rattle.std.specs.List.{AllByRecursion}
use Rattle.ds_lines.specs.Print.{text_of}
use Rattle.ds_marked.specs.Graph.{Graph, counts_after}
use Rattle.ds_marked.specs.Log.{IsLegalLogFrom}
use Rattle.ds_marked.specs.Progress.{HasFiredAll}
use Rattle.ds_latch.specs.Plan.{IsPlan, Planned}
use Rattle.ds_stage.specs.TimesStage.{IsTimesText}

-- lines of three words, of which the first two are a legal log that has each event once a turn
pub record IsTimedLog (g : Graph) (turns : ℕ) (text : List ℕ) : Type 0 where
  pub lines : List (List (List ℕ))
  pub spelt : text ≡ text_of lines
  pub three : AllByRecursion (λ words. length words ≡ 3) lines
  pub events : List ℕ
  pub log : IsLegalLogFrom g turns (λ _. 0) (map (take 2) lines) events
  pub all : HasFiredAll g turns (counts_after (λ _. 0) events)

-- the text of the times of a plan is such
abbrev pub TimesAreLogs : Type 0
TimesAreLogs = (p : Planned) → IsPlan p.split p.graph → (delays : List ℕ) (turns : ℕ)
    → turns < 10 ^ 10 → (text : List ℕ) → IsTimesText p.graph delays turns text
    → IsTimedLog p.graph turns text
