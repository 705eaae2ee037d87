-- The firings of a run, and their lines.
use Rattle.std.specs.Prelude.{◌≡◌, ℕ, ⊤, Bool, true, false, List, ◌++◌, length, codes}
use Rattle.std.specs.Prelude.{Option, None, Some}
use Rattle.ds_marked.specs.Graph.{Graph}
use Rattle.ds_marked.specs.Log.{IsLog}
use Rattle.ds_marked.specs.Window.{IsWindow}
use Rattle.ds_outside.specs.Pen.{Puts, Writing}

-- what a clause sees of a log: its firings, the first one first, and how many events it can count
pub record Listed : Type 0 where
  pub events : List ℕ
  pub kinds : ℕ

-- a legal list of a graph in which each event stands once a turn, and a count for each event
pub record HasLog (g : Graph) (turns : ℕ) (log : Listed) : Type 0 where
  pub listed : IsWindow g (record { turns = turns; firings = log.events })
  pub kinds : log.kinds ≡ length g.events

-- the log of so many turns where one is wanted, and none where not
abbrev pub IsLogOf : Bool → Graph → ℕ → Option Listed → Type 0
IsLogOf false g turns None = ⊤
IsLogOf false g turns (Some log) = ⊥
IsLogOf true g turns None = ⊥
IsLogOf true g turns (Some log) = HasLog g turns log

-- a log has, behind the firings that it had, those of so many turns more
abbrev pub IsLonger : Graph → ℕ → Listed → Listed → Type 0
IsLonger g turns old new =
    (firings : List ℕ) × IsWindow g (record { turns = turns; firings = firings })
    × (new ≡ record { events = old.events ++ firings; kinds = old.kinds })

-- the same of a log where there is one; where there was none there is none
abbrev pub LogGrows : Graph → ℕ → Option Listed → Option Listed → Type 0
LogGrows g turns None new = new ≡ None
LogGrows g turns (Some old) None = ⊥
LogGrows g turns (Some old) (Some new) = IsLonger g turns old new

-- a pen went over the lines of these firings
abbrev pub PutsLog : Writing → Writing → Graph → List ℕ → Type 0
PutsLog old new g events = (text : List ℕ) × IsLog g events text × Puts old new text

-- the line `firings`, and behind it the lines of these firings
abbrev pub IsLogText : Graph → List ℕ → List ℕ → Type 0
IsLogText g events text =
    (lines : List ℕ) × IsLog g events lines × (text ≡ codes "firings\n" ++ lines)
