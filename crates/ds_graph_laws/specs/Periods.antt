-- Periods are there: of arcs whose closed walks have tokens, and so of graphs with delays.
use Rattle.std.specs.Prelude.{◌≡◌, ℕ, List, length, Ok}
use Rattle.ds_lines.specs.Line.{Line}
use Rattle.ds_marked.specs.Graph.{Graph}
use Rattle.ds_latch.specs.Node.{Split}
use Rattle.ds_latch.specs.Plan.{IsPlan}
use Rattle.ds_period.specs.declared.timed.Timed.{Timed}
use Rattle.ds_period.specs.Search.{AreEvents}
use Rattle.ds_period.specs.Period.{HasClosed, HasTokens, IsPeriod}
use Rattle.ds_period.specs.Timing.{timed_arcs}
use Rattle.ds_period.specs.Read.{delays_of}
use Rattle.ds_period.specs.Controller.{HasPeriod}

-- a ratio in lowest terms, a cycle that has it, and the potentials under it are a period
abbrev pub SomePeriod : List Timed → ℕ → Type 0
SomePeriod arcs count = (p q : ℕ) × (cycle potentials : List ℕ)
    × IsPeriod arcs count p q cycle potentials

-- arcs between events have a period where each closed walk has a token and some has an arc
abbrev pub PeriodsExist : Type 0
PeriodsExist = (arcs : List Timed) (count : ℕ) → AreEvents count arcs → HasTokens arcs
    → HasClosed arcs → SomePeriod arcs count

-- a graph with tokens on each cycle and with some cycle has a period, whatever the delays are, one
-- for each arc
abbrev pub GraphsHavePeriods : Type 0
GraphsHavePeriods = (g : Graph) → HasPeriod g → (delays : List ℕ) → length delays ≡ length g.arcs
    → SomePeriod (timed_arcs g.arcs delays) (length g.events)

-- lines that give delays give one for each arc
abbrev pub DelaysAreOneEach : Type 0
DelaysAreOneEach = (g : Graph) (lines : List Line) (delays : List ℕ)
    → delays_of g lines ≡ Ok delays → length delays ≡ length g.arcs

-- the graph of a plan has a period with the delays that lines give
abbrev pub PlansAreTimed : Type 0
PlansAreTimed = (s : Split) (g : Graph) → IsPlan s g
    → (lines : List Line) (delays : List ℕ) → delays_of g lines ≡ Ok delays
    → SomePeriod (timed_arcs g.arcs delays) (length g.events)
