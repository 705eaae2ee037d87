-- Arcs with the same ends: they have one delay, and a slowest cycle goes by the fewest tokens.
use Rattle.std.specs.Prelude.{◌≡◌, ◌≤◌, ◌*◌, ℕ, List, Ok}
use Rattle.std.specs.List.{Contains}
use Rattle.ds_lines.specs.Line.{Line}
use Rattle.ds_marked.specs.Graph.{Graph}
use Rattle.ds_period.specs.declared.timed.Timed.{Timed}
use Rattle.ds_period.specs.Found.{sources_of}
use Rattle.ds_period.specs.Period.{IsPeriod}
use Rattle.ds_period.specs.Read.{delays_of}
use Rattle.ds_period.specs.Timing.{timed_arcs}
use Rattle.ds_period.specs.Walk.{IsChain, walk_delay, walk_tokens}

-- two arcs join the same events
abbrev pub HaveSameEnds : Timed → Timed → Type 0
HaveSameEnds x y = (x.source ≡ y.source) × (x.target ≡ y.target)

-- arcs with the same ends have the same delay
abbrev pub HaveAlikeDelays : List Timed → Type 0
HaveAlikeDelays arcs = (x y : Timed) → Contains arcs x → Contains arcs y → HaveSameEnds x y
    → x.delay ≡ y.delay

-- the delays that lines give are such
abbrev pub DelaysAreAlike : Type 0
DelaysAreAlike = (g : Graph) (lines : List Line) (delays : List ℕ)
    → delays_of g lines ≡ Ok delays → HaveAlikeDelays (timed_arcs g.arcs delays)

-- no arc between the same events has fewer tokens than one of the walk
abbrev pub HasFewestTokens : List Timed → List Timed → Type 0
HasFewestTokens arcs walk = (x y : Timed) → Contains walk x → Contains arcs y → HaveSameEnds x y
    → x.tokens ≤ y.tokens

-- where arcs with the same ends have the same delay, a closed walk along the cycle of a period,
-- each step by an arc of fewest tokens, has the ratio of the period
abbrev pub CyclesGoByFewestTokens : Type 0
CyclesGoByFewestTokens = (arcs : List Timed) (count p q : ℕ) (cycle potentials : List ℕ)
    → HaveAlikeDelays arcs → IsPeriod arcs count p q cycle potentials
    → (start : ℕ) (walk : List Timed) → IsChain arcs start walk start → sources_of walk ≡ cycle
    → HasFewestTokens arcs walk → q * walk_delay walk ≡ p * walk_tokens walk
