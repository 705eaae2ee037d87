-- Why a graph is not accepted.
use Rattle.std.specs.Prelude.{◌≡◌, ◌⊎◌, ⊤, ℕ, ◌<◌, List, Option, None, length, slice_index_or}
use Rattle.std.specs.Prelude.{Contains}
use Rattle.std.specs.List.{HoldsAt, AllWithin}
use Rattle.ds_marked.specs.Graph.{Graph}
use Rattle.ds_latch.specs.Node.{Split}
use Rattle.ds_latch.specs.Order.{IsRequired}
use Rattle.ds_latch.specs.Plan.{split_events}
use Rattle.ds_rank.specs.Order.{IsCycle}
use Rattle.ds_rank.specs.Rank.{HasFreeArc}
use Rattle.ds_accept.specs.Sums.{AreLeastSums}
use Rattle.ds_accept.specs.Accept.{AreThere, AreGiven, GivesOrder, EventStandsAt}
use Rattle.ds_accept.specs.declared.fault.AcceptFault.{AcceptFault}
use Rattle.ds_accept.specs.declared.fault.AcceptFault.TheVariants.{MissingEvent}
use Rattle.ds_accept.specs.declared.fault.AcceptFault.TheVariants.{MissingOrder, TokenFreeCycle}
use Rattle.ds_accept.specs.declared.fault.AcceptFault.TheVariants.{Memory}

-- the first place of a list that does not have the property
pub record IsFirstWithout {X : Type 0} (P : X → Type 0) (xs : List X) (k : ℕ) : Type 0 where
  pub inside : k < length xs
  pub without : HoldsAt (λ x. ¬ P x) xs k
  pub before : AllWithin P xs 0 k

-- an order stands before another, by source and then by target
abbrev pub StandsFirst : ℕ → ℕ → ℕ → ℕ → Type 0
StandsFirst u v u' v' = (u < u') ⊎ ((u ≡ u') × (v < v'))

-- a required order that the graph does not give, where it gives each one that stands before it
pub record IsFirstMissing (s : Split) (g : Graph) (from to tokens : ℕ) : Type 0 where
  pub u : ℕ
  pub v : ℕ
  pub required : IsRequired s u v tokens
  pub source : EventStandsAt s g u from
  pub target : EventStandsAt s g v to
  pub lacks : ¬ GivesOrder s g u v tokens
  pub before : (u' v' tokens' : ℕ) → IsRequired s u' v' tokens' → StandsFirst u' v' u v
      → GivesOrder s g u' v' tokens'

-- how few tokens there are along walks from one event to another, none where there is no walk; the
-- numbers, the same for all events, show it
pub record ShowsLeast (g : Graph) (from to : ℕ) (least : Option ℕ) (numbers : List (Option ℕ))
    : Type 0 where
  pub sums : AreLeastSums g from numbers
  pub at : slice_index_or numbers to None ≡ least

-- an event of a node that the graph lacks, the first one
abbrev pub IsFirstLacking : Split → Graph → ℕ → Type 0
IsFirstLacking s g k = IsFirstWithout (Contains g.events) (split_events s) k

-- the fault is what the graph shows, and it shows none of those that come before
abbrev pub IsAcceptFault : Split → Graph → AcceptFault → Type 0
IsAcceptFault s g (MissingEvent event) =
    (k : ℕ) × IsFirstLacking s g k × HoldsAt (λ e. e ≡ event) (split_events s) k
IsAcceptFault s g (MissingOrder from to tokens least numbers) = AreThere s g
    × IsFirstMissing s g from to tokens × ShowsLeast g from to least numbers
IsAcceptFault s g (TokenFreeCycle events) = AreThere s g × AreGiven s g
    × IsCycle (HasFreeArc g) events
IsAcceptFault s g Memory = ⊤
