-- What keeps an event from firing.
use Rattle.std.specs.Prelude.{◌≡◌, ℕ, ◌+◌, ◌<◌, ◌≤◌, Option, None, Some, List, length, All}
use Rattle.std.specs.List.{HoldsAt, AllWithin}
use Rattle.ds_marked.specs.Graph.{Graph}
use Rattle.ds_marked.specs.declared.marked.Arc.{Arc}
use Rattle.ds_marked.specs.declared.blocked.Blocked.{Blocked}
use Rattle.ds_marked.specs.declared.blocked.Blocked.TheVariants as blocked

-- an arc into the event lacks a token
abbrev pub Lacks : (ℕ → ℕ) → ℕ → Arc → Type 0
Lacks count v arc = (arc.target ≡ v) × (count arc.source + arc.tokens < count v + 1)

-- the arc at this place is the least that lacks a token
pub record IsFirstLackingArc (count : ℕ → ℕ) (v : ℕ) (arcs : List Arc) (a : ℕ) : Type 0 where
  pub inside : a < length arcs
  pub lacks : HoldsAt (Lacks count v) arcs a
  pub before : AllWithin (λ arc. ¬ Lacks count v arc) arcs 0 a

-- the least arc into the event that lacks a token, or none where none does
abbrev pub IsLeastLacking : Graph → (ℕ → ℕ) → ℕ → Option ℕ → Type 0
IsLeastLacking g count v None = All (λ arc. ¬ Lacks count v arc) g.arcs
IsLeastLacking g count v (Some a) = IsFirstLackingArc count v g.arcs a

-- the event has fired as often as it may, or else this is the least arc into it that lacks a token
abbrev pub IsBlocked : Graph → ℕ → (ℕ → ℕ) → ℕ → Blocked → Type 0
IsBlocked g limit count v blocked.Limit = limit ≤ count v
IsBlocked g limit count v (blocked.Arc a) = (count v < limit) × IsFirstLackingArc count v g.arcs a
