-- The places of a graph text, in the order in which they first stand.
use Rattle.std.specs.Prelude.{ℕ, Bool, false, List, [], ◌∷◌, ◌++◌, length, None}
use Rattle.std.specs.Prelude.{Some, Result, Ok, Err, ◌==◌, ◌&&◌, nat_lt, slice_index_or}
use Rattle.std.specs.Prelude.{slice_set, if◌then◌else◌}
use Rattle.std.specs.List.{list_any, position_or_len}
use Rattle.std.specs.Str.{bytes_eq}
use Rattle.ds_base.specs.Limit.{most_of}
use Rattle.ds_base.specs.declared.number.Limit.TheVariants.{Arcs}
use Rattle.ds_astg.specs.declared.place.Place.{Place}
use Rattle.ds_astg.specs.declared.fault.AstgKind.{AstgKind}
use Rattle.ds_astg.specs.declared.fault.AstgKind.TheVariants.{TooMany}

-- what tells a place from others: its name, or the two events between which it stands
pub data Key : Type 0 where
  Named : List ℕ → Key
  Between : ℕ → ℕ → Key

-- whether two are one
abbrev pub key_eq : Key → Key → Bool
key_eq (Named name) (Named other) = bytes_eq name other
key_eq (Named name) (Between source target) = false
key_eq (Between source target) (Named name) = false
key_eq (Between source target) (Between from to) = (source == from) && (target == to)

-- the name of a place, empty where it has none
abbrev pub name_of : Key → List ℕ
name_of (Named name) = name
name_of (Between source target) = []

-- the keys of the places, and the places
pub record Places : Type 0 where
  pub keys : List Key
  pub places : List Place

-- no places
abbrev pub no_places : Places
no_places = record { keys = []; places = [] }

-- a place by its name, which first stands on this line
abbrev pub named : ℕ → Place
named line = record { line = line; source = None; target = None; tokens = None }

-- a place between two events
abbrev pub between : ℕ → ℕ → ℕ → Place
between line source target = record {
  line = line;
  source = Some source;
  target = Some target;
  tokens = None;
}

-- whether a place stands before
abbrev pub has_place : Places → Key → Bool
has_place ps key = list_any (key_eq key) ps.keys

-- the number of a place, the number of the places where it is not there
abbrev pub number_of_place : Places → Key → ℕ
number_of_place ps key = position_or_len (key_eq key) ps.keys

-- the place with a number
abbrev pub place_at : Places → ℕ → Place
place_at ps k = slice_index_or ps.places k (named 0)

-- the name of the place with a number
abbrev pub name_at : Places → ℕ → List ℕ
name_at ps k = name_of (slice_index_or ps.keys k (Between 0 0))

-- with another place at this number
abbrev pub with_place_at : Places → ℕ → Place → Places
with_place_at ps k place = record { keys = ps.keys; places = slice_set ps.places k place }

-- with a place at the end
abbrev pub with_new : Places → Key → Place → Places
with_new ps key place = record { keys = ps.keys ++ key ∷ []; places = ps.places ++ place ∷ [] }

-- with a place, where it does not stand before
abbrev pub with_place : Key → Place → Places → Result Places AstgKind
with_place key place ps =
    if has_place ps key then Ok ps
    else (if nat_lt (length ps.keys) (most_of Arcs) then Ok (with_new ps key place)
    else Err (TooMany Arcs))
