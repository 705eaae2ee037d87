-- Nets of copies, and their numbers.
use Rattle.std.specs.Prelude.{ℕ, Bool, List, [], ◌∷◌, ◌++◌, map, ◌&&◌, ◌==◌, if◌then◌else◌}
use Rattle.std.specs.List.{list_any, position_or_len}
use Rattle.std.specs.Str.{bytes_eq}
use Rattle.ds_design.specs.declared.design.Net.{Net}

-- a connected formal of a copy, and the net of the caller that stands for it
pub record Binding : Type 0 where
  pub formal : List ℕ
  pub net : Net

-- a copy: its number, and its connected formals
pub record Scope : Type 0 where
  pub copy : ℕ
  pub bound : List Binding

-- the net of a name in a copy with these connected formals
abbrev pub net_in : ℕ → List Binding → List ℕ → Net
net_in copy [] name = record { copy = copy; name = name }
net_in copy (binding ∷ bound) name = if bytes_eq name binding.formal then binding.net
    else net_in copy bound name

-- the net of a name: the caller's net where the name is a connected formal, else the copy's own
abbrev pub net_of_name : Scope → List ℕ → Net
net_of_name scope name = net_in scope.copy scope.bound name

-- whether two nets are one: of one copy and one name
abbrev pub same_net : Net → Net → Bool
same_net net other = (net.copy == other.copy) && bytes_eq net.name other.name

-- a net is among these
abbrev pub has_net : List Net → Net → Bool
has_net nets net = list_any (same_net net) nets

-- the number of a net: its place, the number of the nets where it is not there yet
abbrev pub number_of_net : List Net → Net → ℕ
number_of_net nets net = position_or_len (same_net net) nets

-- with a net at the end where it is not there yet
abbrev pub with_net : List Net → Net → List Net
with_net nets net = if has_net nets net then nets else nets ++ net ∷ []

-- the numbers of some nets, and all nets with these
pub record Numbered : Type 0 where
  pub numbers : List ℕ
  pub nets : List Net

-- with a number before the others
abbrev pub put_first : ℕ → Numbered → Numbered
put_first number rest = record { numbers = number ∷ rest.numbers; nets = rest.nets }

-- nets are numbered from the left to the right; one that is not there yet gets the next number
abbrev pub numbered_nets : List Net → List Net → Numbered
numbered_nets nets [] = record { numbers = []; nets = nets }
numbered_nets nets (net ∷ more) = put_first (number_of_net nets net)
    (numbered_nets (with_net nets net) more)

-- the nets that names stand for, numbered
abbrev pub numbered_names : Scope → List Net → List (List ℕ) → Numbered
numbered_names scope nets names = numbered_nets nets (map (net_of_name scope) names)
