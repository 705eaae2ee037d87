-- Nets and connected formals as the code keeps them.
use Rattle.std.specs.Prelude.{◌<◌, Bool, ℕ, List, [], ◌∷◌, ◌++◌, length}
use Rattle.std.specs.List.{list_any}
use Rattle.std.specs.Str.{bytes_eq}
use Rattle.std.specs.Borrow.{Bor}
use Rattle.ds_design.specs.declared.design.Net.{Net}
use Rattle.ds_flat.specs.Net.{Binding, Scope, Numbered}
use Rattle.ds_flat.specs.declared.nets.NetKey.{NetKey}
use Rattle.ds_flat.specs.declared.fault.NoNumber.{NoNumber}
use Rattle.ds_flat.specs.declared.fault.NoNumber.TheVariants.{TooManyNets, Memory}

-- the net that a key stands for
abbrev pub net_key : NetKey → Net
net_key key = record { copy = key.copy; name = key.name.now }

-- numbering stops at too many nets, or for want of memory
abbrev pub IsNoNumber : NoNumber → List Net → Type 0
IsNoNumber TooManyNets nets = 65536 < length nets
IsNoNumber Memory nets = Unit {0}

-- a formal of a copy with its net, as a map keeps them
abbrev pub binding_of : Bor (List ℕ) × NetKey → Binding
binding_of entry = record { formal = entry.0.now; net = net_key entry.1 }

-- a formal is connected
abbrev pub has_formal : List Binding → List ℕ → Bool
has_formal bound formal = list_any (λ binding. bytes_eq formal binding.formal) bound

-- with a connected formal at the end
abbrev pub with_binding : Scope → List ℕ → Net → Scope
with_binding scope formal net = record scope {
  bound = scope.bound ++ record { formal = formal; net = net } ∷ [];
}

-- numbers that stand before those of further names
abbrev pub numbered_behind : List ℕ → Numbered → Numbered
numbered_behind numbers rest = record { numbers = numbers ++ rest.numbers; nets = rest.nets }
