-- Names that are declared, each as a signal or as a dummy.
use Rattle.std.specs.Prelude.{ℕ, Bool, true, false, List, [], ◌∷◌, ◌++◌, take, Option, None, Some}
use Rattle.std.specs.Prelude.{slice_get}
use Rattle.std.specs.List.{sum_by}
use Rattle.ds_lines.specs.Names.{place_of_name}
use Rattle.ds_astg.specs.declared.role.Role.{Role}
use Rattle.ds_astg.specs.declared.role.Role.TheVariants.{Signal, Dummy}

-- names in the order of their declaration, each once, and what each is declared as
pub record Declared : Type 0 where
  pub names : List (List ℕ)
  pub roles : List Role

-- no names
abbrev pub no_names : Declared
no_names = record { names = []; roles = [] }

-- with a name at the end, declared as such
abbrev pub with_declared : Role → List ℕ → Declared → Declared
with_declared role name signals = record {
  names = signals.names ++ name ∷ [];
  roles = signals.roles ++ role ∷ [];
}

-- what a name is declared as, where it is
abbrev pub role_of : Declared → List ℕ → Option Role
role_of signals name = slice_get signals.roles (place_of_name signals.names name)

-- a name that is declared as this, or not yet, may be declared as such
abbrev pub may_have : Option Role → Role → Bool
may_have None role = true
may_have (Some Signal) Signal = true
may_have (Some Signal) Dummy = false
may_have (Some Dummy) Signal = false
may_have (Some Dummy) Dummy = true

-- how many events a name has: a signal rises and falls, a dummy is one event
abbrev pub event_count : Role → ℕ
event_count Signal = 2
event_count Dummy = 1

-- how many events names with these roles have
abbrev pub count_events : List Role → ℕ
count_events roles = sum_by event_count roles

-- the number of the first event of the name at a place: how many the names before it have
abbrev pub first_event : List Role → ℕ → ℕ
first_event roles k = count_events (take k roles)
