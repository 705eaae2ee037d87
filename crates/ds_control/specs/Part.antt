-- Items that are put behind a list one by one, until there is no memory.
use Rattle.std.specs.Prelude.{◌≡◌, List, ◌++◌}

-- a first part of these items was put behind the list
pub record PushesPart {T : Type 0} (old new items : List T) : Type 0 where
  pub part : List T
  pub rest : List T
  pub items_are : items ≡ part ++ rest
  pub new_is : new ≡ old ++ part
