-- Worked names of nets, each with its bus.
use Rattle.std.specs.Prelude.{◌≡◌, codes}
use Rattle.ds_split.specs.Bus.{bus_name}

-- names, and what is left of them
pub record BusesAreWorked : Type 0 where
  pub a_place : bus_name (codes "q[0]") ≡ codes "q"
  pub two_digits : bus_name (codes "q[12]") ≡ codes "q"
  pub without_a_place : bus_name (codes "q") ≡ codes "q"
  pub no_digit : bus_name (codes "q[]") ≡ codes "q[]"
  pub not_digits : bus_name (codes "q[1a]") ≡ codes "q[1a]"
  pub not_at_the_end : bus_name (codes "q[0]x") ≡ codes "q[0]x"
  pub no_front : bus_name (codes "[3]") ≡ codes ""
  pub the_last_of_two : bus_name (codes "a[1][2]") ≡ codes "a[1]"
  pub two_brackets : bus_name (codes "a[[2]") ≡ codes "a["
