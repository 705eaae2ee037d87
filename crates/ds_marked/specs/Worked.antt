-- Definitions that no other contract of this crate cites, by name, so that they are read by the
-- check.
use Rattle.std.specs.Prelude.{[]}
use Rattle.ds_marked.specs.Graph.{Graph}
use Rattle.ds_marked.specs.Log.{IsLog}

-- a log without firings is the empty text
abbrev pub EmptyLog : Type 0
EmptyLog = (g : Graph) → IsLog g [] []
