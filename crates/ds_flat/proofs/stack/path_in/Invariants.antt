use Rattle.std.proofs.Common.{◌≡◌, take, reverse}
use Rattle.ds_flat.specs.Copies.{path_from}
use Rattle.ds_flat.specs.Stack.{names_of}
use Rattle.ds_flat.proofs.stack.path_in.Given as goal

abbrev pub invariant-loop-frame : goal.invariant-loop-frame
invariant-loop-frame l =
    l.path.items ≡ path_from l.name (names_of (reverse (take l.frame-index l.frames)))
