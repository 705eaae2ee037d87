-- What is left of a text.
use Rattle.std.proofs.Common.{ℕ, ◌+◌, List, [], length, Option, Some, None, Bor}
use Rattle.std.specs.List.{slice_split}
use Rattle.ds_lines.specs.Line.{is_newline}

-- its physical lines, none where there is no rest
abbrev pub lines_left : Option (Bor (List ℕ)) → List (List ℕ)
lines_left (Some text) = slice_split is_newline text.now
lines_left None = []

-- its bytes and one more, 0 where there is no rest
abbrev pub bytes_left : Option (Bor (List ℕ)) → ℕ
bytes_left (Some text) = 1 + length text.now
bytes_left None = 0
