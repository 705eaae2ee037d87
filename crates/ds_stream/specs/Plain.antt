-- Lines that are taken whole: bits alone, as many as the width, and a newline.
use Rattle.std.specs.Prelude.{◌≡◌, ◌<◌, ◌+◌, ℕ, true, List, [], length, take, slice_index_or}
use Rattle.std.specs.List.{list_all}
use Rattle.ds_rows.specs.Vector.{is_bit}
use Rattle.ds_stream.specs.Filling.{Filled}

-- no line has begun, and there is room for a line of the width and for its vector
pub record HasLineRoom (f : Filled) : Type 0 where
  pub fresh : f.line ≡ []
  pub some : 0 < f.width
  pub few : f.seen < f.most
  pub room : f.place + f.width < 281474976710656

-- and such a line begins these bytes
pub record IsPlainLine (f : Filled) (bytes : List ℕ) : Type 0 where
  pub ready : HasLineRoom f
  pub whole : f.width < length bytes
  pub bits : list_all is_bit (take f.width bytes) ≡ true
  pub newline : slice_index_or bytes f.width 0 ≡ 10
