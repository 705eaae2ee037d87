-- Short texts, and the windows of their vectors.
use Rattle.std.specs.Prelude.{◌≡◌, ℕ, List, [], ◌∷◌, codes, None, Some}
use Rattle.ds_base.specs.declared.value.Value.TheVariants.{Zero, One, Unknown}
use Rattle.ds_lines.specs.Line.{Line}
use Rattle.ds_stream.specs.Stream.{Shown, Placed, beginning, stop_of, first_window, next_window}
use Rattle.ds_stream.specs.Stream.{placed_lines, stream_of, window}
use Rattle.ds_stream.specs.declared.fault.NextFault.{NextFault}
use Rattle.ds_stream.specs.declared.fault.NextFault.TheVariants.{Vector, TooLong}
use Rattle.ds_stream.specs.declared.fault.StreamKind.TheVariants.{BadWidth, BadBit, TooMany}

-- a comment, a line that goes on, an empty line, and a line that the text ends
abbrev pub worked_places : List Placed
worked_places = placed_lines (codes "# a\n1\\\n 0 # b\\\n\n01")

-- four lines of one column
abbrev pub four_ones : List ℕ
four_ones = codes "1\n1\n1\n1"

-- a reader of at most three vectors that has given two of these
abbrev pub behind_two : Shown
behind_two = record {
  width = 1;
  most = 3;
  given = 2;
  behind = record { place = 4; lines = 2 };
}

-- a line with a fault
abbrev pub bad_bit_on : ℕ → NextFault
bad_bit_on line = Vector (record { line = line; kind = BadBit })

-- a faulty line behind a joined one
abbrev pub behind_joined : List ℕ
behind_joined = codes "1\n\\\n1\nz\n1\n"

-- each text beside its lines, its vectors or a window of them
pub record IsStreamWorked : Type 0 where
  pub lines : worked_places ≡
      record {
        line = record { number = 2; words = codes "1" ∷ codes "0" ∷ [] };
        behind = record { place = 15; lines = 3 };
      } ∷ record {
        line = record { number = 5; words = codes "01" ∷ [] };
        behind = record { place = 18; lines = 5 };
      } ∷ []
  pub empty : placed_lines [] ≡ []
  pub blank : placed_lines (codes " \n#\\\n\n") ≡ []
  pub stream : stream_of 1 9 (codes "1\nx\n")
      ≡ record { rows = (One ∷ []) ∷ (Unknown ∷ []) ∷ []; stop = None }
  pub first_fault : stream_of 1 9 behind_joined
      ≡ record { rows = (One ∷ []) ∷ (One ∷ []) ∷ []; stop = Some (bad_bit_on 4) }
  pub no_columns : stream_of 0 9 (codes "-\n-\n1\n") ≡ record {
    rows = [] ∷ [] ∷ [];
    stop = Some (Vector (record { line = 3; kind = BadWidth }));
  }
  pub first_two : first_window 1 3 four_ones 2 ≡ record {
    rows = (One ∷ []) ∷ (One ∷ []) ∷ [];
    behind = record { place = 4; lines = 2 };
    stop = None;
  }
  pub next_two : next_window behind_two four_ones 2 ≡ record {
    rows = (One ∷ []) ∷ [];
    behind = record { place = 6; lines = 3 };
    stop = Some (Vector (record { line = 4; kind = TooMany 3 }));
  }
  pub behind_a_joined_line : first_window 1 9 behind_joined 2 ≡ record {
    rows = (One ∷ []) ∷ (One ∷ []) ∷ [];
    behind = record { place = 6; lines = 3 };
    stop = None;
  }
  pub fewer : first_window 1 9 (codes "1\n0") 5 ≡ record {
    rows = (One ∷ []) ∷ (Zero ∷ []) ∷ [];
    behind = record { place = 3; lines = 2 };
    stop = None;
  }
  pub none : first_window 1 9 (codes "z") 0 ≡ record { rows = []; behind = beginning; stop = None }
  pub as_long_as_may_be : stop_of 281474976710656 ≡ None
  pub too_long : stop_of 281474976710657 ≡ Some TooLong
  pub past_the_end : (line : Line) → window 1 9 281474976710657 1 beginning 0 (record {
    line = line;
    behind = record { place = 281474976710657; lines = 1 };
  } ∷ []) ≡ record { rows = []; behind = beginning; stop = Some TooLong }
