-- Lines that are kept as spans of one list of words.
use Rattle.std.specs.Prelude.{ℕ, ◌-◌, ◌<◌, ◌≤◌, List, map, take, drop}
use Rattle.ds_lines.specs.Line.{Line}
use Rattle.ds_lines.specs.declared.span.Span.{Span}

-- the line of a span
abbrev pub line_in : List (List ℕ) → Span → Line
line_in words span = record {
  number = span.number;
  words = take (span.end - span.start)
      (drop span.start words);
}

-- the lines of spans
abbrev pub lines_in : List (List ℕ) → List Span → List Line
lines_in words spans = map (line_in words) spans

-- a span has words, and lies within so many
pub record IsSpanWithin (most : ℕ) (span : Span) : Type 0 where
  pub some : span.start < span.end
  pub within : span.end ≤ most
