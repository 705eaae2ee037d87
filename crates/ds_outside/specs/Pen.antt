-- A text that is written piece by piece.
use Rattle.std.specs.Prelude.{◌≡◌, ◌≤◌, ◌⊎◌, ℕ, List, Option, Result, Ok, OnOk, OnErr, IsOk, IsErr}
use Rattle.ds_outside.specs.Fault.{Rose}
use Rattle.ds_outside.specs.Handing.{Grew, GrewOn}
use Rattle.ds_outside.specs.Writes.{GoesOn}
use Rattle.ds_outside.specs.declared.sink.WriteFault.{WriteFault}

-- how far a text is: by which name proofs know the sink, what it holds, what it will hold with what
-- is kept back, how often a write has failed there, and whether one has failed in this text
pub record Writing : Type 0 where
  pub name : ℕ
  pub handed : Option (List ℕ)
  pub written : Option (List ℕ)
  pub faults : ℕ
  pub so_far : Result (Unit {0}) WriteFault

-- a text begins on a sink
abbrev pub begun_on : ℕ → Option (List ℕ) → ℕ → Writing
begun_on name held faults = record {
  name = name;
  handed = held;
  written = held;
  faults = faults;
  so_far = Ok tt;
}

-- a piece goes on from what was written before it, on the same sink
pub record Puts (old new : Writing) (piece : List ℕ) : Type 0 where
  pub same : new.name ≡ old.name
  pub grew : GrewOn old.handed new.handed
  pub goes_on : GoesOn old.so_far new.so_far old.written new.written old.faults new.faults piece

-- what was kept back went over to the sink: all of it where no write failed, else a first part
pub record Finishes {T E : Type 0} (old : Writing) (result : Result T E) (held : Option (List ℕ))
    (now : ℕ) : Type 0 where
  pub ok : OnOk result (IsOk old.so_far × (held ≡ old.written))
  pub grew : GrewOn old.handed held
  pub front : Grew held old.written
  pub ok_same : OnOk result (now ≡ old.faults)
  pub never_falls : old.faults ≤ now
  pub cause : OnErr result (IsErr old.so_far ⊎ Rose old.faults now)
