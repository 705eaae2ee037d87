-- Why the next window of vectors is not given.
use Rattle.std.specs.Prelude.{◌≡◌, ℕ, List}
use Rattle.ds_outside.specs.Held.{Held}
use Rattle.ds_outside.specs.declared.files.Which.TheVariants.{Vectors}
use Rattle.ds_stream.specs.Next.{RefusesHeld}
use Rattle.ds_stream.specs.Stream.{Shown}
use Rattle.ds_stream.specs.declared.fault.NextFault.{NextFault}
use Rattle.ds_stage.specs.declared.stop.Stop.{Stop}
use Rattle.ds_stage.specs.declared.stop.Stop.TheVariants.{Refused, Unread, Unwritten, Memory}
use Rattle.ds_stage.specs.FaultText.{unread_line}
use Rattle.ds_stage.specs.Stage.{OfFile}
use Rattle.ds_stage.specs.StreamStage.{IsStreamLine}

-- a stop is why a file has no next window behind what a reader shows; want of memory is free
abbrev pub StopsWindow : Held → Shown → List ℕ → OfFile → Stop → Type 0
StopsWindow held shown file failed (Refused line) =
    (fault : NextFault) × RefusesHeld held shown 4096 fault × IsStreamLine file fault line
StopsWindow held shown file failed (Unread line) =
    failed Vectors file × (line ≡ unread_line file)
StopsWindow held shown file failed Unwritten = ⊥
StopsWindow held shown file failed Memory = Unit {0}
