-- What a stopped run left, and the text that is written of that.
use Rattle.std.specs.Prelude.{◌≡◌, ◌≢◌, ℕ, ◌<◌, ◌≤◌, ⊤, Bool, true, false, List, ◌++◌, length}
use Rattle.std.specs.Prelude.{Option, None, Some, Result, Err, OnOk, slice_index_or}
use Rattle.std.specs.List.{flat_map, range_with_len}
use Rattle.ds_base.specs.Word.{count_of_words}
use Rattle.ds_base.specs.Values.{Row}
use Rattle.ds_marked.specs.Graph.{Graph}
use Rattle.ds_latch.specs.Node.{Split, members, number_of}
use Rattle.ds_latch.specs.declared.node.Node.TheVariants.{Slave}
use Rattle.ds_latch.specs.Plan.{Planned}
use Rattle.ds_outside.specs.Fault.{Rose}
use Rattle.ds_outside.specs.Written.{appended, AppendsPart}
use Rattle.ds_outside.specs.Writes.{Writes}
use Rattle.ds_rows.specs.Homes.{AreHomes, no_home}
use Rattle.ds_rows.specs.Log.{at_place, fired_line, stored_text}
use Rattle.ds_rows.specs.Nets.{register_of}
use Rattle.ds_rows.specs.declared.homes.Home.{Home}
use Rattle.ds_rule.specs.Rule.{tickets}
use Rattle.ds_rule.specs.Words.{width}
use Rattle.ds_fabric.specs.Showing.{IsFiredInOrder, Recorder}
use Rattle.ds_run.specs.Halted.{IsHalted, most_firings}
use Rattle.ds_run.specs.Stored.{rows_told}
use Rattle.ds_run.specs.WindowedText.{IsLogPart}
use Rattle.ds_run.specs.Logged.{Listed}
use Rattle.ds_clocked.specs.declared.run.SimFault.{SimFault}
use Rattle.ds_clocked.specs.declared.run.SimFault.TheVariants.{Memory, Write}
use Rattle.ds_run.specs.declared.left.Left.{Left}

-- the firings of a record, the first one first, and a count for each event
pub record IsLogOfRecord (g : Graph) (r : Recorder) (log : Listed) : Type 0 where
  pub listed : IsFiredInOrder r.shown.view.run (tickets r.shown.view) log.events
  pub kinds : log.kinds ≡ length g.events

-- these where a log is wanted, and none where not
abbrev pub IsLogLeft : Bool → Graph → Recorder → Option Listed → Type 0
IsLogLeft false g r None = ⊤
IsLogLeft false g r (Some log) = ⊥
IsLogLeft true g r None = ⊥
IsLogLeft true g r (Some log) = IsLogOfRecord g r log

-- a stopped run with all that its text takes
pub record IsLeftOf (wanted : Bool) (stop jobs : ℕ) (p : Planned) (vectors : List Row)
    (left : Left) : Type 0 where
  pub halted : IsHalted stop jobs p vectors left.fired
  pub homes : AreHomes p.split left.homes.items
  pub log : IsLogLeft wanted p.graph left.fired left.log

-- each slave is a latch of the record, whose rows have a word for each 32 of its registers
pub record HasWords (s : Split) (r : Recorder) : Type 0 where
  pub near : (i : ℕ) → i < length s.clusters → number_of (Slave i) < r.shown.view.run.design_nodes
  pub wide : (i : ℕ) → i < length s.clusters
      → width r.shown.view.run (number_of (Slave i)) ≡ count_of_words (length (members s i))

-- the line of a register, by where the registers stand
abbrev pub home_line : Split → Recorder → List Home → ℕ → List ℕ
home_line s r homes register = stored_text (register_of s.circuit register)
    (at_place (slice_index_or homes register no_home).place
    (rows_told r (Slave (slice_index_or homes register no_home).cluster)))

-- the lines of all registers, by where they stand, and the line of the firings
abbrev pub homes_text : Planned → List Row → Recorder → List Home → List ℕ
homes_text p vectors r homes =
    flat_map (home_line p.split r homes) (range_with_len 0 (length homes))
    ++ fired_line r.many (most_firings p vectors)

-- it was appended, and behind it the log where there is one
abbrev pub AppendsLeft : Planned → List Row → Left → Option (List ℕ) → Option (List ℕ) → Type 0
AppendsLeft p vectors left old new =
    (rest : List ℕ) × IsLogPart p.graph left.log rest
    × (new ≡ appended old (homes_text p vectors left.fired left.homes.items ++ rest))

-- a first part of that was appended
abbrev pub AppendsLeftPart : Planned → List Row → Left → Option (List ℕ) → Option (List ℕ)
    → Type 0
AppendsLeftPart p vectors left old new =
    (rest : List ℕ) × IsLogPart p.graph left.log rest
    × AppendsPart old new (homes_text p vectors left.fired left.homes.items ++ rest)

-- it was written whole; or a first part of it, and a write failed
abbrev pub WritesLeft : {T E : Type 0} → Result T E → Planned → List Row → Left
    → Option (List ℕ) → Option (List ℕ) → ℕ → ℕ → Type 0
WritesLeft result p vectors left old new before now =
    (rest : List ℕ) × IsLogPart p.graph left.log rest
    × Writes result old new before now (homes_text p vectors left.fired left.homes.items ++ rest)

-- what a call that writes it promises
pub record EndsLeft {T : Type 0} (p : Planned) (vectors : List Row) (left : Left)
    (result : Result T SimFault) (old new : Option (List ℕ)) (before now : ℕ) : Type 0 where
  pub ok : OnOk result (AppendsLeft p vectors left old new)
  pub part : result ≡ Err Write → AppendsLeftPart p vectors left old new
  pub no_memory : result ≢ Err Memory
  pub ok_same : OnOk result (now ≡ before)
  pub never_falls : before ≤ now
  pub cause : result ≡ Err Write → Rose before now
