-- The lines that name faults: the file, the line where there is one, and the text of the fault.
use Rattle.std.specs.Prelude.{◌≡◌, ℕ, List, [], ◌∷◌, ◌++◌, codes, decimal, map, Option, None, Some}
use Rattle.ds_base.specs.Limit.{most_of}
use Rattle.ds_base.specs.declared.number.Limit.{Limit}
use Rattle.ds_base.specs.declared.number.Limit.TheVariants.{Bytes, TableInputs, Copies, Nets}
use Rattle.ds_base.specs.declared.number.Limit.TheVariants.{Tables, Registers, Clusters, Arcs}
use Rattle.ds_base.specs.declared.number.Limit.TheVariants.{Signals, Vectors}
use Rattle.ds_design.specs.Circuit.{Circuit}
use Rattle.ds_blif.specs.declared.fault.BlifKind.{BlifKind}
use Rattle.ds_blif.specs.declared.fault.BlifKind.TheVariants as blif
use Rattle.ds_flat.specs.declared.fault.FlatKind.{FlatKind}
use Rattle.ds_flat.specs.declared.fault.FlatKind.TheVariants as flat
use Rattle.ds_netlist.specs.declared.fault.Driver.{Driver}
use Rattle.ds_netlist.specs.declared.fault.Driver.TheVariants as driver
use Rattle.ds_netlist.specs.declared.fault.NetFault.{NetFault}
use Rattle.ds_netlist.specs.declared.fault.NetFault.TheVariants as net
use Rattle.ds_rows.specs.Nets.{text_of_net, register_of}
use Rattle.ds_rows.specs.declared.fault.VectorKind.{VectorKind}
use Rattle.ds_rows.specs.declared.fault.VectorKind.TheVariants as vector

-- a fault of a file
abbrev pub file_line : List ℕ → List ℕ → List ℕ
file_line file text = file ++ codes ": " ++ text ++ codes "\n"

-- a fault of a line of a file
abbrev pub numbered_line : List ℕ → ℕ → List ℕ → List ℕ
numbered_line file number text = file ++ codes ":" ++ decimal number ++ codes ": " ++ text
    ++ codes "\n"

-- a file that was not read
abbrev pub unread_line : List ℕ → List ℕ
unread_line name = codes "desync: cannot read " ++ name ++ codes "\n"

-- what a limit is on
abbrev pub limit_text : Limit → List ℕ
limit_text Bytes = codes "bytes"
limit_text TableInputs = codes "table inputs"
limit_text Copies = codes "copies"
limit_text Nets = codes "nets"
limit_text Tables = codes "tables"
limit_text Registers = codes "registers"
limit_text Clusters = codes "clusters"
limit_text Arcs = codes "arcs"
limit_text Signals = codes "signals"
limit_text Vectors = codes "vectors"

-- a limit is passed
abbrev pub too_many_text : Limit → List ℕ
too_many_text limit = codes "too many " ++ limit_text limit ++ codes " (limit "
    ++ decimal (most_of limit) ++ codes ")"

-- a file has too many bytes
abbrev pub too_long_text : List ℕ
too_long_text = codes "too long (limit 16777216)"

-- words, each with a blank before it
abbrev pub with_blanks : List (List ℕ) → List ℕ
with_blanks [] = []
with_blanks (word ∷ words) = codes " " ++ word ++ with_blanks words

-- the fault of a line of a netlist
abbrev pub blif_text : BlifKind → List ℕ
blif_text (blif.Unsupported word) = codes "unsupported command " ++ word
blif_text blif.NoModel = codes "no model"
blif_text blif.RowWithoutTable = codes "row without table"
blif_text blif.BadWords = codes "bad words"
blif_text (blif.TooMany limit) = too_many_text limit
blif_text blif.LevelLatch = codes "level latch"
blif_text blif.BadInit = codes "bad initial value"
blif_text (blif.RepeatedModel name) = codes "repeated model " ++ name
blif_text blif.BadRow = codes "bad row"
blif_text blif.MixedRows = codes "mixed rows"

-- the fault of a command as models are copied
abbrev pub flat_text : FlatKind → List ℕ
flat_text (flat.UnknownModel name) = codes "unknown model " ++ name
flat_text (flat.Recursive names) = codes "recursive models:" ++ with_blanks names
flat_text (flat.UnknownFormal name) = codes "unknown formal " ++ name
flat_text (flat.TooMany limit) = too_many_text limit

-- what drives a net
abbrev pub driver_text : Driver → List ℕ
driver_text driver.Input = codes "input"
driver_text (driver.Table line) = codes "table at " ++ decimal line
driver_text (driver.Latch line) = codes "latch at " ++ decimal line

-- the fault of a design that is not accepted; want of memory is none
abbrev pub net_fault_text : Circuit → NetFault → Option (List ℕ)
net_fault_text c (net.SeveralClocks one other) =
    Some (codes "several clocks: " ++ text_of_net c one ++ codes " and " ++ text_of_net c other)
net_fault_text c (net.MixedEdges one other) =
    Some (codes "mixed edges: " ++ register_of c one ++ codes " and " ++ register_of c other)
net_fault_text c (net.DrivenClock clock) =
    Some (codes "clock " ++ text_of_net c clock ++ codes " is driven")
net_fault_text c (net.ClockAsData clock) =
    Some (codes "clock " ++ text_of_net c clock ++ codes " used as data")
net_fault_text c (net.MultiplyDriven twice one other) =
    Some (codes "net " ++ text_of_net c twice ++ codes " driven twice: " ++ driver_text one
    ++ codes " and " ++ driver_text other)
net_fault_text c (net.Undriven loose) = Some (codes "undriven net " ++ text_of_net c loose)
net_fault_text c (net.CombinationalCycle nets) =
    Some (codes "combinational cycle:" ++ with_blanks (map (text_of_net c) nets))
net_fault_text c net.Memory = None

-- this is the text of a fault; want of memory has none
abbrev pub IsNetFaultText : Circuit → NetFault → List ℕ → Type 0
IsNetFaultText c fault text = net_fault_text c fault ≡ Some text

-- the fault of a line of vectors
abbrev pub vector_text : VectorKind → List ℕ
vector_text (vector.TooMany limit) = too_many_text limit
vector_text vector.BadWidth = codes "bad width"
vector_text vector.BadBit = codes "bad bit"
