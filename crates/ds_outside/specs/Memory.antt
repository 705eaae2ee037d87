-- What the files in memory hold, and how often reads of them have failed.
use Rattle.std.specs.Prelude.{ℕ, List, [], ◌∷◌, if◌then◌else◌}
use Rattle.std.specs.Str.{bytes_eq}
use Rattle.ds_outside.specs.Held.{Held, untold, absent, bytes}
use Rattle.ds_outside.specs.declared.entry.Entry.{Entry}
use Rattle.ds_outside.specs.declared.faults.Faults.{Faults}
use Rattle.ds_outside.specs.declared.files.Which.{Which}
use Rattle.ds_outside.specs.declared.files.Which.TheVariants.{Net, Graph, Vectors, Log}
use Rattle.ds_outside.specs.declared.files.Which.TheVariants.{Delays, Groups}

-- the bytes of the first entry with a name
abbrev pub held_in : List Entry → List ℕ → Held
held_in [] name = absent
held_in (entry ∷ entries) name =
    if bytes_eq entry.name name then bytes entry.content else held_in entries name

-- an empty text where nothing stands
abbrev pub or_empty : Held → Held
or_empty untold = untold
or_empty absent = bytes []
or_empty (bytes held) = bytes held

-- the same, and an empty text under a name that no entry has
abbrev pub sure_in : List Entry → List ℕ → Held
sure_in entries name = or_empty (held_in entries name)

-- how often reads of a kind have failed
abbrev pub faults_of : Faults → Which → ℕ
faults_of f Net = f.net
faults_of f Graph = f.graph
faults_of f Vectors = f.vectors
faults_of f Log = f.log
faults_of f Delays = f.delays
faults_of f Groups = f.groups
