-- How many there may be of what is limited.
use Rattle.std.specs.Prelude.{ℕ}
use Rattle.ds_base.specs.declared.number.Limit.{Limit}
use Rattle.ds_base.specs.declared.number.Limit.TheVariants.{Bytes, TableInputs, Copies, Nets}
use Rattle.ds_base.specs.declared.number.Limit.TheVariants.{Tables, Registers, Clusters, Arcs}
use Rattle.ds_base.specs.declared.number.Limit.TheVariants.{Signals, Vectors}

-- how many there may be
abbrev pub most_of : Limit → ℕ
most_of Bytes = 16777216
most_of TableInputs = 1024
most_of Copies = 65536
most_of Nets = 65536
most_of Tables = 65536
most_of Registers = 16384
most_of Clusters = 4096
most_of Arcs = 1048576
most_of Signals = 65536
most_of Vectors = 65536
