-- What the parse of the command says of the job that the words mean.
use Rattle.std.proofs.Common.{◌≡◌, true, List, [], ◌∷◌, Err, refl}
use Rattle.clap.specs.Words.{IsAmong, Kinds, Text, fault_of, is_simple, is_simple_and_free, subcommand_of}
use Rattle.clap.proofs.OnLiterals.{clap_on_literals}
use Rattle.clap.specs.declared.error.kind.ErrorKind.{ErrorKind}
use Rattle.ds_cmd.specs.Commands.{desync}
use Rattle.ds_cmd.specs.Line.{job_in, job_of}
use Rattle.ds_cmd.specs.declared.fault.UsageFault.TheVariants.{Line}

-- the command is simple, and no argument has a rule on another
pub is_free : is_simple_and_free desync ≡ true
unfolding clap_on_literals
is_free = refl

-- the command is simple
pub is_plainly : is_simple desync ≡ true
unfolding clap_on_literals
is_plainly = refl

-- the job of words that the command takes
pub taken : (words : List Text) → fault_of desync words ≡ [] → job_of words ≡ job_in (subcommand_of desync words)
taken words e = rw e refl

-- the fault of words that the command does not take
pub refused : (words : List Text) (k : ErrorKind) → IsAmong k (fault_of desync words) → job_of words ≡ Err Line
refused words k h = go (fault_of desync words) refl h
  where
    go : (kinds : Kinds) → fault_of desync words ≡ kinds → IsAmong k kinds → job_of words ≡ Err Line
    go [] e bad = absurd bad
    go (x ∷ xs) e h = rw e refl
