-- A command and its files, in words that can only be files, are taken.
use Rattle.std.proofs.Common.{◌≡◌, ◌==◌, ◌&&◌, Bool, true, false, not, [], ◌∷◌, Ok, Some, None, refl, codes}
use Rattle.std.specs.Prelude.{if◌then◌else◌, option_and_then}
use Rattle.std.specs.Str.{bytes_eq}
use Rattle.clap.specs.Words.{Text}
use Rattle.clap.specs.Lexer.{short_of, short_of_rest, long_of, long_of_rest, strip_byte}
use Rattle.clap.proofs.OnLiterals.{clap_on_literals}
use Rattle.ds_cmd.specs.Argument.{flag_with}
use Rattle.ds_cmd.specs.Line.{job_of}
use Rattle.ds_cmd.specs.Plain.{is_plain}
use Rattle.ds_cmd.specs.declared.job.Job.TheVariants.{Run, Clock, Check, Graph}
use Rattle.ds_base.specs.declared.number.Mode.{Mode}
use Rattle.ds_base.specs.declared.number.Mode.TheVariants.{Each, One, Bus}
use Rattle.ds_cmd.specs.Clusters.{mode_word}
use Rattle.ds_text_laws.specs.BareJobs.{bare_graph, bare_run}

-- a test that is not true
not_true : (b : Bool) → not b ≡ true → b ≡ false
not_true true e = cc
not_true false e = refl

-- no test holds beside one that does not
none_beside : (b : Bool) → (b && false) ≡ false
none_beside true = refl
none_beside false = refl

-- a word of one byte is no long option
alone_long : (b : Bool) → option_and_then long_of_rest (option_and_then (strip_byte 45) (if b then Some [] else None)) ≡ None
alone_long true = refl
alone_long false = refl

-- and no short one
alone_short : (b : Bool) → option_and_then short_of_rest (if b then Some [] else None) ≡ None
alone_short true = refl
alone_short false = refl

-- `clap` reads the word as one that is no option
pub record IsNoOption (word : Text) : Type 0 where
  pub dashes : bytes_eq word (45 ∷ 45 ∷ []) ≡ false
  pub long : long_of word ≡ None
  pub short : short_of word ≡ None

-- a plain word is one
pub no_option : (word : Text) → is_plain word ≡ true → IsNoOption word
no_option [] plain = record { dashes = refl; long = refl; short = refl }
no_option (byte ∷ []) plain = record {
  dashes = none_beside (byte == 45);
  long = alone_long (byte == 45);
  short = alone_short (byte == 45);
}
no_option (byte ∷ next ∷ rest) plain = let e = not_true (byte == 45) plain in record { dashes = rw e refl; long = rw e refl; short = rw e refl }

run_at : (program net vec : Text) → IsNoOption net → IsNoOption vec → job_of (program ∷ codes "run" ∷ net ∷ vec ∷ []) ≡ Ok (Run (bare_run net vec))
unfolding clap_on_literals
run_at program net vec n v = rw (n.dashes, n.long, n.short) (rw (v.dashes, v.long, v.short) (refl {a = Ok (Run (bare_run net vec))}))

run_each : (program net vec : Text) → IsNoOption net → IsNoOption vec → job_of (program ∷ codes "run" ∷ net ∷ vec ∷ codes "--clusters" ∷ mode_word Each ∷ []) ≡ Ok (Run (bare_run net vec))
unfolding clap_on_literals
run_each program net vec n v = rw (n.dashes, n.long, n.short, v.dashes, v.long, v.short) (refl {a = Ok (Run (bare_run net vec))})

run_one : (program net vec : Text) → IsNoOption net → IsNoOption vec → job_of (program ∷ codes "run" ∷ net ∷ vec ∷ codes "--clusters" ∷ mode_word One ∷ []) ≡ Ok (Run (record (bare_run net vec) { clusters = One }))
unfolding clap_on_literals
run_one program net vec n v = rw (n.dashes, n.long, n.short, v.dashes, v.long, v.short) (refl {a = Ok (Run (record (bare_run net vec) { clusters = One }))})

run_bus : (program net vec : Text) → IsNoOption net → IsNoOption vec → job_of (program ∷ codes "run" ∷ net ∷ vec ∷ codes "--clusters" ∷ mode_word Bus ∷ []) ≡ Ok (Run (record (bare_run net vec) { clusters = Bus }))
unfolding clap_on_literals
run_bus program net vec n v = rw (n.dashes, n.long, n.short, v.dashes, v.long, v.short) (refl {a = Ok (Run (record (bare_run net vec) { clusters = Bus }))})

run_in : (program net vec : Text) (mode : Mode) → IsNoOption net → IsNoOption vec → job_of (program ∷ codes "run" ∷ net ∷ vec ∷ codes "--clusters" ∷ mode_word mode ∷ []) ≡ Ok (Run (record (bare_run net vec) { clusters = mode }))
run_in program net vec Each n v = run_each program net vec n v
run_in program net vec One n v = run_one program net vec n v
run_in program net vec Bus n v = run_bus program net vec n v

clock_at : (program net vec : Text) → IsNoOption net → IsNoOption vec → job_of (program ∷ codes "clock" ∷ net ∷ vec ∷ []) ≡ Ok (Clock (record { net = net; vec = vec }))
unfolding clap_on_literals
clock_at program net vec n v = rw (n.dashes, n.long, n.short) (rw (v.dashes, v.long, v.short) refl)

check_at : (program net : Text) → IsNoOption net → job_of (program ∷ codes "check" ∷ net ∷ []) ≡ Ok (Check net)
unfolding clap_on_literals
check_at program net n = rw (n.dashes, n.long, n.short) refl

graph_at : (program net : Text) → IsNoOption net → job_of (program ∷ codes "graph" ∷ net ∷ []) ≡ Ok (Graph (bare_graph net))
unfolding clap_on_literals flag_with
graph_at program net n = rw (n.dashes, n.long, n.short) refl

graph_each : (program net : Text) → IsNoOption net → job_of (program ∷ codes "graph" ∷ net ∷ codes "--clusters" ∷ mode_word Each ∷ []) ≡ Ok (Graph (record (bare_graph net) { clusters = Each }))
unfolding clap_on_literals flag_with
graph_each program net n = rw (n.dashes, n.long, n.short) (refl {a = Ok (Graph (record (bare_graph net) { clusters = Each }))})

graph_one : (program net : Text) → IsNoOption net → job_of (program ∷ codes "graph" ∷ net ∷ codes "--clusters" ∷ mode_word One ∷ []) ≡ Ok (Graph (record (bare_graph net) { clusters = One }))
unfolding clap_on_literals flag_with
graph_one program net n = rw (n.dashes, n.long, n.short) (refl {a = Ok (Graph (record (bare_graph net) { clusters = One }))})

graph_bus : (program net : Text) → IsNoOption net → job_of (program ∷ codes "graph" ∷ net ∷ codes "--clusters" ∷ mode_word Bus ∷ []) ≡ Ok (Graph (record (bare_graph net) { clusters = Bus }))
unfolding clap_on_literals flag_with
graph_bus program net n = rw (n.dashes, n.long, n.short) (refl {a = Ok (Graph (record (bare_graph net) { clusters = Bus }))})

graph_in : (program net : Text) (mode : Mode) → IsNoOption net → job_of (program ∷ codes "graph" ∷ net ∷ codes "--clusters" ∷ mode_word mode ∷ []) ≡ Ok (Graph (record (bare_graph net) { clusters = mode }))
graph_in program net Each n = graph_each program net n
graph_in program net One n = graph_one program net n
graph_in program net Bus n = graph_bus program net n

graph_shaken : (program net : Text) → IsNoOption net → job_of (program ∷ codes "graph" ∷ net ∷ codes "--shake" ∷ []) ≡ Ok (Graph (record (bare_graph net) { shake = true }))
unfolding clap_on_literals flag_with
graph_shaken program net n = rw (n.dashes, n.long, n.short) refl

pub run_taken : (program net vec : Text) → is_plain net ≡ true → is_plain vec ≡ true → job_of (program ∷ codes "run" ∷ net ∷ vec ∷ []) ≡ Ok (Run (bare_run net vec))
run_taken program net vec n v = run_at program net vec (no_option net n) (no_option vec v)

pub run_with_mode : (program net vec : Text) (mode : Mode) → is_plain net ≡ true → is_plain vec ≡ true → job_of (program ∷ codes "run" ∷ net ∷ vec ∷ codes "--clusters" ∷ mode_word mode ∷ []) ≡ Ok (Run (record (bare_run net vec) { clusters = mode }))
run_with_mode program net vec mode n v = run_in program net vec mode (no_option net n) (no_option vec v)

pub clock_taken : (program net vec : Text) → is_plain net ≡ true → is_plain vec ≡ true → job_of (program ∷ codes "clock" ∷ net ∷ vec ∷ []) ≡ Ok (Clock (record { net = net; vec = vec }))
clock_taken program net vec n v = clock_at program net vec (no_option net n) (no_option vec v)

pub check_taken : (program net : Text) → is_plain net ≡ true → job_of (program ∷ codes "check" ∷ net ∷ []) ≡ Ok (Check net)
check_taken program net n = check_at program net (no_option net n)

pub graph_taken : (program net : Text) → is_plain net ≡ true → job_of (program ∷ codes "graph" ∷ net ∷ []) ≡ Ok (Graph (bare_graph net))
graph_taken program net n = graph_at program net (no_option net n)

pub graph_with_mode : (program net : Text) (mode : Mode) → is_plain net ≡ true → job_of (program ∷ codes "graph" ∷ net ∷ codes "--clusters" ∷ mode_word mode ∷ []) ≡ Ok (Graph (record (bare_graph net) { clusters = mode }))
graph_with_mode program net mode n = graph_in program net mode (no_option net n)

pub graph_with_shake : (program net : Text) → is_plain net ≡ true → job_of (program ∷ codes "graph" ∷ net ∷ codes "--shake" ∷ []) ≡ Ok (Graph (record (bare_graph net) { shake = true }))
graph_with_shake program net n = graph_shaken program net (no_option net n)
