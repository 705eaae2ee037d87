-- A line that begins with no command is refused.
use Rattle.std.proofs.Common.{◌≡◌, ◌||◌, Bool, true, false, List, ◌∷◌, Err, refl, codes}
use Rattle.std.specs.Str.{bytes_eq}
use Rattle.clap.specs.Words.{Text}
use Rattle.clap.proofs.OnLiterals.{clap_on_literals}
use Rattle.ds_cmd.specs.Line.{job_of}
use Rattle.ds_cmd.specs.Plain.{is_command, is_plain}
use Rattle.ds_cmd.specs.declared.fault.UsageFault.TheVariants.{Line}
use Rattle.ds_text_laws.proofs.TakenCommands.{IsNoOption, no_option}

-- the word is none of the commands that the program names itself
record IsNoCommand (word : Text) : Type 0 where
  run : bytes_eq (codes "run") word ≡ false
  clock : bytes_eq (codes "clock") word ≡ false
  check : bytes_eq (codes "check") word ≡ false
  graph : bytes_eq (codes "graph") word ≡ false
  replay : bytes_eq (codes "replay") word ≡ false
  accept : bytes_eq (codes "accept") word ≡ false
  demo : bytes_eq (codes "demo") word ≡ false
  period : bytes_eq (codes "period") word ≡ false
  clusters : bytes_eq (codes "clusters") word ≡ false
  rate : bytes_eq (codes "rate") word ≡ false
  times : bytes_eq (codes "times") word ≡ false

-- none of the tests of a chain holds, in eleven steps
abbrev any_of : (a b c d f h k m n o p : Bool) → Bool
any_of a b c d f h k m n o p = a || (b || (c || (d || (f || (h || (k || (m || (n || (o || (p || false))))))))))

none_of : (a b c d f h k m n o p : Bool) → any_of a b c d f h k m n o p ≡ false
    → (a ≡ false) × (b ≡ false) × (c ≡ false) × (d ≡ false)
    × (f ≡ false) × (h ≡ false) × (k ≡ false) × (m ≡ false) × (n ≡ false) × (o ≡ false) × (p ≡ false)
none_of false false false false false false false false false false false e =
    (refl, refl, refl, refl, refl, refl, refl, refl, refl, refl, refl)
none_of false false false false false false false false false false true e = cc
none_of false false false false false false false false false true p e = cc
none_of false false false false false false false false true o p e = cc
none_of false false false false false false false true n o p e = cc
none_of false false false false false false true m n o p e = cc
none_of false false false false false true k m n o p e = cc
none_of false false false false true h k m n o p e = cc
none_of false false false true f h k m n o p e = cc
none_of false false true d f h k m n o p e = cc
none_of false true c d f h k m n o p e = cc
none_of true b c d f h k m n o p e = cc

no_command : (word : Text) → is_command word ≡ false → IsNoCommand word
no_command word e =
    let (no_run, no_clock, no_check, no_graph, no_replay, no_accept, no_demo, no_period, no_clusters, no_rate, no_times) =
    none_of (bytes_eq (codes "run") word) (bytes_eq (codes "clock") word) (bytes_eq (codes "check") word) (bytes_eq (codes "graph") word) (bytes_eq (codes "replay") word) (bytes_eq (codes "accept") word) (bytes_eq (codes "demo") word) (bytes_eq (codes "period") word) (bytes_eq (codes "clusters") word) (bytes_eq (codes "rate") word) (bytes_eq (codes "times") word) e in
    record { run = no_run; clock = no_clock; check = no_check; graph = no_graph; replay = no_replay; accept = no_accept; demo = no_demo; period = no_period; clusters = no_clusters; rate = no_rate; times = no_times }

-- the word `help` asks for help
help_at : (program name : Text) (words : List Text) → IsNoCommand name → bytes_eq (codes "help") name ≡ true → job_of (program ∷ name ∷ words) ≡ Err Line
unfolding clap_on_literals
help_at program name words n h = rw (n.run, n.clock, n.check, n.graph, n.replay, n.accept, n.demo, n.period, n.clusters, n.rate, n.times, h) refl

-- another word is taken by nothing
stray_at : (program name : Text) (words : List Text) → IsNoCommand name → bytes_eq (codes "help") name ≡ false → IsNoOption name → job_of (program ∷ name ∷ words) ≡ Err Line
unfolding clap_on_literals
stray_at program name words n h o = rw (n.run, n.clock, n.check, n.graph, n.replay, n.accept, n.demo, n.period, n.clusters, n.rate, n.times, h) (rw (o.dashes, o.long, o.short) refl)

pub refused_name : (program name : Text) (words : List Text) → is_plain name ≡ true → is_command name ≡ false → job_of (program ∷ name ∷ words) ≡ Err Line
refused_name program name words plain other = go (bytes_eq (codes "help") name) refl
  where
    go : (b : Bool) → bytes_eq (codes "help") name ≡ b → job_of (program ∷ name ∷ words) ≡ Err Line
    go true h = help_at program name words (no_command name other) h
    go false h = stray_at program name words (no_command name other) h (no_option name plain)
