-- Numbers behind `--jobs`, `--slack` and `--stop` and those of `demo`, and the option `--log`, are
-- taken.
use Rattle.std.proofs.Common.{◌≡◌, ◌<◌, ◌≤◌, ◌^◌, ℕ, true, [], ◌∷◌, Ok, Option, Some, Result, refl, ap, ◌∙◌, arith, codes}
use Rattle.std.specs.Prelude.{option_map}
use Rattle.std.specs.Fmt.{decimal}
use Rattle.clap.specs.Words.{Text}
use Rattle.clap.proofs.OnLiterals.{clap_on_literals}
use Rattle.ds_cmd.specs.Fault.{with_number}
use Rattle.ds_cmd.specs.Line.{job_of}
use Rattle.ds_cmd.specs.Number.{number_in_range}
use Rattle.ds_cmd.specs.Plain.{is_plain}
use Rattle.ds_cmd.specs.declared.fault.UsageFault.{UsageFault}
use Rattle.ds_cmd.specs.declared.job.Job.{Job}
use Rattle.ds_cmd.specs.declared.job.Job.TheVariants.{Run, Demo}
use Rattle.ds_cmd.proofs.NumberWords.{number_of-decimal, plain_number}
use Rattle.ds_text_laws.specs.BareJobs.{bare_run}
use Rattle.ds_text_laws.proofs.TakenCommands.{IsNoOption, no_option}

-- a word that is read as a number
pub record IsWritten (least most : ℕ) (word : Text) (value : ℕ) : Type 0 where
  pub plain : IsNoOption word
  pub number : number_in_range least most word ≡ Some value

pub written : (least most value : ℕ) → least ≤ value → value ≤ most → value < 2 ^ 64
    → IsWritten least most (decimal value) value
written least most value from to fits =
    let number = number_of-decimal least most value from to fits in
    record {
      plain = no_option (decimal value) (plain_number least most (decimal value) value number);
      number = number;
    }

-- the greatest number of 64 bits
most_number : ℕ
most_number = 18446744073709551615

-- the job of `run` with so many threads
run_job_at : Text → Text → Option ℕ → Result Job UsageFault
run_job_at net vec jobs = with_number jobs (λ jobs. Ok (Run (record (bare_run net vec) { jobs = jobs })))

jobs_at : (program net vec word : Text) → IsNoOption net → IsNoOption vec → IsNoOption word
    → job_of (program ∷ codes "run" ∷ net ∷ vec ∷ codes "--jobs" ∷ word ∷ [])
    ≡ run_job_at net vec (number_in_range 1 64 word)
unfolding clap_on_literals run_job_at
jobs_at program net vec word n v w = rw (n.dashes, n.long, n.short) (rw (v.dashes, v.long, v.short)
    (rw (w.dashes, w.long, w.short) (refl {a = run_job_at net vec (number_in_range 1 64 word)})))

run_job_of : (net vec word : Text) (jobs : ℕ) → IsWritten 1 64 word jobs
    → run_job_at net vec (number_in_range 1 64 word) ≡ Ok (Run (record (bare_run net vec) { jobs = jobs }))
unfolding run_job_at
run_job_of net vec word jobs w = rw w.number refl

-- the job of `run` with so much slack
run_job_with : Text → Text → Option ℕ → Result Job UsageFault
run_job_with net vec slack = with_number slack (λ slack. Ok (Run (record (bare_run net vec) { slack = slack })))

slack_at : (program net vec word : Text) → IsNoOption net → IsNoOption vec → IsNoOption word
    → job_of (program ∷ codes "run" ∷ net ∷ vec ∷ codes "--slack" ∷ word ∷ [])
    ≡ run_job_with net vec (number_in_range 0 15 word)
unfolding clap_on_literals run_job_with
slack_at program net vec word n v w = rw (n.dashes, n.long, n.short) (rw (v.dashes, v.long, v.short)
    (rw (w.dashes, w.long, w.short) (refl {a = run_job_with net vec (number_in_range 0 15 word)})))

run_job_slack : (net vec word : Text) (slack : ℕ) → IsWritten 0 15 word slack
    → run_job_with net vec (number_in_range 0 15 word) ≡ Ok (Run (record (bare_run net vec) { slack = slack }))
unfolding run_job_with
run_job_slack net vec word slack w = rw w.number refl

-- the job of `run` that stops there
run_job_to : Text → Text → Option (Option ℕ) → Result Job UsageFault
run_job_to net vec stop = with_number stop (λ stop. Ok (Run (record (bare_run net vec) { stop = stop })))

stop_at : (program net vec word : Text) → IsNoOption net → IsNoOption vec → IsNoOption word
    → job_of (program ∷ codes "run" ∷ net ∷ vec ∷ codes "--stop" ∷ word ∷ [])
    ≡ run_job_to net vec (option_map Some (number_in_range 0 most_number word))
unfolding clap_on_literals run_job_to most_number
stop_at program net vec word n v w = rw (n.dashes, n.long, n.short) (rw (v.dashes, v.long, v.short)
    (rw (w.dashes, w.long, w.short)
    (refl {a = run_job_to net vec (option_map Some (number_in_range 0 most_number word))})))

run_job_stop : (net vec word : Text) (stop : ℕ) → IsWritten 0 most_number word stop
    → run_job_to net vec (option_map Some (number_in_range 0 most_number word))
    ≡ Ok (Run (record (bare_run net vec) { stop = Some stop }))
unfolding run_job_to
run_job_stop net vec word stop w = rw w.number refl

log_at : (program net vec : Text) → IsNoOption net → IsNoOption vec
    → job_of (program ∷ codes "run" ∷ net ∷ vec ∷ codes "--log" ∷ [])
    ≡ Ok (Run (record (bare_run net vec) { log = true }))
unfolding clap_on_literals
log_at program net vec n v = rw (n.dashes, n.long, n.short)
    (rw (v.dashes, v.long, v.short) (refl {a = Ok (Run (record (bare_run net vec) { log = true }))}))

-- the job of `demo` at these words
demo_job_at : Text → Text → Text → Option ℕ → Result Job UsageFault
demo_job_at a b c jobs = with_number (number_in_range 0 most_number a) (λ seed.
    with_number (number_in_range 1 4096 b) (λ registers.
    with_number (number_in_range 0 65536 c) (λ turns.
    with_number jobs (λ jobs. Ok (Demo (record { seed = seed; registers = registers; turns = turns; jobs = jobs }))))))

demo_at : (program a b c : Text) → IsNoOption a → IsNoOption b → IsNoOption c
    → job_of (program ∷ codes "demo" ∷ a ∷ b ∷ c ∷ []) ≡ demo_job_at a b c (Some 1)
unfolding clap_on_literals demo_job_at most_number
demo_at program a b c s r t = rw (s.dashes, s.long, s.short) (rw (r.dashes, r.long, r.short)
    (rw (t.dashes, t.long, t.short) (refl {a = demo_job_at a b c (Some 1)})))

demo_in : (program a b c d : Text) → IsNoOption a → IsNoOption b → IsNoOption c → IsNoOption d
    → job_of (program ∷ codes "demo" ∷ a ∷ b ∷ c ∷ codes "--jobs" ∷ d ∷ [])
    ≡ demo_job_at a b c (number_in_range 1 64 d)
unfolding clap_on_literals demo_job_at most_number
demo_in program a b c d s r t j = rw (s.dashes, s.long, s.short) (rw (r.dashes, r.long, r.short)
    (rw (t.dashes, t.long, t.short) (rw (j.dashes, j.long, j.short)
    (refl {a = demo_job_at a b c (number_in_range 1 64 d)}))))

-- three words that are read as the numbers of `demo`
record AreWritten (a b c : Text) (s r t : ℕ) : Type 0 where
  seed : IsWritten 0 most_number a s
  registers : IsWritten 1 4096 b r
  turns : IsWritten 0 65536 c t

are_written : (seed registers turns : ℕ) → seed < 2 ^ 64 → 1 ≤ registers → registers ≤ 4096
    → turns ≤ 65536
    → AreWritten (decimal seed) (decimal registers) (decimal turns) seed registers turns
unfolding most_number
are_written seed registers turns s r most t = record {
  seed = written 0 most_number seed (omega arith) (omega arith) s;
  registers = written 1 4096 registers r most (omega arith);
  turns = written 0 65536 turns (omega arith) t (omega arith);
}

demo_job_of : (a b c : Text) (seed registers turns jobs : ℕ) → AreWritten a b c seed registers turns
    → demo_job_at a b c (Some jobs) ≡ Ok (Demo (record { seed = seed; registers = registers; turns = turns; jobs = jobs }))
unfolding demo_job_at
demo_job_of a b c seed registers turns jobs w =
    rw (w.seed.number, w.registers.number, w.turns.number) refl

pub run_with_jobs : (program net vec : Text) (jobs : ℕ) → is_plain net ≡ true → is_plain vec ≡ true
    → 1 ≤ jobs → jobs ≤ 64
    → job_of (program ∷ codes "run" ∷ net ∷ vec ∷ codes "--jobs" ∷ decimal jobs ∷ [])
    ≡ Ok (Run (record (bare_run net vec) { jobs = jobs }))
run_with_jobs program net vec jobs n v from to =
    let w : IsWritten 1 64 (decimal jobs) jobs = written 1 64 jobs from to (omega arith) in
    jobs_at program net vec (decimal jobs) (no_option net n) (no_option vec v) w.plain
    ∙ run_job_of net vec (decimal jobs) jobs w

pub run_with_slack : (program net vec : Text) (slack : ℕ) → is_plain net ≡ true
    → is_plain vec ≡ true → slack ≤ 15
    → job_of (program ∷ codes "run" ∷ net ∷ vec ∷ codes "--slack" ∷ decimal slack ∷ [])
    ≡ Ok (Run (record (bare_run net vec) { slack = slack }))
run_with_slack program net vec slack n v to =
    let w : IsWritten 0 15 (decimal slack) slack = written 0 15 slack (omega arith) to (omega arith) in
    slack_at program net vec (decimal slack) (no_option net n) (no_option vec v) w.plain
    ∙ run_job_slack net vec (decimal slack) slack w

pub run_with_stop : (program net vec : Text) (stop : ℕ) → is_plain net ≡ true
    → is_plain vec ≡ true → stop < 2 ^ 64
    → job_of (program ∷ codes "run" ∷ net ∷ vec ∷ codes "--stop" ∷ decimal stop ∷ [])
    ≡ Ok (Run (record (bare_run net vec) { stop = Some stop }))
unfolding most_number
run_with_stop program net vec stop n v fits =
    let w : IsWritten 0 most_number (decimal stop) stop =
    written 0 most_number stop (omega arith) (omega arith) fits in
    stop_at program net vec (decimal stop) (no_option net n) (no_option vec v) w.plain
    ∙ run_job_stop net vec (decimal stop) stop w

pub run_with_log : (program net vec : Text) → is_plain net ≡ true → is_plain vec ≡ true
    → job_of (program ∷ codes "run" ∷ net ∷ vec ∷ codes "--log" ∷ [])
    ≡ Ok (Run (record (bare_run net vec) { log = true }))
run_with_log program net vec n v = log_at program net vec (no_option net n) (no_option vec v)

pub demo_taken : (program : Text) (seed registers turns : ℕ) → seed < 2 ^ 64
    → 1 ≤ registers → registers ≤ 4096 → turns ≤ 65536
    → job_of (program ∷ codes "demo" ∷ decimal seed ∷ decimal registers ∷ decimal turns ∷ [])
    ≡ Ok (Demo (record { seed = seed; registers = registers; turns = turns; jobs = 1 }))
demo_taken program seed registers turns s r most t =
    let w = are_written seed registers turns s r most t in
    demo_at program _ _ _ w.seed.plain w.registers.plain w.turns.plain
    ∙ demo_job_of _ _ _ seed registers turns 1 w

pub demo_with_jobs : (program : Text) (seed registers turns jobs : ℕ) → seed < 2 ^ 64
    → 1 ≤ registers → registers ≤ 4096 → turns ≤ 65536 → 1 ≤ jobs → jobs ≤ 64
    → job_of (program ∷ codes "demo" ∷ decimal seed ∷ decimal registers ∷ decimal turns
    ∷ codes "--jobs" ∷ decimal jobs ∷ []) ≡ Ok (Demo (record { seed = seed; registers = registers; turns = turns; jobs = jobs }))
demo_with_jobs program seed registers turns jobs s r most t from to =
    let w = are_written seed registers turns s r most t in
    let j : IsWritten 1 64 (decimal jobs) jobs = written 1 64 jobs from to (omega arith) in
    demo_in program _ _ _ _ w.seed.plain w.registers.plain w.turns.plain j.plain
    ∙ ap (demo_job_at (decimal seed) (decimal registers) (decimal turns)) j.number
    ∙ demo_job_of _ _ _ seed registers turns jobs w
