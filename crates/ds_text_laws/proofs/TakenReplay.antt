-- `replay`, its files and the options behind them, in words that can only be files, are taken.
use Rattle.std.proofs.Common.{◌≡◌, ◌≤◌, ◌∙◌, ℕ, true, [], ◌∷◌, Ok, Option, Result, refl, arith, codes}
use Rattle.std.specs.Fmt.{decimal}
use Rattle.clap.specs.Words.{Text}
use Rattle.clap.proofs.OnLiterals.{clap_on_literals}
use Rattle.ds_cmd.specs.Argument.{flag_with}
use Rattle.ds_cmd.specs.Fault.{with_number}
use Rattle.ds_cmd.specs.Line.{job_of}
use Rattle.ds_cmd.specs.Number.{number_in_range}
use Rattle.ds_cmd.specs.Plain.{is_plain}
use Rattle.ds_cmd.specs.declared.fault.UsageFault.{UsageFault}
use Rattle.ds_cmd.specs.declared.job.Job.{Job}
use Rattle.ds_cmd.specs.declared.job.Job.TheVariants.{Replay}
use Rattle.ds_text_laws.specs.BareJobs.{bare_replay}
use Rattle.ds_text_laws.proofs.TakenCommands.{IsNoOption, no_option}
use Rattle.ds_text_laws.proofs.TakenNumbers.{IsWritten, written}

replay_at : (program net vec log : Text) → IsNoOption net → IsNoOption vec → IsNoOption log
    → job_of (program ∷ codes "replay" ∷ net ∷ vec ∷ log ∷ [])
    ≡ Ok (Replay (bare_replay net vec log))
unfolding clap_on_literals flag_with
replay_at program net vec log n v l =
    rw (n.dashes, n.long, n.short, v.dashes, v.long, v.short, l.dashes, l.long, l.short)
    (refl {a = Ok (Replay (bare_replay net vec log))})

-- the job of `replay` with so much slack
replay_job_with : Text → Text → Text → Option ℕ → Result Job UsageFault
replay_job_with net vec log slack =
    with_number slack (λ slack. Ok (Replay (record (bare_replay net vec log) { slack = slack })))

slack_at : (program net vec log word : Text) → IsNoOption net → IsNoOption vec → IsNoOption log
    → IsNoOption word
    → job_of (program ∷ codes "replay" ∷ net ∷ vec ∷ log ∷ codes "--slack" ∷ word ∷ [])
    ≡ replay_job_with net vec log (number_in_range 0 15 word)
unfolding clap_on_literals flag_with replay_job_with
slack_at program net vec log word n v l w =
    rw (n.dashes, n.long, n.short) (rw (v.dashes, v.long, v.short)
    (rw (l.dashes, l.long, l.short) (rw w.dashes (rw w.long (rw w.short
    (refl {a = replay_job_with net vec log (number_in_range 0 15 word)}))))))

replay_job_slack : (net vec log word : Text) (slack : ℕ) → IsWritten 0 15 word slack
    → replay_job_with net vec log (number_in_range 0 15 word)
    ≡ Ok (Replay (record (bare_replay net vec log) { slack = slack }))
unfolding replay_job_with
replay_job_slack net vec log word slack w = rw w.number refl

transparent_at : (program net vec log : Text) → IsNoOption net → IsNoOption vec → IsNoOption log
    → job_of (program ∷ codes "replay" ∷ net ∷ vec ∷ log ∷ codes "--transparent" ∷ [])
    ≡ Ok (Replay (record (bare_replay net vec log) { transparent = true }))
unfolding clap_on_literals flag_with
transparent_at program net vec log n v l =
    rw (n.dashes, n.long, n.short) (rw (v.dashes, v.long, v.short)
    (rw (l.dashes, l.long, l.short) (refl {a = Ok (Replay (record (bare_replay net vec log) { transparent = true }))})))

pub replay_taken : (program net vec log : Text) → is_plain net ≡ true → is_plain vec ≡ true
    → is_plain log ≡ true
    → job_of (program ∷ codes "replay" ∷ net ∷ vec ∷ log ∷ [])
    ≡ Ok (Replay (bare_replay net vec log))
replay_taken program net vec log n v l =
    replay_at program net vec log (no_option net n) (no_option vec v) (no_option log l)

pub replay_with_slack : (program net vec log : Text) (slack : ℕ) → is_plain net ≡ true
    → is_plain vec ≡ true → is_plain log ≡ true → slack ≤ 15
    → job_of (program ∷ codes "replay" ∷ net ∷ vec ∷ log ∷ codes "--slack" ∷ decimal slack ∷ [])
    ≡ Ok (Replay (record (bare_replay net vec log) { slack = slack }))
replay_with_slack program net vec log slack n v l to =
    let w : IsWritten 0 15 (decimal slack) slack = written 0 15 slack (omega arith) to (omega arith) in
    slack_at program net vec log (decimal slack) (no_option net n) (no_option vec v)
    (no_option log l) w.plain
    ∙ replay_job_slack net vec log (decimal slack) slack w

pub replay_with_transparent : (program net vec log : Text) → is_plain net ≡ true
    → is_plain vec ≡ true → is_plain log ≡ true
    → job_of (program ∷ codes "replay" ∷ net ∷ vec ∷ log ∷ codes "--transparent" ∷ [])
    ≡ Ok (Replay (record (bare_replay net vec log) { transparent = true }))
replay_with_transparent program net vec log n v l =
    transparent_at program net vec log (no_option net n) (no_option vec v) (no_option log l)
