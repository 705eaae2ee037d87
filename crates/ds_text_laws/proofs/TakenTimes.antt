-- `rate` with its files, and `times` with its files and a number, are taken.
use Rattle.std.proofs.Common.{◌≡◌, ◌∙◌, ◌≤◌, ℕ, true, [], ◌∷◌, Ok, Option, Result, refl, arith, codes}
use Rattle.std.specs.Fmt.{decimal}
use Rattle.clap.specs.Words.{Text}
use Rattle.clap.proofs.OnLiterals.{clap_on_literals}
use Rattle.ds_cmd.specs.Fault.{with_number}
use Rattle.ds_cmd.specs.Line.{job_of}
use Rattle.ds_cmd.specs.Number.{number_in_range}
use Rattle.ds_cmd.specs.Plain.{is_plain}
use Rattle.ds_cmd.specs.declared.fault.UsageFault.{UsageFault}
use Rattle.ds_cmd.specs.declared.job.Job.{Job}
use Rattle.ds_cmd.specs.declared.job.Job.TheVariants.{Rate, Times}
use Rattle.ds_text_laws.specs.BareJobs.{bare_times}
use Rattle.ds_text_laws.proofs.TakenCommands.{IsNoOption, no_option}
use Rattle.ds_text_laws.proofs.TakenNumbers.{IsWritten, written}

rate_at : (program graph delays : Text) → IsNoOption graph → IsNoOption delays
    → job_of (program ∷ codes "rate" ∷ graph ∷ delays ∷ []) ≡ Ok (Rate (record { graph = graph; delays = delays }))
unfolding clap_on_literals
rate_at program graph delays g d = rw (g.dashes, g.long, g.short) (rw (d.dashes, d.long, d.short) refl)

-- the job of `times` for so many turns
times_job_at : Text → Text → Option ℕ → Result Job UsageFault
times_job_at net delays turns = with_number turns (λ turns. Ok (Times (bare_times net delays turns)))

times_at : (program net delays word : Text) → IsNoOption net → IsNoOption delays → IsNoOption word
    → job_of (program ∷ codes "times" ∷ net ∷ delays ∷ word ∷ []) ≡ times_job_at net delays (number_in_range 0 65536 word)
unfolding clap_on_literals times_job_at
times_at program net delays word n d w = rw (n.dashes, n.long, n.short) (rw (d.dashes, d.long, d.short)
    (rw (w.dashes, w.long, w.short) (refl {a = times_job_at net delays (number_in_range 0 65536 word)})))

times_job_of : (net delays word : Text) (turns : ℕ) → IsWritten 0 65536 word turns
    → times_job_at net delays (number_in_range 0 65536 word) ≡ Ok (Times (bare_times net delays turns))
unfolding times_job_at
times_job_of net delays word turns w = rw w.number refl

pub rate_taken : (program graph delays : Text) → is_plain graph ≡ true → is_plain delays ≡ true
    → job_of (program ∷ codes "rate" ∷ graph ∷ delays ∷ []) ≡ Ok (Rate (record { graph = graph; delays = delays }))
rate_taken program graph delays g d = rate_at program graph delays (no_option graph g) (no_option delays d)

pub times_taken : (program net delays : Text) (turns : ℕ) → is_plain net ≡ true → is_plain delays ≡ true → turns ≤ 65536
    → job_of (program ∷ codes "times" ∷ net ∷ delays ∷ decimal turns ∷ []) ≡ Ok (Times (bare_times net delays turns))
times_taken program net delays turns n d few =
    let w : IsWritten 0 65536 (decimal turns) turns = written 0 65536 turns (omega arith) few (omega arith) in
    times_at program net delays (decimal turns) (no_option net n) (no_option delays d) w.plain
    ∙ times_job_of net delays (decimal turns) turns w
