-- `period` and its files, in words that can only be files, are taken.
use Rattle.std.proofs.Common.{◌≡◌, true, [], ◌∷◌, Ok, Some, refl, codes}
use Rattle.clap.specs.Words.{Text}
use Rattle.clap.proofs.OnLiterals.{clap_on_literals}
use Rattle.ds_base.specs.declared.number.Mode.{Mode}
use Rattle.ds_base.specs.declared.number.Mode.TheVariants.{Each, One, Bus}
use Rattle.ds_cmd.specs.Clusters.{mode_word}
use Rattle.ds_cmd.specs.Line.{job_of}
use Rattle.ds_cmd.specs.Plain.{is_plain}
use Rattle.ds_cmd.specs.declared.job.Job.TheVariants.{Period}
use Rattle.ds_text_laws.specs.BareJobs.{bare_period}
use Rattle.ds_text_laws.proofs.TakenCommands.{IsNoOption, no_option}

period_at : (program net delays : Text) → IsNoOption net → IsNoOption delays
    → job_of (program ∷ codes "period" ∷ net ∷ delays ∷ []) ≡ Ok (Period (bare_period net delays))
unfolding clap_on_literals
period_at program net delays n d = rw (n.dashes, n.long, n.short)
    (rw (d.dashes, d.long, d.short) (refl {a = Ok (Period (bare_period net delays))}))

period_each : (program net delays : Text) → IsNoOption net → IsNoOption delays
    → job_of (program ∷ codes "period" ∷ net ∷ delays ∷ codes "--clusters" ∷ mode_word Each ∷ [])
    ≡ Ok (Period (bare_period net delays))
unfolding clap_on_literals
period_each program net delays n d = rw (n.dashes, n.long, n.short, d.dashes, d.long, d.short)
    (refl {a = Ok (Period (bare_period net delays))})

period_one : (program net delays : Text) → IsNoOption net → IsNoOption delays
    → job_of (program ∷ codes "period" ∷ net ∷ delays ∷ codes "--clusters" ∷ mode_word One ∷ [])
    ≡ Ok (Period (record (bare_period net delays) { clusters = One }))
unfolding clap_on_literals
period_one program net delays n d = rw (n.dashes, n.long, n.short, d.dashes, d.long, d.short)
    (refl {a = Ok (Period (record (bare_period net delays) { clusters = One }))})

period_bus : (program net delays : Text) → IsNoOption net → IsNoOption delays
    → job_of (program ∷ codes "period" ∷ net ∷ delays ∷ codes "--clusters" ∷ mode_word Bus ∷ [])
    ≡ Ok (Period (record (bare_period net delays) { clusters = Bus }))
unfolding clap_on_literals
period_bus program net delays n d = rw (n.dashes, n.long, n.short, d.dashes, d.long, d.short)
    (refl {a = Ok (Period (record (bare_period net delays) { clusters = Bus }))})

period_in : (program net delays : Text) (mode : Mode) → IsNoOption net → IsNoOption delays
    → job_of (program ∷ codes "period" ∷ net ∷ delays ∷ codes "--clusters" ∷ mode_word mode ∷ [])
    ≡ Ok (Period (record (bare_period net delays) { clusters = mode }))
period_in program net delays Each n d = period_each program net delays n d
period_in program net delays One n d = period_one program net delays n d
period_in program net delays Bus n d = period_bus program net delays n d

period_graph : (program net delays graph : Text) → IsNoOption net → IsNoOption delays → IsNoOption graph
    → job_of (program ∷ codes "period" ∷ net ∷ delays ∷ codes "--graph" ∷ graph ∷ [])
    ≡ Ok (Period (record (bare_period net delays) { graph = Some graph }))
unfolding clap_on_literals
period_graph program net delays graph n d g = rw (n.dashes, n.long, n.short) (rw (d.dashes, d.long, d.short)
    (rw (g.dashes, g.long, g.short) (refl {a = Ok (Period (record (bare_period net delays) { graph = Some graph }))})))

pub period_taken : (program net delays : Text) → is_plain net ≡ true → is_plain delays ≡ true
    → job_of (program ∷ codes "period" ∷ net ∷ delays ∷ []) ≡ Ok (Period (bare_period net delays))
period_taken program net delays n d =
    period_at program net delays (no_option net n) (no_option delays d)

pub period_with_mode : (program net delays : Text) (mode : Mode) → is_plain net ≡ true
    → is_plain delays ≡ true
    → job_of (program ∷ codes "period" ∷ net ∷ delays ∷ codes "--clusters" ∷ mode_word mode ∷ [])
    ≡ Ok (Period (record (bare_period net delays) { clusters = mode }))
period_with_mode program net delays mode n d =
    period_in program net delays mode (no_option net n) (no_option delays d)

pub period_with_graph : (program net delays graph : Text) → is_plain net ≡ true
    → is_plain delays ≡ true → is_plain graph ≡ true
    → job_of (program ∷ codes "period" ∷ net ∷ delays ∷ codes "--graph" ∷ graph ∷ [])
    ≡ Ok (Period (record (bare_period net delays) { graph = Some graph }))
period_with_graph program net delays graph n d g =
    period_graph program net delays graph (no_option net n) (no_option delays d) (no_option graph g)
