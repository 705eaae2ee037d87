use Rattle.std.proofs.Common.{◌≡◌, ◌∙◌, inl, inr, ap, sym, subst, true, map, [], Result}
use Rattle.clap.specs.Words.{App, HasMatchesOf, HasKind, fault_of, is_simple_and_free, kind_of}
use Rattle.ds_cmd.specs.Fault.{Gives}
use Rattle.ds_cmd.specs.Line.{job_in}
use Rattle.ds_cmd.specs.declared.job.Job.{Job}
use Rattle.ds_cmd.specs.declared.fault.UsageFault.{UsageFault}
use Rattle.ds_cmd.proofs.AllowedNumbers.{allowed_if_given}
use Rattle.ds_cmd.proofs.MemoryAnswers.{wants_memory}
use Rattle.ds_cmd.proofs.ParsedJob.{is_free, is_plainly, taken, refused}
use Rattle.ds_cmd.proofs.line.parse.Goals as goal

pub returns-in_err-command-clause-value : goal.returns-in_err-command-clause-value
returns-in_err-command-clause-value c = wants_memory _ _ c.from_residual.ensures

pub returns-in-Ok-clause-value : goal.returns-in-Ok-clause-value
returns-in-Ok-clause-value c =
    let kinds = subst (λ (a : App). is_simple_and_free a ≡ true → fault_of a (map (λ w. w.now) c.args.words.now) ≡ []) c.in_ok-command.ensures c.in-Ok.ensures.kinds in
    let matches = subst (λ (a : App). HasMatchesOf a (map (λ w. w.now) c.args.words.now) c.in-Ok.matches) c.in_ok-command.ensures c.in-Ok.ensures.matches in
    let same = taken (map (λ w. w.now) c.args.words.now) (kinds is_free) ∙ ap job_in (sym (matches is_plainly).1) in
    subst (λ (meant : Result Job UsageFault). Gives meant c.job.result) (sym same) c.job.ensures

pub returns-in-Err-clause-value : goal.returns-in-Err-clause-value
returns-in-Err-clause-value c =
    let kinds = subst (λ (a : App). is_simple_and_free a ≡ true → HasKind (fault_of a (map (λ w. w.now) c.args.words.now)) c.in-Err.error) c.in_ok-command.ensures c.in-Err.ensures.kinds in
    elim (kinds is_free) [
      | inl memory ↦ inl (c.usage_fault.ensures.memory memory)
      | inr among ↦ elim c.usage_fault.ensures.others [
        | inl memory ↦ inl memory
        | inr line ↦ inr (rw line (refused (map (λ w. w.now) c.args.words.now) (kind_of c.in-Err.error) among))
      ]
    ]

pub returns-in-Ok-clause-numbers : goal.returns-in-Ok-clause-numbers
returns-in-Ok-clause-numbers c = allowed_if_given (map (λ w. w.now) c.args.words.now) c.job.result (returns-in-Ok-clause-value c)
