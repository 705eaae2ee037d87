-- Lines one after another.
use Rattle.std.proofs.Common.{◌≡◌, ℕ, suc, ◌+◌, ◌<◌, List, [], ◌∷◌, length, drop, false, Result, Ok, Err, sym, ◌∙◌, ap, arith}
use Rattle.std.proofs.Math.Seq.{drop-cons}
use Rattle.ds_lines.specs.Words.{word_at}
use Rattle.ds_lines.specs.Line.{Line, line_or_none}
use Rattle.ds_marked.specs.Graph.{Graph}
use Rattle.ds_astg.specs.Line.{State, graph_head_of, step_line}
use Rattle.ds_astg.specs.Read.{ends, graph_from}
use Rattle.ds_astg.specs.Steps.{IsLineFault}
use Rattle.ds_astg.specs.declared.head.Head.{Head}
use Rattle.ds_lines.specs.declared.at.At.{At}
use Rattle.ds_astg.specs.declared.fault.AstgKind.{AstgKind}
use Rattle.ds_base.specs.declared.refusal.Refusal.{Refusal}
use Rattle.ds_base.specs.declared.refusal.Refusal.TheVariants.{Memory as NoMemory, Fault}
use Rattle.ds_base.specs.Refusal.{RefusesAs}
use Rattle.ds_lines.specs.First.{behind_line}

module _ (lines : List Line) (i : ℕ) (state : State) (all : Result Graph (At AstgKind)) (head : Head)
    (inside : i < length lines) (so_far : all ≡ graph_from (drop i lines) state) (is : head ≡ graph_head_of (word_at (line_or_none lines i).words 0)) where
  here : all ≡ graph_from (line_or_none lines i ∷ drop (suc i) lines) state
  here = so_far ∙ ap (λ (ls : List Line). graph_from ls state) (drop-cons lines i (record { number = 0; words = [] }) inside)

  goes_on : ends head ≡ false → all ≡ behind_line (line_or_none lines i).number (step_line head (line_or_none lines i) state) (graph_from (drop (suc i) lines))
  goes_on e = here ∙ (let h : ends (graph_head_of (word_at (line_or_none lines i).words 0)) ≡ false = sym (ap ends is) ∙ e in
      rw h (ap (λ (k : Head). behind_line (line_or_none lines i).number (step_line k (line_or_none lines i) state) (graph_from (drop (suc i) lines))) (sym is)))

  -- a line without a fault
  pub line_done : ends head ≡ false → (next : State) → step_line head (line_or_none lines i) state ≡ Ok next → all ≡ graph_from (drop (i + 1) lines) next
  line_done e next done = goes_on e ∙ (ap (λ (r : Result State AstgKind). behind_line (line_or_none lines i).number r (graph_from (drop (suc i) lines))) done
      ∙ ap (λ (k : ℕ). graph_from (drop k lines) next) (let h : suc i ≡ i + 1 = omega arith in h))

  -- the first line with a fault
  pub line_fault : ends head ≡ false → (e : Refusal (At AstgKind)) → IsLineFault (line_or_none lines i).number (step_line head (line_or_none lines i) state) e → RefusesAs e all
  line_fault e NoMemory fault = tt
  line_fault e (Fault first) (number, kind) = goes_on e
      ∙ (ap (λ (r : Result State AstgKind). behind_line (line_or_none lines i).number r (graph_from (drop (suc i) lines))) kind
      ∙ ap (λ (n : ℕ). Err (record { line = n; kind = first.kind })) (sym number))
