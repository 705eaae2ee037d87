-- How `run` ends, and that there is a text of all vectors.
use Rattle.std.proofs.Common.{◌≡◌, ◌++◌, ◌+◌, ◌<◌, ℕ, Bool, true, false, List, [], ◌∷◌, Option, Some, Result, length, refl, subst, sym, arith}
use Rattle.std.specs.Prelude.{All, codes, decimal}
use Rattle.std.proofs.lemmas.List.Elements.{All-head, All-tail}
use Rattle.ds_base.specs.Values.{Row}
use Rattle.ds_marked.specs.Graph.{Graph, IsLive, counted}
use Rattle.ds_marked.specs.Log.{IsLogFrom}
use Rattle.ds_marked.proofs.Progress.{reachability}
use Rattle.ds_outside.specs.Held.{Held}
use Rattle.ds_design.specs.Circuit.{initial_row}
use Rattle.ds_design.specs.Rows.{Rows}
use Rattle.ds_design.specs.Trace.{AreLines, end_line}
use Rattle.ds_latch.specs.Plan.{Planned}
use Rattle.ds_clocked.proofs.OneMoreTurn.{whole_trace}
use Rattle.ds_run.specs.WindowedText.{IsRunEnd}
use Rattle.ds_run.specs.Logged.{IsLogOf, Listed}
use Rattle.ds_run.proofs.WindowTexts.{end_spells_run}
use Rattle.ds_run.proofs.Logged.{legal_events, log_more}
use Rattle.ds_stage.specs.declared.stop.Stop.{Stop}
use Rattle.ds_stage.specs.Ends.{Ends, Output}
use Rattle.ds_stage.specs.Stage.{OfFile}
use Rattle.ds_stage.specs.StreamStage.{most_vectors}
use Rattle.ds_stage.proofs.Streamed.{Spells}
use Rattle.ds_app.specs.RunStage.{streamed_run_stage, traced_stage}

-- firings have a log
some_log : (g : Graph) (count : ℕ → ℕ) (events : List ℕ) → All (λ v. v < length g.events) events
    → (text : List ℕ) × IsLogFrom g count events text
some_log g count [] all = ([], refl)
some_log g count (v ∷ events) all =
    let (name, none, named, after, is) = log_more g [] v 1 [] (All-head (λ (u : ℕ). u < length g.events) v events all) refl refl in
    let (rest, logged) = some_log g (counted v count) events (All-tail (λ (u : ℕ). u < length g.events) v events all) in
    (name ++ codes " " ++ decimal (count v + 1) ++ codes "\n" ++ rest, (name, rest, named, logged, refl))

-- behind the lines of all turns stands the line `end`, and some log where one is wanted
pub run_spells : (p : Planned) → IsLive p.graph → (log : Bool) → Spells (traced_stage log p.split.circuit p) p.split.circuit
run_spells p live false rows lines last are =
    (end_line last, (refl, whole_trace p.split.circuit (initial_row p.split.circuit) rows.rows lines last refl are))
run_spells p live true rows lines last are =
    let turns : ℕ = length rows.rows in
    let (events, legal, all) = reachability p.graph live turns (λ (v : ℕ). turns) (record { agrees = λ k d inside. omega arith; within = λ v inside. omega arith }) in
    let (log, logged) = some_log p.graph (λ (v : ℕ). 0) events (legal_events p.graph turns (λ (v : ℕ). 0) events legal) in
    let text : List ℕ = end_line last ++ (codes "firings\n" ++ log) in
    let listed : Listed = record { events = events; kinds = length p.graph.events } in (
      text,
      (
        refl,
        end_spells_run p true rows.rows lines last (Some listed) text are
            (record { listed = record { legal = legal; full = all }; kinds = refl })
            (codes "firings\n" ++ log, (log, logged, refl), refl),
      ),
    )

-- behind the lines of all turns the end of a run, by a graph that is the plan's, makes them its text
pub run_is : (p : Planned) (log : Bool) (g : Graph) (first : ℕ) (last : Row) (kept : Option Listed) (text : List ℕ) → g ≡ p.graph → IsLogOf log p.graph first kept → IsRunEnd g kept last text
    → (rows : Rows) (lines : List ℕ) → length rows.rows ≡ first → AreLines p.split.circuit 0 (initial_row p.split.circuit) rows.rows lines last
    → (traced_stage log p.split.circuit p rows).means (lines ++ text)
run_is p log g first last kept text same logged end rows lines many are = (
  refl,
  end_spells_run p log rows.rows lines last kept text are (subst (λ (turns : ℕ). IsLogOf log p.graph turns kept) (sym many) logged)
      (subst (λ (k : Graph). IsRunEnd k kept last text) same end),
)

-- how a run ends on the vectors of a file, by the name that was lent of it
pub ends_of_file : (held : List ℕ → Held) (vec file : List ℕ) (log : Bool) (p : Planned) (failed : OfFile) (out : Output) (result : Result (Unit {0}) Stop) → vec ≡ file
    → Ends {A = Unit {0}} (streamed_run_stage held vec log p.split.circuit p) failed out result
    → Ends {A = Unit {0}} (streamed_run_stage held file log p.split.circuit p) failed out result
ends_of_file held vec file log p failed out result same is =
    subst (λ (name : List ℕ). Ends {A = Unit {0}} (streamed_run_stage held name log p.split.circuit p) failed out result) same is

-- vectors that a job takes have numbers
pub few_vectors : (log : Bool) → most_vectors log < 4294967296
few_vectors false = omega arith
few_vectors true = omega arith
