-- Lines of some turns, one after another.
use Rattle.std.proofs.Common.{◌≡◌, ◌∙◌, ℕ, ◌+◌, ◌<◌, List, [], ◌++◌, IfSome, Option, None, Some, length, ap, sym, subst, refl}
use Rattle.std.proofs.lemmas.List.{append_assoc, append-nil}
use Rattle.ds_outside.specs.Pen.{Puts, Writing}
use Rattle.ds_outside.specs.Written.{appended}
use Rattle.ds_outside.proofs.Pens.{with_put}
use Rattle.ds_run.specs.declared.lines_text.LinesText.{LinesText}
use Rattle.ds_base.specs.Values.{Row}
use Rattle.ds_latch.specs.Node.{Split}
use Rattle.ds_latch.specs.Plan.{Planned}
use Rattle.ds_design.specs.Trace.{AreLines, trace_line}
use Rattle.ds_clocked.specs.Loop.{IsWrittenTo}
use Rattle.ds_clocked.proofs.OneMoreTurn.{last_turn, no_turn}
use Rattle.ds_rule.specs.Words.{node_values as stored_at}
use Rattle.ds_fabric.specs.Showing.{Recorder}
use Rattle.ds_run.specs.RunOfPlan.{AreValues}
use Rattle.ds_run.specs.TraceRows.{IsGathered}
use Rattle.ds_run.specs.Finished.{IsFinished, IsFinishedOn}
use Rattle.ds_run.specs.TraceLines.{AreLinesOf, AreRegistersBefore}
use Rattle.ds_run.proofs.FinishedTurns.{gathered_is, turn_written}

-- a text like this behind another one
abbrev pub IsBehind : (List ℕ → Type 0) → List ℕ → List ℕ → Type 0
IsBehind IsText before lines = (text : List ℕ) × (lines ≡ before ++ text) × IsText text

module _ (p : Planned) (r : Recorder) (turns first : ℕ) where
  -- no turn
  pub no_lines : (from : ℕ) (IsText : List ℕ → Type 0) → IsText []
      → AreLinesOf p r turns first from from IsText
  no_lines from IsText none = λ vectors finished many before start. record {
    text = start.text;
    written = ([], start.written ∙ sym (append-nil before), none);
    rest = start.rest;
  }

  -- turns and then others
  pub lines_on : (from at to : ℕ) (One Two All : List ℕ → Type 0)
      → ((a b : List ℕ) → One a → Two b → All (a ++ b))
      → AreLinesOf p r turns first from at One → AreLinesOf p r turns first at to Two
      → AreLinesOf p r turns first from to All
  lines_on from at to One Two All both ones twos = λ vectors finished many before start.
      let one = ones vectors finished many before start in
      let two = twos vectors finished many one.text
      (record { text = one.text; written = refl; rest = one.rest }) in
      let (a, had, is_one) = one.written in
      let (b, has, is_two) = two.written in
      record {
        text = two.text;
        written = (
          a ++ b,
          has ∙ ap (λ (l : List ℕ). l ++ b) had ∙ append_assoc before a b,
          both a b is_one is_two,
        );
        rest = two.rest;
      }

  -- one turn more
  pub one_more : (from k : ℕ) (t : Split) (n : ℕ) (outputs before next : Row)
      (One All : List ℕ → Type 0) → k < turns → n ≡ 1
      → outputs ≡ stored_at r.shown.view.run n (k + 1)
      → AreRegistersBefore p r turns k before → t ≡ p.split → IsGathered t r.shown.view.run k next
      → ((text : List ℕ) → One text → All (text ++ trace_line (first + k) outputs before))
      → AreLinesOf p r turns first from k One → AreLinesOf p r turns first from (k + 1) All
  one_more from k t n outputs before next One All inside at is was same gathered line lines =
      λ vectors finished many head start.
      let values : AreValues p.split vectors r.shown.view.run = finished.planned.values_are in
      let below : k < length vectors = subst (λ (m : ℕ). k < m) (sym many) inside in
      let starts : (each : AreValues p.split vectors r.shown.view.run) → before ≡ each.state k =
      was vectors (finished, many) in
      let had : IsWrittenTo p.split.circuit first p.split.initial vectors k before
      (IsBehind One head) =
      subst (λ (row : Row). IsWrittenTo p.split.circuit first p.split.initial vectors k row
      (IsBehind One head)) (sym (starts values)) (lines vectors finished many head start) in
      subst (λ (row : Row). IsWrittenTo p.split.circuit first p.split.initial vectors (k + 1) row
      (IsBehind All head))
      (gathered_is p vectors r finished k below t next same gathered values)
      (turn_written p vectors r finished k below first t n outputs before next
      (IsBehind One head) (IsBehind All head) at is starts same gathered had
      (λ had_text (text, spelt, is_one). let more : List ℕ = trace_line (first + k) outputs before in (
        text ++ more,
        ap (λ (l : List ℕ). l ++ more) spelt ∙ append_assoc head text more,
        line text is_one,
      )))

  -- a text like this is one like that
  pub lines_as : (from to : ℕ) (One Two : List ℕ → Type 0) → ((a : List ℕ) → One a → Two a)
      → AreLinesOf p r turns first from to One → AreLinesOf p r turns first from to Two
  lines_as from to One Two turn lines = λ vectors finished many before start.
      let one = lines vectors finished many before start in
      let (a, had, is_one) = one.written in
      record { text = one.text; written = (a, had, turn a is_one); rest = one.rest }

  -- all turns
  pub all_lines : (vectors : List Row) (row : Row) (IsText : List ℕ → Type 0)
      → IsFinishedOn p turns r vectors → AreRegistersBefore p r turns turns row
      → AreLinesOf p r turns first 0 turns IsText
      → (lines : List ℕ) × AreLines p.split.circuit first p.split.initial vectors lines row
      × IsText lines
  all_lines vectors row IsText (finished, many) ends lines =
      let values : AreValues p.split vectors r.shown.view.run = finished.planned.values_are in
      let start : IsWrittenTo p.split.circuit first p.split.initial vectors 0 (values.state 0)
      (λ (l : List ℕ). l ≡ []) =
      subst (λ (s : Row). IsWrittenTo p.split.circuit first p.split.initial vectors 0 s
      (λ (l : List ℕ). l ≡ [])) (sym values.clocked.starts)
      (no_turn p.split.circuit first p.split.initial vectors (λ (l : List ℕ). l ≡ []) refl) in
      let all = lines vectors finished many [] start in
      let (text, spelt, is_text) = all.written in
      let end : IsWrittenTo p.split.circuit first p.split.initial vectors turns row IsText =
      subst (λ (s : Row). IsWrittenTo p.split.circuit first p.split.initial vectors turns s
      IsText) (sym (ends vectors (finished, many) values))
      (record { text = all.text; written = subst IsText (sym spelt) is_text; rest = all.rest }) in
      last_turn p.split.circuit first p.split.initial vectors turns row IsText (sym many) end

  -- the registers that were gathered are those before the next turn
  pub registers_after : (k : ℕ) (t : Split) (row : Row) → k < turns → t ≡ p.split
      → IsGathered t r.shown.view.run k row → AreRegistersBefore p r turns (k + 1) row
  registers_after k t row inside same gathered = λ vectors (finished, many).
      gathered_is p vectors r finished k (subst (λ (m : ℕ). k < m) (sym many) inside) t row same
      gathered

-- what stands on a sink that was empty is what was appended
pub text_held : (bytes text : List ℕ) (held : Option (List ℕ)) → held ≡ Some []
    → Some bytes ≡ appended held text → bytes ≡ text
text_held bytes text held none is = cc

-- a pen went over the text of some turns
pub put_text : (p : Planned) (r : Recorder) (turns first from to : ℕ) (given : Option LinesText)
    (text : LinesText) (bytes : List ℕ) (old new : Writing) → given ≡ Some text
    → Some text.bytes.items ≡ Some bytes → Puts old new bytes
    → IfSome given (λ t. AreLinesOf p r turns first from to (λ lines. t.bytes.items ≡ lines))
    → AreLinesOf p r turns first from to (Puts old new)
put_text p r turns first from to given text bytes old new is held puts has =
    let same : bytes ≡ text.bytes.items = cc in
    lines_as p r turns first from to (λ (lines : List ℕ). text.bytes.items ≡ lines) (Puts old new)
    (λ lines spelt. with_put (same ∙ spelt) puts)
    (subst (λ (o : Option LinesText). IfSome o (λ t. AreLinesOf p r turns first from to
    (λ lines. t.bytes.items ≡ lines))) is has)
