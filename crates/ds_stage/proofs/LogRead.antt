-- A log whose bytes are told is read as its lines.
use Rattle.std.proofs.Common.{◌≡◌, ℕ, ◌≤◌, List, length, Result, Ok, refl, sym, subst}
use Rattle.ds_base.specs.Limit.{most_of}
use Rattle.ds_base.specs.Values.{Row}
use Rattle.ds_base.specs.declared.number.Limit.TheVariants.{Bytes}
use Rattle.ds_outside.specs.Held.{Held, bytes}
use Rattle.ds_lines.specs.Line.{Line, lines_of}
use Rattle.ds_latch.specs.Plan.{Planned}
use Rattle.ds_replay.specs.Replay.{replay_of}
use Rattle.ds_lines.specs.declared.at.At.{At}
use Rattle.ds_stage.specs.Stages.{OfBytes, text_stage}
use Rattle.ds_stage.specs.ReplayStage.{log_stage}
use Rattle.ds_replay.specs.declared.fault.ReplayKind.{ReplayKind}

-- a text of bytes that are told
told_text : (h : Held) (log text : List ℕ) → h ≡ bytes text → length text ≤ most_of Bytes
    → OfBytes h (λ held. (text_stage log held).means (lines_of text))
told_text h log text is short = subst (λ (g : Held). OfBytes g (λ held. (text_stage log held).means (lines_of text))) (sym is) (short, refl)

told_lines : (h : Held) (log text : List ℕ) → h ≡ bytes text → (lines : List Line)
    → OfBytes h (λ held. (text_stage log held).means lines) → lines ≡ lines_of text
told_lines h log text is lines means =
    let told : OfBytes (bytes text) (λ held. (text_stage log held).means lines) = subst (λ (g : Held). OfBytes g (λ held. (text_stage log held).means lines)) is means in
    told.1

-- what its lines fire is what the log fires
pub log_read : (held : List ℕ → Held) (log text : List ℕ) → held log ≡ bytes text → length text ≤ most_of Bytes
    → (p : Planned) (vectors : List Row) (events : List ℕ) → replay_of p.graph (length vectors) (lines_of text) ≡ Ok events
    → (log_stage held log p vectors).means events
log_read held log text is short p vectors events fires = (lines_of text, told_text (held log) log text is short, fires)

-- one list of events comes of lines
one_list : (r : Result (List ℕ) (At ReplayKind)) (a b : List ℕ) → r ≡ Ok a → r ≡ Ok b → a ≡ b
one_list r a b is also = cc

-- and of the log
pub log_one : (held : List ℕ → Held) (log text : List ℕ) → held log ≡ bytes text
    → (p : Planned) (vectors : List Row) (events other : List ℕ) → replay_of p.graph (length vectors) (lines_of text) ≡ Ok events
    → (log_stage held log p vectors).means other → other ≡ events
log_one held log text is p vectors events other fires (lines, means, read) =
    let same : lines ≡ lines_of text = told_lines (held log) log text is lines means in
    one_list (replay_of p.graph (length vectors) (lines_of text)) other events
    (subst (λ (ls : List Line). replay_of p.graph (length vectors) ls ≡ Ok other) same read) fires
