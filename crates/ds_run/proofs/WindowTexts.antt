-- Windows and the end of a run are its text.
use Rattle.std.proofs.Common.{◌≡◌, ◌∙◌, ℕ, ◌+◌, true, false, List, [], ◌∷◌, ◌++◌, length, codes, Option, None, Some, Result, Ok, Err, refl, ap, sym, subst, arith, add-zero, append_assoc}
use Rattle.std.specs.Prelude.{IfOk}
use Rattle.std.specs.List.{flat_map}
use Rattle.std.proofs.lemmas.List.{append-nil, length-map}
use Rattle.std.proofs.lemmas.List.Elements.{All-cons, All-nil}
use Rattle.ds_base.specs.Values.{Row}
use Rattle.ds_marked.specs.Graph.{Graph, IsLive}
use Rattle.ds_marked.specs.Window.{IsWindow, Window, joined_windows}
use Rattle.ds_marked.proofs.JoinedWindows.{lists_in_windows}
use Rattle.ds_cover.specs.Cover.{value_at, values_at}
use Rattle.ds_design.specs.Circuit.{Circuit, data_nets, initial_row}
use Rattle.ds_design.specs.Trace.{AreLines, IsTrace, end_line}
use Rattle.ds_design.proofs.RunWindows.{lines_in_windows}
use Rattle.ds_outside.specs.Pen.{Puts, Writing}
use Rattle.ds_outside.proofs.Pens.{puts_on}
use Rattle.ds_outside.proofs.PieceSequence.{appended-nil}
use Rattle.ds_clocked.specs.Appends.{AppendsLines}
use Rattle.ds_clocked.proofs.OneMoreTurn.{whole_trace}
use Rattle.ds_marked.specs.Log.{IsLog}
use Rattle.ds_run.proofs.Logged.{legal_events}
use Rattle.ds_run.specs.Logged.{HasLog, IsLogOf, IsLogText, IsLonger, Listed, PutsLog}
use Rattle.ds_run.specs.WindowedText.{AreWindows, IsKnownLog, IsSomeLog, WrittenWindow}
use Rattle.ds_run.specs.Laws.{EndSpellsRun, LogsGoOn, WindowsSpellRun}

-- a window behind another one is one window
two_windows : (g : Graph) → IsLive g → (turns more : ℕ) (events firings : List ℕ)
    → IsWindow g (record { turns = turns; firings = events })
    → IsWindow g (record { turns = more; firings = firings })
    → IsWindow g (record { turns = turns + more; firings = events ++ firings })
two_windows g live turns more events firings first second =
    let one : Window = record { turns = turns; firings = events } in
    let two : Window = record { turns = more; firings = firings } in
    let both : IsWindow g (joined_windows (one ∷ two ∷ [])) =
    lists_in_windows g live (one ∷ two ∷ []) (All-cons (IsWindow g) one (two ∷ []) first
    (All-cons (IsWindow g) two [] second (All-nil (IsWindow g)))) in
    let long : turns + (more + 0) ≡ turns + more = ap (λ (n : ℕ). turns + n) (add-zero more) in
    let last : events ++ (firings ++ []) ≡ events ++ firings =
    ap (λ (xs : List ℕ). events ++ xs) (append-nil firings) in
    subst (λ (xs : List ℕ). IsWindow g (record { turns = turns + more; firings = xs })) last
    (subst (λ (n : ℕ). IsWindow g (record { turns = n; firings = events ++ (firings ++ []) })) long
    both)

-- a log that has got a window more
log_longer : (g : Graph) → IsLive g → (turns more : ℕ) (old new : Listed) → HasLog g turns old
    → IsLonger g more old new → HasLog g (turns + more) new
log_longer g live turns more old new has (firings, window, is) = record {
  listed = subst (λ (log : Listed). IsWindow g (record {
    turns = turns + more;
    firings = log.events;
  })) (sym is) (two_windows g live turns more old.events firings has.listed window);
  kinds = ap (λ (log : Listed). log.kinds) is ∙ has.kinds;
}

pub logs_go_on : LogsGoOn
logs_go_on g live false turns more None new has is =
    subst (IsLogOf false g (turns + more)) (sym is) tt
logs_go_on g live false turns more (Some old) new has is = absurd has
logs_go_on g live true turns more None new has is = absurd has
logs_go_on g live true turns more (Some old) None has is = absurd is
logs_go_on g live true turns more (Some old) (Some new) has is =
    log_longer g live turns more old new has is

-- the trace of all turns
trace_whole : (c : Circuit) (vectors : List Row) (lines : List ℕ) (last : Row)
    → AreLines c 0 (initial_row c) vectors lines last → IsTrace c vectors (lines ++ end_line last)
trace_whole c vectors lines last are = whole_trace c (initial_row c) vectors lines last refl are

-- nothing stands behind the last line
ended_plain : (lines text rest : List ℕ) (last : Row) → rest ≡ [] → text ≡ end_line last ++ rest
    → lines ++ end_line last ≡ lines ++ text
ended_plain lines text rest last none is =
    ap (λ (t : List ℕ). lines ++ t) (sym (is ∙ (ap (λ (t : List ℕ). end_line last ++ t) none
    ∙ append-nil (end_line last))))

-- a log stands behind the last line
ended_logged : (lines text rest log : List ℕ) (last : Row) → rest ≡ codes "firings\n" ++ log
    → text ≡ end_line last ++ rest
    → lines ++ text ≡ lines ++ end_line last ++ codes "firings\n" ++ log
ended_logged lines text rest log last spelt is =
    let end : List ℕ = end_line last in
    let head : List ℕ = codes "firings\n" in
    ap (λ (t : List ℕ). lines ++ t) (is ∙ ap (λ (t : List ℕ). end ++ t) spelt)
    ∙ (sym (append_assoc lines end (head ++ log)) ∙ sym (append_assoc (lines ++ end) head log))

pub end_spells_run : EndSpellsRun
end_spells_run p false vectors lines last None text are has (rest, none, is) =
    subst (IsTrace p.split.circuit vectors) (ended_plain lines text rest last none is)
    (trace_whole p.split.circuit vectors lines last are)
end_spells_run p false vectors lines last (Some log) text are has ended = absurd has
end_spells_run p true vectors lines last None text are has ended = absurd has
end_spells_run p true vectors lines last (Some log) text are has
    (rest, (firings, logged, spelt), is) =
    record {
      trace = lines ++ end_line last;
      traced = trace_whole p.split.circuit vectors lines last are;
      events = log.events;
      legal = has.listed.legal;
      all = has.listed.full;
      log = firings;
      logged = logged;
      spelt = ended_logged lines text rest firings last spelt is;
    }

-- the lines of windows are those of all their vectors
windows_joined : (c : Circuit) (first : ℕ) (start : Row) (windows : List WrittenWindow)
    (last : Row) → AreWindows c first start windows last
    → AreLines c first start (flat_map (λ w. w.vectors) windows)
    (flat_map (λ w. w.lines) windows) last
windows_joined c first start [] last is = (refl, is)
windows_joined c first start (w ∷ windows) last (middle, here, rest) =
    lines_in_windows c first start middle last w.vectors (flat_map (λ v. v.vectors) windows)
    w.lines (flat_map (λ v. v.lines) windows) here
    (windows_joined c (first + length w.vectors) middle windows last rest)

pub windows_spell_run : WindowsSpellRun
windows_spell_run p wanted windows last log text are has ended =
    end_spells_run p wanted (flat_map (λ w. w.vectors) windows) (flat_map (λ w. w.lines) windows)
    last log text
    (windows_joined p.split.circuit 0 (initial_row p.split.circuit) windows last are) has ended

-- without vectors there are no lines, and the registers stay
pub no_lines : (c : Circuit) (first : ℕ) (start : Row) (vectors : List Row) (last : Row)
    (w : Option (List ℕ)) → length vectors ≡ 0 → last ≡ start
    → AppendsLines c first start vectors w w last
no_lines c first start [] last w none is =
    ([], (refl, is), sym (appended-nil w))
no_lines c first start (v ∷ vectors) last w none is = absurd (omega (none, arith))

-- the registers after some lines are as many as before
pub last_long : (c : Circuit) (turn : ℕ) (start : Row) (vectors : List Row) (lines : List ℕ)
    (last : Row) → length start ≡ length c.registers → AreLines c turn start vectors lines last
    → length last ≡ length c.registers
last_long c turn start [] lines last long (none, is) = ap (λ (row : Row). length row) is ∙ long
last_long c turn start (v ∷ vectors) lines last long (nets, rest, settled, are, spelt) =
    last_long c (turn + 1) (values_at nets (data_nets c)) vectors rest last
    (length-map (data_nets c) (value_at nets) ∙ length-map c.registers (λ r. r.data_net)) are

-- so are those that a call gives which writes lines
pub row_long : {E : Type 0} (result : Result Row E) (c : Circuit) (first : ℕ) (start : Row)
    (vectors : List Row) (old new : Option (List ℕ)) → length start ≡ length c.registers
    → IfOk result (AppendsLines c first start vectors old new)
    → IfOk result (λ row. length row ≡ length c.registers)
row_long (Ok row) c first start vectors old new long (lines, are, is) =
    last_long c first start vectors lines row long are
row_long (Err e) c first start vectors old new long ok = tt

-- a log of some turns can be written
pub known_some : (g : Graph) (log : Option Listed) → IsSomeLog g log → IsKnownLog g log
known_some g None is = tt
known_some g (Some log) (false, turns, none) = absurd none
known_some g (Some log) (true, turns, has) =
    (legal_events g turns (λ _. 0) log.events has.listed.legal, has.kinds)

-- the line `firings` and the lines behind it
pub log_text : {a b c : Writing} (g : Graph) (events these : List ℕ) → these ≡ events
    → Puts a b (codes "firings\n") → PutsLog b c g these
    → (text : List ℕ) × IsLogText g events text × Puts a c text
log_text g events these same head (lines, logged, puts) = (
  codes "firings\n" ++ lines,
  (lines, subst (λ (es : List ℕ). IsLog g es lines) same logged, refl),
  puts_on head puts,
)

-- a log by its parts
abbrev pub listing : List ℕ → ℕ → Listed
listing events kinds = record { events = events; kinds = kinds }

-- firings that are put behind those of a log
pub log_grown : (old : Listed) (before after these more : List ℕ) (kinds : ℕ)
    → listing before kinds ≡ old → after ≡ before ++ these → these ≡ more
    → listing after kinds ≡ listing (old.events ++ more) old.kinds
log_grown old before after these more kinds view items same =
    ap (λ (xs : List ℕ). listing xs kinds) (items ∙ ap (λ (xs : List ℕ). before ++ xs) same)
    ∙ ap (λ (log : Listed). listing (log.events ++ more) log.kinds) view
