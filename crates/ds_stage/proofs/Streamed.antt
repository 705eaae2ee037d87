-- How a job ends that reads its vectors window by window.
use Rattle.std.proofs.Common.{◌≡◌, ◌≢◌, ◌∙◌, ◌⊎◌, ◌==◌, ◌++◌, ◌+◌, ◌*◌, ◌/◌, ◌<◌, ◌≤◌, ℕ, zero, suc, Bool, true, false, List, [], ◌∷◌, Option, None, Some, Result, Ok, Err, length, take, drop, length-append, refl, ap, sym, subst, arith, inl, inr}
use Rattle.std.specs.Prelude.{All}
use Rattle.std.proofs.lemmas.List.{length-map, length-take, get_or-take, take_all, take-take, take-append-drop, take-append-le, append_assoc}
use Rattle.std.proofs.lemmas.Bool.{eqb-true}
use Rattle.std.proofs.lemmas.List.Elements.{All-append, All-tail}
use Rattle.std.proofs.Math.Seq.{take-append-add}
use Rattle.ds_base.specs.Values.{Row}
use Rattle.ds_outside.specs.Fault.{Rose}
use Rattle.ds_outside.specs.Held.{Held, untold, absent, bytes}
use Rattle.ds_outside.specs.Written.{appended, AppendsPart}
use Rattle.ds_outside.specs.declared.files.Which.{Which}
use Rattle.ds_outside.specs.declared.files.Which.TheVariants.{Vectors}
use Rattle.ds_outside.proofs.Appended.{appended-append}
use Rattle.ds_design.specs.Accepted.{IsAccepted}
use Rattle.ds_design.specs.Circuit.{Circuit, columns, data_nets, initial_row, initial_value}
use Rattle.ds_design.specs.InRange.{IsInRange}
use Rattle.ds_design.specs.Rows.{Rows}
use Rattle.ds_design.specs.Trace.{AreLines, trace_lines}
use Rattle.ds_design.specs.declared.design.Register.{Register}
use Rattle.ds_design.proofs.ClockedRuns.{some_run, turns_by_trace}
use Rattle.ds_design.proofs.RunWindows.{lines_in_windows}
use Rattle.ds_stream.specs.Next.{FitsHeld, GivesHeld, RefusesHeld, Refuses}
use Rattle.ds_stream.specs.Stream.{FitsText, Shown, Stream, next_window, stream_of}
use Rattle.ds_stream.specs.declared.fault.NextFault.{NextFault}
use Rattle.ds_stream.specs.declared.fault.NextFault.TheVariants as why
use Rattle.ds_stream.proofs.WindowLaws.{cases_Option}
use Rattle.ds_clocked.specs.Appends.{AppendsLines, AppendsLinesPart}
use Rattle.ds_stage.specs.declared.stop.Stop.{Stop}
use Rattle.ds_stage.specs.declared.stop.Stop.TheVariants.{Refused, Unread, Unwritten, Memory}
use Rattle.ds_stage.specs.Ends.{Ends, Output, RoseIn}
use Rattle.ds_stage.specs.Stage.{OfFile, Stage, IsExclusive, giving, then_stage}
use Rattle.ds_stage.specs.Stages.{OfBytes}
use Rattle.ds_stage.specs.StreamStage.{AreAllWindowLines, AreSomeWindowLines, AreWindowLines, HasStreamFault, IsFaultLine, IsStreamLine, gives_held, leaves_held, streamed_stage}
use Rattle.ds_stage.specs.StreamStops.{StopsWindow}
use Rattle.ds_stage.proofs.StageEnds.{rose_since}
use Rattle.ds_stage.proofs.StageReadFailures.{Says}
use Rattle.ds_stage.proofs.StagesLeaveNothing.{nothing_appended}
use Rattle.ds_stage.proofs.FileMeaning.{stream_wide}
use Rattle.ds_stage.proofs.Streams.{IsGiven, IsNextOf, all_given, given_many, more_given, next_of, none_given}

-- so many rows of the width, a whole number of windows while there is more
pub record AreRowsGiven (c : Circuit) (given : ℕ) (more : Bool) (rows : List Row) : Type 0 where
  pub many : length rows ≡ given
  pub wide : All (λ row. length row ≡ length (columns c)) rows
  pub windows : more ≡ true → (n : ℕ) × (given ≡ n * 4096)

-- so many vectors of what is held have been given, where that is told
abbrev pub GivenOf : Held → Circuit → ℕ → ℕ → Bool → List Row → Type 0
GivenOf untold c most given more rows = AreRowsGiven c given more rows
GivenOf absent c most given more rows = (more ≡ true) × (rows ≡ []) × (given ≡ 0)
GivenOf (bytes text) c most given more rows = IsGiven (stream_of (length (columns c)) most text) given more rows

-- the trace lines of these rows stand behind what there was
pub record AreWritten (c : Circuit) (rows : List Row) (state : Row) (old new : Option (List ℕ)) : Type 0 where
  pub lines : List ℕ
  pub are : AreLines c 0 (initial_row c) rows lines state
  pub written : new ≡ appended old lines

pub of_many : (h : Held) (c : Circuit) (most given : ℕ) (more : Bool) (rows : List Row) → GivenOf h c most given more rows → length rows ≡ given
of_many untold c most given more rows is = is.many
of_many absent c most given more rows (goes, none, zero_given) = ap length none ∙ sym zero_given
of_many (bytes text) c most given more rows is = given_many (stream_of (length (columns c)) most text) given more rows is

pub of_none : (h : Held) (c : Circuit) (most : ℕ) → GivenOf h c most 0 true []
of_none untold c most = record {
  many = refl;
  wide = λ k d inside. absurd (omega arith);
  windows = λ is. (0, refl);
}
of_none absent c most = (refl, refl, refl)
of_none (bytes text) c most = none_given (stream_of (length (columns c)) most text)

-- the numbers of a reader, and those of the stage
pub record IsReaderOf (c : Circuit) (most : ℕ) (shown : Shown) : Type 0 where
  pub width : shown.width ≡ length (columns c)
  pub most_is : shown.most ≡ most

next_here : (c : Circuit) (most : ℕ) (shown : Shown) (text : List ℕ) → IsReaderOf c most shown → FitsText shown text
    → IsNextOf shown.given 4096 (next_window shown text 4096) (stream_of (length (columns c)) most text)
next_here c most shown text of fits =
    subst (λ (m : ℕ). IsNextOf shown.given 4096 (next_window shown text 4096) (stream_of (length (columns c)) m text)) of.most_is
    (subst (λ (w : ℕ). IsNextOf shown.given 4096 (next_window shown text 4096) (stream_of w shown.most text)) of.width
    (next_of shown text 4096 fits))

-- a window more
pub of_more : (h : Held) (c : Circuit) (most : ℕ) (shown after : Shown) (rows next : List Row) → IsReaderOf c most shown → FitsHeld h shown
    → GivenOf h c most shown.given true rows → GivesHeld h shown 4096 after next → All (λ row. length row ≡ length (columns c)) next → GivenOf h c most (shown.given + length next) (length next == 4096) (rows ++ next)
of_more untold c most shown after rows next of fits is gives next_wide = record {
  many = length-append rows next ∙ ap (λ (n : ℕ). n + length next) is.many;
  wide = All-append (λ (row : Row). length row ≡ length (columns c)) rows next is.wide next_wide;
  windows = λ whole. let (n, windows) = is.windows refl in (n + 1, let e = eqb-true (length next) 4096 whole in omega (arith, e, windows));
}
of_more absent c most shown after rows next of fits is none next_wide = absurd (let e : 4096 ≡ 0 = none in omega (arith, e))
of_more (bytes text) c most shown after rows next of fits is gives next_wide =
    let s : Stream = stream_of (length (columns c)) most text in
    let w = next_window shown text 4096 in
    let rows_are : w.rows ≡ next = ap (λ w. w.rows) gives.window in
    let goes : w.stop ≡ None = ap (λ w. w.stop) gives.window in
    subst (λ (these : List Row). IsGiven s (shown.given + length these) (length these == 4096) (rows ++ these)) rows_are
    (more_given s shown.given rows w is (next_here c most shown text of fits) goes)

-- so many whole windows, and less than one more
pub record AreWindowsIn (many : ℕ) : Type 0 where
  pub windows : ℕ
  pub few : windows * 4096 ≤ many
  pub all : many < (windows + 1) * 4096

windows_in : (many : ℕ) → AreWindowsIn many
windows_in many = record { windows = many / 4096; few = omega arith; all = omega arith }

-- the lines of whole windows
window_lines : (c : Circuit) (s : Stream) (given : ℕ) (rows : List Row) (state : Row) (lines : List ℕ) → IsGiven s given true rows
    → AreLines c 0 (initial_row c) rows lines state → AreWindowLines c s.rows lines
window_lines c s given rows state lines is are =
    let (n, windows) = is.windows refl in
    let rows_are : rows ≡ take (n * 4096) s.rows = is.rows_are ∙ ap (λ (k : ℕ). take k s.rows) windows in
    record {
      windows = n;
      few = omega (arith, windows, is.few);
      last = state;
      lines = subst (λ (these : List Row). AreLines c 0 (initial_row c) these lines state) rows_are are;
    }

-- where a fault comes next, these are all whole windows before it
all_window_lines : (c : Circuit) (s : Stream) (given : ℕ) (rows : List Row) (state : Row) (lines : List ℕ) → IsGiven s given true rows
    → length s.rows < given + 4096 → AreLines c 0 (initial_row c) rows lines state → AreAllWindowLines c s.rows lines
all_window_lines c s given rows state lines is short are =
    let (n, windows) = is.windows refl in
    let rows_are : rows ≡ take (n * 4096) s.rows = is.rows_are ∙ ap (λ (k : ℕ). take k s.rows) windows in
    record {
      some = record {
        windows = n;
        few = omega (arith, windows, is.few);
        last = state;
        lines = subst (λ (these : List Row). AreLines c 0 (initial_row c) these lines state) rows_are are;
      };
      all = omega (arith, windows, short);
    }

-- the same of rows that nothing tells
window_lines_given : (c : Circuit) (given : ℕ) (rows : List Row) (state : Row) (lines : List ℕ) → AreRowsGiven c given true rows
    → AreLines c 0 (initial_row c) rows lines state → AreSomeWindowLines c lines
window_lines_given c given rows state lines is are =
    let (n, windows) = is.windows refl in
    let all : take (n * 4096) rows ≡ rows = take_all (n * 4096) rows (omega (arith, windows, is.many)) in
    record {
      rows = rows;
      wide = is.wide;
      lines = record {
        windows = n;
        few = omega (arith, windows, is.many);
        last = state;
        lines = subst (λ (these : List Row). AreLines c 0 (initial_row c) these lines state) (sym all) are;
      };
    }

-- what is left where memory was wanted or a read failed
pub left_memory : (h : Held) (c : Circuit) (most given : ℕ) (rows : List Row) (state : Row) (lines : List ℕ) → GivenOf h c most given true rows
    → AreLines c 0 (initial_row c) rows lines state → leaves_held h c most Memory lines
left_memory untold c most given rows state lines is are = window_lines_given c given rows state lines is are
left_memory absent c most given rows state lines (goes, none, zero_given) are =
    (subst (λ (these : List Row). AreLines c 0 (initial_row c) these lines state) none are).0
left_memory (bytes text) c most given rows state lines is are = window_lines c (stream_of (length (columns c)) most text) given rows state lines is are

left_unread : (h : Held) (c : Circuit) (most given : ℕ) (rows : List Row) (state : Row) (lines line : List ℕ) → GivenOf h c most given true rows
    → AreLines c 0 (initial_row c) rows lines state → leaves_held h c most (Unread line) lines
left_unread untold c most given rows state lines line is are = window_lines_given c given rows state lines is are
left_unread absent c most given rows state lines line (goes, none, zero_given) are =
    (subst (λ (these : List Row). AreLines c 0 (initial_row c) these lines state) none are).0
left_unread (bytes text) c most given rows state lines line is are = window_lines c (stream_of (length (columns c)) most text) given rows state lines is are

-- a fault of what is held is a fault of the stream
stopped_by : (stop : Option NextFault) (fault : NextFault) (file line : List ℕ) → Refuses fault stop → IsStreamLine file fault line → stop ≡ Some fault
stopped_by stop (why.Vector fault) file line is says = is
stopped_by stop why.TooLong file line is says = is
stopped_by stop why.Read file line is says = absurd says
stopped_by stop why.Memory file line is says = absurd says

-- what is left where a fault comes next
left_refused : (h : Held) (c : Circuit) (most : ℕ) (shown : Shown) (rows : List Row) (state : Row) (lines file line : List ℕ) (fault : NextFault)
    → IsReaderOf c most shown → FitsHeld h shown → GivenOf h c most shown.given true rows → AreLines c 0 (initial_row c) rows lines state
    → RefusesHeld h shown 4096 fault → IsStreamLine file fault line
    → OfBytes h (λ text. IsFaultLine file (stream_of (length (columns c)) most text) line) × leaves_held h c most (Refused line) lines
left_refused untold c most shown rows state lines file line fault of fits is are refused says = (tt, window_lines_given c shown.given rows state lines is are)
left_refused absent c most shown rows state lines file line fault of fits is are refused says =
    absurd (let e : None ≡ Some fault = stopped_by None fault file line refused says in cc)
left_refused (bytes text) c most shown rows state lines file line fault of fits is are refused says =
    let s : Stream = stream_of (length (columns c)) most text in
    let next = next_here c most shown text of fits in
    let (stops, short) = next.stops fault (stopped_by (next_window shown text 4096).stop fault file line refused says) in
    ((fault, stops, says), all_window_lines c s shown.given rows state lines is short are)

-- where no window comes next a job has written whole windows
pub reads_stop : (A : Type 0) (held : List ℕ → Held) (vec : List ℕ) (c : Circuit) (most : ℕ) (next : Rows → Stage (List ℕ)) (failed : OfFile) (out : Output) (shown : Shown) (rows : List Row) (state : Row) (stop : Stop)
    → IsReaderOf c most shown → FitsHeld (held vec) shown → GivenOf (held vec) c most shown.given true rows → AreWritten c rows state out.old out.new
    → StopsWindow (held vec) shown vec failed stop → Ends {A = A} (then_stage (streamed_stage held vec most c) next) failed out (Err stop)
reads_stop A held vec c most next failed out shown rows state (Refused line) of fits is written (fault, refused, says) =
    let (faulty, left) = left_refused (held vec) c most shown rows state written.lines vec line fault of fits is written.are refused says in
    (inl faulty, (written.lines, inl (faulty, left), written.written))
reads_stop A held vec c most next failed out shown rows state (Unread line) of fits is written (rose, spelt) =
    (inl (rose, spelt), (written.lines, inl ((rose, spelt), left_unread (held vec) c most shown.given rows state written.lines line is written.are), written.written))
reads_stop A held vec c most next failed out shown rows state Unwritten of fits is written none = absurd none
reads_stop A held vec c most next failed out shown rows state Memory of fits is written any =
    (written.lines, inl (tt, left_memory (held vec) c most shown.given rows state written.lines is written.are), written.written)

-- and where there is no memory for a window
pub memory_stops : (A : Type 0) (held : List ℕ → Held) (vec : List ℕ) (c : Circuit) (most : ℕ) (next : Rows → Stage (List ℕ)) (failed : OfFile) (out : Output) (given : ℕ) (rows : List Row) (state : Row)
    → GivenOf (held vec) c most given true rows → AreWritten c rows state out.old out.new
    → Ends {A = A} (then_stage (streamed_stage held vec most c) next) failed out (Err Memory)
memory_stops A held vec c most next failed out given rows state is written =
    (written.lines, inl (tt, left_memory (held vec) c most given rows state written.lines is written.are), written.written)

-- a window more is written
pub written_more : (c : Circuit) (rows next : List Row) (state last : Row) (given : ℕ) (old mid new : Option (List ℕ)) → length rows ≡ given
    → AreWritten c rows state old mid → AppendsLines c given state next mid new last → AreWritten c (rows ++ next) last old new
written_more c rows next state last given old mid new many is (lines, are, more) =
    let here : given ≡ 0 + length rows = omega (arith, many) in
    record {
      lines = is.lines ++ lines;
      are = lines_in_windows c 0 (initial_row c) state last rows next is.lines lines is.are
          (subst (λ (turn : ℕ). AreLines c turn state next lines last) here are);
      written = more ∙ (ap (λ (w : Option (List ℕ)). appended w lines) is.written ∙ appended-append old is.lines lines);
    }

-- the registers after lines are as many as before
pub last_long : (c : Circuit) (turn : ℕ) (start : Row) (vectors : List Row) (lines : List ℕ) (last : Row) → AreLines c turn start vectors lines last
    → length start ≡ length c.registers → length last ≡ length c.registers
last_long c turn start [] lines last (none, is) long = ap length is ∙ long
last_long c turn start (vector ∷ vectors) lines last (nets, rest, settled, others, spelt) long =
    last_long c (turn + 1) _ vectors rest last others
    (length-map (data_nets c) _ ∙ length-map c.registers (λ (r : Register). r.data_net))

-- from any registers on there are lines
some_lines : (c : Circuit) → IsInRange c → IsAccepted c → (turn : ℕ) (start : Row) (vectors : List Row) → length start ≡ length c.registers
    → All (λ vector. length vector ≡ length (columns c)) vectors → (lines : List ℕ) × (last : Row) × AreLines c turn start vectors lines last
some_lines c range accepted turn start vectors long wide =
    let (state, nets, run) = some_run c range accepted start vectors long wide in (
      trace_lines c turn (length vectors) state nets,
      state (length vectors),
      turns_by_trace c turn start vectors (trace_lines c turn (length vectors) state nets) (state (length vectors))
          (record { state = state; nets = nets; run = run; spelt = refl; ends = refl }),
    )

-- the lines of more vectors go on behind those of the first
lines_on : (c : Circuit) → IsInRange c → IsAccepted c → (rows rest : List Row) (state : Row) (lines : List ℕ)
    → AreLines c 0 (initial_row c) rows lines state → All (λ vector. length vector ≡ length (columns c)) rest
    → (more : List ℕ) × (last : Row) × AreLines c 0 (initial_row c) (rows ++ rest) (lines ++ more) last
lines_on c range accepted rows rest state lines are wide =
    let start_long : length (initial_row c) ≡ length c.registers = length-map c.registers (λ (r : Register). initial_value r.initial) in
    let (more, last, after) = some_lines c range accepted (0 + length rows) state rest (last_long c 0 (initial_row c) rows lines state are start_long) wide in
    (more, last, lines_in_windows c 0 (initial_row c) state last rows rest lines more are after)

-- a first part of lines is one of all that begins with them
part_before : (old new : Option (List ℕ)) (p q : List ℕ) → AppendsPart old new p → AppendsPart old new (p ++ q)
part_before old new p q (n, within, is) = (
  n,
  let long : length (p ++ q) ≡ length p + length q = length-append p q in omega arith,
  is ∙ ap (appended old) (sym (take-append-le n p q within)),
)

-- lines whole, and a first part of those behind them
part_after : (old mid new : Option (List ℕ)) (p q : List ℕ) → mid ≡ appended old p → AppendsPart mid new q → AppendsPart old new (p ++ q)
part_after old mid new p q whole (n, within, is) = (
  length p + n,
  let long : length (p ++ q) ≡ length p + length q = length-append p q in omega arith,
  is ∙ (ap (λ (w : Option (List ℕ)). appended w (take n q)) whole ∙ (appended-append old p (take n q) ∙ ap (appended old) (sym (take-append-add p q n)))),
)

-- behind the lines of all vectors, a stage has a text for them
abbrev pub Spells : (Rows → Stage (List ℕ)) → Circuit → Type 0
Spells next c = (rows : Rows) (lines : List ℕ) (last : Row) → AreLines c 0 (initial_row c) rows.rows lines last
    → (rest : List ℕ) × (next rows).means (lines ++ rest)

-- a front of a front, and what is left of it
front_rest : (given many : ℕ) (rows : List Row) → given ≤ many → take given rows ++ drop given (take many rows) ≡ take many rows
front_rest given many rows few =
    ap (λ (front : List Row). front ++ drop given (take many rows)) (sym (take-take given many rows few)) ∙ take-append-drop given (take many rows)

-- rows of a list are as wide as all of them
wide_drop : (c : Circuit) (n : ℕ) (rows : List Row) → All (λ vector. length vector ≡ length (columns c)) rows → All (λ vector. length vector ≡ length (columns c)) (drop n rows)
wide_drop c zero rows wide = wide
wide_drop c (suc n) [] wide = wide
wide_drop c (suc n) (row ∷ rows) wide = wide_drop c n rows (All-tail (λ (vector : Row). length vector ≡ length (columns c)) row rows wide)

wide_take : (c : Circuit) (n : ℕ) (rows : List Row) → All (λ vector. length vector ≡ length (columns c)) rows → All (λ vector. length vector ≡ length (columns c)) (take n rows)
wide_take c n rows wide = λ k d inside.
    let long = length-take n rows in
    subst (λ (row : Row). length row ≡ length (columns c)) (sym (get_or-take n rows k d (omega (arith, inside, long)))) (wide k d (omega (arith, inside, long)))

module _ (c : Circuit) (range : IsInRange c) (accepted : IsAccepted c) (most : ℕ) (next : Rows → Stage (List ℕ)) (spells : Spells next c) where
  -- what the stages give or leave of what is held
  abbrev MeansOrLeaves : Held → List ℕ → Type 0
  MeansOrLeaves h text = ((rows : Rows) × gives_held h (length (columns c)) most rows × (next rows).means text)
      ⊎ leaves_held h c most Unwritten text

  -- of a stream whose fault comes later, the lines of all whole windows begin so
  faulty_begins : (s : Stream) (given : ℕ) (more : Bool) (rows : List Row) (state : Row) (lines : List ℕ) → All (λ vector. length vector ≡ length (columns c)) s.rows
      → IsGiven s given more rows → AreLines c 0 (initial_row c) rows lines state → (fault : NextFault) → s.stop ≡ Some fault
      → (rest : List ℕ) × HasStreamFault s × AreAllWindowLines c s.rows (lines ++ rest)
  faulty_begins s given false rows state lines wide is are fault stops =
      absurd (let (none, all) = is.whole refl in let e : None ≡ Some fault = sym none ∙ stops in cc)
  faulty_begins s given true rows state lines wide is are fault stops =
      let (n, windows) = is.windows refl in
      let all = windows_in (length s.rows) in
      let m : ℕ = all.windows * 4096 in
      let few : given ≤ m = omega (arith, windows, is.few, all.all, all.few) in
      let rest : List Row = drop given (take m s.rows) in
      let (more, last, on) = lines_on c range accepted rows rest state lines are (wide_drop c given (take m s.rows) (wide_take c m s.rows wide)) in
      let rows_are : rows ++ rest ≡ take m s.rows = ap (λ (front : List Row). front ++ rest) is.rows_are ∙ front_rest given m s.rows few in (
        more,
        (fault, stops),
        record {
          some = record {
            windows = all.windows;
            few = all.few;
            last = last;
            lines = subst (λ (these : List Row). AreLines c 0 (initial_row c) these (lines ++ more) last) rows_are on;
          };
          all = all.all;
        },
      )

  -- of a stream without a fault, the text begins so
  whole_begins : (s : Stream) (given : ℕ) (more : Bool) (rows : List Row) (state : Row) (lines : List ℕ) → All (λ vector. length vector ≡ length (columns c)) s.rows
      → IsGiven s given more rows → AreLines c 0 (initial_row c) rows lines state
      → (rest : List ℕ) × (next (record { width = length (columns c); rows = s.rows })).means (lines ++ rest)
  whole_begins s given more rows state lines wide is are =
      let (further, last, on) = lines_on c range accepted rows (drop given s.rows) state lines are (wide_drop c given s.rows wide) in
      let rows_are : rows ++ drop given s.rows ≡ s.rows = ap (λ (front : List Row). front ++ drop given s.rows) is.rows_are ∙ take-append-drop given s.rows in
      let all : AreLines c 0 (initial_row c) s.rows (lines ++ further) last = subst (λ (these : List Row). AreLines c 0 (initial_row c) these (lines ++ further) last) rows_are on in
      let (rest, means) = spells (record { width = length (columns c); rows = s.rows }) (lines ++ further) last all in
      (further ++ rest, subst (λ (text : List ℕ). (next (record { width = length (columns c); rows = s.rows })).means text) (append_assoc lines further rest) means)

  begins_in : (h : Held) (given : ℕ) (more : Bool) (rows : List Row) (state : Row) (lines : List ℕ) → GivenOf h c most given more rows → h ≢ absent
      → AreLines c 0 (initial_row c) rows lines state → (rest : List ℕ) × MeansOrLeaves h (lines ++ rest)
  begins_in untold given more rows state lines is there are =
      let (rest, means) = spells (record { width = length (columns c); rows = rows }) lines state are in
      (rest, inl (record { width = length (columns c); rows = rows }, is.wide, means))
  begins_in absent given more rows state lines is there are = absurd (there refl)
  begins_in (bytes text) given more rows state lines is there are =
      let s : Stream = stream_of (length (columns c)) most text in
      let wide = stream_wide (length (columns c)) most text in
      elim (cases_Option s.stop) [
        | inl none ↦ (
            let (rest, means) = whole_begins s given more rows state lines wide is are in
            (rest, inl (record { width = length (columns c); rows = s.rows }, record { whole = none; is = refl }, means)))
        | inr some ↦ (
            let (fault, stops) = some in
            let (rest, faulty, left) = faulty_begins s given more rows state lines wide is are fault stops in
            (rest, inr (faulty, left)))
      ]

  module _ (held : List ℕ → Held) (vec : List ℕ) (failed : OfFile) where
    -- a write of a window failed
    pub unwritten_window : (A : Type 0) (out : Output) (mid : Option (List ℕ)) (given : ℕ) (more : Bool) (rows : List Row) (state : Row) (next_rows : List Row) → held vec ≢ absent
        → length rows ≡ given → GivenOf (held vec) c most (given + length next_rows) more (rows ++ next_rows) → AreWritten c rows state out.old mid
        → AppendsLinesPart c given state next_rows mid out.new → Rose out.before out.now
        → Ends {A = A} (then_stage (streamed_stage held vec most c) next) failed out (Err Unwritten)
    unwritten_window A out mid given more rows state next_rows there many is written (lines, last, are, part) cause =
        let here : given ≡ 0 + length rows = omega (arith, many) in
        let all : AreLines c 0 (initial_row c) (rows ++ next_rows) (written.lines ++ lines) last =
        lines_in_windows c 0 (initial_row c) state last rows next_rows written.lines lines written.are
        (subst (λ (turn : ℕ). AreLines c turn state next_rows lines last) here are) in
        let (rest, either) = begins_in (held vec) (given + length next_rows) more (rows ++ next_rows) last (written.lines ++ lines) is there all in
        let partly : AppendsPart out.old out.new ((written.lines ++ lines) ++ rest) =
        part_before out.old out.new (written.lines ++ lines) rest (part_after out.old mid out.new written.lines lines written.written part) in
        ((written.lines ++ lines) ++ rest, elim either [ inl means ↦ inl means | inr left ↦ inr (inl (tt, left)) ], partly, cause)

-- all vectors are given
pub given_whole : (c : Circuit) (most : ℕ) (h : Held) (given : ℕ) (rows : List Row) → GivenOf h c most given false rows
    → gives_held h (length (columns c)) most (record { width = length (columns c); rows = rows })
given_whole c most untold given rows is = is.wide
given_whole c most absent given rows is = absurd (let e : false ≡ true = is.0 in cc)
given_whole c most (bytes text) given rows is =
    let s : Stream = stream_of (length (columns c)) most text in
    let (none, are) = all_given s given rows is in
    record { whole = none; is = ap (λ (these : List Row). record { width = length (columns c); rows = these }) are }

-- the same stage of files that hold the same, whatever failed since earlier
pub streamed_since : {A : Type 0} (held later : List ℕ → Held) (vec : List ℕ) (c : Circuit) (most : ℕ) (P : Rows → List ℕ → Type 0) (before mid now : Which → List ℕ → ℕ) → later ≡ held
    → ((w : Which) (n : List ℕ) → before w n ≤ mid w n) → (out : Output) (result : Result A Stop)
    → Ends (then_stage (streamed_stage later vec most c) (λ (rows : Rows). giving (P rows))) (RoseIn mid now) out result
    → Ends (then_stage (streamed_stage held vec most c) (λ (rows : Rows). giving (P rows))) (RoseIn before now) out result
streamed_since {A} held later vec c most P before mid now same less out result is =
    subst (λ (h : List ℕ → Held). Ends (then_stage (streamed_stage h vec most c) (λ (rows : Rows). giving (P rows))) (RoseIn before now) out result) same (earlier result is)
  where
    rose : Rose (mid Vectors vec) (now Vectors vec) → Rose (before Vectors vec) (now Vectors vec)
    rose since = rose_since (before Vectors vec) (mid Vectors vec) (now Vectors vec) (less Vectors vec) since

    earlier : (answer : Result A Stop) → Ends (then_stage (streamed_stage later vec most c) (λ (rows : Rows). giving (P rows))) (RoseIn mid now) out answer
        → Ends (then_stage (streamed_stage later vec most c) (λ (rows : Rows). giving (P rows))) (RoseIn before now) out answer
    earlier (Ok x) ends = ends
    earlier (Err (Refused line)) ends = ends
    earlier (Err (Unread line)) (inl (failed, spelt), (text, inl (also, left), written)) = (inl (rose failed, spelt), (text, inl ((rose failed, spelt), left), written))
    earlier (Err (Unread line)) (inl (failed, spelt), (text, inr (rows, means, left), written)) = (inl (rose failed, spelt), (text, inr (rows, means, left), written))
    earlier (Err (Unread line)) (inr (rows, means, none), left) = absurd none
    earlier (Err Unwritten) ends = ends
    earlier (Err Memory) ends = ends

-- a file gives one list of vectors, and is then not refused
pub streamed_exclusive : (held : List ℕ → Held) (vec : List ℕ) (most : ℕ) (c : Circuit) → held vec ≢ untold → IsExclusive (streamed_stage held vec most c)
streamed_exclusive held vec most c told = record {
  one = λ a b is also. one_stream (held vec) (length (columns c)) most told a b is also;
  not_refused = λ a line is refused. stream_not_refused (held vec) (length (columns c)) most vec told a line is refused;
} where
  one_stream : (h : Held) (width m : ℕ) → h ≢ untold → (a b : Rows) → gives_held h width m a → gives_held h width m b → a ≡ b
  one_stream untold width m known a b is also = absurd (known refl)
  one_stream absent width m known a b is also = absurd is
  one_stream (bytes text) width m known a b is also = is.is ∙ sym also.is

  stream_not_refused : (h : Held) (width m : ℕ) (file : List ℕ) → h ≢ untold → (a : Rows) (line : List ℕ) → gives_held h width m a
      → OfBytes h (λ text. IsFaultLine file (stream_of width m text) line) → ⊥
  stream_not_refused untold width m file known a line is refused = known refl
  stream_not_refused absent width m file known a line is refused = is
  stream_not_refused (bytes text) width m file known a line is (fault, stops, says) =
      let e : None ≡ Some fault = sym is.whole ∙ stops in cc

-- a file that was not read is named only where a read failed
pub streamed_says : (held : List ℕ → Held) (vec : List ℕ) (most : ℕ) (c : Circuit) (failed : OfFile) → Says (streamed_stage held vec most c) failed
streamed_says held vec most c failed line (rose, spelt) = record { which = Vectors; name = vec; is = rose }

-- the vectors of a file are as wide as the columns, whatever it holds
pub streamed_wide : (held : List ℕ → Held) (vec : List ℕ) (most : ℕ) (c : Circuit) (vectors : Rows) → (streamed_stage held vec most c).means vectors
    → All (λ vector. length vector ≡ length (columns c)) vectors.rows
streamed_wide held vec most c vectors means = wide_in (held vec) (length (columns c)) means
  where
    wide_in : (h : Held) (width : ℕ) → gives_held h width most vectors → All (λ vector. length vector ≡ width) vectors.rows
    wide_in untold width is = is
    wide_in absent width is = absurd is
    wide_in (bytes text) width is =
        subst (λ (rows : Rows). All (λ vector. length vector ≡ width) rows.rows) (sym is.is) (stream_wide width most text)

-- where writing began with nothing
pub none_written : (c : Circuit) (old : Option (List ℕ)) → AreWritten c [] (initial_row c) old old
none_written c old = record { lines = []; are = (refl, refl); written = sym (nothing_appended old) }
