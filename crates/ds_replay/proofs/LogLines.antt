-- Which lines fire events, and the first fault of others.
use Rattle.std.proofs.Common.{◌≡◌, ◌≢◌, ◌∙◌, ℕ, suc, inl, inr, List, [], ◌∷◌, ◌++◌, length, get_or, Option, None, Some, Result, Ok, Err, refl, arith, ap, ap₂, sym, subst}
use Rattle.std.specs.Prelude.{AllPairs}
use Rattle.std.proofs.lemmas.List.{append-nil, append_cancel_right}
use Rattle.ds_lines.specs.Words.{first_word}
use Rattle.ds_lines.specs.Line.{Line}
use Rattle.ds_marked.specs.Graph.{Graph, counted, counts_after}
use Rattle.ds_marked.specs.declared.marked.Event.{Event}
use Rattle.ds_marked.specs.declared.marked.Kind.{Kind}
use Rattle.ds_marked.specs.declared.marked.Kind.TheVariants.{Rise, Fall, Dummy}
use Rattle.ds_marked.specs.Log.{event_text, sign, IsLegalLogFrom, LineFault}
use Rattle.ds_rows.specs.Texts.{event_by_text}
use Rattle.ds_replay.specs.Replay.{fault_of_firing, log_fault_or, log_of, replay_from, replay_of, with_first}
use Rattle.ds_replay.specs.Legal.{EndsInSign, HasKind, HasOwnTexts, HasPlainDummies, IsFirstFault, words_of_lines}
use Rattle.ds_lines.specs.declared.at.At.{At}
use Rattle.ds_replay.specs.declared.fault.ReplayKind.{ReplayKind}
use Rattle.ds_replay.proofs.LineFaults.{clean, clean_is, faulty}

-- texts of events
last : List ℕ → ℕ
last [] = 0
last (x ∷ []) = x
last (x ∷ y ∷ xs) = last (y ∷ xs)

last_push : (xs : List ℕ) (x : ℕ) → last (xs ++ x ∷ []) ≡ x
unfolding last
last_push [] x = refl
last_push (y ∷ []) x = refl
last_push (y ∷ z ∷ xs) x = last_push (z ∷ xs) x

-- a name that does not end in a sign where it is a dummy's
abbrev BearsNoSign : Kind → List ℕ → Type 0
BearsNoSign k name = k ≡ Dummy → ¬ EndsInSign name

same_parts : (xs ys : List ℕ) (k l : Kind) → BearsNoSign k xs → BearsNoSign l ys → xs ++ sign k ≡ ys ++ sign l → (xs ≡ ys) × (k ≡ l)
same_parts xs ys Rise Rise a b e = (append_cancel_right xs ys (43 ∷ []) e, refl)
same_parts xs ys Fall Fall a b e = (append_cancel_right xs ys (45 ∷ []) e, refl)
same_parts xs ys Rise Fall a b e = absurd (let differ : 43 ≡ 45 = sym (last_push xs 43) ∙ (ap last e ∙ last_push ys 45) in omega arith)
same_parts xs ys Fall Rise a b e = absurd (let differ : 45 ≡ 43 = sym (last_push xs 45) ∙ (ap last e ∙ last_push ys 43) in omega arith)
same_parts xs ys Dummy Dummy a b e = (sym (append-nil xs) ∙ (e ∙ append-nil ys), refl)
same_parts xs ys Dummy Rise a b e = absurd (a refl (ys, inl (sym (append-nil xs) ∙ e)))
same_parts xs ys Dummy Fall a b e = absurd (a refl (ys, inr (sym (append-nil xs) ∙ e)))
same_parts xs ys Rise Dummy a b e = absurd (b refl (xs, inl (sym (append-nil ys) ∙ sym e)))
same_parts xs ys Fall Dummy a b e = absurd (b refl (xs, inr (sym (append-nil ys) ∙ sym e)))

same_event : (a b : Event) → BearsNoSign a.kind a.signal → BearsNoSign b.kind b.signal → event_text a ≡ event_text b → a ≡ b
same_event a b f g e = let (signal, kind) = same_parts a.signal b.signal a.kind b.kind f g e in ap₂ (λ (s : List ℕ) (k : Kind). record { signal = s; kind = k }) signal kind

pub own_texts : (g : Graph) → AllPairs (λ a b. a ≢ b) g.events → HasPlainDummies g → HasOwnTexts g
own_texts g once plain i j d less inside same =
    once i j d less inside (same_event (get_or g.events i d) (get_or g.events j d) (plain i d (omega arith)) (plain j d inside) same)

-- what the first line gives and what the others give
ok_or : Result (List ℕ) (At ReplayKind) → List ℕ
ok_or (Ok events) = events
ok_or (Err fault) = []

ok_same : (a b : List ℕ) → (let r : Result (List ℕ) (At ReplayKind) = Ok a in r ≡ Ok b) → a ≡ b
unfolding ok_or
ok_same a b e = ap ok_or e

err_or : At ReplayKind → Result (List ℕ) (At ReplayKind) → At ReplayKind
err_or fault (Ok events) = fault
err_or fault (Err other) = other

err_same : (a b : At ReplayKind) → (let r : Result (List ℕ) (At ReplayKind) = Err a in r ≡ Err b) → a ≡ b
unfolding err_or
err_same a b e = ap (err_or a) e

-- the lines fire these events, so they are a legal log of them
legal_line : (g : Graph) (limit : ℕ) (count : ℕ → ℕ) (line : Line) (lines : List Line) (events : List ℕ) (kind : Option ReplayKind) (rest : Result (List ℕ) (At ReplayKind))
    → ((more : List ℕ) → replay_from g limit (counted (event_by_text g (first_word line.words)) count) lines ≡ Ok more → IsLegalLogFrom g limit (counted (event_by_text g (first_word line.words)) count) (words_of_lines lines) more)
    → fault_of_firing g limit count line.words ≡ kind
    → replay_from g limit (counted (event_by_text g (first_word line.words)) count) lines ≡ rest
    → log_fault_or kind line.number (with_first (event_by_text g (first_word line.words)) rest) ≡ Ok events
    → IsLegalLogFrom g limit count (words_of_lines (line ∷ lines)) events
legal_line g limit count line lines events (Some kind) rest behind is same e = cc
legal_line g limit count line lines events None (Err fault) behind is same e = cc
legal_line g limit count line lines events None (Ok more) behind is same e =
    subst (λ (es : List ℕ). IsLegalLogFrom g limit count (words_of_lines (line ∷ lines)) es) (ok_same (event_by_text g (first_word line.words) ∷ more) events e)
    (clean g limit count line.words is, behind more same)

pub legal : (g : Graph) (limit : ℕ) (count : ℕ → ℕ) (lines : List Line) (events : List ℕ) → replay_from g limit count lines ≡ Ok events → IsLegalLogFrom g limit count (words_of_lines lines) events
legal g limit count [] [] e = tt
legal g limit count [] (v ∷ events) e = absurd (let none : [] ≡ v ∷ events = ok_same [] (v ∷ events) e in let long : 0 ≡ length (v ∷ events) = ap length none in omega arith)
legal g limit count (line ∷ lines) events e =
    legal_line g limit count line lines events (fault_of_firing g limit count line.words) (replay_from g limit (counted (event_by_text g (first_word line.words)) count) lines)
    (λ more same. legal g limit (counted (event_by_text g (first_word line.words)) count) lines more same) refl refl e

-- and the other way round
pub fires : (g : Graph) → HasOwnTexts g → (limit : ℕ) (count : ℕ → ℕ) (lines : List Line) (events : List ℕ) → IsLegalLogFrom g limit count (words_of_lines lines) events → replay_from g limit count lines ≡ Ok events
fires g own limit count [] [] is = refl
fires g own limit count [] (v ∷ events) is = absurd is
fires g own limit count (line ∷ lines) [] is = absurd is
fires g own limit count (line ∷ lines) (v ∷ events) (here, rest) =
    let (none, at) = clean_is g limit count line.words own v here in
    rw (none, at, fires g own limit (counted v count) lines events rest) refl

-- the first fault
abbrev IsFaultFrom : Graph → ℕ → (ℕ → ℕ) → List Line → At ReplayKind → Type 0
IsFaultFrom g limit count lines fault =
    (before : List Line) × (line : Line) × (behind : List Line) × (events : List ℕ)
    × (lines ≡ before ++ line ∷ behind)
    × IsLegalLogFrom g limit count (words_of_lines before) events
    × (fault.line ≡ line.number)
    × (why : LineFault g limit (counts_after count events) line.words) × HasKind why fault.kind

fault_line : (g : Graph) (limit : ℕ) (count : ℕ → ℕ) (line : Line) (lines : List Line) (fault : At ReplayKind) (kind : Option ReplayKind) (rest : Result (List ℕ) (At ReplayKind))
    → (replay_from g limit (counted (event_by_text g (first_word line.words)) count) lines ≡ Err fault → IsFaultFrom g limit (counted (event_by_text g (first_word line.words)) count) lines fault)
    → fault_of_firing g limit count line.words ≡ kind
    → replay_from g limit (counted (event_by_text g (first_word line.words)) count) lines ≡ rest
    → log_fault_or kind line.number (with_first (event_by_text g (first_word line.words)) rest) ≡ Err fault
    → IsFaultFrom g limit count (line ∷ lines) fault
fault_line g limit count line lines fault None (Ok more) later is same e = cc
fault_line g limit count line lines fault None (Err other) later is same e =
    let v : ℕ = event_by_text g (first_word line.words) in
    let (before, at, behind, events, split, log, number, why, kind) = later (same ∙ e) in
    (line ∷ before, at, behind, v ∷ events, ap (λ (ls : List Line). line ∷ ls) split, (clean g limit count line.words is, log), number, why, kind)
fault_line g limit count line lines fault (Some kind) rest later is same e =
    let same_fault : record { line = line.number; kind = kind } ≡ fault = err_same (record { line = line.number; kind = kind }) fault e in
    let (why, has) = faulty g limit count line.words kind is in
    ([], line, lines, [], refl, tt, sym (ap (λ (f : At ReplayKind). f.line) same_fault), why, subst (λ (f : At ReplayKind). HasKind why f.kind) same_fault has)

first_fault : (g : Graph) (limit : ℕ) (count : ℕ → ℕ) (lines : List Line) (fault : At ReplayKind) → replay_from g limit count lines ≡ Err fault → IsFaultFrom g limit count lines fault
first_fault g limit count [] fault e = cc
first_fault g limit count (line ∷ lines) fault e =
    fault_line g limit count line lines fault (fault_of_firing g limit count line.words) (replay_from g limit (counted (event_by_text g (first_word line.words)) count) lines)
    (λ same. first_fault g limit (counted (event_by_text g (first_word line.words)) count) lines fault same) refl refl e

pub refuses : (g : Graph) (limit : ℕ) (lines : List Line) (fault : At ReplayKind) → replay_of g limit lines ≡ Err fault → IsFirstFault g limit (log_of lines) fault
refuses g limit lines fault e =
    let (before, at, behind, events, split, log, number, why, kind) = first_fault g limit (λ _. 0) (log_of lines) fault e in
    record { before = before; line = at; behind = behind; lines_are = split; events = events; legal = log; number = number; why = why; kind = kind }

-- a legal log has a line for each event
as_many : (g : Graph) (limit : ℕ) (count : ℕ → ℕ) (lines : List Line) (events : List ℕ) → IsLegalLogFrom g limit count (words_of_lines lines) events → length events ≡ length lines
as_many g limit count [] [] is = refl
as_many g limit count [] (v ∷ events) is = absurd is
as_many g limit count (line ∷ lines) [] is = absurd is
as_many g limit count (line ∷ lines) (v ∷ events) (here, rest) = ap (λ (n : ℕ). suc n) (as_many g limit (counted v count) lines events rest)

pub each_line : (g : Graph) (limit : ℕ) (lines : List Line) (events : List ℕ) → replay_of g limit lines ≡ Ok events → length events ≡ length (log_of lines)
each_line g limit lines events e = as_many g limit (λ _. 0) (log_of lines) events (legal g limit (λ _. 0) (log_of lines) events e)
