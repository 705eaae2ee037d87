-- The parts of a text, case by case.
use Rattle.std.proofs.Common.{◌≡◌, ◌≢◌, ℕ, ◌<◌, ◌≤◌, Bool, true, false, ◌+◌, take, List, [], ◌∷◌, ◌++◌, length, get_or, Option, Some, refl, arith, ap, sym, ◌∙◌, subst, codes, decimal, append-nil}
use Rattle.std.specs.Prelude.{slice_get, ltb, if◌then◌else◌}
use Rattle.std.proofs.lemmas.Bool.{lt-ltb, le-ltb}
use Rattle.std.proofs.lemmas.Option.{slice_get_read, get_or_from_slice_get}
use Rattle.std.proofs.lemmas.List.{take_more}
use Rattle.std.proofs.lemmas.List.Concat.{flat_map-append}
use Rattle.std.proofs.lemmas.List.Folds.{length-flat_map-take}
use Rattle.ds_base.proofs.Tests.{test_same, test_other}
use Rattle.ds_marked.specs.Graph.{Graph, IsRangeFrom}
use Rattle.ds_marked.specs.declared.marked.Arc.{Arc}
use Rattle.ds_marked.specs.declared.marked.Event.{Event}
use Rattle.ds_marked.specs.declared.marked.Kind.TheVariants.{Rise}
use Rattle.ds_marked.specs.Log.{event_text, text_of_event}
use Rattle.ds_astg.specs.Pieces.{all_below, line_with}
use Rattle.ds_astg.specs.Text.{arc_at, arc_text, entry_name, entry_text, event_line, is_further, place_line, place_name, rising, signal_of, signals_text, target_text, tokens_text}
use Rattle.ds_astg.proofs.TextPieces.{IsSome, silent_to}

-- what a list has at a place
found : {X : Type 0} (xs ys : List X) (k : ℕ) (x : X) → xs ≡ ys → k < length ys → x ≡ get_or xs k x → slice_get ys k ≡ Some x
found xs ys k x same inside is = slice_get_read ys (length ys) k x refl inside (subst (λ zs. x ≡ get_or zs k x) same is)

pub arc_is : (g : Graph) (arcs : List Arc) (k : ℕ) (a : Arc) → arcs ≡ g.arcs → k < length g.arcs → a ≡ get_or arcs k a → a ≡ arc_at g k
arc_is g arcs k a same inside is = sym (get_or_from_slice_get g.arcs k a (record { source = 0; target = 0; tokens = 0 }) (found arcs g.arcs k a same inside is))

-- a choice that is known
chosen : {X : Type 0} (b : Bool) (x y : X) → b ≡ true → x ≡ (if b then x else y)
chosen true x y e = refl
chosen false x y e = cc

other : {X : Type 0} (b : Bool) (x y : X) → b ≡ false → y ≡ (if b then x else y)
other true x y e = cc
other false x y e = refl

pub few_tokens : (tokens : ℕ) → tokens < 2 → [] ≡ tokens_text tokens
few_tokens tokens few = other (ltb 1 tokens) (codes "=" ++ decimal tokens) [] (le-ltb 1 tokens (omega arith))

pub many_tokens : (tokens : ℕ) → 2 ≤ tokens → codes "=" ++ decimal tokens ≡ tokens_text tokens
many_tokens tokens many = chosen (ltb 1 tokens) (codes "=" ++ decimal tokens) [] (lt-ltb 1 tokens (omega arith))

pub no_entry : (g : Graph) (k : ℕ) → (arc_at g k).tokens ≡ 0 → [] ≡ entry_text g k
no_entry g k e = other (ltb 0 (arc_at g k).tokens) (codes " " ++ entry_name g k ++ tokens_text (arc_at g k).tokens) [] (le-ltb 0 (arc_at g k).tokens (omega arith))

pub one_entry : (g : Graph) (k : ℕ) → 0 < (arc_at g k).tokens → codes " " ++ entry_name g k ++ tokens_text (arc_at g k).tokens ≡ entry_text g k
one_entry g k some = chosen (ltb 0 (arc_at g k).tokens) (codes " " ++ entry_name g k ++ tokens_text (arc_at g k).tokens) [] (lt-ltb 0 (arc_at g k).tokens some)

pub name_of_place : (g : Graph) (k : ℕ) → is_further g k ≡ true → place_name k ≡ entry_name g k
name_of_place g k e = chosen (is_further g k) (place_name k) (codes "<" ++ text_of_event g (arc_at g k).source ++ codes "," ++ text_of_event g (arc_at g k).target ++ codes ">") e

pub name_of_ends : (g : Graph) (k : ℕ) → is_further g k ≡ false → codes "<" ++ text_of_event g (arc_at g k).source ++ codes "," ++ text_of_event g (arc_at g k).target ++ codes ">" ≡ entry_name g k
name_of_ends g k e = other (is_further g k) (place_name k) (codes "<" ++ text_of_event g (arc_at g k).source ++ codes "," ++ text_of_event g (arc_at g k).target ++ codes ">") e

pub target_of_place : (g : Graph) (k : ℕ) → is_further g k ≡ true → codes " " ++ place_name k ≡ target_text g k
target_of_place g k e = ap (λ (t : List ℕ). codes " " ++ t) (chosen (is_further g k) (place_name k) (text_of_event g (arc_at g k).target) e)

pub target_of_end : (g : Graph) (k : ℕ) → is_further g k ≡ false → codes " " ++ text_of_event g (arc_at g k).target ≡ target_text g k
target_of_end g k e = ap (λ (t : List ℕ). codes " " ++ t) (other (is_further g k) (place_name k) (text_of_event g (arc_at g k).target) e)

pub no_place : (g : Graph) (k : ℕ) → is_further g k ≡ false → [] ≡ place_line g k
no_place g k e = other (is_further g k) (place_name k ++ codes " " ++ text_of_event g (arc_at g k).target ++ codes "\n") [] e

pub one_place : (g : Graph) (k : ℕ) → is_further g k ≡ true → place_name k ++ codes " " ++ text_of_event g (arc_at g k).target ++ codes "\n" ≡ place_line g k
one_place g k e = chosen (is_further g k) (place_name k ++ codes " " ++ text_of_event g (arc_at g k).target ++ codes "\n") [] e

-- the arcs of a range, and those of other events
pub leads : (g : Graph) (v low high k : ℕ) → IsRangeFrom g.arcs v low high → low ≤ k → k < high → target_text g k ≡ arc_text g v k
leads g v low high k range above below = sym (test_same (arc_at g k).source v (target_text g k) [] (range.here k (record { source = 0; target = 0; tokens = 0 }) above below))

leads_not : (g : Graph) (v k : ℕ) → (arc_at g k).source ≢ v → arc_text g v k ≡ []
leads_not g v k ne = test_other (arc_at g k).source v (target_text g k) [] ne

pub none_before : (g : Graph) (v low high : ℕ) → IsRangeFrom g.arcs v low high → all_below (arc_text g v) low ≡ []
none_before g v low high range = silent_to (arc_text g v) 0 low (omega arith) (λ k above below.
    leads_not g v k (λ e. let less = range.below k (record { source = 0; target = 0; tokens = 0 }) above below in omega arith))

pub none_behind : (g : Graph) (v low high : ℕ) → IsRangeFrom g.arcs v low high → all_below (arc_text g v) (length g.arcs) ≡ all_below (arc_text g v) high
none_behind g v low high range = silent_to (arc_text g v) high (length g.arcs) range.size (λ k above below.
    leads_not g v k (λ e. let more = range.above k (record { source = 0; target = 0; tokens = 0 }) above below in omega arith))

-- an event from which no arc leads has no line
pub no_line : (g : Graph) (v low high : ℕ) → IsRangeFrom g.arcs v low high → low ≡ high → [] ≡ event_line g v
no_line g v low high range e =
    let none : all_below (arc_text g v) (length g.arcs) ≡ [] = none_behind g v low high range ∙ (ap (all_below (arc_text g v)) (sym e) ∙ none_before g v low high range) in
    sym (ap (line_with (text_of_event g v)) none)

-- what stands for an arc is not empty
pub some_target : (g : Graph) (v low high k : ℕ) → IsRangeFrom g.arcs v low high → low ≤ k → k < high → IsSome (arc_text g v k)
some_target g v low high k range above below = subst IsSome (leads g v low high k range above below) (32, (if is_further g k then place_name k else text_of_event g (arc_at g k).target), refl)

-- no text of further signals, no line of them
pub no_further : (word text : List ℕ) → ¬ (0 < length text) → [] ≡ line_with word text
no_further word [] none = refl
no_further word (byte ∷ rest) none = absurd (none (omega arith))

pub some_further : (word text : List ℕ) → 0 < length text → word ++ text ++ codes "\n" ≡ line_with word text
some_further word [] some = absurd (let h : 0 < 0 = some in omega arith)
some_further word (byte ∷ rest) some = refl

-- an event that rises among events has a signal there
pub some_signal : (events : List Event) (k : ℕ) (e : Event) → k < length events → e ≡ get_or events k e → e.kind ≡ Rise → 0 < length (signals_text events)
some_signal events k e inside is rises =
    let long = length-flat_map-take signal_of events k e inside in
    let own : 0 < length (signal_of (get_or events k e)) = subst (λ (x : Event). 0 < length (signal_of x)) is rising_some in
    omega (arith, long, own)
  where
    rising_some : 0 < length (rising e.kind e.signal)
    rising_some = rw rises (omega arith)

-- one event more
pub one_signal_more : (events : List Event) (k : ℕ) (e : Event) → k < length events → e ≡ get_or events k e
    → signals_text (take (k + 1) events) ≡ signals_text (take k events) ++ signal_of e
one_signal_more events k e inside is =
    ap signals_text (take_more events k e inside ∙ ap (λ (x : Event). take k events ++ x ∷ []) (sym is))
    ∙ (flat_map-append signal_of (take k events) (e ∷ []) ∙ ap (λ (t : List ℕ). signals_text (take k events) ++ t) (append-nil (signal_of e)))
