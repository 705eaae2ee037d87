-- Windows of a stream, one after another.
use Rattle.std.proofs.Common.{◌≡◌, ◌∙◌, ℕ, zero, suc, ◌+◌, ◌<◌, List, [], ◌∷◌, Option, None, Some, length, drop, refl, ap, sym, arith, inl, inr, ◌⊎◌}
use Rattle.std.specs.Prelude.{nat_lt}
use Rattle.std.proofs.lemmas.Bool.{cases_Bool}
use Rattle.ds_base.specs.Values.{Row}
use Rattle.ds_rows.specs.Vector.{row_of}
use Rattle.ds_stream.specs.Bounded.{fault_under}
use Rattle.ds_stream.specs.Stream.{Behind, Placed, Stream, RowWindow, beginning, stop_of, longest, onto, placed_lines, row_of_stream, stopped, stream_from, stream_of, window}
use Rattle.ds_stream.specs.StreamLaws.{goes_on_with, total, windows}
use Rattle.ds_stream.specs.declared.fault.NextFault.TheVariants.{TooLong, Vector}

-- a row or none
pub cases_Option : {X : Type 0} (o : Option X) → (o ≡ None) ⊎ ((x : X) × (o ≡ Some x))
cases_Option None = inl refl
cases_Option (Some x) = inr (x, refl)

onto-goes_on : (row : Row) (front more : RowWindow) → onto row (goes_on_with front more) ≡ goes_on_with (onto row front) more
onto-goes_on row front more = elim (cases_Option front.stop) [
  | inl none ↦ rw none refl
  | inr some ↦ (let (why, is) = some in rw is refl)
]

drop-none : (n : ℕ) → drop {A = Placed} n [] ≡ []
drop-none zero = refl
drop-none (suc n) = refl

pub window-none : (width most size count : ℕ) (behind : Behind) (seen : ℕ) → stop_of size ≡ None → window width most size count behind seen [] ≡ stopped behind None
window-none width most size zero behind seen ends = refl
window-none width most size (suc count) behind seen ends = ap (stopped behind) ends

pub window-add : (width most size a b : ℕ) (behind : Behind) (seen : ℕ) (ps : List Placed)
    → window width most size (a + b) behind seen ps
    ≡ goes_on_with (window width most size a behind seen ps) (window width most size b (window width most size a behind seen ps).behind (seen + a) (drop a ps))
window-add width most size zero b behind seen ps =
    let same : seen + 0 ≡ seen = omega arith in
    let none : 0 + b ≡ b = omega arith in
    rw (same, none) refl
window-add width most size (suc a) b behind seen [] =
    let more : suc a + b ≡ suc (a + b) = omega arith in
    rw more (elim (cases_Option (stop_of size)) [
      | inl none ↦ rw none (rw (window-none width most size b behind (seen + suc a) none) refl)
      | inr some ↦ (let (why, is) = some in rw is refl)
    ])
window-add width most size (suc a) b behind seen (p ∷ ps) =
    let more : suc a + b ≡ suc (a + b) = omega arith in
    let later : seen + 1 + a ≡ seen + suc a = omega arith in
    rw more (elim (cases_Bool (nat_lt longest p.behind.place)) [
      | inl long ↦ rw long refl
      | inr short ↦ rw short (elim (cases_Option (fault_under most width seen p.line.words)) [
        | inr some ↦ (let (kind, is) = some in rw is refl)
        | inl none ↦ rw none (
            ap (onto (row_of width p.line.words)) (window-add width most size a b p.behind (seen + 1) ps)
            ∙ (onto-goes_on (row_of width p.line.words) (window width most size a p.behind (seen + 1) ps)
            (window width most size b (window width most size a p.behind (seen + 1) ps).behind (seen + 1 + a) (drop a ps))
            ∙ ap (λ (n : ℕ). goes_on_with (onto (row_of width p.line.words) (window width most size a p.behind (seen + 1) ps))
            (window width most size b (window width most size a p.behind (seen + 1) ps).behind n (drop a ps))) later))
      ])
    ])

pub drop-drop : (a b : ℕ) (ps : List Placed) → drop a (drop b ps) ≡ drop (b + a) ps
drop-drop a zero ps = ap (λ (n : ℕ). drop n ps) (let e : a ≡ 0 + a = omega arith in e)
drop-drop a (suc b) [] = drop-none a ∙ sym (drop-none (suc b + a))
drop-drop a (suc b) (p ∷ ps) = drop-drop a b ps ∙ ap (λ (n : ℕ). drop n (p ∷ ps)) (let e : suc (b + a) ≡ suc b + a = omega arith in e)

pub windows_are_one : (width most : ℕ) (text : List ℕ) (given : ℕ) (behind : Behind) (counts : List ℕ)
    → windows width most text given behind counts ≡ window width most (length text) (total counts) behind given (drop given (placed_lines text))
windows_are_one width most text given behind [] = refl
windows_are_one width most text given behind (count ∷ counts) =
    let size = length text in
    let ps = placed_lines text in
    let next = window width most size count behind given (drop given ps) in
    ap (goes_on_with next) (windows_are_one width most text (given + count) next.behind counts
    ∙ ap (window width most size (total counts) next.behind (given + count)) (sym (drop-drop count given ps)))
    ∙ sym (window-add width most size count (total counts) behind given (drop given ps))

-- without where it ends
abbrev pub as_stream : RowWindow → Stream
as_stream w = record { rows = w.rows; stop = w.stop }

pub window-all : (width most size count : ℕ) (behind : Behind) (seen : ℕ) (ps : List Placed) → length ps < count
    → as_stream (window width most size count behind seen ps) ≡ stream_from width most size seen ps
window-all width most size zero behind seen ps few = absurd (omega arith)
window-all width most size (suc count) behind seen [] few = refl
window-all width most size (suc count) behind seen (p ∷ ps) few =
    elim (cases_Bool (nat_lt longest p.behind.place)) [
      | inl long ↦ rw long refl
      | inr short ↦ rw short (elim (cases_Option (fault_under most width seen p.line.words)) [
        | inr some ↦ (let (kind, is) = some in rw is refl)
        | inl none ↦ rw none (ap (λ (s : Stream). row_of_stream None width p.line s) (window-all width most size count p.behind (seen + 1) ps (omega arith)))
      ])
    ]

pub windows_are_stream : (width most : ℕ) (text counts : List ℕ) → length (placed_lines text) < total counts
    → as_stream (windows width most text 0 beginning counts) ≡ stream_of width most text
windows_are_stream width most text counts few = ap as_stream (windows_are_one width most text 0 beginning counts)
    ∙ window-all width most (length text) (total counts) beginning 0 (placed_lines text) few

-- a window with all its vectors has not stopped
pub whole-goes_on : (width most size count : ℕ) (behind : Behind) (seen : ℕ) (ps : List Placed)
    → length (window width most size count behind seen ps).rows ≡ count → (window width most size count behind seen ps).stop ≡ None
whole-goes_on width most size zero behind seen ps whole = refl
whole-goes_on width most size (suc count) behind seen [] whole = absurd (omega (arith, whole))
whole-goes_on width most size (suc count) behind seen (p ∷ ps) whole = elim (cases_Bool (nat_lt longest p.behind.place)) [
  | inl long ↦ absurd (let e : 0 ≡ suc count = rw long at whole in omega (arith, e))
  | inr short ↦ elim (cases_Option (fault_under most width seen p.line.words)) [
    | inr some ↦ absurd (let (kind, is) = some in let e : 0 ≡ suc count = rw (short, is) at whole in omega (arith, e))
    | inl none ↦ (
        let e : suc (length (window width most size count p.behind (seen + 1) ps).rows) ≡ suc count = rw (short, none) at whole in
        rw (short, none) (whole-goes_on width most size count p.behind (seen + 1) ps (omega (arith, e))))
  ]
]

-- a window that did not stop is one of as many vectors as it has
pub window-fewer : (width most size count : ℕ) (behind : Behind) (seen : ℕ) (ps : List Placed)
    → (window width most size count behind seen ps).stop ≡ None
    → window width most size (length (window width most size count behind seen ps).rows) behind seen ps ≡ window width most size count behind seen ps
window-fewer width most size zero behind seen ps goes = refl
window-fewer width most size (suc count) behind seen [] goes = ap (stopped behind) (sym goes)
window-fewer width most size (suc count) behind seen (p ∷ ps) goes = elim (cases_Bool (nat_lt longest p.behind.place)) [
  | inl long ↦ absurd (let e : Some TooLong ≡ None = rw long at goes in cc)
  | inr short ↦ elim (cases_Option (fault_under most width seen p.line.words)) [
    | inr some ↦ absurd (let (kind, is) = some in let e : Some (Vector (record { line = p.line.number; kind = kind })) ≡ None = rw (short, is) at goes in cc)
    | inl none ↦ (
        let e : (window width most size count p.behind (seen + 1) ps).stop ≡ None = rw (short, none) at goes in
        rw (short, none) (rw (short, none) (ap (onto (row_of width p.line.words)) (window-fewer width most size count p.behind (seen + 1) ps e))))
  ]
]
