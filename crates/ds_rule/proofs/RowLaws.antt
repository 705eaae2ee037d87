-- Rows of value words, word by word and edge by edge.
use Rattle.std.proofs.Common.{◌≡◌, ℕ, zero, suc, ◌+◌, ◌-◌, ◌*◌, ◌<◌, ◌≤◌, eqb, cond, List, [], ◌∷◌}
use Rattle.std.proofs.Common.{◌++◌, length, get_or, Bool, true, false}
use Rattle.std.proofs.Common.{sym, refl, ap, ◌∙◌, subst, arith, length-append, eq-eqb, ne_eqb, ◌≢◌}
use mathlib.Core.Option.{some}
use lib.ListN.{get_elem?}
use Rattle.std.proofs.lemmas.List.{append-nil}
use Rattle.ds_rule.specs.Run.{Run, opened}
use Rattle.ds_rule.specs.Words.{width, place, value}
use Rattle.ds_rule.specs.Sound.{edge_at, read_words}
use Rattle.ds_rule.specs.Rows.{row, supply_but, IsOpening}
use Rattle.ds_rule.specs.Rule.{seen}
use Rattle.ds_rule.specs.Plays.{listed}
use Rattle.ds_rule.specs.declared.table_run.DataEdge.{DataEdge}
use Rattle.ds_rule.specs.declared.view.View.{View}
use Rattle.ds_rule.proofs.GetElemLemmas.{at_or, length-listed, get-listed}
use Rattle.ds_rule.proofs.PlaceLaws.{place-word}

pub listed-next : {A : Type 0} (f : ℕ → A) (n : ℕ) → listed f (n + 1) ≡ listed f n ++ f n ∷ []
listed-next f n = let e : n + 1 ≡ suc n = omega arith in ap (listed f) e

pub length-row : (run : Run) (l k : ℕ) → length (row run l k) ≡ width run l
length-row run l k = length-listed (value run l k) (width run l)

pub get-row : (run : Run) (l k i : ℕ) → i < width run l → get_or (row run l k) i 0 ≡ value run l k i
get-row run l k i h = get-listed (value run l k) (width run l) i 0 h

-- nothing on both sides
same_both : (b : Bool) → cond {A = List ℕ} b [] [] ≡ []
same_both true = refl
same_both false = refl

-- one more edge of what a node reads: its row is read, or it is known, or it is another node's
pub supply_but-into : (run : Run) (known : ℕ → Bool) (l k n : ℕ) → (edge_at run n).consumer ≡ l
    → known (edge_at run n).producer ≡ false
    → supply_but run known l k (n + 1) ≡ supply_but run known l k n
    ++ (edge_at run n).producer ∷ row run (edge_at run n).producer (k - (edge_at run n).tokens)
supply_but-into run known l k n is unknown = let e : n + 1 ≡ suc n = omega arith in
    let r : List ℕ = (edge_at run n).producer ∷ row run (edge_at run n).producer (k - (edge_at run n).tokens) in
    ap (supply_but run known l k) e ∙ (ap (λ b. supply_but run known l k n
    ++ cond b (cond (known (edge_at run n).producer) [] r) [])
    (eq-eqb (edge_at run n).consumer l is)
    ∙ ap (λ b. supply_but run known l k n ++ cond b [] r) unknown)

pub supply_but-known : (run : Run) (known : ℕ → Bool) (l k n : ℕ)
    → known (edge_at run n).producer ≡ true
    → supply_but run known l k (n + 1) ≡ supply_but run known l k n
supply_but-known run known l k n told = let e : n + 1 ≡ suc n = omega arith in
    let r : List ℕ = (edge_at run n).producer ∷ row run (edge_at run n).producer (k - (edge_at run n).tokens) in
    let b : Bool = eqb (edge_at run n).consumer l in
    ap (supply_but run known l k) e ∙ (ap (λ x. supply_but run known l k n ++ cond b (cond x [] r)
    []) told ∙ (ap (λ xs. supply_but run known l k n ++ xs) (same_both b)
    ∙ append-nil (supply_but run known l k n)))

pub supply_but-past : (run : Run) (known : ℕ → Bool) (l k n : ℕ) → (edge_at run n).consumer ≢ l
    → supply_but run known l k (n + 1) ≡ supply_but run known l k n
supply_but-past run known l k n far = let e : n + 1 ≡ suc n = omega arith in
    let r : List ℕ = (edge_at run n).producer ∷ row run (edge_at run n).producer (k - (edge_at run n).tokens) in
    ap (supply_but run known l k) e ∙ (ap (λ b. supply_but run known l k n
    ++ cond b (cond (known (edge_at run n).producer) [] r) [])
    (ne_eqb (edge_at run n).consumer l far) ∙ append-nil (supply_but run known l k n))

-- a row that is known has no word to read
short : (b known : Bool) (r : List ℕ) (w : ℕ) → length r ≡ w
    → length (cond b (cond known [] r) []) ≤ cond b w 0
short true true r w is = omega arith
short true false r w is = omega (arith, is)
short false known r w is = omega arith

-- how many words a node reads at most, whatever the number of its opening and what is known
pub length-supply_but : (run : Run) (known : ℕ → Bool) (l k n : ℕ)
    → length (supply_but run known l k n) ≤ read_words run l n
length-supply_but run known l k zero = omega arith
length-supply_but run known l k (suc n) = let e : DataEdge = edge_at run n in
    let r : List ℕ = e.producer ∷ row run e.producer (k - e.tokens) in omega (
      arith,
      length-append (supply_but run known l k n)
          (cond (eqb e.consumer l) (cond (known e.producer) [] r) []),
      length-supply_but run known l k n,
      short (eqb e.consumer l) (known e.producer) r (1 + width run e.producer)
          (omega (arith, length-row run e.producer (k - e.tokens))),
    )

-- more edges have no fewer words
pub reads_up : (run : Run) (l m n : ℕ) → m ≤ n → read_words run l m ≤ read_words run l n
reads_up run l m zero h = let e : m ≡ 0 = omega arith in
    subst (λ x. read_words run l x ≤ 0) (sym e) (Rattle.std.proofs.Common.le_refl 0)
reads_up run l m (suc n) h = mathlib.Core.Logic.dite (native.Mathlib.Decide.ℕ_discrete m (suc n))
    (λ e. subst (λ x. read_words run l x ≤ read_words run l (suc n)) (sym e)
    (Rattle.std.proofs.Common.le_refl (read_words run l (suc n))))
    (λ e. omega (arith, reads_up run l m n (omega arith)))

pub reads-into : (run : Run) (l n : ℕ) → (edge_at run n).consumer ≡ l
    → read_words run l (n + 1) ≡ read_words run l n + (1 + width run (edge_at run n).producer)
reads-into run l n is = let e : n + 1 ≡ suc n = omega arith in
    ap (read_words run l) e ∙ ap {B = ℕ} (λ b. read_words run l n + cond b
    (1 + width run (edge_at run n).producer) 0) (eq-eqb (edge_at run n).consumer l is)

pub reads-past : (run : Run) (l n : ℕ) → (edge_at run n).consumer ≢ l
    → read_words run l (n + 1) ≡ read_words run l n
reads-past run l n far = let e : n + 1 ≡ suc n = omega arith in
    ap (read_words run l) e ∙ (ap {B = ℕ} (λ b. read_words run l n + cond b
    (1 + width run (edge_at run n).producer) 0) (ne_eqb (edge_at run n).consumer l far)
    ∙ omega arith)

pub edge-there : (run : Run) (n : ℕ) → n < length run.edges
    → get_elem? run.edges n ≡ some (edge_at run n)
edge-there run n h = at_or run.edges n (record { producer = 0; consumer = 0; tokens = 0 }) h

-- the number of the opening in flight, at the pass's own node
pub number-is : (run : Run) (v : View) (l k : ℕ) → IsOpening run v l k
    → opened run v.node (seen v v.node) + 1 ≡ k
number-is run v l k o = ap (λ (m : ℕ). opened run m (seen v m) + 1) o.node_is ∙ sym o.number

-- what the load of a value word tells, in the terms of the opening
pub told : (run : Run) (v : View) (l k : ℕ) → IsOpening run v l k → v.run ≡ run → (j r : ℕ)
    → ((n : ℕ) (e : DataEdge) (i : ℕ) → get_elem? v.run.edges n ≡ some e → e.consumer ≡ v.node
    → i < width v.run e.producer
    → j ≡ place v.run e.producer (opened v.run v.node (seen v v.node) + 1 - e.tokens) i
    → r ≡ value v.run e.producer (opened v.run v.node (seen v v.node) + 1 - e.tokens) i)
    → (n : ℕ) (e : DataEdge) (i : ℕ) → get_elem? run.edges n ≡ some e → e.consumer ≡ l
    → i < width run e.producer
    → j ≡ place run e.producer (k - e.tokens) i → r ≡ value run e.producer (k - e.tokens) i
told run v l k o run_is j r h =
    let T : Run → ℕ → ℕ → Type 0 = λ x m y. (n : ℕ) (e : DataEdge) (i : ℕ)
    → get_elem? x.edges n ≡ some e → e.consumer ≡ m → i < width x e.producer
    → j ≡ place x e.producer (y - e.tokens) i → r ≡ value x e.producer (y - e.tokens) i in
    let a : T run v.node (opened run v.node (seen v v.node) + 1) =
    subst (λ x. T x v.node (opened x v.node (seen v v.node) + 1)) run_is h in
    let b : T run v.node k = subst (T run v.node) (number-is run v l k o) a in
    subst (λ m. T run m k) o.node_is b

-- where the next word of the opening goes
pub goes : (run : Run) (v : View) (l k : ℕ) (o : IsOpening run v l k) (at i : ℕ)
    → at ≡ place run l k 0
    → at + i ≡ place run v.node (opened run v.node (seen v v.node) + 1) i
goes run v l k o at i is = let a : at + i ≡ place run l k i = omega (arith, place-word run l k i) in
    a ∙ (ap (λ (m : ℕ). place run m k i) (sym o.node_is)
    ∙ ap (λ (y : ℕ). place run v.node y i) (sym (number-is run v l k o)))

pub value-own : (run : Run) (v : View) (l k : ℕ) (o : IsOpening run v l k) (i : ℕ)
    → value run l k i ≡ value run v.node (opened run v.node (seen v v.node) + 1) i
value-own run v l k o i = ap (λ (m : ℕ). value run m k i) (sym o.node_is)
    ∙ ap (λ (y : ℕ). value run v.node y i) (sym (number-is run v l k o))
