-- The one list of a node's history: how long it is, and what stands where.
use Rattle.std.proofs.Common.{◌≡◌, ◌≢◌, ℕ, zero, suc, ◌+◌, ◌-◌, ◌*◌, ◌/◌, ◌%◌, ◌<◌, ◌≤◌, List, []}
use Rattle.std.proofs.Common.{◌∷◌, ◌++◌, length, get_or, cond, true, false, suc-mul, mul-add, Bool}
use Rattle.std.proofs.Common.{sym, refl, ap, ◌∙◌, arith, le-ltb, lt-ltb, eq-eqb, ne_eqb}
use Rattle.std.proofs.Common.{length-append}
use mathlib.Core.Logic.{dite}
use native.Mathlib.Decide.{ℕ_discrete, dec_lt}
use Rattle.ds_rule.specs.Run.{Run, node_of, next, turns, opens, opened}
use Rattle.ds_rule.specs.Words.{width, value}
use Rattle.ds_rule.specs.Rows.{row}
use Rattle.ds_rule.proofs.GetElemLemmas.{by_bool, get-first, get-second}
use Rattle.ds_rule.proofs.EventLaws.{node-low, node-high, next-low, next-high, turns-low, turns-high}
use Rattle.ds_rule.proofs.EventLaws.{opens-low, opens-high, opens_even, even_opens, opened-low}
use Rattle.ds_rule.proofs.EventLaws.{turns-next, turns_up}
use Rattle.ds_rule.specs.Sound.{IsSound}
use Rattle.ds_rule.proofs.RowLaws.{length-row, get-row}
use Rattle.ds_rule.proofs.PlaceLaws.{place_inside, place-word}
use Rattle.ds_fabric.specs.HistoryList.{stride_of, new_row, ticket_of, turns_told, ticket_place}

pub stride-low : (run : Run) (l : ℕ) → l < run.design_nodes → stride_of run l ≡ width run l + 2
stride-low run l h = ap (λ b. cond b (width run l + 2) 1) (lt-ltb l run.design_nodes h)

pub stride-high : (run : Run) (l : ℕ) → run.design_nodes ≤ l → stride_of run l ≡ 1
stride-high run l h = ap (λ b. cond b (width run l + 2) 1) (le-ltb l run.design_nodes h)

-- a turn of a node has words
pub stride_above : (run : Run) (l : ℕ) → 0 < stride_of run l
stride_above run l = dite (dec_lt l run.design_nodes)
    (λ low. omega (arith, stride-low run l low))
    (λ high. omega (arith, stride-high run l (omega arith)))

-- an opening has a row, any other firing none
pub new_row-opens : (run : Run) (l f : ℕ) → opens run (next run l f) ≡ true
    → new_row run l f ≡ row run l (opened run l f + 1)
new_row-opens run l f h = ap (λ b. cond b (row run l (opened run l f + 1)) []) h

pub new_row-else : (run : Run) (l f : ℕ) → opens run (next run l f) ≡ false → new_row run l f ≡ []
new_row-else run l f h = ap (λ b. cond b (row run l (opened run l f + 1)) []) h

pub length-even : (run : Run) (l f : ℕ) → l < run.design_nodes → f % 2 ≡ 0
    → length (new_row run l f) ≡ width run l
length-even run l f low even =
    ap (λ (xs : List ℕ). length xs) (new_row-opens run l f (opens_even run l f low even))
    ∙ length-row run l (opened run l f + 1)

pub length-other : (run : Run) (l f : ℕ) → (l < run.design_nodes → f % 2 ≡ 0 → ⊥)
    → length (new_row run l f) ≡ 0
length-other run l f not_one = by_bool (length (new_row run l f) ≡ 0) (opens run (next run l f))
    (λ y. let o = even_opens run l f y in absurd (not_one o.0 o.1))
    (λ n. ap (λ (xs : List ℕ). length xs) (new_row-else run l f n))

-- all that a node tells has a length of 64 bits
pub told_small : (run : Run) (l : ℕ) → IsSound run
    → run.limit * stride_of run l < 18446744073709551616
told_small run l sound = let n : ℕ = run.limit in let w : ℕ = width run l in dite
    (dec_lt l run.design_nodes)
    (λ low. let e : n * stride_of run l ≡ n * (w + 2) = ap (λ (x : ℕ). n * x) (stride-low run l low) in
    omega (arith, e, mul-add n w 2, sound.stores l, sound.short))
    (λ high. let e : n * stride_of run l ≡ n * 1 =
    ap (λ (x : ℕ). n * x) (stride-high run l (omega arith)) in omega (arith, e, sound.short))

-- the width of a node is far below 64 bits
pub width_small : (run : Run) (l : ℕ) → IsSound run → l < run.nodes
    → width run l + 2 < 18446744073709551616
width_small run l sound near = dite (dec_lt 0 (width run l))
    (λ some. omega (
      arith,
      place_inside run l 0 (width run l - 1) near (omega arith),
      place-word run l 0 (width run l - 1),
      sound.sized,
    ))
    (λ none. omega arith)

module _ (run : Run) (ts : ℕ → List ℕ) (l : ℕ) where
  pub length-next : (f : ℕ) → length (turns_told run ts l (suc f))
      ≡ length (turns_told run ts l f) + length (new_row run l f) + 1
  length-next f = omega (
    arith,
    length-append (turns_told run ts l f ++ new_row run l f) (ticket_of run ts l f ∷ []),
    length-append (turns_told run ts l f) (new_row run l f),
  )

  -- two firings are a turn of a latch
  pub length-turns : (k f s : ℕ) → l < run.design_nodes → s ≡ width run l + 2 → f ≡ 2 * k
      → length (turns_told run ts l f) ≡ k * s
  length-turns zero f s low wide is = let e : f ≡ zero = omega arith in
      let z : zero ≡ zero * s = omega arith in
      ap (λ (x : ℕ). length (turns_told run ts l x)) e ∙ z
  length-turns (suc k) f s low wide is = let g : ℕ = 2 * k in let e : f ≡ suc (suc g) = omega arith in
      ap (λ (x : ℕ). length (turns_told run ts l x)) e ∙ omega (
        arith,
        length-next (suc g),
        length-next g,
        length-even run l g low (omega arith),
        length-other run l (suc g) (λ _ even. absurd (omega arith)),
        length-turns k g s low wide refl,
        suc-mul k s,
      )

  pub length-open : (k f s : ℕ) → l < run.design_nodes → s ≡ width run l + 2 → f ≡ 2 * k + 1
      → length (turns_told run ts l f) ≡ k * s + width run l + 1
  length-open k f s low wide is = let g : ℕ = 2 * k in let e : f ≡ suc g = omega arith in
      ap (λ (x : ℕ). length (turns_told run ts l x)) e ∙ omega (
        arith,
        length-next g,
        length-even run l g low (omega arith),
        length-turns k g s low wide refl,
      )

  pub length-single : (f : ℕ) → run.design_nodes ≤ l → length (turns_told run ts l f) ≡ f
  length-single zero high = refl
  length-single (suc f) high = omega (
    arith,
    length-next f,
    length-other run l f (λ low even. absurd (omega arith)),
    length-single f high,
  )

  pub length-up : (g f : ℕ) → g ≤ f
      → length (turns_told run ts l g) ≤ length (turns_told run ts l f)
  length-up g zero h = let e : g ≡ zero = omega arith in
      omega (arith, ap (λ (x : ℕ). length (turns_told run ts l x)) e)
  length-up g (suc f) h = dite (ℕ_discrete g (suc f))
      (λ e. omega (arith, ap (λ (x : ℕ). length (turns_told run ts l x)) e))
      (λ n. omega (arith, length-up g f (omega arith), length-next f))

  -- what is told stays as it is told more
  pub told_stays : (g f i : ℕ) → g ≤ f → i < length (turns_told run ts l g)
      → get_or (turns_told run ts l f) i 0 ≡ get_or (turns_told run ts l g) i 0
  told_stays g zero i h below = let e : zero ≡ g = omega arith in
      ap (λ (x : ℕ). get_or (turns_told run ts l x) i 0) e
  told_stays g (suc f) i h below = dite (ℕ_discrete (suc f) g)
      (λ e. ap (λ (x : ℕ). get_or (turns_told run ts l x) i 0) e)
      (λ n. let less : g ≤ f = omega arith in let up = length-up g f less in
      get-first (turns_told run ts l f ++ new_row run l f) (ticket_of run ts l f ∷ []) i
      (omega (arith, length-append (turns_told run ts l f) (new_row run l f)))
      ∙ (get-first (turns_told run ts l f) (new_row run l f) i (omega arith)
      ∙ told_stays g f i less below))

  pub told_word : (g f n i : ℕ) → g < f → n ≡ length (turns_told run ts l g)
      → i < length (new_row run l g)
      → get_or (turns_told run ts l f) (n + i) 0 ≡ get_or (new_row run l g) i 0
  told_word g f n i h is below = told_stays (suc g) f (n + i) (omega arith)
      (omega (arith, length-next g))
      ∙ (get-first (turns_told run ts l g ++ new_row run l g) (ticket_of run ts l g ∷ []) (n + i)
      (omega (arith, length-append (turns_told run ts l g) (new_row run l g)))
      ∙ get-second (turns_told run ts l g) (new_row run l g) n i is)

  pub told_ticket : (g f n : ℕ) → g < f
      → n ≡ length (turns_told run ts l g) + length (new_row run l g)
      → (get_or (turns_told run ts l f) n 0 ≡ ticket_of run ts l g)
      × (n < length (turns_told run ts l f))
  told_ticket g f n h is =
      let long : n ≡ length (turns_told run ts l g ++ new_row run l g) = omega (
        arith,
        length-append (turns_told run ts l g) (new_row run l g),
      ) in
      let e : n ≡ n + 0 = omega arith in (
        told_stays (suc g) f n (omega arith) (omega (arith, length-next g))
            ∙ (ap (λ (x : ℕ). get_or (turns_told run ts l (suc g)) x 0) e
            ∙ get-second (turns_told run ts l g ++ new_row run l g) (ticket_of run ts l g ∷ []) n 0
            long),
        omega (arith, length-next g, length-up (suc g) f (omega arith)),
      )

  -- firing number g of the node is that of turn k, from 0, of the event, and its ticket stands where
  -- that of the turn has its place
  pub record IsFiring (e k f g : ℕ) : Type 0 where
    pub below : g < f
    pub event_is : next run l g ≡ e
    pub turn_is : turns run e g ≡ k
    pub place_is : k * stride_of run l + ticket_place run e (stride_of run l)
        ≡ length (turns_told run ts l g) + length (new_row run l g)

  pub firing_of : (e k f : ℕ) → node_of run e ≡ l → k < turns run e f → (g : ℕ) × IsFiring e k f g
  firing_of e k f here h = let s : ℕ = stride_of run l in
      let place : (b : Bool) → opens run e ≡ b
      → ticket_place run e s ≡ cond b (s - 2) (s - 1) =
      λ b o. ap (λ x. cond x (s - 2) (s - 1)) o in
      dite (dec_lt e (2 * run.design_nodes))
      (λ low. let n = node-low run e low in let low-l : l < run.design_nodes = omega arith in
      let wide = stride-low run l low-l in let t = turns-low run e f low in
      let at : (g : ℕ) → g ≡ 2 * k + e % 2
      → k * s + ticket_place run e s ≡ length (turns_told run ts l g) + length (new_row run l g)
      → (g : ℕ) × IsFiring e k f g = λ g is stands. (
        g,
        record {
          below = omega arith;
          event_is = omega (arith, next-low run l g low-l);
          turn_is = omega (arith, turns-low run e g low);
          place_is = stands;
        },
      ) in
      dite (ℕ_discrete (e % 2) 0)
      (λ even. let g : ℕ = 2 * k in at g (omega arith) (omega (
        arith,
        place true (opens-low run e low ∙ eq-eqb (e % 2) 0 even),
        length-turns k g s low-l wide refl,
        length-even run l g low-l (omega arith),
      )))
      (λ odd. let g : ℕ = 2 * k + 1 in at g (omega arith) (omega (
        arith,
        place false (opens-low run e low ∙ ne_eqb (e % 2) 0 odd),
        length-open k g s low-l wide refl,
        length-other run l g (λ _ even. absurd (omega arith)),
      ))))
      (λ high. let high' : 2 * run.design_nodes ≤ e = omega arith in let n = node-high run e high' in
      let high-l : run.design_nodes ≤ l = omega arith in let wide = stride-high run l high-l in
      let one : k * s ≡ k = ap (λ (x : ℕ). k * x) wide ∙ omega arith in (
        k,
        record {
          below = omega (arith, turns-high run e f high');
          event_is = omega (arith, next-high run l k high-l);
          turn_is = turns-high run e k high';
          place_is = omega (
            arith,
            place false (opens-high run e high'),
            length-single k high-l,
            length-other run l k (λ low even. absurd (omega arith)),
          );
        },
      ))

  -- the ticket of turn k of an event stands in its place
  pub ticket_stands : (e k f : ℕ) → node_of run e ≡ l → k < turns run e f
      → (get_or (turns_told run ts l f)
      (k * stride_of run l + ticket_place run e (stride_of run l)) 0 ≡ get_or (ts e) k 0)
      × (k * stride_of run l + ticket_place run e (stride_of run l)
      < length (turns_told run ts l f))
  ticket_stands e k f here h = let (g, is) = firing_of e k f here h in
      let t = told_ticket g f (k * stride_of run l + ticket_place run e (stride_of run l)) is.below is.place_is in (
        t.0 ∙ (ap (λ (x : ℕ). get_or (ts x) (turns run x g) 0) is.event_is
            ∙ ap (λ (x : ℕ). get_or (ts e) x 0) is.turn_is),
        t.1,
      )

  -- the row of turn k of a latch stands before its ticket
  pub row_stands : (k f : ℕ) → l < run.design_nodes → 2 * k < f
      → k * stride_of run l + width run l < length (turns_told run ts l f)
  row_stands k f low h = let g : ℕ = 2 * k in omega (
    arith,
    length-turns k g (stride_of run l) low (stride-low run l low) refl,
    length-even run l g low (omega arith),
    length-next g,
    length-up (suc g) f (omega arith),
  )

  -- word i of the row of turn k of a latch stands in its place
  pub word_stands : (k f i : ℕ) → l < run.design_nodes → 2 * k < f → i < width run l
      → get_or (turns_told run ts l f) (k * stride_of run l + i) 0 ≡ value run l (k + 1) i
  word_stands k f i low h inside = let g : ℕ = 2 * k in let even : g % 2 ≡ 0 = omega arith in
      let s : ℕ = stride_of run l in
      let long = length-turns k g s low (stride-low run l low) refl in
      let wide = length-even run l g low even in
      let turn : opened run l g + 1 ≡ k + 1 = omega (arith, opened-low run l g low) in
      told_word g f (k * s) i h (sym long) (omega arith)
      ∙ (ap (λ (xs : List ℕ). get_or xs i 0) (new_row-opens run l g (opens_even run l g low even))
      ∙ (get-row run l (opened run l g + 1) i inside ∙ ap (λ (x : ℕ). value run l x i) turn))

  -- what the next firing tells follows in the turn of its event, and the turn has room for it
  pub told_place : (f : ℕ) → (length (turns_told run ts l f)
      ≡ turns run (next run l f) f * stride_of run l
      + cond (opens run (next run l f)) 0 (stride_of run l - 1))
      × (cond (opens run (next run l f)) 0 (stride_of run l - 1) + (length (new_row run l f) + 1)
      ≤ stride_of run l)
  told_place f = let s : ℕ = stride_of run l in let e : ℕ = next run l f in
      let place : (b : Bool) → opens run e ≡ b → cond (opens run e) 0 (s - 1) ≡ cond b 0 (s - 1) =
      λ b o. ap (λ x. cond x 0 (s - 1)) o in
      dite (dec_lt l run.design_nodes)
      (λ low. let n = next-low run l f low in let wide = stride-low run l low in
      let t = turns-low run e f (omega arith) in let k : ℕ = f / 2 in
      let turn : turns run e f ≡ k = omega arith in
      let many : turns run e f * s ≡ k * s = ap (λ (x : ℕ). x * s) turn in
      dite (ℕ_discrete (f % 2) 0)
      (λ even. let p = place true (opens_even run l f low even) in
      let long = length-even run l f low even in (
        omega (arith, p, many, length-turns k f s low wide (omega arith)),
        omega (arith, p, long, wide),
      ))
      (λ odd. let o : opens run e ≡ false = by_bool (opens run e ≡ false) (opens run e)
      (λ y. absurd (odd (even_opens run l f y).1)) (λ no. no) in let p = place false o in
      let long = length-other run l f (λ _ even. absurd (odd even)) in (
        omega (arith, p, many, wide, length-open k f s low wide (omega arith)),
        omega (arith, p, long, wide),
      )))
      (λ high. let high-l : run.design_nodes ≤ l = omega arith in
      let n = next-high run l f high-l in let wide = stride-high run l high-l in
      let p = place false (opens-high run e (omega arith)) in
      let long = length-other run l f (λ low even. absurd (omega arith)) in
      let one : turns run e f * s ≡ turns run e f = ap (λ (x : ℕ). turns run e f * x) wide
      ∙ omega arith in (
        omega (arith, p, wide, one, turns-high run e f (omega arith), length-single f high-l),
        omega (arith, p, long, wide),
      ))

-- the same tickets are told alike
pub told_same : (run : Run) (ts us : ℕ → List ℕ) (l f : ℕ)
    → ((g : ℕ) → g < f → ticket_of run us l g ≡ ticket_of run ts l g)
    → turns_told run us l f ≡ turns_told run ts l f
told_same run ts us l zero same = refl
told_same run ts us l (suc f) same =
    ap (λ (xs : List ℕ). (xs ++ new_row run l f) ++ ticket_of run us l f ∷ [])
    (told_same run ts us l f (λ g h. same g (omega arith)))
    ∙ ap (λ (t : ℕ). (turns_told run ts l f ++ new_row run l f) ++ t ∷ []) (same f (omega arith))

-- one firing more is told behind the others
pub told_fires : (run : Run) (ts us : ℕ → List ℕ) (l f t : ℕ)
    → turns run (next run l f) f ≡ length (ts (next run l f))
    → us (next run l f) ≡ ts (next run l f) ++ t ∷ []
    → ((e : ℕ) → e ≢ next run l f → us e ≡ ts e)
    → turns_told run us l (f + 1) ≡ (turns_told run ts l f ++ new_row run l f) ++ t ∷ []
told_fires run ts us l f t counted new others = let E : ℕ = next run l f in
    let old : (g : ℕ) → g < f → ticket_of run us l g ≡ ticket_of run ts l g =
    λ g h. let e : ℕ = next run l g in let n : ℕ = turns run e g in dite (ℕ_discrete e E)
    (λ is. let c = turns-next run l g in
    let less : n < length (ts E) = omega (
      arith,
      c,
      turns_up run e (g + 1) f (omega arith),
      ap (λ (x : ℕ). turns run x f) is,
    ) in
    ap (λ (x : ℕ). get_or (us x) n 0) is ∙ (ap (λ (xs : List ℕ). get_or xs n 0) new
    ∙ (get-first (ts E) (t ∷ []) n less ∙ ap (λ (x : ℕ). get_or (ts x) n 0) (sym is))))
    (λ far. ap (λ (xs : List ℕ). get_or xs n 0) (others e far)) in
    let k : ℕ = turns run E f in let e : k ≡ k + 0 = omega arith in
    let last : ticket_of run us l f ≡ t = ap (λ (xs : List ℕ). get_or xs k 0) new
    ∙ (ap (λ (x : ℕ). get_or (ts E ++ t ∷ []) x 0) e ∙ get-second (ts E) (t ∷ []) k 0 counted) in
    let more : f + 1 ≡ suc f = omega arith in
    ap (turns_told run us l) more
    ∙ (ap (λ (xs : List ℕ). (xs ++ new_row run l f) ++ ticket_of run us l f ∷ [])
    (told_same run ts us l f old)
    ∙ ap (λ (x : ℕ). (turns_told run ts l f ++ new_row run l f) ++ x ∷ []) last)
