-- Tickets rise along arcs.
use Rattle.std.proofs.Common.{◌≡◌, ℕ, ◌-◌, ◌<◌, ◌≤◌, ◌⊎◌, inl, inr, ⊎_elim, List, [], ◌∷◌, length, get_or, sym, ◌∙◌, ap, subst, arith}
use mathlib.Core.Logic.{dite}
use mathlib.Core.Option.{some, some-ne-none}
use native.Mathlib.Decide.{ℕ_discrete}
use lib.ListN.{get_elem?}
use Rattle.atomic_table.proofs.Lists.{at_longer}
use Rattle.ds_marked.specs.declared.marked.Arc.{Arc}
use Rattle.ds_rule.specs.Run.{Run}
use Rattle.ds_rule.specs.Log.{count_in_log, tickets_in_log, IsLegalList}
use Rattle.ds_rule.proofs.GetElemLemmas.{at_below, at_end, at_get, there_is}
use Rattle.ds_rule.proofs.LogCounts.{tickets_in_log-here, tickets_in_log-else, length-tickets_in_log, ticket_below}
use Rattle.ds_table_laws.specs.DrawnTickets.{TicketsFollow}

-- a ticket stays in a longer log
stays : (e x : ℕ) (xs : List ℕ) (k t : ℕ) → get_elem? (tickets_in_log e xs) k ≡ some t
    → get_elem? (tickets_in_log e (x ∷ xs)) k ≡ some t
stays e x xs k t at = dite (ℕ_discrete x e)
    (λ same. subst (λ ts. get_elem? ts k ≡ some t) (sym (tickets_in_log-here e x xs same))
    (at_longer (tickets_in_log e xs) (length xs ∷ []) k t at))
    (λ far. subst (λ ts. get_elem? ts k ≡ some t) (sym (tickets_in_log-else e x xs far)) at)

-- a ticket of a longer log was there before, or is the last one
old_or_last : (e x : ℕ) (xs : List ℕ) (k t : ℕ) → get_elem? (tickets_in_log e (x ∷ xs)) k ≡ some t
    → (get_elem? (tickets_in_log e xs) k ≡ some t) ⊎ ((x ≡ e) × (k ≡ count_in_log e xs) × (t ≡ length xs))
old_or_last e x xs k t at = dite (ℕ_discrete x e)
    (λ same. ⊎_elim (λ old. inl old) (λ new. inr (same, new.0 ∙ length-tickets_in_log e xs, sym new.1))
    (at_end (tickets_in_log e xs) (length xs) t k
    (subst (λ ts. get_elem? ts k ≡ some t) (tickets_in_log-here e x xs same) at)))
    (λ far. inl (subst (λ ts. get_elem? ts k ≡ some t) (tickets_in_log-else e x xs far) at))

-- a lower ticket, in its place
abbrev Lower : ℕ → List ℕ → ℕ → ℕ → Type 0
Lower e xs k t = (s : ℕ) × (get_elem? (tickets_in_log e xs) k ≡ some s) × (s < t)

-- in a legal log the firing that is waited for has a lower ticket
lower : (run : Run) (m : ℕ) (d : Arc) → m < length run.arcs → (xs : List ℕ)
    → IsLegalList run xs → (let a : Arc = get_or run.arcs m d in (j t : ℕ) → a.tokens ≤ j
    → get_elem? (tickets_in_log a.target xs) j ≡ some t → Lower a.source xs (j - a.tokens) t)
lower run m d inside [] legal j t behind here = absurd (some-ne-none t (sym here))
lower run m d inside (x ∷ xs) legal j t behind here = let a : Arc = get_or run.arcs m d in ⊎_elim
    (λ old. let (s, stood, below) = lower run m d inside xs legal.0 j t behind old in
    (s, stays a.source x xs (j - a.tokens) s stood, below))
    (λ last. let enough = legal.1.ready m d inside (sym last.0) in
    let same : count_in_log x xs ≡ count_in_log a.target xs = ap (λ y. count_in_log y xs) last.0 in
    let (s, stood) = there_is (tickets_in_log a.source xs) (j - a.tokens)
    (omega (arith, length-tickets_in_log a.source xs, last.1)) in (
      s,
      stays a.source x xs (j - a.tokens) s stood,
      omega (arith, ticket_below a.source xs (j - a.tokens) s stood, last.2),
    ))
    (old_or_last a.target x xs j t here)

pub tickets_follow_lem : TicketsFollow
tickets_follow_lem run tickets many sound r m d there j behind inside =
    let a : Arc = get_or run.arcs m d in let (near-source, near-target) = sound.named m d there in
    let source = r.all a.source near-source in
    let target = r.all a.target near-target in
    let (t, here) = there_is (tickets_in_log a.target r.log) j (omega (arith, ap length target)) in
    let (s, stood, below) = lower run m d there r.log r.legal j t behind here in (
      omega (arith, at_below (tickets_in_log a.source r.log) (j - a.tokens) s stood, ap length source),
      omega (
        arith,
        ap (λ ts. get_or ts (j - a.tokens) 0) source,
        ap (λ ts. get_or ts j 0) target,
        at_get (tickets_in_log a.source r.log) (j - a.tokens) s 0 stood,
        at_get (tickets_in_log a.target r.log) j t 0 here,
      ),
    )
