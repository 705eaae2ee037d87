-- The tickets of a record are places of one log, each the place of one event.
use Rattle.std.proofs.Common.{◌≡◌, ℕ, ◌<◌, ◌≢◌, List, [], length, get_or, sym, ap, ◌∙◌, subst}
use Rattle.std.proofs.Common.{zero, suc, ◌∷◌, ◌++◌, take, drop, arith, refl}
use Rattle.std.proofs.lemmas.List.{ext_get_or}
use Rattle.std.proofs.Math.Seq.{drop-nil}
use mathlib.Core.Option.{some}
use lib.ListN.{get_elem?}
use Rattle.ds_rule.specs.Run.{Run, node_of, turns}
use Rattle.ds_rule.specs.Log.{tickets_in_log, firings}
use Rattle.ds_rule.proofs.GetElemLemmas.{at_below, at_get, at_or, same_at, has_below}
use Rattle.ds_rule.proofs.LogCounts.{ticket_below, ticket_of_some, ticket_of_one, stands_at}
use Rattle.ds_rule.proofs.LogCounts.{node_inside, length-tickets_in_log, length-firings}
use Rattle.ds_fabric.specs.declared.history.History.{History}
use Rattle.ds_fabric.specs.declared.histories.Histories.{Histories}
use Rattle.ds_fabric.specs.HistoryList.{ticket_in, list_of_words, list_room}
use Rattle.ds_fabric.specs.Showing.{Showing, IsRecord}
use Rattle.ds_fabric.specs.Spread.{CanSpread, IsLeftOver, HasSpread}
use Rattle.ds_fabric.proofs.HistoryTickets.{ticket_read, stands_in, counted}

module _ (p : Showing) (s : Histories) (design_nodes many : ℕ)
    (q : IsRecord p s design_nodes many) where
  abbrev pub W : History → List ℕ
  W h = list_of_words s h

  abbrev pub R : Run
  R = p.view.run

  abbrev pub log : List ℕ
  log = q.recorded.log

  near : (i : ℕ) (h : History) → get_elem? s.nodes.items i ≡ some h → h.node < R.nodes
  near i h at = omega (
    arith,
    has_below p.view.holds h.node (q.keeps.listed i h at).has,
    q.keeps.held_long,
  )

  -- a word of a history that is a ticket is the place of a firing
  ticket-is : (i : ℕ) (h : History) → get_elem? s.nodes.items i ≡ some h → (e k : ℕ)
      → node_of R e ≡ h.node → k < turns R e h.fired
      → get_elem? (tickets_in_log e log) k ≡ some (ticket_in R h (W h) e k)
  ticket-is i h at e k here below = let t = q.keeps.listed i h at in
      let same = q.recorded.all e (omega (arith, here, near i h at)) in
      at_or (tickets_in_log e log) k 0
      (omega (
        arith,
        below,
        counted p.view h (W h) (list_room s h) e q.keeps.counts t here,
        ap (λ (xs : List ℕ). length xs) same,
      ))
      ∙ ap some (sym ((ticket_read p.view h (W h) (list_room s h) e k t here below).0
      ∙ ap (λ (xs : List ℕ). get_or xs k 0) same))

  -- and there is one for each such place
  fired-often : (i : ℕ) (h : History) → get_elem? s.nodes.items i ≡ some h → (e k t : ℕ)
      → node_of R e ≡ h.node → get_elem? (tickets_in_log e log) k ≡ some t → k < turns R e h.fired
  fired-often i h at e k t here stands = omega (
    arith,
    at_below (tickets_in_log e log) k t stands,
    counted p.view h (W h) (list_room s h) e q.keeps.counts (q.keeps.listed i h at) here,
    ap (λ (xs : List ℕ). length xs) (q.recorded.all e (omega (arith, here, near i h at))),
  )

  pub can_spread : (i : ℕ) (h : History) → get_elem? s.nodes.items i ≡ some h
      → CanSpread design_nodes many R h (W h)
  can_spread i h at = record {
    design_nodes_is = q.design_nodes_is;
    inside = λ e here. record {
      stands = stands_in p.view h (W h) (list_room s h) e (q.keeps.listed i h at) here;
      below = λ k below. omega (
        arith,
        ticket_below e log k (ticket_in R h (W h) e k) (ticket-is i h at e k here below),
        q.recorded.long,
      );
    };
    distinct = λ d e on here n j k below-j below-k same.
        n (ticket_of_one log d e j k (ticket_in R h (W h) e k)
        (subst (λ (x : ℕ). get_elem? (tickets_in_log d log) j ≡ some x) same
        (ticket-is i h at d j on below-j)) (ticket-is i h at e k here below-k)).0;
  }

  -- what was put for one node stays where another's is put
  pub stays : (i j : ℕ) (g h : History) (old new : List ℕ) → i ≢ j
      → get_elem? s.nodes.items i ≡ some g → get_elem? s.nodes.items j ≡ some h
      → HasSpread R g (W g) old → IsLeftOver R h (W h) old new → HasSpread R g (W g) new
  stays i j g h old new ne at at' put kept e here k below =
      kept (ticket_in R g (W g) e k) e (put e here k below) (λ d m on below-m same.
      let is = (ticket_of_one log d e m k (ticket_in R g (W g) e k)
      (subst (λ (x : ℕ). get_elem? (tickets_in_log d log) m ≡ some x) same
      (ticket-is j h at' d m on below-m)) (ticket-is i g at e k here below)).0 in
      ne (q.keeps.distinct i j g h at at' (sym here ∙ (ap (node_of R) (sym is) ∙ on))))

  -- once the events of a node are put, each of its firings has its event at its place
  put_at : (out : List ℕ) (i : ℕ) (h : History) (e k t : ℕ) → get_elem? s.nodes.items i ≡ some h
      → node_of R e ≡ h.node → get_elem? (tickets_in_log e log) k ≡ some t
      → HasSpread R h (W h) out → get_elem? out t ≡ some e
  put_at out i h e k t at here stands put =
      let often = fired-often i h at e k t here stands in
      let is = same_at (tickets_in_log e log) k (ticket_in R h (W h) e k) t
      (ticket-is i h at e k here often) stands in
      subst (λ (x : ℕ). get_elem? out x ≡ some e) is (put e here k often)

  -- once the events of all nodes are put, the list is that of the firings
  pub spread_is : (out : List ℕ) → length out ≡ many
      → ((i : ℕ) (h : History) → get_elem? s.nodes.items i ≡ some h → HasSpread R h (W h) out)
      → out ≡ firings log
  spread_is out long all = ext_get_or 0 out (firings log) (long
      ∙ (q.recorded.long ∙ sym (length-firings log))) (λ t below.
      let d = ticket_of_some log t (omega (arith, long, q.recorded.long)) in let e : ℕ = d.0 in
      let k : ℕ = d.1 in
      let l : ℕ = node_of R e in
      let l-near : l < R.nodes = node_inside R log e q.recorded.in_turn
      (omega (arith, at_below (tickets_in_log e log) k t d.2, length-tickets_in_log e log)) in
      let f = q.keeps.found l (q.all l l-near) in
      at_get out t e 0 (put_at out f.0 f.1 e k t f.2 (sym {a = f.1.node} f.3) d.2 (all f.0 f.1 f.2))
      ∙ sym (at_get (firings log) t e 0 (stands_at log e k t d.2)))

-- a whole list written over another of its length
pub overwritten : {A : Type 0} (n : ℕ) (xs ys : List A) → length ys ≡ n
    → take n (ys ++ drop (length ys) xs) ≡ ys
overwritten zero xs [] e = refl
overwritten zero xs (y ∷ ys) e = absurd (omega arith)
overwritten (suc n) xs [] e = absurd (omega arith)
overwritten (suc n) [] (y ∷ ys) e = ap (λ zs. y ∷ zs)
    (ap (take n) (ap (λ zs. ys ++ zs) (sym (drop-nil (length ys))))
    ∙ overwritten n [] ys (omega arith))
overwritten (suc n) (x ∷ xs) (y ∷ ys) e = ap (λ zs. y ∷ zs) (overwritten n xs ys (omega arith))
