-- The expansion of a split design is there, or a limit refuses it.
use Rattle.std.proofs.Common.{inl, inr, ◌+◌, ◌*◌, ◌^◌, ◌<◌, ◌≤◌, List, length, refl}
use Rattle.std.proofs.lemmas.Bool.{cases_lt}
use Rattle.ds_base.specs.declared.number.Limit.TheVariants as limit
use Rattle.ds_marked.specs.Graph.{Graph, IsKept}
use Rattle.ds_marked.specs.declared.marked.Arc.{Arc}
use Rattle.ds_marked.specs.declared.marked.Event.{Event}
use Rattle.ds_marked.proofs.Enabling.{kept_sorted}
use Rattle.ds_latch.specs.Node.{Split, nodes}
use Rattle.ds_shake.specs.Expansion.{IsExpansion, expanded_arcs, expanded_events}
use Rattle.ds_shake.specs.Handshakes.{AreHandshakes}
use Rattle.ds_shake.specs.declared.handshake.Handshake.{Handshake}
use Rattle.ds_shake.proofs.MadeExpansion.{made, made_ends, made_few, made_once}
use Rattle.ds_graph_laws.proofs.SortedArcs.{OrderedArcs, in_order}
use Rattle.ds_total_laws.specs.DecidedExpansions.{ExpansionsAreDecided}
use Rattle.ds_total_laws.proofs.HandshakeNumbering.{Handshaken, handshaken}

-- few enough handshakes have their expansion
pub expansion_is_there : (s : Split) (all : List Handshake) → AreHandshakes s all → nodes s + 2 * length all ≤ 65536
    → (g : Graph) × IsKept g × IsExpansion s g
expansion_is_there s all are few =
    let events : List Event = expanded_events s all in
    let arcs : List Arc = expanded_arcs s all in
    let order : OrderedArcs arcs = in_order arcs in
    let g : Graph = record { events = events; arcs = order.sorted } in
    let sizes : (length events < 2 ^ 32) × (length arcs < 2 ^ 32) = made_few s all are few events arcs refl refl in (
      g,
      kept_sorted events arcs order.sorted (made_once s all are few events refl) sizes.0 sizes.1 order.same (made_ends s all are events arcs refl refl) order.rising,
      made s all are few events arcs refl refl g refl order.same,
    )

-- where the data edges are listed, each once, the expansion is there, or there are too many signals
pub expansions_are_decided : ExpansionsAreDecided
expansions_are_decided s edges has once =
    let h : Handshaken s edges = handshaken s edges has once in
    elim (cases_lt 65536 (nodes s + 2 * length h.handshakes)) [
      | inl many ↦ inr (limit.Signals, record { handshakes = h.handshakes; are = h.are; many = many })
      | inr few ↦ inl (expansion_is_there s h.handshakes h.are few)
    ]
