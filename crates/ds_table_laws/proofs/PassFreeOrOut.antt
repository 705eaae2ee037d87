-- The pass of a node is free, or with one turn.
use Rattle.std.proofs.Common.{⊎_elim, inl, inr, sym, ◌∙◌, arith}
use Rattle.ds_table_laws.specs.TurnedPasses.{OneTurnHasIt, PassesAreSomewhere}

pub one_turn_has_it_lem : OneTurnHasIt
one_turn_has_it_lem k s t l id other (v, at, live, out) (w, there, lives, away) =
    sym (t.outs id v l at live out).2 ∙ (t.outs other w l there lives away).2

pub passes_are_somewhere_lem : PassesAreSomewhere
passes_are_somewhere_lem k s t l near = ⊎_elim
    (λ zero. let (p, at, alone, fires) = t.free l near zero in inl (
      (p, at, alone),
      λ id (v, there, live, out). omega (arith, zero, (t.outs id v l there live out).1),
    ))
    (λ one. let (v, at, live, out, rest) = t.away l near one in inr (t.owner l, (v, at, live, out)))
    (t.bits l near)
