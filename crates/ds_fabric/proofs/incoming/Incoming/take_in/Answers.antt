use Rattle.std.proofs.Common.{◌≡◌, ◌∙◌, ◌++◌, ◌∷◌, [], ℕ, List, ap, arith, length}
use Rattle.ds_fabric.proofs.IncomingArcs.{into_more}
use Rattle.ds_fabric.proofs.incoming.Incoming.take_in.Goals as goal

pub returns : goal.returns
returns g c = let starts : List ℕ = c.args.self.now.starts.items in
    let long : c.len.result ≡ length c.line_up.new.arcs.items =
    omega (arith, c.len.ensures, c.line_up.new.arcs.ok) in
    into_more c.args.run.now c.args.event starts c.push.new.self.items
    c.args.self.now.numbers.items c.line_up.new.numbers.items c.args.self.now.arcs.items
    c.line_up.new.arcs.items c.requires.below c.in_ok-line_up.ensures
    (c.in_ok-push.ensures.items ∙ ap (λ (n : ℕ). starts ++ n ∷ []) long)
