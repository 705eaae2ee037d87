use Rattle.std.proofs.Common.{◌≡◌, ◌∙◌, ap, sym, subst, reverse, List, ℕ, IfOk, Vec, Global}
use Rattle.ds_flat.specs.declared.frame.Open.{Open}
use Rattle.ds_flat.specs.Copies.{path_from}
use Rattle.ds_flat.specs.Stack.{Stacked, path_of, names_of}
use Rattle.ds_flat.proofs.Frames.{path_of-frames_of}
use Rattle.ds_flat.proofs.stack.Stack.path_from.Goals as goal

pub returns : goal.returns
returns c =
    let same = ap (λ (fs : List Open). names_of (reverse fs)) c.deref.ensures.value
    ∙ (sym (path_of-frames_of (reverse c.self.inside.frames.items))
    ∙ ap (λ (s : Stacked). path_of s.frames) c.self.view_is) in
    subst (λ (path : List (List ℕ)). IfOk c.path_in.result (λ (p : Vec (List ℕ) Global). p.items
    ≡ path_from c.args.name.now path)) same c.path_in.ensures
