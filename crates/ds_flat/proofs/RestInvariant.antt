-- What holds of a rest is kept.
use Rattle.std.proofs.Common.{◌≡◌, ℕ, ◌+◌, ◌<◌, List, ◌∷◌, map}
use Rattle.std.proofs.Common.{Ok, sym, ap, ◌∙◌, arith, subst}
use Rattle.std.specs.Prelude.{All}
use Rattle.std.proofs.lemmas.List.Elements.{All-head, All-tail}
use Rattle.ds_lines.specs.Names.{place_of_name}
use Rattle.ds_design.specs.declared.blif.UseText.{UseText}
use Rattle.ds_design.specs.declared.blif.Command.{Command}
use Rattle.ds_design.specs.declared.blif.BlifModel.{BlifModel}
use Rattle.ds_design.specs.Source.{IsPart}
use Rattle.ds_design.specs.Circuit.{Circuit}
use Rattle.ds_design.specs.InRange.{IsInRange}
use Rattle.ds_flat.specs.declared.frame.Open.{Open}
use Rattle.ds_flat.specs.Net.{Scope}
use Rattle.ds_flat.specs.Command.{with_part}
use Rattle.ds_flat.specs.Copies.{Flat, Opened, opened_within, next_copy, flat_within, actuals_in}
use Rattle.ds_flat.specs.Interface.{names_of_models, Finds}
use Rattle.ds_flat.specs.Stack.{Stacked, frame_on, put_on, path_of}
use Rattle.ds_flat.specs.Run.{Rest, IsRestKept, opened_on, IsCopyOf}
use Rattle.ds_flat.proofs.PassedLimits.{within_given}
use Rattle.ds_flat.proofs.NetsInRange.{part_in_range, use_in_range}
use Rattle.ds_flat.proofs.Uses.{named_name, named_all}

cons_tail : (a b : ℕ) (xs ys : List ℕ) → a ∷ xs ≡ b ∷ ys → xs ≡ ys
cons_tail a b xs ys e = cc

-- a copy on top of those that wait, with what was taken
abbrev pub rest_of : Open → Stacked → ℕ → Circuit → Rest
rest_of top below copies design = record {
  frames = frame_on top (path_of below.frames) ∷ below.frames;
  places = top.model ∷ below.places;
  models = below.models;
  flat = record { copies = copies; design = design };
}

module _ (models : List BlifModel) (top : Open) (below : Stacked) (copies : ℕ) (design : Circuit)
    (kept : IsRestKept models (rest_of top below copies design)) where
  -- the design grows by a command
  pub kept_part : (scope : Scope) (line : ℕ) (command : Command) (next : Circuit)
      → IsPart command.part
      → flat_within copies line (with_part scope line command.part design)
      ≡ Ok (record { copies = copies; design = next })
      → IsRestKept models (rest_of top below copies next)
  kept_part scope line command next fine is =
      let p = within_given (with_part scope line command.part design) line _ _ is in
      let same : next ≡ with_part scope line command.part design =
      ap (λ (f : Flat). f.design) p.1 in
      record {
        depth = kept.depth;
        copies = kept.copies;
        count = kept.count;
        same = kept.same;
        known = kept.known;
        within = kept.within;
        parts = kept.parts;
        in_range = subst (λ (c : Circuit). IsInRange c) (sym same)
            (part_in_range scope line command.part design kept.in_range fine p.0);
      }

  -- the first command is taken off
  pub kept_behind : (command : Command) (commands : List Command) (rest : Open)
      → top.commands.now ≡ command ∷ commands → rest.commands.now ≡ commands
      → rest.model ≡ top.model → rest.name.now ≡ top.name.now
      → IsRestKept models (rest_of rest below copies design)
  kept_behind command commands rest first behind place name =
      let P : Command → Type 0 = λ c. IsPart c.part in
      record {
        depth = kept.depth;
        copies = kept.copies;
        count = kept.count;
        same = kept.same;
        known = ap (λ (k : ℕ). k ∷ below.places) place ∙ (kept.known
            ∙ ap (λ (n : List ℕ). map (place_of_name (names_of_models models)) (n
            ∷ path_of below.frames)) (sym name));
        within = (subst (λ (k : ℕ). k < below.models) (sym place) kept.within.0, kept.within.1);
        parts = (
          subst (λ (cs : List Command). All P cs) (sym behind) (All-tail P command commands
              (subst (λ (cs : List Command). All P cs) first kept.parts.0)),
          kept.parts.1,
        );
        in_range = kept.in_range;
      }

  pub first_part : (command : Command) (commands : List Command)
      → top.commands.now ≡ command ∷ commands → IsPart command.part
  first_part command commands first =
      let P : Command → Type 0 = λ c. IsPart c.part in
      All-head P command commands (subst (λ (cs : List Command). All P cs) first kept.parts.0)

  -- a copy is left
  pub kept_below : IsRestKept models (record {
    frames = below.frames;
    places = below.places;
    models = below.models;
    flat = record { copies = copies; design = design };
  })
  kept_below = record {
    depth = (let e = kept.depth in omega arith);
    copies = kept.copies;
    count = (let e = kept.count in omega arith);
    same = kept.same;
    known = cons_tail _ _ _ _ kept.known;
    within = kept.within.1;
    parts = kept.parts.1;
    in_range = kept.in_range;
  }

  -- a copy is put on top
  pub kept_use : (line : ℕ) (call : UseText) (model : BlifModel) (place : ℕ)
      (ports : List (List ℕ)) (next : Open) (after : Circuit)
      → All (λ m. All (λ command. IsPart command.part) m.commands) models
      → Finds models call.model place model ports → copies < 65536
      → opened_within line (next_copy (top.name.now ∷ path_of below.frames) top.scope call model
      (record { copies = copies; design = design }))
      ≡ Ok (opened_on (top.name.now ∷ path_of below.frames) next copies after)
      → IsCopyOf next place model
      → IsRestKept models (rest_of next (put_on top below) (copies + 1) after)
  kept_use line call model place ports next after all found few is copy =
      let path : List (List ℕ) = top.name.now ∷ path_of below.frames in
      let o : Opened = next_copy path top.scope call model (record { copies = copies; design = design }) in
      let p = within_given o.flat.design line o _ is in
      let same : after ≡ o.flat.design = ap (λ (q : Opened). q.flat.design) p.1 in
      let named : next.name.now ≡ call.model = copy.name
      ∙ named_name models call.model model found.named in
      let P : Command → Type 0 = λ c. IsPart c.part in
      record {
        depth = (let e = kept.depth in omega arith);
        copies = omega arith;
        count = (let e = kept.count in omega arith);
        same = kept.same;
        known = ap (λ (k : ℕ). k ∷ top.model ∷ below.places) (copy.place ∙ (found.place
            ∙ ap (place_of_name (names_of_models models)) (sym named)))
            ∙ ap (λ (ks : List ℕ). place_of_name (names_of_models models) next.name.now ∷ ks) kept.known;
        within = (
          (let e = copy.place in let f = found.within in let g = kept.same in omega arith),
          kept.within,
        );
        parts = (
          subst (λ (cs : List Command). All P cs) (sym copy.commands)
              (named_all (λ m. All P m.commands) models call.model model all found.named),
          kept.parts,
        );
        in_range = subst (λ (c : Circuit). IsInRange c) (sym same)
            (use_in_range design top.scope (actuals_in call.pairs) kept.in_range p.0.nets);
      }
