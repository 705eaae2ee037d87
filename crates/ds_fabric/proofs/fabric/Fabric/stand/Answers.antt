use Rattle.std.proofs.Common.{◌≡◌, ◌∙◌, ℕ, List, [], ap, subst, sym, refl, length}
use Rattle.atomic_table.specs.Table.{opening}
use Rattle.ds_rule.specs.Run.{Run}
use Rattle.ds_rule.specs.Rule.{Lawful, first_view}
use Rattle.ds_rule.specs.Sound.{IsSound}
use Rattle.ds_rule.specs.Rows.{IsStarts}
use Rattle.ds_rule.proofs.PlaceLaws.{size-start}
use Rattle.ds_rule.proofs.RuleAtStart.{starts}
use Rattle.ds_fabric.specs.Laid.{LaidBelow}
use Rattle.ds_fabric.specs.Ranged.{AreReadWords}
use Rattle.ds_fabric.proofs.fabric.Fabric.stand.Goals as goal

-- the words that are laid meet the rule
lawful : (run : Run) (words starts' ws : List ℕ) → IsSound run
    → LaidBelow run run.nodes words starts' → ws ≡ words
    → Lawful run (opening ws [] (first_view run))
lawful run words starts' ws sound b is = subst
    (λ (xs : List ℕ). Lawful run (opening xs [] (first_view run))) (sym is)
    (starts run words sound (b.words_long ∙ sym (size-start run)) b.zeros b.firsts)

pub of_words-requires : goal.of_words-requires
of_words-requires g c =
    lawful c.args.run.now c.in_ok-words.words.items c.in_ok-words.starts.items c.as_slice.result.now c.requires.sound c.in_ok-words.ensures c.as_slice.ensures.value

pub invariant_of-fabric : goal.invariant_of-fabric
invariant_of-fabric g c =
    let run : Run = c.args.run.now in let b = c.in_ok-words.ensures in let t = c.in_ok-table.ensures in (
      record {
        over = record {
          keyed = t.5;
          sized = t.0 ∙ (ap (λ (ws : List ℕ). length ws) c.as_slice.ensures.value
              ∙ (b.words_long ∙ sym (size-start run)));
          sound = c.requires.sound;
        };
        no_slot = t.1;
        started = subst (IsStarts run) (sym c.in_ok-index.ensures.starts) (b.starts_long, b.started);
        ranged = c.in_ok-index.ensures.firsts;
        reads = subst (AreReadWords run) (sym c.in_ok-index.ensures.reads) c.requires.reads;
      },
      c.requires.openings,
      c.in_ok-incoming.ensures,
    )

pub returns : goal.returns
returns g c = let (_, _, table, _, first, _) = c.in_ok-table.ensures in record {
  run_is = refl;
  memory = refl;
  table = table;
  first = first;
}
