-- Links by rank are a sequence.
use Rattle.std.proofs.Common.{◌≡◌, ℕ, ◌+◌, ◌<◌, ◌≤◌, List, length, get_or, refl, ap, arith}
use Rattle.std.specs.Prelude.{Contains}
use Rattle.std.specs.List.{range_with_len}
use Rattle.std.proofs.lemmas.List.{get_or_default, get_or-map}
use Rattle.ds_design.specs.Circuit.{Circuit}
use Rattle.ds_design.specs.Levels.{IsSortedByLevel, level_of_table}
use Rattle.ds_design.specs.declared.design.Gate.{Gate}
use Rattle.ds_netlist.specs.Edges.{FeedsIn}
use Rattle.ds_netlist.proofs.TablesByLevel.{all_lem, once_lem, places_lem}
use Rattle.ds_feedback.specs.Links.{links}
use Rattle.ds_feedback.specs.Sequence.{IsSequence}

module _ (gates : List Gate) (ranks : List ℕ)
    (above : (u v : ℕ) → FeedsIn gates u v → get_or ranks u 0 + 1 ≤ get_or ranks v 0) where
  rank_of : (k : ℕ) (d : Gate) → k < length gates → level_of_table gates ranks k ≡ get_or ranks (get_or gates k d).output 0
  rank_of k d inside = ap (λ (n : ℕ). get_or ranks n 0) (get_or-map (λ (t : Gate). t.output) gates k d 0 inside)

  -- a link does not read what one of its rank, or of a higher one, drives
  pub unread : (j k : ℕ) (d : Gate) → j < length gates → k < length gates → level_of_table gates ranks j ≤ level_of_table gates ranks k
      → ¬ Contains (get_or gates j d).table.inputs (get_or gates k d).output
  unread j k d inside within up reads =
      let one = rank_of j d inside in
      let two = rank_of k d within in
      let rises = above (get_or gates k d).output (get_or gates j d).output
      (j, get_or gates j d, inside, get_or_default gates j (get_or gates j d) d inside, (reads, refl)) in
      omega arith

pub is_sequence : (c : Circuit) (ranks order : List ℕ)
    → ((u v : ℕ) → FeedsIn (links c) u v → get_or ranks u 0 + 1 ≤ get_or ranks v 0)
    → IsSortedByLevel (links c) ranks (range_with_len 0 (length (links c))) order → IsSequence c order
is_sequence c ranks order above sorted =
    let places = places_lem (links c) ranks order sorted in
    record {
      places = places;
      once = once_lem (links c) ranks order sorted;
      all = all_lem (links c) ranks order sorted;
      before = λ i j d below inside reads.
          unread (links c) ranks above (get_or order i 0) (get_or order j 0) d (places i 0 (omega arith)) (places j 0 inside)
          (sorted.rising i j 0 below inside) reads;
    }
