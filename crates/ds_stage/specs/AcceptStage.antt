-- The text of a controller graph that is accepted.
use Rattle.std.specs.Prelude.{◌≡◌, ℕ, List, ◌++◌, codes, length, slice_index}
use Rattle.std.specs.List.{flat_map, range_with_len}
use Rattle.ds_marked.specs.Graph.{Graph}
use Rattle.ds_latch.specs.Plan.{Planned}
use Rattle.ds_rank.specs.Rank.{AreRanks}
use Rattle.ds_rows.specs.Log.{firing_text}
use Rattle.ds_stage.specs.Stage.{Stage, giving}

-- each event in order, those of the nodes and then any others, with its rank: a line as that of a
-- firing
abbrev pub rank_lines : Graph → List ℕ → ℕ → List ℕ
rank_lines g ranks count =
    flat_map (λ v. firing_text g v (slice_index ranks v)) (range_with_len 0 count)

-- `accepted`, and the ranks of all events
abbrev pub ranks_text : Graph → List ℕ → List ℕ
ranks_text g ranks = codes "accepted\n" ++ rank_lines g ranks (length g.events)

-- the ranks of the events of a plan
abbrev pub ranks_stage : Planned → Stage (List ℕ)
ranks_stage p = giving (λ text. (ranks : List ℕ) × AreRanks p.graph ranks
    × (text ≡ ranks_text p.graph ranks))
