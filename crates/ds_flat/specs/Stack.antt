-- Copies that are being taken.
use Rattle.std.specs.Prelude.{◌≡◌, ◌<◌, ◌==◌, ℕ, List, [], ◌∷◌, map, length, slice_index, All, ◌+◌}
use Rattle.std.specs.Prelude.{if◌then◌else◌}
use Rattle.ds_flat.specs.declared.frame.Open.{Open}
use Rattle.ds_flat.specs.Copies.{Frame}

-- the names of open copies
abbrev pub names_of : List Open → List (List ℕ)
names_of frames = map (λ frame. frame.name.now) frames

-- an open copy over others with this path
abbrev pub frame_on : Open → List (List ℕ) → Frame
frame_on top path = record {
  path = top.name.now ∷ path;
  scope = top.scope;
  commands = top.commands.now;
}

-- open copies, the innermost first, as the definitions see them
abbrev pub frames_of : List Open → List Frame
frames_of [] = []
frames_of (frame ∷ frames) = frame_on frame (names_of frames) ∷ frames_of frames

-- the models that are being copied, the innermost first
abbrev pub path_of : List Frame → List (List ℕ)
path_of [] = []
path_of (frame ∷ frames) = frame.path

-- copies that wait: their frames, the places of their models, and how many models there are
pub record Stacked : Type 0 where
  pub frames : List Frame
  pub places : List ℕ
  pub models : ℕ

-- with a copy on top
abbrev pub put_on : Open → Stacked → Stacked
put_on top below = record {
  frames = frame_on top (path_of below.frames) ∷ below.frames;
  places = top.model ∷ below.places;
  models = below.models;
}

-- how often a place is among places
abbrev pub times_among : ℕ → List ℕ → ℕ
times_among k [] = 0
times_among k (place ∷ places) = if place == k then times_among k places + 1 else times_among k
    places

-- for each model how often its place is among these, each of which is the place of a model
pub record AreCounts (counts places : List ℕ) : Type 0 where
  pub within : All (λ place. place < length counts) places
  pub counted : (k : ℕ) → k < length counts
      → slice_index counts k ≡ times_among k places
