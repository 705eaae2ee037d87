-- Open copies, and how the definitions see them.
use Rattle.std.proofs.Common.{◌≡◌, ℕ, ◌+◌, List, [], ◌∷◌, ◌++◌, map, length, reverse, get_or, take, ◌<◌, refl, sym, ap, ◌∙◌}
use Rattle.std.proofs.lemmas.List.{reverse-append, take_more}
use Rattle.ds_flat.specs.declared.frame.Open.{Open}
use Rattle.ds_flat.specs.Copies.{path_from}
use Rattle.ds_flat.specs.Run.{path_with}
use Rattle.ds_flat.specs.Stack.{names_of, frame_on, frames_of, path_of, Stacked, put_on}

pub path_of-frames_of : (frames : List Open) → path_of (frames_of frames) ≡ names_of frames
path_of-frames_of [] = refl
path_of-frames_of (frame ∷ frames) = refl

-- the places of the models of open copies
abbrev pub places_of : List Open → List ℕ
places_of frames = map (λ frame. frame.model) frames

-- what a stack shows
abbrev pub stacked : List Open → ℕ → Stacked
stacked items models = record {
  frames = frames_of (reverse items);
  places = places_of (reverse items);
  models = models;
}

stacked_cons : (top : Open) (frames : List Open) (models : ℕ)
    → record { frames = frames_of (top ∷ frames); places = places_of (top ∷ frames); models = models }
    ≡ put_on top (record { frames = frames_of frames; places = places_of frames; models = models })
stacked_cons top frames models = ap (λ path. record {
  frames = frame_on top path ∷ frames_of frames;
  places = top.model ∷ places_of frames;
  models = models;
}) (sym (path_of-frames_of frames))

pub stacked_push : (items all : List Open) (top : Open) (models : ℕ) → all ≡ items ++ top ∷ []
    → stacked all models ≡ put_on top (stacked items models)
stacked_push items all top models is =
    ap (λ xs. record { frames = frames_of xs; places = places_of xs; models = models })
    (ap reverse is ∙ reverse-append items (top ∷ []))
    ∙ stacked_cons top (reverse items) models

-- the places of more copies
pub places_push : (items all : List Open) (top : Open) → all ≡ items ++ top ∷ []
    → top.model ∷ places_of (reverse items) ≡ places_of (reverse all)
places_push items all top is = sym (ap places_of (ap reverse is ∙ reverse-append items (top ∷ [])))

-- the part of a path, one more copy
pub path_more : (frames : List Open) (i : ℕ) (top : Open) (name : List ℕ)
    (path more : List (List ℕ)) → i < length frames → top ≡ get_or frames i top
    → path ≡ path_from name (names_of (reverse (take i frames)))
    → more ≡ path_with name top.name.now path
    → more ≡ path_from name (names_of (reverse (take (i + 1) frames)))
path_more frames i top name path more inside at so_far is =
    is ∙ (ap (path_with name top.name.now) so_far
    ∙ (sym (ap (λ (fs : List Open). path_from name (names_of fs)) (reverse-append (take i frames)
    (top ∷ [])))
    ∙ (ap (λ (f : Open). path_from name (names_of (reverse (take i frames ++ f ∷ [])))) at
    ∙ sym (ap (λ (fs : List Open). path_from name (names_of (reverse fs)))
    (take_more frames i top inside)))))
