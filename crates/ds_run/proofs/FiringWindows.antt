-- The firings of a run in windows.
use Rattle.std.proofs.Common.{◌≡◌, ◌∙◌, ℕ, ◌+◌, List, [], ◌∷◌, ◌++◌, length, length-append, map, refl, ap, sym, subst, All}
use Rattle.std.specs.List.{flat_map}
use Rattle.std.proofs.lemmas.List.Elements.{All-map}
use Rattle.ds_marked.specs.Window.{IsWindow, Window, joined_windows}
use Rattle.ds_marked.proofs.JoinedWindows.{lists_in_windows}
use Rattle.ds_latch.specs.Plan.{Planned}
use Rattle.ds_run.specs.Windows.{FiringsInWindows, IsPlayedWindow, PlayedWindow, begun_plan}
use Rattle.ds_run.proofs.RecordFirings.{firings_are_legal_lem}

-- how many turns a window has, and what fires in it
abbrev window_of : PlayedWindow → Window
window_of w = record { turns = length w.vectors; firings = w.firings }

-- the vectors and the firings of all
abbrev whole : List PlayedWindow → Window
whole windows = record {
  turns = length (flat_map (λ w. w.vectors) windows);
  firings = flat_map (λ w. w.firings) windows;
}

window_played : (p : Planned) (w : PlayedWindow) → IsPlayedWindow p w
    → IsWindow p.graph (window_of w)
window_played p w is =
    let (legal, full) = firings_are_legal_lem (begun_plan p w.start) w.vectors w.recorder
    is.finished_run.accepted is.finished_run.planned is.finished_run.whole w.firings is.fired in
    record { legal = legal; full = full }

-- windows that are joined are the whole
joined_whole : (windows : List PlayedWindow) → joined_windows (map window_of windows) ≡ whole windows
joined_whole [] = refl
joined_whole (w ∷ windows) =
    ap (λ (rest : Window). record {
      turns = length w.vectors + rest.turns;
      firings = w.firings ++ rest.firings;
    }) (joined_whole windows)
    ∙ ap (λ (n : ℕ). record { turns = n; firings = w.firings ++ (whole windows).firings })
    (sym (length-append w.vectors (flat_map (λ v. v.vectors) windows)))

pub firings_in_windows_lem : FiringsInWindows
firings_in_windows_lem p plan windows finished_run =
    let all : All (IsWindow p.graph) (map window_of windows) =
    All-map (IsWindow p.graph) window_of windows
    (λ k d inside. window_played p _ (finished_run k d inside)) in
    subst (IsWindow p.graph) (joined_whole windows)
    (lists_in_windows p.graph plan.live (map window_of windows) all)
