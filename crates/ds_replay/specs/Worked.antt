-- Short logs and what they fire.
use Rattle.std.specs.Prelude.{◌≡◌, ℕ, List, [], ◌∷◌, ◌++◌, Result, Ok, Err, codes}
use Rattle.ds_lines.specs.Line.{lines_of}
use Rattle.ds_marked.specs.Graph.{Graph}
use Rattle.ds_marked.specs.declared.marked.Kind.TheVariants.{Rise, Fall, Dummy}
use Rattle.ds_replay.specs.Replay.{replay_of}
use Rattle.ds_lines.specs.declared.at.At.{At}
use Rattle.ds_replay.specs.declared.fault.ReplayKind.TheVariants.{BadWord, UnknownEvent, WrongTurn}
use Rattle.ds_replay.specs.declared.fault.ReplayKind.TheVariants.{OverLimit, NotEnabled}
use Rattle.ds_replay.specs.declared.fault.ReplayKind.{ReplayKind}

-- a signal that rises, and falls after that
abbrev pub one_signal : Graph
one_signal = record {
  events = record { signal = codes "a"; kind = Rise } ∷ record { signal = codes "a"; kind = Fall }
      ∷ [];
  arcs = record { source = 0; target = 1; tokens = 0 }
      ∷ record { source = 1; target = 0; tokens = 1 } ∷ [];
}

-- what a text fires of it, each event at most twice
abbrev pub log_read : List ℕ → Result (List ℕ) (At ReplayKind)
log_read text = replay_of one_signal 2 (lines_of text)

-- the same signal, and a dummy between its rise and its fall
abbrev pub with_dummy : Graph
with_dummy = record {
  events = one_signal.events ++ record { signal = codes "e"; kind = Dummy } ∷ [];
  arcs = record { source = 0; target = 2; tokens = 0 }
      ∷ record { source = 1; target = 0; tokens = 1 }
      ∷ record { source = 2; target = 1; tokens = 0 } ∷ [];
}

-- each text beside its events or its first fault
pub record AreLogsWorked : Type 0 where
  pub fires : log_read (codes "a+ 1 # rises\na- 1\n\na+ 02\n") ≡ Ok (0 ∷ 1 ∷ 0 ∷ [])
  pub empty : log_read [] ≡ Ok []
  pub behind_firings : log_read (codes "0 1 1\nend 1\nfirings\na+ 1\n") ≡ Ok (0 ∷ [])
  pub firings_again : log_read (codes "firings\nfirings\n")
      ≡ Err (record { line = 2; kind = BadWord })
  pub three_words : log_read (codes "a+ 1 1\n") ≡ Err (record { line = 1; kind = BadWord })
  pub long_number : log_read (codes "a+ 00000000001\n") ≡ Err (record { line = 1; kind = BadWord })
  pub no_event : log_read (codes "a+ 1\nb- 1\n")
      ≡ Err (record { line = 2; kind = UnknownEvent (codes "b-") })
  pub other_turn : log_read (codes "\na+ 2\n") ≡ Err (record { line = 2; kind = WrongTurn })
  pub too_often : log_read (codes "a+ 1\na- 1\na+ 2\na- 2\na+ 3\n")
      ≡ Err (record { line = 5; kind = OverLimit })
  pub no_token : log_read (codes "a+ 1\na+ 2\n") ≡ Err (record { line = 2; kind = NotEnabled 1 })
  pub words_first : log_read (codes "b+ x\n") ≡ Err (record { line = 1; kind = BadWord })
  pub dummy : replay_of with_dummy 2 (lines_of (codes "a+ 1\ne 1\na- 1\n")) ≡ Ok (0 ∷ 2 ∷ 1 ∷ [])
  pub before_dummy : replay_of with_dummy 2 (lines_of (codes "a+ 1\na- 1\n"))
      ≡ Err (record { line = 2; kind = NotEnabled 2 })
  pub signed_dummy : replay_of with_dummy 2 (lines_of (codes "e+ 1\n"))
      ≡ Err (record { line = 1; kind = UnknownEvent (codes "e+") })
  pub turn_first : log_read (codes "a- 2\n") ≡ Err (record { line = 1; kind = WrongTurn })
