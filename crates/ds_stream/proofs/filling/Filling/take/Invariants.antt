use Rattle.std.proofs.Common.{◌≡◌, ℕ, ◌+◌, ◌-◌, ◌≤◌, ◌<◌, ◌++◌, List, length, drop}
use Rattle.ds_stream.specs.Filling.{IsLater, on_text}
use Rattle.ds_stream.proofs.filling.Filling.take.Given as goal

abbrev pub invariant-taking : goal.invariant-taking
invariant-taking l = record {
  within : l.done ≤ length l.bytes;
  so_far : (size : ℕ) (rest : List ℕ) → 0 < l.self.missing → on_text l.self size (drop l.done l.bytes ++ rest) ≡ on_text l.initial.self size (l.bytes ++ rest);
  whole : (size : ℕ) (rest more : List ℕ) → l.self.missing ≡ 0 → on_text l.self size more ≡ on_text l.initial.self size (l.bytes ++ rest);
  place : l.self.place ≡ l.initial.self.place + l.done;
  first : l.done ≡ 0 → l.self.missing ≡ l.initial.self.missing;
  same : IsLater l.initial.self l.self;
  bounds : l.initial.self.lines ≤ l.initial.self.place + l.initial.self.seen → l.self.lines ≤ l.self.place + l.self.seen;
}

abbrev pub decreases-taking : goal.decreases-taking
decreases-taking l = length l.bytes - l.done
