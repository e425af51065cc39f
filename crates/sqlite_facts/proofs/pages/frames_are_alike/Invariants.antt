use Rattle.std.proofs.Common.{◌≡◌, ℕ, ◌+◌, ◌*◌, ◌<◌}
use Rattle.sqlite_facts.proofs.FrameParts.{HaveSameParts}
use Rattle.sqlite_facts.proofs.pages.frames_are_alike.Given as goal

abbrev pub invariant-loop-i : goal.invariant-loop-i
invariant-loop-i l = (l.at ≡ 32 + l.i * 4120) × ((i : ℕ) → i < l.i → HaveSameParts l.one l.other (32 + i * 4120))
