use Rattle.std.proofs.Common.{◌≡◌, ◌+◌, drop}
use Rattle.raft_on_disk.specs.Mails.{place_for}
use Rattle.raft_on_disk.proofs.mail.place_for.Given as goal

abbrev pub invariant-loop-place : goal.invariant-loop-place
invariant-loop-place l = l.place + place_for l.to (drop l.place l.logs) ≡ place_for l.to l.logs
