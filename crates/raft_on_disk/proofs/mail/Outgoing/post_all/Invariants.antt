use Rattle.std.proofs.Common.{◌≡◌}
use Rattle.raft_on_disk.specs.Mails.{all_posted}
use Rattle.raft_on_disk.proofs.mail.Outgoing.post_all.Given as goal

abbrev pub invariant-loop-message : goal.invariant-loop-message
invariant-loop-message l = l.self ≡ all_posted l.fn.self l.yielded
