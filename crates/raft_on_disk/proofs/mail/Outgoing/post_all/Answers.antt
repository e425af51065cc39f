use Rattle.std.proofs.Common.{sym, ap, ◌∙◌}
use Rattle.raft_on_disk.specs.Mails.{posted}
use Rattle.raft_on_disk.proofs.MailPlaces.{one_more}
use Rattle.raft_on_disk.proofs.mail.Outgoing.post_all.Goals as goal

pub loop-message-preserved : goal.loop-message-preserved
loop-message-preserved c = c.in_ok-post.ensures ∙ ap (λ m. posted m c.in-Some.message) c.loop-message.invariant ∙ sym (one_more c.args.self.now c.loop-message.yielded c.in-Some.message)
