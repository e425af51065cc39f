use Rattle.raft_on_disk.proofs.MailPlaces.{mails_ascend}
use Rattle.raft_on_disk.proofs.laws.mails_ascend.Goals as goal

pub returns : goal.returns
returns c = mails_ascend
