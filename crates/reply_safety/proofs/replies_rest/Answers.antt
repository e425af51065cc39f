use Rattle.reply_safety.proofs.Resting.{requests_rest_hold, later_queries_rest_hold, readers_rest_hold}
use Rattle.reply_safety.proofs.replies_rest.Goals as goal

pub returns-clause-requests : goal.returns-clause-requests
returns-clause-requests g c kind = requests_rest_hold _ kind

pub returns-clause-later : goal.returns-clause-later
returns-clause-later g c kind = later_queries_rest_hold _ kind

pub returns-clause-readers : goal.returns-clause-readers
returns-clause-readers g c kind = readers_rest_hold _ kind
