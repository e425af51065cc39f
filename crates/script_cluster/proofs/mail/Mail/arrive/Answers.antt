use Rattle.std.proofs.Common.{◌∙◌, List, ap}
use Rattle.script_cluster.specs.World.{Letter, arrived_at}
use Rattle.script_cluster.proofs.Posting.{marked_code, marked_whole}
use Rattle.script_cluster.proofs.mail.Mail.arrive.Goals as goal

pub invariant_of-self : goal.invariant_of-self
invariant_of-self c = marked_whole c.self.inside.letters.items c.args.place c.index_mut.result.now c.self.inside.front c.index_mut.ensures.value c.self.invariant

pub returns-clause-arrived : goal.returns-clause-arrived
returns-clause-arrived c =
    marked_code c.self.inside.letters.items c.args.place c.index_mut.result.now c.index_mut.ensures.value
    ∙ ap (λ (mail : List Letter). arrived_at mail c.args.place) c.self.view_is
