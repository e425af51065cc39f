use Rattle.std.proofs.Common.{◌≡◌, ap, ◌∙◌}
use Rattle.page_store.specs.Marks.{least_mark}
use Rattle.page_store.proofs.MarkTables.{least_means}
use Rattle.page_store.proofs.marks.Marks.least.Goals as goal

pub returns-clause-meaning : goal.returns-clause-meaning
returns-clause-meaning c =
    let is : c.least_of.result ≡ least_mark c.args.self.now = c.least_of.ensures ∙ ap least_mark c.self.view_is in
    least_means c.args.self.now c.least_of.result is
