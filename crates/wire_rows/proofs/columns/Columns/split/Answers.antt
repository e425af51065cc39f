use Rattle.std.proofs.Common.{ℕ, take, drop, ap, ◌∙◌}
use Rattle.wire_rows.specs.Cut.{first_count}
use Rattle.wire_rows.proofs.Greedy.{take_counted, drop_counted}
use Rattle.wire_rows.proofs.columns.Columns.split.Goals as goal

pub returns-clause-first : goal.returns-clause-first
returns-clause-first c = c.split_at.ensures.front ∙ ap (λ (n : ℕ). take n c.args.rows.now) c.first_count.ensures ∙ take_counted (first_count c.args.self.now.names.now c.args.rows.now) c.args.rows.now

pub returns-clause-rest : goal.returns-clause-rest
returns-clause-rest c = c.split_at.ensures.back ∙ ap (λ (n : ℕ). drop n c.args.rows.now) c.first_count.ensures ∙ drop_counted (first_count c.args.self.now.names.now c.args.rows.now) c.args.rows.now
