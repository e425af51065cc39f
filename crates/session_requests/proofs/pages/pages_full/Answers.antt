use Rattle.std.proofs.Common.{◌+◌, ℕ, List, max, ap, ◌∙◌}
use Rattle.std.specs.Prelude.{nat_lt, sum_by}
use Rattle.session_spec.specs.Limits.{held_pages, pages_with}
use Rattle.session_spec.specs.Machine.{machine_of}
use Rattle.session_table.specs.Table.{table_of}
use Rattle.session_requests.specs.Looking.{pages_beside}
use Rattle.session_requests.proofs.pages.pages_full.Goals as goal

pub returns : goal.returns
unfolding pages_with
returns c = λ weight.
    c.is_full.ensures (sum_by (pages_beside (machine_of c.args.machine.now) (table_of c.args.machine.now c.args.sessions.now weight) c.args.name.now) c.as_slice.result.now) (c.all_beside-others.ensures weight)
    ∙ ap (λ (n : ℕ). nat_lt 16384 (n + sum_by (pages_beside (machine_of c.args.machine.now) (table_of c.args.machine.now c.args.sessions.now weight) c.args.name.now) c.as_slice.result.now)) (c.greater-own.ensures ∙ ap (λ (n : ℕ). max n c.args.pages) (c.held_pages.ensures weight))
    ∙ ap (λ (names : List (List ℕ)). nat_lt 16384 (max (held_pages (machine_of c.args.machine.now) (table_of c.args.machine.now c.args.sessions.now weight) c.args.name.now) c.args.pages + sum_by (pages_beside (machine_of c.args.machine.now) (table_of c.args.machine.now c.args.sessions.now weight) c.args.name.now) names)) (c.as_slice.ensures.value ∙ c.in_ok-names.ensures weight)
