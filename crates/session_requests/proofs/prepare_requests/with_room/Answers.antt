use Rattle.std.proofs.Common.{◌≤◌, ℕ, subst, sym, ap, ◌∙◌, arith}
use Rattle.session_spec.specs.Statements.{prepared_count, free_id}
use Rattle.session_requests.proofs.Rooms.{free_within}
use Rattle.session_requests.proofs.prepare_requests.with_room.Goals as goal

pub returns-else-prepared_count-ge-MAX_STATEMENTS-clause-can : goal.returns-else-prepared_count-ge-MAX_STATEMENTS-clause-can
returns-else-prepared_count-ge-MAX_STATEMENTS-clause-can c =
    let within : free_id c.args.session.now.statements.items ≤ c.prepared_count.result =
    subst (λ (n : ℕ). free_id c.args.session.now.statements.items ≤ n) (sym (c.prepared_count.ensures ∙ ap prepared_count c.as_slice.ensures.value)) (free_within c.args.session.now.statements.items) in
    omega arith
