use Rattle.std.proofs.Common.{sym, ◌∙◌}
use Rattle.session_spec.specs.Limits.{one_too_many}
use Rattle.session_requests.proofs.Proposed.{is_counted, is_beside}
use Rattle.session_requests.proofs.names.one_too_many.Goals as goal

pub returns-then-is_among : goal.returns-then-is_among
unfolding one_too_many
returns-then-is_among c = λ weight.
    is_counted c.as_slice-known.result.now _ c.args.name.now (c.as_slice-known.ensures.value ∙ c.in_ok-names.ensures weight) (sym c.is_among.ensures ∙ c.if-is_among.true)

pub returns : goal.returns
unfolding one_too_many
returns c = λ weight.
    is_beside c.as_slice-known.result.now _ c.args.name.now (c.as_slice-known.ensures.value ∙ c.in_ok-names.ensures weight) (sym c.is_among.ensures ∙ c.if-is_among.false)
