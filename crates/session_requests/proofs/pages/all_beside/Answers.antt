use Rattle.std.proofs.Common.{◌<◌, ◌≤◌, ◌-◌, ◌^◌, ℕ, min, length, List, ap, ◌∙◌, arith}
use Rattle.std.specs.Prelude.{sum_by}
use Rattle.std.proofs.lemmas.List.{take_all}
use Rattle.session_spec.specs.Machine.{machine_of}
use Rattle.session_table.specs.Table.{table_of}
use Rattle.session_requests.specs.Looking.{pages_beside}
use Rattle.session_requests.proofs.Sizes.{sum_capped}
use Rattle.session_requests.proofs.pages.all_beside.Goals as goal

pub loop-other-preserved : goal.loop-other-preserved
loop-other-preserved c = λ weight.
    let at : c.loop-other.other-index < length c.args.names.now = omega arith in
    c.saturating_add-pages.ensures
    ∙ sum_capped (pages_beside (machine_of c.args.machine.now) (table_of c.args.machine.now c.args.sessions.now weight) c.args.name.now) c.args.names.now c.loop-other.other-index c.other-item.result _ c.loop-other.pages at c.other-item.is
    (c.pages_beside-more.ensures weight ∙ ap (pages_beside (machine_of c.args.machine.now) (table_of c.args.machine.now c.args.sessions.now weight) c.args.name.now) c.as_str.ensures.value)
    (c.loop-other.invariant weight)

pub returns : goal.returns
returns c = λ weight.
    let past : length c.args.names.now ≤ c.loop-other.other-index = omega arith in
    c.loop-other.invariant weight
    ∙ ap (λ (ns : List (List ℕ)). min (sum_by (pages_beside (machine_of c.args.machine.now) (table_of c.args.machine.now c.args.sessions.now weight) c.args.name.now) ns) (2 ^ 64 - 1)) (take_all c.loop-other.other-index c.args.names.now past)
