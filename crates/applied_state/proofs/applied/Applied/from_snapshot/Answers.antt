use Rattle.std.proofs.Common.{ℕ, List, drop, Some, ap, ◌∙◌, subst}
use Rattle.std.proofs.lemmas.Result.{IfOk-weaker}
use Rattle.applied_state.specs.Reading.{WritesServersIf}
use Rattle.applied_state.specs.Snapshot.{IsBehind}
use Rattle.applied_state.proofs.Snapshots.{restored_if, applied_if, unpinned_if, reads_parts}
use Rattle.applied_state.proofs.applied.Applied.from_snapshot.Goals as goal

pub returns-in-Some-clause-exact : goal.returns-in-Some-clause-exact
returns-in-Some-clause-exact c =
    reads_parts c.args.bytes.now c.body-body.result.now c.rest.result.now _ c.in-Some.read c.behind.result
    c.body-body.ensures c.in_ok-read.ensures.exact c.in-Some.is c.rest.ensures c.behind.ensures.exact

pub returns-in-Some-clause-found : goal.returns-in-Some-clause-found
returns-in-Some-clause-found c =
    let writes = subst (λ (b : List ℕ). WritesServersIf b (Some c.in-Some.read)) c.body-body.ensures (subst (WritesServersIf c.body-body.result.now) c.in-Some.is c.in_ok-read.ensures.found) in
    let left = c.rest.ensures ∙ ap (drop c.in-Some.read.1) c.body-body.ensures in
    IfOk-weaker c.behind.result _ _
    (λ o h. restored_if c.args.index c.in-Some.read.1 c.in-Some.read.0 c.args.bytes.now o writes (subst (λ (r : List ℕ). IsBehind c.args.index c.in-Some.read.0 r o) left h)) c.behind.ensures.found

pub returns-in-Some-clause-unpinned : goal.returns-in-Some-clause-unpinned
returns-in-Some-clause-unpinned c =
    let writes = subst (λ (b : List ℕ). WritesServersIf b (Some c.in-Some.read)) c.body-body.ensures (subst (WritesServersIf c.body-body.result.now) c.in-Some.is c.in_ok-read.ensures.found) in
    let left = c.rest.ensures ∙ ap (drop c.in-Some.read.1) c.body-body.ensures in
    IfOk-weaker c.behind.result _ _
    (λ o h. unpinned_if c.args.index c.args.bytes.now o (restored_if c.args.index c.in-Some.read.1 c.in-Some.read.0 c.args.bytes.now o writes (subst (λ (r : List ℕ). IsBehind c.args.index c.in-Some.read.0 r o) left h))) c.behind.ensures.found

pub returns-in-Some-clause-front : goal.returns-in-Some-clause-front
returns-in-Some-clause-front c = λ opening front len spelled.
    let writes = subst (λ (b : List ℕ). WritesServersIf b (Some c.in-Some.read)) c.body-body.ensures (subst (WritesServersIf c.body-body.result.now) c.in-Some.is c.in_ok-read.ensures.found) in
    let left = c.rest.ensures ∙ ap (drop c.in-Some.read.1) c.body-body.ensures in
    IfOk-weaker c.behind.result _ _
    (λ o h. applied_if opening front c.args.index c.args.bytes.now o len spelled
    (restored_if c.args.index c.in-Some.read.1 c.in-Some.read.0 c.args.bytes.now o writes (subst (λ (r : List ℕ). IsBehind c.args.index c.in-Some.read.0 r o) left h))) c.behind.ensures.found
