use Rattle.std.proofs.Common.{◌≡◌, ◌<◌, ◌≤◌, length, Some, sym, ap, ◌∙◌, arith}
use Rattle.std.specs.Prelude.{slice_set}
use Rattle.session_spec.specs.Statements.{free_id}
use Rattle.session_table.proofs.Numbered.{put_inside, put_behind}
use Rattle.session_table.proofs.statements.prepare.Goals as goal

pub returns-then-id-len-clause-put : goal.returns-then-id-len-clause-put
returns-then-id-len-clause-put c =
    let number : c.free_id-id.result ≡ free_id c.args.statements.now.items = c.free_id-id.ensures ∙ ap free_id c.as_slice.ensures.value in
    let inside : free_id c.args.statements.now.items < length c.args.statements.now.items = omega arith in
    ap (λ n. slice_set c.args.statements.now.items n (Some c.args.prepared)) number ∙ sym (put_inside c.args.prepared c.args.statements.now.items inside)

pub returns-in_ok-push-clause-put : goal.returns-in_ok-push-clause-put
returns-in_ok-push-clause-put c =
    let number : c.free_id-id.result ≡ free_id c.args.statements.now.items = c.free_id-id.ensures ∙ ap free_id c.as_slice.ensures.value in
    let behind : length c.args.statements.now.items ≤ free_id c.args.statements.now.items = omega arith in
    c.in_ok-push.ensures.items ∙ sym (put_behind c.args.prepared c.args.statements.now.items behind)
