use Rattle.std.proofs.Common.{◌≡◌, ◌≤◌, ℕ, length, insert, ap, ◌∙◌, arith}
use Rattle.session_table.specs.Waiting.{place_for}
use Rattle.session_table.proofs.Waits.{place_within, put_in_place}
use Rattle.session_table.proofs.told.add_waiting.Goals as goal

pub insert-requires : goal.insert-requires
insert-requires c =
    let number : c.place_for-place.result ≡ place_for c.args.last c.args.waiting.now.items = c.place_for-place.ensures ∙ ap (place_for c.args.last) c.as_slice.ensures.value in
    let within : place_for c.args.last c.args.waiting.now.items ≤ length c.args.waiting.now.items = place_within c.args.last c.args.waiting.now.items in
    omega arith

pub returns : goal.returns
returns c =
    let number : c.place_for-place.result ≡ place_for c.args.last c.args.waiting.now.items = c.place_for-place.ensures ∙ ap (place_for c.args.last) c.as_slice.ensures.value in
    c.in_ok-insert.ensures.items ∙ ap (λ (n : ℕ). insert c.args.waiting.now.items n (c.args.last, c.args.conn)) number ∙ put_in_place (c.args.last, c.args.conn) c.args.waiting.now.items
