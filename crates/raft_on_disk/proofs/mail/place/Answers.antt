use Rattle.std.proofs.Common.{◌≡◌, ◌≤◌, ℕ, length, insert, ap, ◌∙◌, arith}
use Rattle.raft_on_disk.specs.Mails.{place_for}
use Rattle.raft_on_disk.proofs.MailPlaces.{place_within, put_in_place}
use Rattle.raft_on_disk.proofs.mail.place.Goals as goal

pub insert-requires : goal.insert-requires
insert-requires c =
    let number : c.place_for-place.result ≡ place_for c.args.message.to c.args.logs.now.items = c.place_for-place.ensures ∙ ap (place_for c.args.message.to) c.as_slice.ensures.value in
    let within : place_for c.args.message.to c.args.logs.now.items ≤ length c.args.logs.now.items = place_within c.args.message.to c.args.logs.now.items in
    omega arith

pub returns : goal.returns
returns c =
    let number : c.place_for-place.result ≡ place_for c.args.message.to c.args.logs.now.items = c.place_for-place.ensures ∙ ap (place_for c.args.message.to) c.as_slice.ensures.value in
    c.in_ok-insert.ensures.items ∙ ap (λ (n : ℕ). insert c.args.logs.now.items n c.args.message) number ∙ put_in_place c.args.message c.args.logs.now.items
