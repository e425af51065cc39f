use Rattle.std.proofs.Common.{◌≡◌, ap, subst, ◌∙◌}
use Rattle.sqlite_wal.specs.Recovery as raw
use Rattle.sqlite_store.specs.FileStore.{files}
use Rattle.sqlite_files.specs.Recording.{Recorded}
use Rattle.sqlite_open_files.specs.Held.{image_in}
use Rattle.sqlite_facts.specs.Alike.{HoldAlike}
use Rattle.sqlite_engine.specs.Sql.{files_of}
use Rattle.sqlite_engine.proofs.kept.holds_alike.Goals as goal

pub returns : goal.returns
returns c sure =
    let beneath = image_in (files c.args.conn.now.store) in
    let one : raw.Image = record { log = c.bytes-side.result.now; db = c.bytes-main.result.now } in
    let one_is : one ≡ beneath = λ i. record { log = (c.bytes-side.ensures ∙ ap (λ (r : Recorded). r.after) c.log_of.ensures) i; db = (c.bytes-main.ensures ∙ ap (λ (r : Recorded). r.after) c.main_of.ensures) i } in
    let other : raw.Image = record { log = c.as_slice-2.result.now; db = c.bytes-main.result.now } in
    let other_is : other ≡ files_of c.args.image.now = λ i. record { log = c.as_slice-2.ensures i; db = (c.is_same.ensures c.if-not-is_same.false ∙ c.as_slice.ensures) i } in
    subst (λ (x : raw.Image). HoldAlike x (files_of c.args.image.now)) one_is (subst (λ (y : raw.Image). HoldAlike one y) other_is (c.same_pages.ensures sure))
