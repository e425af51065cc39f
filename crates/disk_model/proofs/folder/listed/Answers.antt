use Rattle.std.proofs.Common.{◌≡◌, ℕ, length, subst, arith}
use Rattle.disk_model.proofs.Listing.{Listing, listing_done}
use Rattle.disk_model.proofs.folder.listed.Goals as goal

pub returns : goal.returns
returns c =
    let e : c.loop-file.file-index ≡ length c.args.files.now = omega (arith, c.loop-file.auto.file-index-end, c.loop-file-test.false) in
    listing_done c.args.files.now c.loop-file.names.items (subst (λ (k : ℕ). Listing c.args.files.now k c.loop-file.names.items) e c.loop-file.invariant)
