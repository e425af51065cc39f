use Rattle.std.proofs.Common.{◌≡◌, ◌++◌, List, ℕ, drop, refl, ap, ◌∙◌}
use Rattle.byteorder.specs.Endian.{little_bytes}
use Rattle.dq_base.specs.Images.{zeros, sizes_page}
use Rattle.dq_base.proofs.PageBytes.{two_lengths}
use Rattle.dq_base.proofs.images.sizes_page.Goals as goal

pub returns : goal.returns
unfolding sizes_page
returns c =
    let first : c.write_u64.new.buf ≡ little_bytes 8 c.args.lengths.main ++ drop 8 (zeros 4096) =
    c.write_u64.ensures ∙ ap (λ (t : List ℕ). little_bytes 8 c.args.lengths.main ++ drop 8 t) c.zeroed_bytes-bytes.ensures in
    c.new.ensures ∙ two_lengths (little_bytes 8 c.args.lengths.main) (little_bytes 8 c.args.lengths.side) c.write_u64.new.buf c.write_u64-2.new.buf refl refl first c.write_u64-2.ensures
