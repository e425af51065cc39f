-- The bytes of the pages that are made here.
use Rattle.std.proofs.Common.{◌≡◌, ℕ, ◌-◌, List, ◌++◌, drop, ap}
use Rattle.std.proofs.lemmas.List.{drop-replicate}
use Rattle.byteorder.specs.Endian.{little_bytes}
use Rattle.dq_base.specs.Images.{zeros}
use Rattle.sql_engine.specs.Cells.{cell_page}

drop_zeros : (m n : ℕ) → drop m (zeros n) ≡ zeros (n - m)
unfolding zeros
drop_zeros m n = drop-replicate {X = ℕ} m n 0

pub cell_bytes : (value : ℕ) → little_bytes 8 value ++ drop 8 (zeros 4096) ≡ cell_page value
unfolding cell_page
cell_bytes value = ap (λ (t : List ℕ). little_bytes 8 value ++ t) (drop_zeros 8 4096)
