use Rattle.std.proofs.Common.{◌≡◌, Bool, true, false, sym, ◌∙◌, refl}
use Rattle.std.specs.Prelude.{◌||◌}
use Rattle.raft_on_disk.proofs.replica.Replica.follow.Goals as goal

neither : (a b : Bool) → (a || b) ≡ false → (a ≡ false) × (b ≡ false)
neither true b e = absurd cc
neither false b e = (refl, e)

pub returns-clause-stays : goal.returns-clause-stays
returns-clause-stays c e =
    let both = neither c.cut_from-gone.result c.in_ok-came.came (sym c.either.ensures ∙ e) in
    c.in_ok-came.ensures.stays both.1 ∙ c.cut_from-gone.ensures.stays both.0
