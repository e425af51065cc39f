use Rattle.std.proofs.Common.{◌≡◌, ◌+◌, sym, ap, ◌∙◌, ◌++◌, ◌∷◌, [], List, ℕ, suc, arith}
use Rattle.std.proofs.lemmas.Result.{err_from_is_err_and}
use Rattle.segment_store.specs.Settling.{left_after}
use Rattle.segment_store.proofs.LoadOpens.{fresh_is, stale_by, settle_fails, settle_opens, empty_breaks, empty_settles, store_is}
use Rattle.std.proofs.Common.{length}
use Rattle.segment_store.specs.LoadCounts.{settling_count, repair_count}
use Rattle.segment_store.proofs.LoadCounting.{within_err, exactly, then_err, then_ok}
use Rattle.segment_store.proofs.LoadCountLists.{settling_is, stale_count}
use Rattle.segment_store.proofs.loading.settle.Goals as goal

pub returns-in_err-sync_and_repair-clause-settles : goal.returns-in_err-sync_and_repair-clause-settles
returns-in_err-sync_and_repair-clause-settles g c =
    let p = err_from_is_err_and c.from_residual.result c.from_residual.ensures.1 in
    rw p.1 (settle_fails c.args.list c.args.read.now c.args.sizes.0 c.args.sizes.1 c.stale_from-stale.ensures.fits c.last_segment-last.result c.last_segment-last.ensures.is _ _ _ _ c.in_err-sync_and_repair.ensures.went)

pub returns-in-None-clause-settles : goal.returns-in-None-clause-settles
returns-in-None-clause-settles g c =
    settle_opens c.args.list c.args.read.now c.args.sizes.0 c.args.sizes.1 c.stale_from-stale.ensures.fits c.last_segment-last.result c.last_segment-last.ensures.is _ _ _ c.version.result c.next_number-next.result _ c.in_ok-sync_and_repair.ensures.went
    c.version.ensures (fresh_is _ _ (sym c.in-None.is ∙ c.stale_from-stale.ensures.first)) c.next_number-next.ensures.next
    (store_is c.version.result c.next_number-next.result c.args.sizes _ _ _ _ _ c.opened.ensures (c.left_after-left.ensures.left ∙ ap (left_after c.last_segment-last.result) c.into_numbers-segments.ensures.segments) c.into_numbers-segments.ensures.snapshots)

pub returns-in_err-all-in-Some-clause-settles : goal.returns-in_err-all-in-Some-clause-settles
returns-in_err-all-in-Some-clause-settles g c =
    let p = err_from_is_err_and c.from_residual-in_err-all-in-Some.result c.from_residual-in_err-all-in-Some.ensures.1 in
    let st = stale_by _ _ _ (sym c.in-Some.is ∙ c.stale_from-stale.ensures.first) in
    rw p.1 (empty_breaks c.args.list c.args.read.now c.args.sizes.0 c.args.sizes.1 c.stale_from-stale.ensures.fits c.last_segment-last.result c.last_segment-last.ensures.is g.D.Disk.tells _ _ _ _ _ _ _ _ c.in_ok-sync_and_repair.ensures.went st.0 c.next_number-next.ensures.next st.1 c.in_err-all-in-Some.ensures.empties)

pub returns-in_ok-all-in-Some-clause-settles : goal.returns-in_ok-all-in-Some-clause-settles
returns-in_ok-all-in-Some-clause-settles g c =
    let st = stale_by _ _ _ (sym c.in-Some.is ∙ c.stale_from-stale.ensures.first) in
    let next : c.next_number-next.result + 1 ≡ suc c.next_number-next.result = omega arith in
    empty_settles c.args.list c.args.read.now c.args.sizes.0 c.args.sizes.1 c.stale_from-stale.ensures.fits c.last_segment-last.result c.last_segment-last.ensures.is g.D.Disk.tells _ _ _ _ _ c.version-in-Some.result c.next_number-next.result _ _ _ c.in_ok-sync_and_repair.ensures.went
    c.version-in-Some.ensures st.0 c.next_number-next.ensures.next st.1 next c.in_ok-all-in-Some.ensures.digits.0 c.in_ok-all-in-Some.ensures.empties
    (store_is c.version-in-Some.result _ c.args.sizes _ _ _ _ _ c.opened-in-Some.ensures (c.in_ok-all-in-Some.ensures.segments ∙ ap (λ (xs : List ℕ). xs ++ c.next_number-next.result ∷ []) (c.left_after-left.ensures.left ∙ ap (left_after c.last_segment-last.result) c.into_numbers-segments.ensures.segments)) c.into_numbers-segments.ensures.snapshots)

pub returns-in_err-sync_and_repair-clause-count : goal.returns-in_err-sync_and_repair-clause-count
returns-in_err-sync_and_repair-clause-count g c =
    let p = err_from_is_err_and c.from_residual.result c.from_residual.ensures.1 in
    let z = settling_is c.args.list c.args.read.now c.last_segment-last.result c.last_segment-last.ensures.is in
    rw p.1 (within_err _ (settling_count c.args.list c.args.read.now) _ _ _ _ (omega (arith, z)) c.in_err-sync_and_repair.ensures.count)

pub returns-in-None-clause-count : goal.returns-in-None-clause-count
returns-in-None-clause-count g c =
    let z = settling_is c.args.list c.args.read.now c.last_segment-last.result c.last_segment-last.ensures.is in
    let w = ap stale_count (fresh_is _ _ (sym c.in-None.is ∙ c.stale_from-stale.ensures.first)) in
    exactly _ (settling_count c.args.list c.args.read.now) _ _ _ _ (omega (arith, z, w)) c.in_ok-sync_and_repair.ensures.count

pub returns-in_err-all-in-Some-clause-count : goal.returns-in_err-all-in-Some-clause-count
returns-in_err-all-in-Some-clause-count g c =
    let p = err_from_is_err_and c.from_residual-in_err-all-in-Some.result c.from_residual-in_err-all-in-Some.ensures.1 in
    let z = settling_is c.args.list c.args.read.now c.last_segment-last.result c.last_segment-last.ensures.is in
    let w = ap stale_count (stale_by _ _ _ (sym c.in-Some.is ∙ c.stale_from-stale.ensures.first)).0 in
    rw p.1 (then_err (suc (length c.args.list.files) + repair_count c.last_segment-last.result) 5 (settling_count c.args.list c.args.read.now) _ _ _ _ _ _ (omega (arith, z, w)) c.in_ok-sync_and_repair.ensures.count c.in_err-all-in-Some.ensures.count)

pub returns-in_ok-all-in-Some-clause-count : goal.returns-in_ok-all-in-Some-clause-count
returns-in_ok-all-in-Some-clause-count g c =
    let z = settling_is c.args.list c.args.read.now c.last_segment-last.result c.last_segment-last.ensures.is in
    let w = ap stale_count (stale_by _ _ _ (sym c.in-Some.is ∙ c.stale_from-stale.ensures.first)).0 in
    then_ok (suc (length c.args.list.files) + repair_count c.last_segment-last.result) 5 (settling_count c.args.list c.args.read.now) _ _ _ _ _ _ (omega (arith, z, w)) c.in_ok-sync_and_repair.ensures.count c.in_ok-all-in-Some.ensures.count
