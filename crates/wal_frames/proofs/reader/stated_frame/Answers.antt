use Rattle.std.proofs.Common.{◌≡◌, ℕ, ◌-◌, List, length, take, drop, sym, ap₂, ◌∙◌, arith, length-drop}
use Rattle.std.proofs.lemmas.List.{take_all, take_rest}
use Rattle.wal_frames.specs.declared.frame.Frame.{Frame}
use Rattle.wal_frames.specs.Valid.{stated_frame}
use Rattle.wal_frames.proofs.reader.stated_frame.Goals as goal

pub returns-clause-stated : goal.returns-clause-stated
unfolding stated_frame
returns-clause-stated c =
    let bytes = c.args.bytes.now in
    let made : ℕ × ℕ → List ℕ → Frame = λ p page. record { number = p.0; commit = p.1; page = page } in
    let page : take (length bytes - 24) (drop 24 bytes) ≡ take 4096 (drop 24 bytes) = take_rest bytes 24 ∙ sym (take_all 4096 (drop 24 bytes) (omega (arith, length-drop 24 bytes))) in
    ap₂ made c.pair_of-number.ensures page
