use Rattle.std.proofs.Common.{ℕ, ◌-◌, List, length, Err, sym, ap, ◌∙◌}
use Rattle.std.proofs.lemmas.Result.{err_from_is_err_and}
use Rattle.wal_frames.specs.declared.fault.WalFault.{WalFault}
use Rattle.wal_frames.specs.declared.frame.Frame.{Frame}
use Rattle.wal_frames.specs.declared.header.WalHeader.{WalHeader}
use Rattle.wal_frames.specs.Text.{wal_length}
use Rattle.wal_frames.proofs.HeaderLaws.{refusal_of}
use Rattle.wal_frames.proofs.LogLaws.{Reads-made, end_is, length-log}
use Rattle.wal_frames.proofs.reading.read_wal.Goals as goal

pub returns-in_err-reader-clause-refused : goal.returns-in_err-reader-clause-refused
returns-in_err-reader-clause-refused c =
    let p = err_from_is_err_and c.from_residual.result c.from_residual.ensures.1 in
    rw p.1 (refusal_of p.0 c.args.bytes.now (c.in_err-reader.ensures.refused ∙ ap (λ (e : WalFault). Err e) (sym p.2)))

pub returns-clause-found : goal.returns-clause-found
returns-clause-found c =
    let bytes = c.args.bytes.now in
    Reads-made bytes c.in_ok-reader.reader c.in_ok-frames.frames.items c.all_frames.new.reader _ c.in_ok-reader.ensures.opened c.in_ok-frames.ensures.took c.in_ok-frames.ensures.none
    (ap (λ (h : WalHeader). h.sequence) c.header-sequence.ensures) c.new-2.ensures (ap (λ (x : List ℕ). length bytes - length x) c.rest.ensures)

pub returns-clause-ends : goal.returns-clause-ends
returns-clause-ends c =
    let bytes = c.args.bytes.now in
    let start = c.in_ok-reader.reader in
    let fs = c.in_ok-frames.frames.items in
    let took = c.in_ok-frames.ensures.took in
    ap (λ (x : List ℕ). length bytes - length x) c.rest.ensures
    ∙ end_is bytes start fs c.all_frames.new.reader c.in_ok-reader.ensures.opened took
    ∙ length-log start.header fs took.fit
    ∙ ap (λ (gs : List Frame). wal_length (length gs)) (sym c.new-2.ensures)
