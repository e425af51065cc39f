use Rattle.std.proofs.Common.{◌≡◌, ◌++◌, List, ℕ, length, min, take, drop, sym, ap, ◌∙◌, arith}
use Rattle.std.proofs.lemmas.List.{take_all}
use Rattle.dq_base.proofs.PageBytes.{padded}
use Rattle.dq_base.proofs.pages.Page.padded.Goals as goal

pub returns : goal.returns
returns c =
    let bytes : List ℕ = c.args.bytes.now in
    let fits = c.requires in
    let count : length bytes ≡ min 4096 (length bytes) = omega arith in
    let all : take (length bytes) bytes ≡ bytes = take_all (length bytes) bytes (omega arith) in
    ap (λ (t : List ℕ). t ++ drop (length bytes) c.zeroed_bytes-page.result) (c.copy_from_slice.ensures.after ∙ sym all)
    ∙ ap (λ (t : List ℕ). take (length bytes) bytes ++ drop (length bytes) t) c.zeroed_bytes-page.ensures
    ∙ padded bytes (length bytes) count
