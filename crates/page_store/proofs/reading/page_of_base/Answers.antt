use Rattle.std.proofs.Common.{◌≡◌, ◌+◌, ◌-◌, List, ℕ, take, drop, ap, ◌∙◌, arith}
use Rattle.dq_base.specs.Images.{resized}
use Rattle.page_store.proofs.ReadPages.{base_bytes}
use Rattle.page_store.proofs.reading.page_of_base.Goals as goal

pub returns : goal.returns
returns c =
    let file : List ℕ = c.args.file.now in
    let end : ℕ = c.end_of_base-end.result in
    let begin : ℕ = c.min-begin.result in
    let n : ℕ = c.min.result in
    let e = c.end_of_base-end.ensures in
    let back : begin + n - begin ≡ n = omega arith in
    record {
      end = end;
      within = e.within;
      none = e.none;
      least = e.least;
      bytes =
          c.padded.ensures ∙ ap (λ (k : ℕ). resized 4096 (take k (drop begin file))) back
          ∙ base_bytes file c.args.start end begin n e.within c.min-begin.ensures c.min.ensures;
    }
