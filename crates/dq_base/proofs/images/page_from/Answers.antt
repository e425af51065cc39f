use Rattle.std.proofs.Common.{◌≡◌, ◌++◌, ◌-◌, List, ℕ, length, min, take, drop, ap, ◌∙◌}
use Rattle.std.proofs.lemmas.List.{take_rest}
use Rattle.dq_base.specs.Images.{page_from}
use Rattle.dq_base.proofs.PageBytes.{padded}
use Rattle.dq_base.proofs.images.page_from.Goals as goal

pub returns : goal.returns
unfolding page_from
returns c =
    let rest : List ℕ = drop c.args.start c.args.file.now in
    let count : ℕ = c.min-count.result in
    let whole : take (length c.args.file.now - c.args.start) rest ≡ rest = take_rest c.args.file.now c.args.start in
    let count_is : count ≡ min 4096 (length rest) = c.min-count.ensures ∙ ap (λ (t : List ℕ). min 4096 (length t)) whole in
    c.new.ensures
    ∙ ap (λ (t : List ℕ). t ++ drop count c.zeroed_bytes-bytes.result) (c.copy_from_slice.ensures.after ∙ ap (take count) whole)
    ∙ ap (λ (t : List ℕ). take count rest ++ drop count t) c.zeroed_bytes-bytes.ensures
    ∙ padded rest count count_is
