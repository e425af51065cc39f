use Rattle.std.proofs.Common.{◌≡◌, true, sym, ap, ◌∙◌, arith}
use Rattle.std.specs.Prelude.{◌==◌}
use Rattle.std.specs.List.{list_all}
use Rattle.std.proofs.lemmas.List.{take_rest}
use Rattle.dq_base.specs.Applying.{stated_main, stated_side}
use Rattle.dq_base.proofs.SizesTests.{zeros_past_lengths, is_sizes-true, is_sizes-other_number, is_sizes-other_bytes}
use Rattle.dq_base.proofs.sizes.stated_lengths.Goals as goal
use Rattle.dq_base.proofs.sizes.stated_lengths.Goals.{then-page-ne1-via-then-page-ne1, then-page-ne1-via-else-page-ne1+then-not-are_zeros}

pub returns-then-page-ne1 : goal.returns-then-page-ne1
returns-then-page-ne1 c =
    elim c.then-page-ne1.branch [
      | then-page-ne1-via-then-page-ne1 w ↦ is_sizes-other_number c.args.page.now w.if-page-ne1.true
      | then-page-ne1-via-else-page-ne1+then-not-are_zeros w ↦
          is_sizes-other_bytes c.args.page.now (ap zeros_past_lengths (sym c.bytes-bytes.ensures.value) ∙ ap (list_all (λ b. b == 0)) (sym (take_rest c.bytes-bytes.result.now 16)) ∙ sym w.are_zeros.ensures ∙ w.if-not-are_zeros.true)
    ]

pub returns : goal.returns
returns c =
    let bytes-is = c.bytes-bytes.ensures.value in
    let zeros : zeros_past_lengths c.args.page.now.page ≡ true = ap zeros_past_lengths (sym bytes-is) ∙ ap (list_all (λ b. b == 0)) (sym (take_rest c.bytes-bytes.result.now 16)) ∙ sym c.are_zeros.ensures ∙ c.if-not-are_zeros.false in
    let main-is : c.main_length-main.result ≡ stated_main c.args.page.now.page = c.main_length-main.ensures ∙ ap stated_main bytes-is in
    let side-is : c.side_length-side.result ≡ stated_side c.args.page.now.page = c.side_length-side.ensures ∙ ap stated_side bytes-is in
    (is_sizes-true c.args.page.now c.if-page-ne1.false zeros (omega arith) (omega arith), main-is, side-is)
