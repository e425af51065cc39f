use Rattle.std.proofs.Common.{ap, ◌∙◌}
use Rattle.hex.specs.Hex.{encode_lower}
use Rattle.script_generator.proofs.Written.{opening_spelled}
use Rattle.script_generator.proofs.lines.opening_text.Goals as goal

pub returns : goal.returns
returns c =
    let bytes = c.as_slice.ensures ∙ c.in_ok-bytes.ensures in
    rw (← opening_spelled _ (c.in_ok-digits.ensures ∙ ap encode_lower bytes)) c.format.ensures.ok
