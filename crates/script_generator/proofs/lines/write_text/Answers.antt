use Rattle.std.proofs.Common.{ap, ◌∙◌}
use Rattle.hex.specs.Hex.{encode_lower}
use Rattle.script_generator.proofs.Written.{write_spelled}
use Rattle.script_generator.proofs.lines.write_text.Goals as goal

pub returns : goal.returns
returns c =
    let bytes = c.as_slice.ensures ∙ c.in_ok-bytes.ensures in
    rw (← write_spelled c.args.number c.args.place _ _ (c.in_ok-digits.ensures ∙ ap encode_lower bytes) c.restart_text-restart.ensures) c.format.ensures.ok
