use Rattle.script_generator.proofs.Plain.{is_writable}
use Rattle.script_generator.proofs.requests.set_bytes.Goals as goal

pub write_request-requires : goal.write_request-requires
write_request-requires c = rw c.in_ok-request.ensures (is_writable c.args.number)
