use Rattle.log_commands.specs.Spelling.{head, frames_bytes}
use Rattle.wire_words.specs.Items.{text}
use Rattle.log_commands.proofs.InTurn.{three}
use Rattle.log_commands.proofs.Ranges.{few_of_frames}
use Rattle.log_commands.proofs.writing.put_command.Goals as goal

pub put_frames-requires : goal.put_frames-requires
put_frames-requires c =
    rw c.as_slice.ensures (few_of_frames c.args.command.now c.in-Frames.name c.in-Frames.tx c.in-Frames.truncate c.in-Frames.commit c.in-Frames.pages c.in-Frames.is c.requires)

pub returns-in_ok-put_name-in-Frames-clause-bytes : goal.returns-in_ok-put_name-in-Frames-clause-bytes
returns-in_ok-put_name-in-Frames-clause-bytes c =
    let rest = frames_bytes c.in-Frames.tx c.in-Frames.truncate c.in-Frames.commit c.in-Frames.pages in
    let put = rw c.as_slice.ensures at c.put_frames.ensures.bytes in
    rw c.in-Frames.is (three c.put_frames.result c.args.out.now c.raw-in-Frames.new.self c.put_name-in-Frames.new.out c.put_frames.new.out (head 2) (text c.in-Frames.name) rest c.in_ok-raw-in-Frames.ensures c.in_ok-put_name-in-Frames.ensures.bytes put)
