use Rattle.std.proofs.Common.{map, string_bytes}
use Rattle.clap.specs.Words.{app_of}
use Rattle.arguments.proofs.Found.{found_some, found_none}
use Rattle.arguments.proofs.commands.matches_by.Goals as goal

pub returns-in-Ok : goal.returns-in-Ok
returns-in-Ok c =
    found_some (app_of c.args.command) (map string_bytes c.args.words.now) c.in-Ok.matches c.requires (c.in-Ok.ensures.kinds c.requires) c.in-Ok.ensures.matches

pub returns-in-Err : goal.returns-in-Err
returns-in-Err c =
    found_none (app_of c.args.command) (map string_bytes c.args.words.now) c.in-Err.error c.refused.result (c.in-Err.ensures.kinds c.requires) c.refused.ensures.refuses
    c.refused.ensures.cause
