use Rattle.std.proofs.Common.{Some}
use Rattle.clap.specs.Words.{app_of, found_of, rows_of}
use Rattle.arguments.proofs.Found.{serve_simple}
use Rattle.arguments.proofs.Servable.{served_fits}
use Rattle.arguments.proofs.serving.read_serve.Goals as goal

pub returns-in-Some-clause-fit : goal.returns-in-Some-clause-fit
returns-in-Some-clause-fit c = served_fits (Some (rows_of (found_of c.in-Some.matches))) c.serve_in.result c.serve_in.ensures

pub matches_by-requires : goal.matches_by-requires
matches_by-requires c = serve_simple (app_of c.in_ok-serve_command.field-0) c.in_ok-serve_command.ensures
