use Rattle.script_generator.proofs.Sent.{begins, open_asks, set_asks, least_cell, greatest_cell, value_small}
use Rattle.script_generator.proofs.laws.scripts_are_read.Goals as goal

pub returns : goal.returns
returns c = record {
  begins = begins;
  opens = open_asks;
  writes = set_asks;
  least_cell = least_cell;
  greatest_cell = greatest_cell;
  values = value_small;
}
