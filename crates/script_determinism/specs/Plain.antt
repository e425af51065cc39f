-- What came of a script's events, without the numbers of transactions: an engine's answer has one, which no client is sent.
use Rattle.std.specs.Prelude.{List, map, Ok, Err}
use Rattle.sql_engine.specs.declared.answer.StatementResult.{StatementResult}
use Rattle.session_spec.specs.Engines.{Answer}
use Rattle.script_cluster.specs.Outcomes.{Outcome, Item, Answered, Met, Loaded, Turn, Does, Crashes}

abbrev pub plain_ran : StatementResult → StatementResult
plain_ran ran = record { after = record { tx = 0; pages = ran.after.pages }; affected = ran.affected; columns = ran.columns; rows = ran.rows }

abbrev pub plain_answer : Answer → Answer
plain_answer (Ok ran) = Ok (plain_ran ran)
plain_answer (Err fault) = Err fault

abbrev pub plain_outcome : Outcome → Outcome
plain_outcome outcome = record { answers = map plain_answer outcome.answers; ending = outcome.ending }

abbrev pub plain_turn : Turn → Turn
plain_turn (Does n doing aim outcome) = Does n doing aim (plain_outcome outcome)
plain_turn (Crashes n pick) = Crashes n pick

abbrev pub plain_turns : List Turn → List Turn
plain_turns turns = map plain_turn turns

abbrev pub plain_item : Item → Item
plain_item (Answered answer) = Answered (plain_answer answer)
plain_item (Met met) = Met met
plain_item (Loaded kept) = Loaded kept

abbrev pub plain_items : List Item → List Item
plain_items items = map plain_item items
