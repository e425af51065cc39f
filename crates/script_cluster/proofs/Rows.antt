-- Whole scripts, computed.
use Rattle.std.proofs.Common.{refl}
use Rattle.std.specs.Fmt.{digits}
use Rattle.hex.specs.Hex.{decode_pairs}
use Rattle.dq_base.specs.Decimal.{number_below}
use Rattle.dq_base.specs.Texts.{halves}
use Rattle.wire_words.specs.Reading.{word_at}
use Rattle.raft_messages.specs.Reading.{log_end_at, ask_vote_at, vote_at, items_at, peer_message_of}
use Rattle.script_grammar.specs.Events.{number_within, one_or_two, hex_bytes, connect_of, bytes_of, other_event, event_of}
use Rattle.script_grammar.specs.Grammar.{nodes_of, stop_of, fail_of, aimed_of, words_line, line_of}
use Rattle.script_cluster.specs.World.{happens, opened}
use Rattle.script_cluster.specs.Run.{line_step, step}
use Rattle.script_cluster.specs.Rows.{CandidatesSaid, StoppedSaid, FailedSaid, MissingSaid, NoNodesSaid, PutSaid, PutPrints, EmptySaid, AskingSaid}

pub candidates_said : CandidatesSaid
unfolding step line_step line_of words_line nodes_of one_or_two halves digits number_below event_of other_event happens opened peer_message_of items_at ask_vote_at vote_at log_end_at word_at
candidates_said = record { says_so = refl; ends_so = refl }

pub stopped_said : StoppedSaid
unfolding step line_step line_of words_line nodes_of one_or_two halves digits number_below number_within stop_of aimed_of event_of other_event happens opened
stopped_said = record { says_so = refl; ends_so = refl }

pub failed_said : FailedSaid
unfolding step line_step line_of words_line nodes_of one_or_two halves digits number_below number_within fail_of aimed_of event_of other_event happens opened
failed_said = record { says_so = refl; ends_so = refl }

pub missing_said : MissingSaid
unfolding step line_step line_of words_line nodes_of one_or_two halves digits number_below event_of other_event happens opened
missing_said = record { says_so = refl; ends_so = refl }

pub no_nodes_said : NoNodesSaid
unfolding step line_step line_of words_line nodes_of one_or_two halves digits number_below
no_nodes_said = record { says_so = refl; ends_so = refl }

pub put_said : PutSaid
unfolding step line_step line_of words_line nodes_of one_or_two halves digits number_below hex_bytes decode_pairs event_of other_event happens opened
put_said = record { says_so = refl; ends_so = refl }

pub empty_said : EmptySaid
empty_said = record { says_so = refl; ends_so = refl }

pub put_prints : PutPrints
unfolding step line_step line_of words_line nodes_of one_or_two halves digits number_below hex_bytes decode_pairs event_of other_event happens opened
put_prints = refl

pub asking_said : AskingSaid
unfolding step line_step line_of words_line nodes_of one_or_two halves digits number_below hex_bytes decode_pairs bytes_of connect_of event_of other_event happens opened
asking_said = record { says_so = refl; ends_so = refl }
