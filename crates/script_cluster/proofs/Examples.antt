-- Small scripts, computed.
use Rattle.std.proofs.Common.{refl}
use Rattle.wire_words.specs.Reading.{word_at}
use Rattle.raft_messages.specs.Reading.{log_end_at, ask_vote_at, vote_at, items_at, peer_message_of}
use Rattle.script_cluster.specs.World.{happens, opened}
use Rattle.script_cluster.specs.Examples.{candidates, stopped, closing, CandidatesSay, CandidatesStand, StoppedSays, StoppedStands, StoppedNotes, ClosingSays}
use Rattle.script_cluster.specs.Examples.{ClosingNotes, ClosingHalts, ClosingCounts}

pub candidates_say : CandidatesSay
unfolding candidates happens opened peer_message_of items_at ask_vote_at vote_at log_end_at word_at
candidates_say = refl

pub candidates_stand : CandidatesStand
unfolding candidates happens opened peer_message_of items_at ask_vote_at vote_at log_end_at word_at
candidates_stand = refl

pub stopped_says : StoppedSays
unfolding stopped happens opened
stopped_says = refl

pub stopped_stands : StoppedStands
unfolding stopped happens opened
stopped_stands = refl

pub stopped_notes : StoppedNotes
unfolding stopped happens opened
stopped_notes = refl

pub closing_says : ClosingSays
unfolding closing happens opened peer_message_of items_at ask_vote_at vote_at log_end_at word_at
closing_says = refl

pub closing_notes : ClosingNotes
unfolding closing happens opened peer_message_of items_at ask_vote_at vote_at log_end_at word_at
closing_notes = refl

pub closing_halts : ClosingHalts
unfolding closing happens opened peer_message_of items_at ask_vote_at vote_at log_end_at word_at
closing_halts = refl

pub closing_counts : ClosingCounts
unfolding closing happens opened peer_message_of items_at ask_vote_at vote_at log_end_at word_at
closing_counts = refl
