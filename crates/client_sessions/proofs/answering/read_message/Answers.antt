use Rattle.client_sessions.proofs.Asking.{refused_reads}
use Rattle.client_sessions.proofs.answering.read_message.Goals as goal

pub returns-in_ok-give_up_for_memory-in-Err-clause-read : goal.returns-in_ok-give_up_for_memory-in-Err-clause-read
returns-in_ok-give_up_for_memory-in-Err-clause-read c = refused_reads c.in-Err.fault _ c.in-Err.ensures.exact c.in_ok-give_up_for_memory-in-Err.ensures.goes_on
