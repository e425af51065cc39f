-- If nothing is done, as there is not enough memory to read the arguments, or as something else is asked for.
use Rattle.std.proofs.Common.{inr, ℕ, List, [], Option, refl}
use Rattle.dq_base.specs.Sink.{AppendsFront}
use Rattle.dq_base.proofs.ContentLaws.{Appends-nothing, AppendsFront-nothing}
use Rattle.disk_model.specs.Disk.{Disk}
use Rattle.disk_model.specs.Trait.{Text}
use Rattle.client.specs.declared.events.ClientEnd.TheVariants as ends
use Rattle.client.specs.Net.{Net, HaveFailed}
use Rattle.client.specs.Running.{started}
use Rattle.client.proofs.Failing.{none_failed}
use Rattle.client.proofs.Driven.{unmoved}
use Rattle.arguments.specs.declared.invocation.Statement.{Statement}
use Rattle.dqnode.specs.Statements.{client_of, StatementEnds}
use Rattle.dqnode.specs.Checks.{CheckEnds}

pub no_call : (net : Net) → HaveFailed net net
no_call net = none_failed net

pub nothing_written : (written : Option (List ℕ)) (text : List ℕ) → AppendsFront written written text
nothing_written written text = AppendsFront-nothing written text

pub unasked : (statement : Statement) (net : Net) (written : Option (List ℕ)) → StatementEnds statement net net written written 7
unasked statement net written = inr (record {
  cause = inr refl;
  named = unmoved net (started (client_of statement));
  printed = (ends.Unknown, AppendsFront-nothing written []);
  unprinted = λ e. Appends-nothing written;
})

pub unchecked : (states : Disk Text → Type 0) (written : Option (List ℕ)) → CheckEnds states states written written 7
unchecked states written d b p = (b, record { done = λ e. absurd cc; fault = λ e. absurd cc; broken = λ e. absurd cc })
