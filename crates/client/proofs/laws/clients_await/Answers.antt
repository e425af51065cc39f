use Rattle.client.specs.Course.{begun}
use Rattle.client.proofs.Heeded.{all_heeded, unheeded}
use Rattle.client.proofs.laws.clients_await.Goals as goal

pub returns : goal.returns
returns c = record {
  heeds = λ addresses name sql query events. all_heeded (begun addresses name sql query) events;
  unheeded = unheeded;
}
