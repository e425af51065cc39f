use Rattle.std.proofs.Common.{◌<◌, ◌*◌, ℕ, Bool, false, List, [], length, refl, arith}
use Rattle.client.specs.declared.events.ClientEvent.{ClientEvent}
use Rattle.client.specs.Course.{begun}
use Rattle.client.specs.Laws.{AllObey, Free, turns}
use Rattle.client.proofs.Kept.{all_kept, statement_is_one}
use Rattle.client.proofs.Elsewhere.{all_elsewhere}
use Rattle.client.proofs.laws.clients_obey.Goals as goal

rules : (addresses : List (List ℕ)) (name sql : List ℕ) (query : Bool) (events : List ClientEvent) → 0 < length addresses
    → AllObey (record { addresses = addresses; sql = sql; query = query }) 0 (Free false) (turns (begun addresses name sql query) events)
rules addresses name sql query events some =
    let left : 0 < 3 * length addresses = omega arith in
    all_kept (begun addresses name sql query) [] events (record { left = left; read = tt; size = refl; fresh = refl })

pub returns : goal.returns
returns c = record {
  rules = rules;
  elsewhere = λ addresses name sql query events some. all_elsewhere _ _ 0 (Free false) (rules addresses name sql query events some);
  statements = statement_is_one;
}
