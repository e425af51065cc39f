-- What is refused at once, and what isn't.
use Rattle.std.proofs.Common.{◌≡◌, Bool, true, false, ◌&&◌, not, Option, Some, None, sym, ap, ◌∙◌}
use Rattle.session_spec.specs.Asking.{Asked, Never}
use Rattle.session_table.specs.Named.{cause_named}
use Rattle.session_table.specs.declared.cause.Cause.{Cause}
use Rattle.session_requests.specs.Meant.{refused_by}

pub refused : (o : Option Cause) (cause : Cause) (asked whole : Asked) → whole ≡ refused_by o asked → o ≡ Some cause → Never (cause_named cause) ≡ whole
refused o cause asked whole e is = sym (e ∙ ap (λ (p : Option Cause). refused_by p asked) is)

pub passed : (o : Option Cause) (asked whole done : Asked) → whole ≡ refused_by o asked → o ≡ None → done ≡ asked → done ≡ whole
passed o asked whole done e is d = d ∙ sym (e ∙ ap (λ (p : Option Cause). refused_by p asked) is)

pub named : (has zero : Bool) → has ≡ true → not zero ≡ not (has && zero)
named has zero e = sym (ap (λ (h : Bool). not (h && zero)) e)

pub unnamed : (has zero : Bool) → has ≡ false → true ≡ not (has && zero)
unnamed has zero e = sym (ap (λ (h : Bool). not (h && zero)) e)
