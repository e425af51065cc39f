-- A client that hasn't begun.
use Rattle.std.proofs.Common.{◌≡◌, ℕ, Bool, List, refl, sym, subst}
use Rattle.client.specs.declared.course.Course.{Course}
use Rattle.client.specs.Course.{begun}
use Rattle.client.specs.Driving.{IsBegun}

pub is_begun : (core : Course) (addresses : List (List ℕ)) (name sql : List ℕ) (query : Bool) → core ≡ begun addresses name sql query → IsBegun core
is_begun core addresses name sql query e = subst IsBegun (sym e) refl
