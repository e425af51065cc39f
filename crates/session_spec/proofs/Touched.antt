-- A transaction has the numbers of all pages in which its two images differ.
use Rattle.std.proofs.Common.{Bool, Some, refl}
use Rattle.dq_base.specs.declared.images.Image.{Image}
use Rattle.dq_base.specs.Changes.{changed}
use Rattle.image_diff.proofs.Touched.{lists_nothing, lists_next}
use Rattle.session_spec.specs.Machine.{Machine}
use Rattle.session_spec.specs.Sessions.{Session, Transaction}
use Rattle.session_spec.specs.Requests.{begun, worked}
use Rattle.session_spec.specs.Touched.{IsListed}

-- a transaction begins with two images that are one
pub begun_listed : (m : Machine) (s : Session) (at_once : Bool) → IsListed (begun m s at_once).tx
begun_listed m s at_once = lists_nothing (m.base s.database).image

-- its statements list what they change
pub worked_listed : (s : Session) (x : Transaction) (to : Image) (turn : Bool) → IsListed (Some x) → IsListed (worked s x to turn).tx
worked_listed s x to turn listed = lists_next x.touched (changed x.working to) x.pinned x.working to listed refl
