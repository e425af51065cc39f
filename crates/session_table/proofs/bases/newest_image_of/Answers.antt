use Rattle.std.proofs.Common.{◌≡◌, ℕ, List, IfOk, subst}
use Rattle.dq_base.specs.declared.images.Image.{Image}
use Rattle.session_spec.specs.Machine.{machine_of}
use Rattle.session_table.proofs.bases.newest_image_of.Goals as goal

pub returns : goal.returns
returns c = subst (λ (name : List ℕ). IfOk c.newest_image.result (λ (image : Image). image ≡ ((machine_of c.args.machine.now).base name).image)) c.as_str.ensures.value c.newest_image.ensures
