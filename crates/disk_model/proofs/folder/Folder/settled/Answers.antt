use Rattle.std.proofs.Common.{ap, ◌∙◌}
use Rattle.disk_model.specs.Folder.{all_settled}
use Rattle.disk_model.proofs.Standing.{settled_as}
use Rattle.disk_model.proofs.folder.Folder.settled.Goals as goal

pub returns : goal.returns
returns c = settled_as c.args.self.now c.self.inside.files.items c.in_ok-settled_files.field-0.items c.self.view_is (c.in_ok-settled_files.ensures ∙ ap all_settled c.as_slice.ensures.value)
