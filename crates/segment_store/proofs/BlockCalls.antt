-- Which calls write a block, by the size of the file that is there.
use Rattle.std.proofs.Common.{◌≡◌, ℕ, ◌<◌, ◌≤◌, List, Option, Some, None, Result, true, false, sym, ap, ◌∙◌, subst}
use Rattle.std.proofs.lemmas.Bool.{cond-true, cond-false, lt-ltb, le-ltb}
use Rattle.disk_model.specs.Disk.{Disk}
use Rattle.disk_model.specs.Calls.{Call}
use Rattle.disk_model.specs.Trait.{Text, Ran}
use Rattle.disk_model.specs.Writing.{replace_calls}
use Rattle.disk_model.specs.declared.faults.DiskFault.{DiskFault}
use Rattle.segment_store.specs.Keeps.{over_calls, block_calls}

module _ (n : Text) (block : List ℕ) (old new : Disk Text → Type 0) (result : Result Unit DiskFault) (size : Option ℕ) where
  as_calls : (calls : List (Call Text)) → block_calls n block size ≡ calls → Ran calls old new result → Ran (block_calls n block size) old new result
  as_calls calls e ran = subst (λ (c : List (Call Text)). Ran c old new result) (sym e) ran

  pub ran_none : size ≡ None → Ran (replace_calls n block false) old new result → Ran (block_calls n block size) old new result
  ran_none e ran = as_calls _ (ap (block_calls n block) e) ran

  pub ran_over : (k : ℕ) → size ≡ Some k → 40 < k → Ran (over_calls n block) old new result → Ran (block_calls n block size) old new result
  ran_over k e h ran = as_calls _ (ap (block_calls n block) e ∙ cond-true _ _ _ (lt-ltb 40 k h)) ran

  pub ran_there : (k : ℕ) → size ≡ Some k → k ≤ 40 → Ran (replace_calls n block true) old new result → Ran (block_calls n block size) old new result
  ran_there k e h ran = as_calls _ (ap (block_calls n block) e ∙ cond-false _ _ _ (le-ltb 40 k h)) ran
