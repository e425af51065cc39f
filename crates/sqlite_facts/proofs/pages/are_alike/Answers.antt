use Rattle.std.proofs.Common.{ℕ, ◌<◌, sym, subst, ◌∙◌, length}
use Rattle.sqlite_wal.specs.Recovery.{AreFramesOf}
use Rattle.sqlite_facts.specs.Alike.{IsAlikeAt}
use Rattle.sqlite_facts.proofs.pages.are_alike.Goals as goal

pub returns : goal.returns
returns c is =
    let same = sym c.as_slice.ensures.value ∙ c.share_frames.ensures.same is ∙ c.as_slice-2.ensures.value in
    record {
      numbers = c.in-Some.first.items;
      first = c.in-Some.ensures;
      second = subst (AreFramesOf 4096 c.args.other.now) (sym same) c.in-Some-frames_of.ensures;
      alike = subst (λ numbers. (i : ℕ) → i < length numbers → IsAlikeAt 4096 c.args.one.now c.args.other.now i) c.as_slice.ensures.value (c.share_frames.ensures.alike is);
    }
