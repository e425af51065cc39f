use Rattle.std.proofs.Common.{◌≡◌, ℕ, ◌++◌, List, sym, ap₂, subst, ◌∙◌}
use Rattle.std.proofs.lemmas.List.{take-append-drop}
use Rattle.wal_frames.specs.declared.frame.Frame.{Frame}
use Rattle.wal_frames.specs.Lent.{owned}
use Rattle.wal_frames.specs.Valid.{Reading, Took, NoneMatches, stated_frame}
use Rattle.wal_frames.proofs.FrameLaws.{none_in_short, none_by_test, Took-stands}
use Rattle.wal_frames.proofs.reader.WalReader.next_frame.Goals as goal

pub returns-then-self-lt-FRAME_LENGTH-clause-none :
    goal.returns-then-self-lt-FRAME_LENGTH-clause-none
returns-then-self-lt-FRAME_LENGTH-clause-none c =
    let P : Reading → Type 0 = λ r. NoneMatches r in
    subst P c.self.view_is (none_in_short _ c.if-self-lt-FRAME_LENGTH.true)

pub returns-in_err-sums-clause-none : goal.returns-in_err-sums-clause-none
returns-in_err-sums-clause-none c =
    let inside = c.self.inside in
    let old : Reading = record { header = inside.header; sums = inside.sums; rest = inside.rest.now } in
    let P : Reading → Type 0 = λ r. NoneMatches r in
    let front = c.split_at.result.0.now in
    let back = c.split_at.result.1.now in
    let parts : inside.rest.now ≡ front ++ back = sym (take-append-drop 4120 inside.rest.now) ∙ ap₂ (λ (x y : List ℕ). x ++ y) (sym c.split_at.ensures.front) (sym c.split_at.ensures.back) in
    let none = none_by_test old front back c.split_at.ensures.front_len parts c.self.invariant.0 c.self.invariant.1 c.in_err-sums.ensures.none in
    rw c.from_residual.ensures (subst P c.self.view_is none)

pub returns-clause-found : goal.returns-clause-found
returns-clause-found c =
    let inside = c.self.inside in
    let old : Reading = record { header = inside.header; sums = inside.sums; rest = inside.rest.now } in
    let front = c.split_at.result.0.now in
    let back = c.split_at.result.1.now in
    let parts : inside.rest.now ≡ front ++ back = sym (take-append-drop 4120 inside.rest.now) ∙ ap₂ (λ (x y : List ℕ). x ++ y) (sym c.split_at.ensures.front) (sym c.split_at.ensures.back) in
    let new : Reading = record { header = inside.header; sums = c.in_ok-sums.sums; rest = back } in
    let took : Took old (stated_frame front) new = Took-stands old front back c.in_ok-sums.sums parts c.in_ok-sums.ensures.found in
    let P : Reading → Type 0 = λ r. Took r (owned c.stated_frame.result) new in
    let Q : Frame → Type 0 = λ f. Took old f new in
    subst P c.self.view_is (subst Q (sym c.stated_frame.ensures.stated) took)
