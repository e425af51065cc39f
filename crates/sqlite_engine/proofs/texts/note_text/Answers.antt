use Rattle.std.proofs.Common.{◌≡◌, ◌⊎◌, subst}
use Rattle.std.specs.List.{All, Contains}
use Rattle.sqlite_engine.specs.declared.texts.LookingText.{LookingText}
use Rattle.sqlite_engine.proofs.OpenImages.{none_added}
use Rattle.sqlite_engine.proofs.texts.note_text.Goals as goal

pub returns-then-text-gt-MAX_TEXT_LENGTH : goal.returns-then-text-gt-MAX_TEXT_LENGTH
returns-then-text-gt-MAX_TEXT_LENGTH c = none_added c.args.texts.now.items _

pub returns-in-Ok : goal.returns-in-Ok
returns-in-Ok c =
    subst (λ (own : LookingText). All (λ it. Contains c.args.texts.now.items it ⊎ (it ≡ own)) c.add_text.new.texts.items)
    c.in-Ok.ensures c.add_text.ensures

pub returns-in_default : goal.returns-in_default
returns-in_default c = none_added c.args.texts.now.items _
