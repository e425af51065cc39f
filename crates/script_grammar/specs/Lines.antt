-- A script as lines of bytes, and reading them one after the other.
use Rattle.std.specs.Prelude.{◌≡◌, ◌≢◌, ◌==◌, ◌<◌, ◌≤◌, ◌++◌, ℕ, List, [], ◌∷◌, length, Option, if◌then◌else◌}
use Rattle.std.specs.List.{AllByRecursion}
use Rattle.std.specs.Io.KnownBytes.{Consumes, IsAtEnd, prepend_known}
use Rattle.script_grammar.specs.ScriptSize.{line_limit}
use Rattle.script_grammar.specs.declared.lines.LineEnd.{LineEnd}
use Rattle.script_grammar.specs.declared.lines.LineEnd.TheVariants.{Feed, Input, TooLong}

-- a byte in front of the first line
abbrev pub with_byte : ℕ → List (List ℕ) → List (List ℕ)
with_byte b [] = (b ∷ []) ∷ []
with_byte b (line ∷ lines) = (b ∷ line) ∷ lines

-- the lines of a script: each ends with LF, which the last may lack
abbrev pub lines_of : List ℕ → List (List ℕ)
lines_of [] = []
lines_of (b ∷ bytes) = if b == 10 then [] ∷ lines_of bytes else with_byte b (lines_of bytes)

-- no byte is an LF
abbrev pub HasNoFeed : List ℕ → Type 0
HasNoFeed bytes = AllByRecursion (λ b. b ≢ 10) bytes

-- a reader of lines: the line that it read last, and the bytes that it holds of what comes next
pub record Cursor : Type 0 where
  pub line : List ℕ
  pub ahead : List ℕ

-- what is still to come: the bytes that the reader holds, and then those that the source has left, if they are known
abbrev pub to_come : Cursor → Option (List ℕ) → Option (List ℕ)
to_come cursor left = prepend_known cursor.ahead left

-- A part of what the reader held, without an LF, went to the end of its line; then stood the separator.
pub record TakesPart (old new : Cursor) (part separator : List ℕ) : Type 0 where
  pub longer : new.line ≡ old.line ++ part
  pub taken : old.ahead ≡ part ++ (separator ++ new.ahead)
  pub no_feed : HasNoFeed part

-- A line was taken off the front of what was to come, and the separator after it.
pub record TakesLine (before after : Option (List ℕ)) (line separator : List ℕ) : Type 0 where
  pub taken : Consumes before after (line ++ separator)
  pub no_feed : HasNoFeed line

-- how a line of these bytes ended: after it stood an LF, nothing more, or more than a line may have
abbrev pub EndsSo : Option (List ℕ) → Option (List ℕ) → List ℕ → LineEnd → Type 0
EndsSo before after line Feed = TakesLine before after line (10 ∷ []) × (length line ≤ line_limit)
EndsSo before after line Input = TakesLine before after line [] × (length line ≤ line_limit) × IsAtEnd after
EndsSo before after line TooLong = TakesLine before after line [] × (line_limit < length line)
