-- What a text begins with, and which commands its first lines are.
use Rattle.std.specs.Prelude.{◌≡◌, ℕ, List, ◌∷◌, ◌++◌, Ok, codes}
use Rattle.offset_script.specs.declared.scripts.Command.{Command}
use Rattle.offset_script.specs.declared.scripts.Command.TheVariants as commands
use Rattle.offset_script.specs.declared.common_lines.Word.{Word}
use Rattle.offset_script.specs.declared.common_lines.Word.TheVariants.{Alloc, Free, Size}
use Rattle.offset_script.specs.Grammar.{Line, commands_of, ◌>>=!◌}
use Rattle.offset_script.specs.Spelling.{IsNumeral, IsSpelling}

-- a word and its space
abbrev pub name_of : Word → List ℕ
name_of Alloc = codes "alloc "
name_of Free = codes "free "
name_of Size = codes "size "

-- the command of a word and a number
abbrev pub with_number : Word → ℕ → Command
with_number Alloc n = commands.Alloc n
with_number Free n = commands.Free n
with_number Size n = commands.Size n

-- a number, a line end and a rest
pub record BeginsWithNumber (text : List ℕ) (n : ℕ) (rest : List ℕ) : Type 0 where
  pub digits : List ℕ
  pub numeral : IsNumeral digits n
  pub text_is : text ≡ digits ++ 10 ∷ rest

-- the line of a command, its line end and a rest
pub record BeginsWithCommand (text : List ℕ) (c : Command) (rest : List ℕ) : Type 0 where
  pub line : List ℕ
  pub spells : IsSpelling c line
  pub text_is : text ≡ line ++ 10 ∷ rest

-- the commands of the first of these lines were read and appended, and the lines after them were not
pub record ReadsCommands (before : List Line) (old : List Command) (after : List Line) (new : List Command) : Type 0 where
  pub read : List Command
  pub new_is : new ≡ old ++ read
  pub means : commands_of before ≡ (commands_of after >>=! λ cs. Ok (read ++ cs))
