-- What a text means, a script or the fault of its first faulty line, and the text of answers to a script.
use Rattle.std.specs.Prelude.{ℕ, ◌+◌, ◌^◌, Bool, true, not, ◌&&◌, List, [], ◌∷◌, ◌++◌, length, filter, count_by, Option, Some, None, option_and_then, Result, Ok, Err, ok_or, nat_lt, nat_le, ◌==◌}
use Rattle.std.specs.Prelude.{if◌then◌else◌, codes}
use Rattle.std.specs.List.{slice_split, flat_map}
use Rattle.std.specs.Fmt.{decimal}
use Rattle.std.specs.Str.{bytes_eq, all_ascii_digits}
use Rattle.std.specs.Str.Parse.{digits_value}
use Rattle.std.specs.Int.{is_power_of_two}
use Rattle.offset_script.specs.declared.scripts.Command.{Command}
use Rattle.offset_script.specs.declared.scripts.Command.TheVariants.{Alloc, Free, Size, Report, Full, Reset, Align, Extend}
use Rattle.offset_script.specs.declared.scripts.IndexWidth.{IndexWidth}
use Rattle.offset_script.specs.declared.scripts.IndexWidth.TheVariants.{Bits16, Bits32}
use Rattle.offset_script.specs.declared.scripts.Header.{Header}
use Rattle.offset_script.specs.declared.faults.ScriptFault.{ScriptFault}
use Rattle.offset_script.specs.declared.faults.ScriptFault.TheVariants.{TooLong, BadHeader, BadLimit, BadCommand}
use Rattle.offset_allocator.specs.Reporting.FreeSizes.{Row}
use Rattle.offset_script.specs.Machine.{Answer}
use Rattle.offset_script.specs.Machine as machine

-- the parts of a text between the bytes `at`
abbrev pub parts : ℕ → List ℕ → List (List ℕ)
parts at text = slice_split (λ b. b == at) text

-- ---- words

-- the number that a word spells: 1 to 10 decimal digits of a value that 32 bits hold
unfoldable pub number_of : List ℕ → Option ℕ
number_of word =
    if nat_lt 0 (length word) && nat_le (length word) 10 && all_ascii_digits word && nat_lt (digits_value 10 word) (2 ^ 32)
    then Some (digits_value 10 word) else None

-- the words of a line: exactly one space separates two of them
abbrev pub words : List ℕ → List (List ℕ)
words line = parts 32 line

-- ---- commands

-- the command that one word spells
abbrev pub one_word_command : List ℕ → Option Command
one_word_command name =
    if bytes_eq name (codes "report") then Some Report
    else (if bytes_eq name (codes "full") then Some Full
    else (if bytes_eq name (codes "reset") then Some Reset
    else None))

-- the command that a word and a number spell
abbrev pub number_command : List ℕ → ℕ → Option Command
number_command name n =
    if bytes_eq name (codes "alloc") then Some (Alloc n)
    else (if bytes_eq name (codes "free") then Some (Free n)
    else (if bytes_eq name (codes "size") then Some (Size n)
    else (if bytes_eq name (codes "extend") then Some (Extend n)
    else None)))

-- the command that a word and two numbers spell, of which the second is an alignment
abbrev pub pair_command : List ℕ → ℕ → ℕ → Option Command
pair_command name n a = if bytes_eq name (codes "align") && is_power_of_two a then Some (Align n a) else None

-- the next step, unless this one returned nothing
infixl 10 ◌>>=◌
abbrev pub ◌>>=◌ : {A B : Type 0} → Option A → (A → Option B) → Option B
o >>= f = option_and_then f o

-- the command that the words of a line spell, if they do
unfoldable pub command_of_words : List (List ℕ) → Option Command
command_of_words [] = None
command_of_words (name ∷ []) = one_word_command name
command_of_words (name ∷ first ∷ []) = do
  n ← number_of first
  number_command name n
command_of_words (name ∷ first ∷ second ∷ []) = do
  n ← number_of first
  a ← number_of second
  pair_command name n a
command_of_words (name ∷ first ∷ second ∷ third ∷ more) = None

-- the command that a line spells, or none
abbrev pub command_of : List ℕ → Option Command
command_of line = command_of_words (words line)

-- whether an alignment is at least 1; every other command passes
abbrev pub has_valid_alignment : Command → Bool
has_valid_alignment (Align n a) = nat_le 1 a
has_valid_alignment other = true

-- ---- the header

-- the index width that a word spells
abbrev pub width_of : List ℕ → Option IndexWidth
width_of word =
    if bytes_eq word (codes "16") then Some Bits16
    else (if bytes_eq word (codes "32") then Some Bits32 else None)

-- the header that the words of a line spell, if they do, whatever its limit
unfoldable pub header_of_words : List (List ℕ) → Option Header
header_of_words (space ∷ size ∷ nodes ∷ limit ∷ index ∷ width ∷ []) =
    if bytes_eq space (codes "space") && bytes_eq nodes (codes "nodes") && bytes_eq index (codes "index")
    then (number_of size >>= λ units. number_of limit >>= λ most. width_of width >>= λ bits.
    Some (record { size = units; max_allocs = most; index = bits }))
    else None
header_of_words _ = None

-- the header that a line spells, or none, whatever its limit
abbrev pub header_of : List ℕ → Option Header
header_of line = header_of_words (words line)

-- the largest limit that an index width admits
abbrev pub largest_limit : IndexWidth → ℕ
largest_limit Bits16 = 65533
largest_limit Bits32 = 4294967293

-- whether the limit is at least 2, and the index width admits it
abbrev pub is_admitted : Header → Bool
is_admitted h = nat_le 2 h.max_allocs && nat_le h.max_allocs (largest_limit h.index)

-- ---- lines

-- the lines, of the parts between line ends: an empty last part is no line
abbrev pub lines_of : List (List ℕ) → List (List ℕ)
lines_of [] = []
lines_of (part ∷ []) = if length part == 0 then [] else part ∷ []
lines_of (part ∷ next ∷ more) = part ∷ lines_of (next ∷ more)

-- whether a line is empty or a comment
abbrev pub is_skipped : List ℕ → Bool
is_skipped [] = true
is_skipped (b ∷ bs) = b == 35

-- a line with its number
pub record Line : Type 0 where
  pub number : ℕ
  pub text : List ℕ

-- lines with their numbers, from n on
abbrev pub numbered_from : ℕ → List (List ℕ) → List Line
numbered_from n [] = []
numbered_from n (line ∷ more) = record { number = n; text = line } ∷ numbered_from (n + 1) more

-- the lines that are neither empty nor comments, where the first line of the text has number n
unfoldable pub significant_from : ℕ → List ℕ → List Line
significant_from n text = filter (λ line. not (is_skipped line.text)) (numbered_from n (lines_of (parts 10 text)))

-- ---- the whole text

-- a script as plain data: its header and its commands
pub record Plan : Type 0 where
  pub header : Header
  pub commands : List Command

-- the next step, unless this one found a fault
infixl 10 ◌>>=!◌
abbrev pub ◌>>=!◌ : {A B : Type 0} → Result A ScriptFault → (A → Result B ScriptFault) → Result B ScriptFault
(Ok x) >>=! f = f x
(Err e) >>=! f = Err e

-- the commands that lines spell, or the fault of the first line that spells none
unfoldable pub commands_of : List Line → Result (List Command) ScriptFault
commands_of [] = Ok []
commands_of (line ∷ more) =
    ok_or (command_of line.text) (BadCommand line.number) >>=! λ c. commands_of more >>=! λ cs. Ok (c ∷ cs)

-- a header, of which first the form is checked and then the limit, and its commands; where there is no line, the header
-- is missing on line `end`
unfoldable pub plan_of : ℕ → List Line → Result Plan ScriptFault
plan_of end [] = Err (BadHeader end)
plan_of end (line ∷ more) = ok_or (header_of line.text) (BadHeader line.number) >>=! λ h.
    if is_admitted h then (commands_of more >>=! λ cs. Ok (record { header = h; commands = cs }))
    else Err (BadLimit line.number)

-- how many line ends a text has
abbrev pub line_ends : List ℕ → ℕ
line_ends text = count_by (λ b. b == 10) text

-- what a text means: a script, or the fault of its first faulty line
unfoldable pub meaning_of : List ℕ → Result Plan ScriptFault
meaning_of text =
    if nat_lt 1048576 (length text) then Err TooLong
    else plan_of (1 + line_ends text) (significant_from 1 text)

-- ---- the text of answers

-- the byte that ends a line
abbrev pub line_end : List ℕ
line_end = 10 ∷ []

-- the line of a row
abbrev pub row_line : Row → List ℕ
row_line row =
    codes "class " ++ decimal row.class ++ codes " size " ++ decimal row.size ++ codes " count " ++ decimal row.count ++ line_end

-- the lines of an answer: one, and of a full report also one for each row
unfoldable pub lines_of_answer : Answer → List ℕ
lines_of_answer (machine.Grant number offset) =
    codes "grant " ++ decimal number ++ codes " at " ++ decimal offset ++ line_end
lines_of_answer machine.Refused = codes "none" ++ line_end
lines_of_answer machine.Freed = codes "freed" ++ line_end
lines_of_answer machine.Gone = codes "gone" ++ line_end
lines_of_answer (machine.Size n) = codes "size " ++ decimal n ++ line_end
lines_of_answer (machine.Report free largest) =
    codes "free " ++ decimal free ++ codes " largest " ++ decimal largest ++ line_end
lines_of_answer (machine.Full rows) = codes "full " ++ decimal (length rows) ++ line_end ++ flat_map row_line rows
lines_of_answer machine.Reset = codes "reset" ++ line_end
lines_of_answer machine.Extended = codes "extended" ++ line_end

-- the text of the answers
abbrev pub text_of : List Answer → List ℕ
text_of answers = flat_map lines_of_answer answers
