-- A line of an arrival file, and what a step of reading comes to.
use Rattle.std.specs.Prelude.{◌≡◌, ◌⊎◌, ℕ, Bool, ◌||◌, ◌==◌, List, [], ◌∷◌, codes, if◌then◌else◌}
use Rattle.std.specs.Prelude.{Option, None, Some, option_map, ok_or, Result, Ok, Err, MatchResult}
use Rattle.std.specs.Str.{bytes_eq}
use Rattle.arrival_file.specs.declared.arrival.ArrivalFault.{ArrivalFault}
use Rattle.arrival_file.specs.declared.arrival.ArrivalFault.TheVariants as fault
use Rattle.arrival_file.specs.declared.arrival.ArrivalKind.TheVariants.{Form}
use Rattle.arrival_file.specs.declared.stop.Stop.{Stop}
use Rattle.arrival_file.specs.declared.stop.Stop.TheVariants.{Breaks, NotBuilt, NoMemory}

-- ---- what a step comes to

-- what is read, or why a line isn't
abbrev pub Parsed : Type 0 → Type 0
Parsed T = Result T Stop

-- the next step, unless this one stops
abbrev pub and_then : {T U E : Type 0} → Result T E → (T → Result U E) → Result U E
and_then (Ok x) next = next x
and_then (Err e) next = Err e

-- why the line of a number isn't read
abbrev pub fault_at : Stop → ℕ → ArrivalFault
fault_at (Breaks kind) number = fault.Line number kind
fault_at NotBuilt number = fault.NotBuilt number
fault_at NoMemory number = fault.NoMemory

-- what is read of the line of this number, or its fault
abbrev pub at : {T : Type 0} → ℕ → Parsed T → Result T ArrivalFault
at number (Ok x) = Ok x
at number (Err stop) = Err (fault_at stop number)

-- the result, seen by `view`, is the expected one, unless memory was out
abbrev pub GivesBy : {T U E : Type 0} → E → (T → U) → Result T E → Result U E → Type 0
GivesBy out_of_memory view result expected =
    MatchResult result (λ x. expected ≡ Ok (view x))
    (λ e. (expected ≡ Err e) ⊎ (e ≡ out_of_memory))

-- ---- lines

-- a line: its word, the fields after it, each behind one space, and the bytes after its line feed
pub record Line : Type 0 where
  pub word : List ℕ
  pub fields : List (List ℕ)
  pub after : List ℕ

-- a byte in front of a line: a space makes the word a field
abbrev pub longer : ℕ → Line → Line
longer b line =
    if b == 32 then record { word = []; fields = line.word ∷ line.fields; after = line.after }
    else record { word = b ∷ line.word; fields = line.fields; after = line.after }

-- the first line; none where no line feed comes
unfoldable pub line_of : List ℕ → Option Line
line_of [] = None
line_of (b ∷ bytes) =
    if b == 10 then Some (record { word = []; fields = []; after = bytes })
    else option_map (longer b) (line_of bytes)

-- a byte that ends a word
abbrev pub is_end : ℕ → Bool
is_end b = b == 32 || b == 10

-- the bytes before the first space or line feed
unfoldable pub word_of : List ℕ → List ℕ
word_of [] = []
word_of (b ∷ bytes) = if is_end b then [] else b ∷ word_of bytes

-- the words of the kinds of lines that aren't read yet
abbrev pub is_later : List ℕ → Bool
is_later word =
    bytes_eq word (codes "resource") || (bytes_eq word (codes "event")
    || (bytes_eq word (codes "input") || (bytes_eq word (codes "timer")
    || (bytes_eq word (codes "reply") || bytes_eq word (codes "fail")))))

-- the first line, unless its word is one of those, whatever stands behind it; without a line feed
-- it breaks the form
abbrev pub whole_line : List ℕ → Parsed Line
whole_line bytes =
    if is_later (word_of bytes) then Err NotBuilt else ok_or (line_of bytes) (Breaks Form)
