-- The arrival file as a function from its bytes to what they say, line by line, with a row for each
-- kind of line.
-- A row tries the kinds of faults in one order: form, number, size, url, twice, order, length,
-- utf8.
use Rattle.std.specs.Prelude.{ℕ, zero, suc, ◌+◌, Bool, false, ◌&&◌, nat_lt, List, [], ◌∷◌, ◌++◌}
use Rattle.std.specs.Prelude.{length, codes, decimal, if◌then◌else◌, Option, None, Some}
use Rattle.std.specs.Prelude.{option_to_list, Result, Ok, Err}
use Rattle.std.specs.List.{list_all}
use Rattle.std.specs.Char.{is_ascii}
use Rattle.std.specs.Str.{bytes_eq}
use Rattle.std.specs.Str.Parse.{digits_value}
use Rattle.mug_text.specs.declared.limits.TheConstants.{SAFE_END}
use Rattle.url.specs.Parser.{Parsed as UrlOr, parse_url}
use Rattle.url.specs.Parts.{Parts, serialize}
use Rattle.arrival_file.specs.declared.limits.TheConstants.{FILE_LIMIT, WORD_END}
use Rattle.arrival_file.specs.declared.arrival.Arrival.{Arrival}
use Rattle.arrival_file.specs.declared.arrival.ArrivalFault.{ArrivalFault}
use Rattle.arrival_file.specs.declared.arrival.ArrivalFault.TheVariants as fault
use Rattle.arrival_file.specs.declared.arrival.ArrivalKind.TheVariants.{Form, Number, Size, Url}
use Rattle.arrival_file.specs.declared.arrival.ArrivalKind.TheVariants.{Order}
use Rattle.arrival_file.specs.declared.arrival.Arrivals.{Arrivals}
use Rattle.arrival_file.specs.declared.arrival.Turn.{Turn}
use Rattle.arrival_file.specs.declared.arrival.Turn.TheVariants.{Load}
use Rattle.arrival_file.specs.declared.stop.Stop.TheVariants.{Breaks}
use Rattle.arrival_file.specs.Lines.{GivesBy, Line, Parsed, and_then, at, whole_line}

-- ---- fields

-- one field after the word, and no other
abbrev pub one_field : {T : Type 0} → List (List ℕ) → (List ℕ → Parsed T) → Parsed T
one_field (field ∷ []) row = row field
one_field fields row = Err (Breaks Form)

-- a number below `end`, in decimal digits without a sign and without a zero in front
abbrev pub number : ℕ → List ℕ → Parsed ℕ
number end field =
    let n = digits_value 10 field in
    if nat_lt n end && bytes_eq (decimal n) field then Ok n else Err (Breaks Number)

-- this is what the field reads as, and its serialisation is the field
abbrev pub is_serialised : List ℕ → UrlOr Parts → Bool
is_serialised field (Ok url) = bytes_eq (serialize url) field
is_serialised field (Err e) = false

-- a URL as it is serialised, in ASCII
abbrev pub url : List ℕ → Parsed (List ℕ)
url field =
    if list_all is_ascii field && is_serialised field (parse_url None field) then Ok field
    else Err (Breaks Url)

-- ---- the first two lines

-- `mugshot-arrivals 1`: the bytes after it are left
abbrev pub header_row : Line → Parsed (List ℕ)
header_row line =
    if bytes_eq line.word (codes "mugshot-arrivals") then one_field line.fields
    (λ version. if bytes_eq version (codes "1") then Ok line.after else Err (Breaks Form))
    else Err (Breaks Form)

-- `base URL`: the URL, and the bytes after the line
abbrev pub base_row : Line → Parsed (List ℕ × List ℕ)
base_row line =
    if bytes_eq line.word (codes "base") then one_field line.fields
    (λ field. and_then (url field) (λ base. Ok (base, line.after)))
    else Err (Breaks Form)

-- ---- the other lines

-- what they say so far: the turn that has begun, with its readings
abbrev pub SoFar : Type 0
SoFar = Option Arrival

-- the first turn; no other one follows it
abbrev pub begins : SoFar → Turn → Parsed Arrival
begins None turn = Ok (record { turn = turn; nows = []; rands = [] })
begins (Some arrival) turn = Err (Breaks Order)

-- a reading of the clock of the turn that has begun
abbrev pub with_now : SoFar → ℕ → Parsed Arrival
with_now None v = Err (Breaks Order)
with_now (Some arrival) v = Ok (record arrival { nows = arrival.nows ++ v ∷ [] })

-- a random word of it
abbrev pub with_rand : SoFar → ℕ → Parsed Arrival
with_rand None w = Err (Breaks Order)
with_rand (Some arrival) w = Ok (record arrival { rands = arrival.rands ++ w ∷ [] })

-- `load T`, `now V` and `rand W`, by the field
abbrev pub load : SoFar → List ℕ → Parsed Arrival
load so_far field = and_then (number SAFE_END field) (λ t. begins so_far (Load t))

abbrev pub now : SoFar → List ℕ → Parsed Arrival
now so_far field = and_then (number SAFE_END field) (λ v. with_now so_far v)

abbrev pub rand : SoFar → List ℕ → Parsed Arrival
rand so_far field = and_then (number WORD_END field) (λ w. with_rand so_far w)

-- a line of one field and no body: what is said then, and the bytes after the line
abbrev pub alone : Line → (List ℕ → Parsed Arrival) → Parsed (SoFar × List ℕ)
alone line row = and_then (one_field line.fields row) (λ arrival. Ok (Some arrival, line.after))

-- a row for each kind of line
abbrev pub row : SoFar → Line → Parsed (SoFar × List ℕ)
row so_far line =
    if bytes_eq line.word (codes "load") then alone line (load so_far)
    else if bytes_eq line.word (codes "now") then alone line (now so_far)
    else if bytes_eq line.word (codes "rand") then alone line (rand so_far)
    else Err (Breaks Form)

-- ---- the file

-- so many lines at most, of which the first has this number; the bytes are read to their end
unfoldable pub lines : ℕ → ℕ → SoFar → List ℕ → Result SoFar ArrivalFault
lines zero number so_far bytes = Ok so_far
lines (suc n) number so_far [] = Ok so_far
lines (suc n) number so_far (b ∷ bytes) =
    and_then (at number (and_then (whole_line (b ∷ bytes)) (row so_far)))
    (λ (so_far', after). lines n (number + 1) so_far' after)

-- the lines after the first two, each of which has a byte at least
abbrev pub turns : List ℕ → Result (List Arrival) ArrivalFault
turns bytes = and_then (lines (length bytes) 3 None bytes) (λ so_far. Ok (option_to_list so_far))

-- what the bytes of a file say
abbrev pub arrivals_of : List ℕ → Result Arrivals ArrivalFault
arrivals_of bytes =
    if nat_lt FILE_LIMIT (length bytes) then Err (fault.Line 0 Size)
    else and_then (at 1 (and_then (whole_line bytes) header_row)) (λ after_header.
    and_then (at 2 (and_then (whole_line after_header) base_row)) (λ (base, after).
    and_then (turns after) (λ turns. Ok (record { base = base; turns = turns }))))

-- a call answers by the file, unless memory was out
abbrev pub Answers : Result Arrivals ArrivalFault → List ℕ → Type 0
Answers result bytes = GivesBy fault.NoMemory (λ arrivals. arrivals) result (arrivals_of bytes)
