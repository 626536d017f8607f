-- How the code splits a line, whose row takes one field.
use Rattle.std.specs.Prelude.{◌≡◌, ◌≢◌, ◌⊎◌, ℕ, List, [], ◌∷◌, Result, Ok, Err, All, MatchResult}
use Rattle.arrival_file.specs.declared.arrival.ArrivalKind.TheVariants.{Form}
use Rattle.arrival_file.specs.declared.fields.Fields.{Fields}
use Rattle.arrival_file.specs.declared.stop.Stop.{Stop}
use Rattle.arrival_file.specs.declared.stop.Stop.TheVariants.{Breaks, NoMemory}
use Rattle.arrival_file.specs.Lines.{GivesBy, Line, Parsed, whole_line}

-- neither a space nor a line feed stands there
abbrev pub IsField : List ℕ → Type 0
IsField field = All (λ b. (b ≢ 32) × (b ≢ 10)) field

-- a space, a line feed or the end stands there
abbrev pub EndsField : List ℕ → Type 0
EndsField [] = Unit {0}
EndsField (b ∷ more) = (b ≡ 32) ⊎ (b ≡ 10)

-- the line of these fields
abbrev pub seen : Fields → Line
seen fields =
    record { word = fields.word.now; fields = fields.field.now ∷ []; after = fields.after.now }

-- a line of no field or of several
pub record HasOtherCount (line : Line) : Type 0 where
  pub other : (field : List ℕ) → line.fields ≢ field ∷ []

-- why a line with one field isn't there
abbrev pub HasNone : Parsed Line → Stop → Type 0
HasNone line stop =
    (line ≡ Err stop)
    ⊎ ((stop ≡ Breaks Form) × ((found : Line) × (line ≡ Ok found) × HasOtherCount found))

-- a line with one field is split
abbrev pub Splits : Result Fields Stop → List ℕ → Type 0
Splits result bytes =
    MatchResult result (λ fields. whole_line bytes ≡ Ok (seen fields))
    (λ stop. HasNone (whole_line bytes) stop)

-- a step gives what is expected, seen by `view`
abbrev pub Gives : {T U : Type 0} → (T → U) → Result T Stop → Parsed U → Type 0
Gives view result expected = GivesBy NoMemory view result expected
