-- Which parts are open, as what is still to be read tells.
use Rattle.std.specs.Prelude.{ℕ, ◌+◌, Bool, true, false, ◌||◌, List, [], ◌∷◌}
use Rattle.std.specs.Str.{bytes_eq}
use Rattle.js_grammar.specs.declared.symbol.Open.TheVariants.{Loop, Switch, Labelled, Function}
use Rattle.js_grammar.specs.declared.symbol.Symbol.{Symbol}
use Rattle.js_grammar.specs.declared.symbol.Symbol.TheVariants.{Leave, Build}

-- the nesting: how many parts that count are open
abbrev pub nesting : List Symbol → ℕ
nesting [] = 0
nesting (Leave Function ∷ s) = nesting s
nesting (Leave _ ∷ s) = nesting s + 1
nesting (_ ∷ s) = nesting s

-- a function's body is open (12.9)
abbrev pub in_function : List Symbol → Bool
in_function [] = false
in_function (Leave Function ∷ s) = true
in_function (_ ∷ s) = in_function s

-- in the same function, a loop or switch is open (12.8)
abbrev pub breaks : List Symbol → Bool
breaks [] = false
breaks (Leave Function ∷ s) = false
breaks (Leave Loop ∷ s) = true
breaks (Leave Switch ∷ s) = true
breaks (_ ∷ s) = breaks s

-- in the same function, a loop is open (12.7)
abbrev pub continues : List Symbol → Bool
continues [] = false
continues (Leave Function ∷ s) = false
continues (Leave Loop ∷ s) = true
continues (_ ∷ s) = continues s

-- in the same function, a statement with this label is open (12.8, 12.12)
abbrev pub breaks_to : List ℕ → List Symbol → Bool
breaks_to l [] = false
breaks_to l (Leave Function ∷ s) = false
breaks_to l (Leave (Labelled m) ∷ s) = bytes_eq l m || breaks_to l s
breaks_to l (_ ∷ s) = breaks_to l s

-- the label stands directly around what ends here (12.12): between the two ends trees are made, and nothing is read
abbrev pub labels : List ℕ → List Symbol → Bool
labels l (Build _ ∷ s) = labels l s
labels l (Leave (Labelled m) ∷ s) = bytes_eq l m || labels l s
labels l _ = false

-- in the same function, a loop with this label is open (12.7)
abbrev pub continues_to : List ℕ → List Symbol → Bool
continues_to l [] = false
continues_to l (Leave Function ∷ s) = false
continues_to l (Leave Loop ∷ s) = labels l s || continues_to l s
continues_to l (_ ∷ s) = continues_to l s
