-- Why a reading of a text goes on: how many trees each symbol takes and leaves, and that steps without a word come to an end.
use Rattle.std.specs.Prelude.{◌≡◌, ℕ, ◌+◌, ◌-◌, ◌≤◌, ◌⊎◌, Bool, true, false, ◌||◌, List, [], ◌∷◌, if◌then◌else◌}
use Rattle.js_grammar.specs.declared.symbol.Build.{Build}
use Rattle.js_grammar.specs.declared.symbol.Build.TheVariants as build
use Rattle.js_grammar.specs.declared.symbol.Nonterminal.{Nonterminal}
use Rattle.js_grammar.specs.declared.symbol.Nonterminal.TheVariants as n
use Rattle.js_grammar.specs.declared.symbol.Symbol.{Symbol}
use Rattle.js_grammar.specs.declared.symbol.Symbol.TheVariants.{Word as T, End, Semicolon, FreeSemicolon, Never, Part, Build as Makes, Leave}

-- how many trees a making takes
abbrev pub taken : Build → ℕ
taken (build.Node _ _ count) = count
taken (build.Root _) = 1
taken (build.Group count) = count
taken build.Add = 2
taken build.Missing = 0
taken (build.Text _) = 0

-- how many there are behind it
abbrev pub left : Build → ℕ → ℕ
left (build.Node _ _ count) c = c - count + 1
left (build.Root _) c = c
left (build.Group count) c = c - count + 1
left build.Add c = c - 1
left build.Missing c = c + 1
left (build.Text _) c = c + 1

-- how many trees a part takes; it leaves one
abbrev pub needs : Nonterminal → ℕ
needs (n.Commas _ _) = 1
needs (n.Assigned _ _) = 1
needs (n.Choice _ _) = 1
needs (n.Operators _ _ _) = 1
needs (n.Postfix _) = 1
needs (n.Prefixed _ _) = 1
needs (n.Operated _ _) = 1
needs (n.Tail _) = 1
needs (n.MemberTail _) = 1
needs (n.Key _) = 1
needs (n.Given _) = 1
needs n.FirstArgument = 1
needs n.MoreArguments = 1
needs n.Elements = 1
needs n.MoreElements = 1
needs n.Entries = 1
needs n.MoreEntries = 1
needs n.Parameters = 1
needs n.MoreParameters = 1
needs n.Sources = 1
needs n.Statements = 1
needs (n.Declarator _) = 1
needs (n.MoreDeclarators _) = 1
needs (n.Else _) = 2
needs (n.ForObject _) = 1
needs (n.ForStart _) = 1
needs (n.Cases _) = 1
needs (n.Handlers _) = 1
needs (n.Finally _) = 2
needs _ = 0

-- nothing goes on behind this part
abbrev pub stops : Nonterminal → Bool
stops n.Accessed = true
stops _ = false

-- what is to be read leads from so many trees to one at the end, or stops before
abbrev pub Balanced : List Symbol → ℕ → Type 0
Balanced [] c = ⊥
Balanced (End ∷ s) c = (c ≡ 1) × (s ≡ [])
Balanced (Never ∷ s) c = Unit {0}
Balanced (Makes b ∷ s) c = (taken b ≤ c) × Balanced s (left b c)
Balanced (Part x ∷ s) c = (stops x ≡ true) ⊎ ((needs x ≤ c) × Balanced s (c - needs x + 1))
Balanced (T v ∷ s) c = Balanced s c
Balanced (Semicolon ∷ s) c = Balanced s c
Balanced (FreeSemicolon ∷ s) c = Balanced s c
Balanced (Leave o ∷ s) c = Balanced s c

-- the part reads a word, or the text ends in it
abbrev pub reads_a_word : Nonterminal → Bool
reads_a_word (n.Assigned _ _) = false
reads_a_word (n.BreakTo _) = false
reads_a_word (n.Choice _ _) = false
reads_a_word (n.Commas _ _) = false
reads_a_word (n.ContinueTo _) = false
reads_a_word (n.Else _) = false
reads_a_word (n.Finally _) = false
reads_a_word (n.Given _) = false
reads_a_word (n.Initialiser _) = false
reads_a_word (n.MemberTail _) = false
reads_a_word (n.MoreDeclarators _) = false
reads_a_word (n.Operated _ _) = false
reads_a_word (n.Operators _ _ _) = false
reads_a_word n.OwnName = false
reads_a_word (n.Postfix _) = false
reads_a_word (n.Prefixed _ _) = false
reads_a_word (n.Returned _) = false
reads_a_word n.Sources = false
reads_a_word n.Statements = false
reads_a_word (n.Tail _) = false
reads_a_word _ = true

-- the rank of a part is above that of what is to be read in its place before a word is read
abbrev pub rank : Nonterminal → ℕ
rank n.Sources = 11
rank n.Statements = 11
rank n.Statement = 10
rank (n.ForHead _) = 10
rank n.ForTest = 10
rank n.ForUpdate = 10
rank (n.Returned _) = 10
rank (n.Thrown _) = 10
rank (n.Expression _) = 9
rank n.FirstArgument = 9
rank n.Elements = 9
rank (n.Assignment _) = 8
rank (n.Conditional _) = 7
rank (n.Operation _ _) = 6
rank (n.ForVar _ _) = 6
rank (n.Updated _ _) = 6
rank (n.Operand _ _) = 6
rank (n.TargetOperand _ _) = 6
rank n.Unary = 5
rank n.Target = 5
rank n.Callee = 5
rank (n.Declarations _) = 5
rank n.LeftHand = 4
rank n.Constructor = 4
rank n.ForTarget = 4
rank (n.ContinueTo _) = 4
rank (n.BreakTo _) = 4
rank (n.Tail _) = 3
rank (n.Declarator _) = 3
rank (n.Given _) = 3
rank n.Primary = 3
rank n.Entries = 3
rank n.Getter = 3
rank n.Setter = 3
rank n.Parameters = 3
rank (n.Else _) = 3
rank (n.Handlers _) = 3
rank (n.Finally _) = 3
rank _ = 2

-- a word is read among these symbols, or the text ends in them
abbrev pub has_word : List Symbol → Bool
has_word [] = false
has_word (T v ∷ s) = true
has_word (End ∷ s) = true
has_word (Never ∷ s) = true
has_word (Part x ∷ s) = reads_a_word x || has_word s
has_word (Makes b ∷ s) = has_word s
has_word (Leave o ∷ s) = has_word s
has_word (Semicolon ∷ s) = has_word s
has_word (FreeSemicolon ∷ s) = has_word s

-- the ranks up to there
abbrev pub front : List Symbol → ℕ
front [] = 0
front (T v ∷ s) = 1
front (End ∷ s) = 1
front (Never ∷ s) = 1
front (Part x ∷ s) = if reads_a_word x then rank x else rank x + front s
front (Makes b ∷ s) = 1 + front s
front (Leave o ∷ s) = 1 + front s
front (Semicolon ∷ s) = 1 + front s
front (FreeSemicolon ∷ s) = 1 + front s
