-- What a text is read as, and where it is refused (ECMA-262 edition 5.1, clause 14, in a profile).
use Rattle.std.specs.Prelude.{ℕ, List}
use Rattle.js_tokens.specs.declared.token.LexFault.{LexFault}
use Rattle.js_tokens.specs.declared.token.LexFault.TheVariants as lex
use Rattle.js_tree.specs.Arena.{Arena}
use Rattle.js_tree.specs.TreeAt.{root_tree}
use Rattle.js_grammar.specs.declared.sight.Names.{Names}
use Rattle.js_grammar.specs.declared.symbol.Start.{Start}
use Rattle.js_grammar.specs.Programs.{IsVerdict, Reads, UnexpectedAt, TooDeepAt}
use Rattle.js_parser.specs.declared.fault.SyntaxFault.{SyntaxFault}
use Rattle.js_parser.specs.declared.fault.SyntaxFault.TheVariants as fault

-- the place where a text is refused
abbrev pub IsRefused : Names → Start → List ℕ → SyntaxFault → Type 0
IsRefused names start units (fault.Unexpected i) = IsVerdict names start units (UnexpectedAt i)
IsRefused names start units (fault.TooDeep i) = IsVerdict names start units (TooDeepAt i)
IsRefused names start units fault.NoMemory = Unit {0}

-- the arena holds the program that the text is at its last node
abbrev pub IsProgramOf : Names → Start → List ℕ → Arena → Type 0
IsProgramOf names start units arena = IsVerdict names start units (Reads (root_tree arena))

-- a text without tokens is refused at the first place where none begins
abbrev pub fault_of : LexFault → SyntaxFault
fault_of (lex.NoToken i) = fault.Unexpected i
fault_of lex.NoMemory = fault.NoMemory
