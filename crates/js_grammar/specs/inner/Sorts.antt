-- What the trees of a reading are, so that every node has the parts that its production has.
use Rattle.std.specs.Prelude.{◌≡◌, ℕ, zero, suc, Bool, true, false, ◌||◌, ◌&&◌, nat_eq, List, [], ◌∷◌, length, Option, Some, None}
use Rattle.js_tokens.specs.declared.word.Word.{Word}
use Rattle.js_tree.specs.declared.production.Production.{Production}
use Rattle.js_tree.specs.declared.production.Production.TheVariants as p
use Rattle.js_grammar.specs.declared.symbol.Build.{Build}
use Rattle.js_grammar.specs.declared.symbol.Build.TheVariants as build
use Rattle.js_grammar.specs.declared.symbol.Nonterminal.{Nonterminal}
use Rattle.js_grammar.specs.declared.symbol.Nonterminal.TheVariants as n
use Rattle.js_grammar.specs.declared.symbol.Open.{Open}
use Rattle.js_grammar.specs.declared.symbol.Symbol.{Symbol}
use Rattle.js_grammar.specs.declared.symbol.Symbol.TheVariants.{Word as T, End, Semicolon, FreeSemicolon, Never, Part, Build as Makes, Leave}
use Rattle.js_grammar.specs.inner.Ranks.{stops}

-- a node, a text, a part that isn't there, or one that may not be there; lists of these and of pairs; pairs
pub data Sort : Type 0 where
  Node : Sort
  Text : Sort
  Gap : Sort
  Maybe_node : Sort
  Maybe_text : Sort
  -- a list without items, which is one of every sort
  Empty : Sort
  Nodes : Sort
  Maybe_nodes : Sort
  Elements : Sort
  Words : Sort
  -- a text and a node; a text and a node that may not be there
  Entry : Sort
  Entries : Sort
  Declarator : Sort
  Declarators : Sort
  -- a node that may not be there and a list of nodes
  Case : Sort
  Cases : Sort
  -- a text and a list of nodes
  Catch : Sort
  Maybe_catch : Sort
  Body : Sort
  -- a whole text
  Root : Sort

-- what is of the first sort is of the second
abbrev pub is_of : Sort → Sort → Bool
is_of Node Node = true
is_of Node Maybe_node = true
is_of Text Text = true
is_of Text Maybe_text = true
is_of Gap Gap = true
is_of Gap Maybe_node = true
is_of Gap Maybe_text = true
is_of Gap Maybe_nodes = true
is_of Gap Maybe_catch = true
is_of Maybe_node Maybe_node = true
is_of Maybe_text Maybe_text = true
is_of Empty Empty = true
is_of Empty Nodes = true
is_of Empty Maybe_nodes = true
is_of Empty Elements = true
is_of Empty Words = true
is_of Empty Entries = true
is_of Empty Declarators = true
is_of Empty Cases = true
is_of Nodes Nodes = true
is_of Nodes Maybe_nodes = true
is_of Nodes Elements = true
is_of Maybe_nodes Maybe_nodes = true
is_of Elements Elements = true
is_of Words Words = true
is_of Entry Entry = true
is_of Entry Declarator = true
is_of Entries Entries = true
is_of Entries Declarators = true
is_of Declarator Declarator = true
is_of Declarators Declarators = true
is_of Case Case = true
is_of Cases Cases = true
is_of Catch Catch = true
is_of Catch Maybe_catch = true
is_of Maybe_catch Maybe_catch = true
is_of Body Body = true
is_of Root Root = true
is_of _ _ = false

-- the parts of a node, from left to right (ECMA-262 edition 5.1, clauses 11 to 14)
abbrev pub parts_of : Production → List Sort
parts_of p.Name = Text ∷ []
parts_of p.Text = Text ∷ []
parts_of p.Array = Elements ∷ []
parts_of p.Object = Entries ∷ []
parts_of p.Function = Maybe_text ∷ Words ∷ Body ∷ []
parts_of p.Member = Node ∷ Text ∷ []
parts_of p.Index = Node ∷ Node ∷ []
parts_of p.Call = Node ∷ Nodes ∷ []
parts_of p.New = Node ∷ Nodes ∷ []
parts_of (p.Postfix _) = Node ∷ []
parts_of (p.Prefix _) = Node ∷ []
parts_of (p.Unary _) = Node ∷ []
parts_of (p.Binary _) = Node ∷ Node ∷ []
parts_of p.And = Node ∷ Node ∷ []
parts_of p.Or = Node ∷ Node ∷ []
parts_of p.Conditional = Node ∷ Node ∷ Node ∷ []
parts_of (p.Assign _) = Node ∷ Node ∷ []
parts_of p.Comma = Node ∷ Node ∷ []
parts_of p.Block = Nodes ∷ []
parts_of p.Var = Declarators ∷ []
parts_of p.Expression = Node ∷ []
parts_of p.If = Node ∷ Node ∷ Maybe_node ∷ []
parts_of p.DoWhile = Node ∷ Node ∷ []
parts_of p.While = Node ∷ Node ∷ []
parts_of p.For = Maybe_node ∷ Maybe_node ∷ Maybe_node ∷ Node ∷ []
parts_of p.ForIn = Node ∷ Node ∷ Node ∷ []
parts_of p.Continue = Maybe_text ∷ []
parts_of p.Break = Maybe_text ∷ []
parts_of p.Return = Maybe_node ∷ []
parts_of p.Labelled = Text ∷ Node ∷ []
parts_of p.Switch = Node ∷ Cases ∷ []
parts_of p.Throw = Node ∷ []
parts_of p.Try = Nodes ∷ Maybe_catch ∷ Maybe_nodes ∷ []
parts_of p.Declaration = Text ∷ Words ∷ Body ∷ []
parts_of p.Program = Nodes ∷ []
parts_of p.Handler = Nodes ∷ []
parts_of p.Body = Nodes ∷ []
parts_of _ = []

abbrev pub sort_of : Production → Sort
sort_of p.Body = Body
sort_of p.Program = Root
sort_of p.Handler = Root
sort_of _ = Node

abbrev pub onto : List Sort → List Sort → List Sort
onto [] cs = cs
onto (d ∷ ds) cs = onto ds (d ∷ cs)

abbrev pub chosen : Bool → Option (List Sort) → Option (List Sort)
chosen true o = o
chosen false o = None

-- the last sorts are these, the last one first; what stands before them
abbrev pub without : List Sort → List Sort → Option (List Sort)
without [] cs = Some cs
without (d ∷ ds) [] = None
without (d ∷ ds) (c ∷ cs) = chosen (is_of c d) (without ds cs)

-- a list with one item more
abbrev pub added : Sort → Sort → Option Sort
added Empty Node = Some Nodes
added Nodes Node = Some Nodes
added Empty Gap = Some Elements
added Nodes Gap = Some Elements
added Elements Gap = Some Elements
added Elements Node = Some Elements
added Empty Text = Some Words
added Words Text = Some Words
added Empty Entry = Some Entries
added Entries Entry = Some Entries
added Empty Declarator = Some Declarators
added Entries Declarator = Some Declarators
added Declarators Declarator = Some Declarators
added Declarators Entry = Some Declarators
added Empty Case = Some Cases
added Cases Case = Some Cases
added _ _ = None

-- two parts as one
abbrev pub paired : Sort → Sort → Option Sort
paired Text Node = Some Entry
paired Text Gap = Some Declarator
paired Text Maybe_node = Some Declarator
paired Node Nodes = Some Case
paired Node Empty = Some Case
paired Gap Nodes = Some Case
paired Gap Empty = Some Case
paired Text Nodes = Some Catch
paired Text Empty = Some Catch
paired _ _ = None

abbrev pub in_front : Option Sort → List Sort → Option (List Sort)
in_front None cs = None
in_front (Some c) cs = Some (c ∷ cs)

abbrev pub before : Sort → Option (List Sort) → Option (List Sort)
before c None = None
before c (Some cs) = Some (c ∷ cs)

-- an empty list, or a pair
abbrev pub grouped : ℕ → List Sort → Option (List Sort)
grouped zero cs = Some (Empty ∷ cs)
grouped (suc (suc zero)) (d ∷ c ∷ cs) = in_front (paired c d) cs
grouped _ _ = None

-- the sorts behind a making, the last one first; none where it doesn't fit
abbrev pub made : Build → List Sort → Option (List Sort)
made (build.Node q _ count) cs = chosen (nat_eq count (length (parts_of q))) (before (sort_of q) (without (onto (parts_of q) []) cs))
made (build.Root q) cs = before Root (without (Nodes ∷ []) cs)
made (build.Group count) cs = grouped count cs
made build.Add (d ∷ c ∷ cs) = in_front (added c d) cs
made build.Add _ = None
made build.Missing cs = Some (Gap ∷ cs)
made (build.Text _) cs = Some (Text ∷ cs)

-- what a part takes, the last one first
abbrev pub takes : Nonterminal → List Sort
takes (n.Commas _ _) = Node ∷ []
takes (n.Assigned _ _) = Node ∷ []
takes (n.Choice _ _) = Node ∷ []
takes (n.Operators _ _ _) = Node ∷ []
takes (n.Postfix _) = Node ∷ []
takes (n.Prefixed _ _) = Node ∷ []
takes (n.Operated _ _) = Node ∷ []
takes (n.Tail _) = Node ∷ []
takes (n.MemberTail _) = Node ∷ []
takes (n.Key _) = Node ∷ []
takes (n.Given _) = Node ∷ []
takes n.FirstArgument = Nodes ∷ []
takes n.MoreArguments = Nodes ∷ []
takes n.Elements = Elements ∷ []
takes n.MoreElements = Elements ∷ []
takes n.Entries = Entries ∷ []
takes n.MoreEntries = Entries ∷ []
takes n.Parameters = Words ∷ []
takes n.MoreParameters = Words ∷ []
takes n.Sources = Nodes ∷ []
takes n.Statements = Nodes ∷ []
takes (n.Declarator _) = Declarators ∷ []
takes (n.MoreDeclarators _) = Declarators ∷ []
takes (n.Else _) = Node ∷ Node ∷ []
takes (n.ForObject _) = Node ∷ []
takes (n.ForStart _) = Maybe_node ∷ []
takes (n.Cases _) = Cases ∷ []
takes (n.Handlers _) = Nodes ∷ []
takes (n.Finally _) = Maybe_catch ∷ Nodes ∷ []
takes _ = []

-- and what it leaves
abbrev pub gives : Nonterminal → Sort
gives n.Arguments = Nodes
gives n.FirstArgument = Nodes
gives n.MoreArguments = Nodes
gives n.Elements = Elements
gives n.MoreElements = Elements
gives n.Entries = Entries
gives n.MoreEntries = Entries
gives n.Entry = Entry
gives n.OwnName = Maybe_text
gives n.Name = Text
gives n.Parameters = Words
gives n.MoreParameters = Words
gives n.Body = Body
gives n.Sources = Nodes
gives n.Statements = Nodes
gives n.Braced = Nodes
gives (n.Declarations _) = Declarators
gives (n.Declarator _) = Declarators
gives (n.MoreDeclarators _) = Declarators
gives (n.Initialiser _) = Maybe_node
gives n.ForTest = Maybe_node
gives n.ForUpdate = Maybe_node
gives (n.Cases _) = Cases
gives _ = Node

-- these symbols lead from trees of these sorts to one of this sort, or nothing goes on
abbrev pub leads : List Symbol → Option (List Sort) → Sort → Bool
leads s None d = false
leads [] (Some (c ∷ [])) d = is_of c d
leads [] (Some _) d = false
leads (Makes b ∷ s) (Some cs) d = leads s (made b cs) d
leads (Part x ∷ s) (Some cs) d = stops x || leads s (before (gives x) (without (takes x) cs)) d
leads (Never ∷ s) (Some cs) d = true
leads (End ∷ s) (Some cs) d = false
leads (T v ∷ s) (Some cs) d = leads s (Some cs) d
leads (Semicolon ∷ s) (Some cs) d = leads s (Some cs) d
leads (FreeSemicolon ∷ s) (Some cs) d = leads s (Some cs) d
leads (Leave o ∷ s) (Some cs) d = leads s (Some cs) d

-- so many trees, each of the sort that stands there
abbrev pub are_of : List Sort → List Sort → Bool
are_of [] [] = true
are_of (c ∷ cs) (d ∷ ds) = is_of c d && are_of cs ds
are_of _ _ = false

-- what is to be read leads from trees of these sorts, the last one first, to a whole text, or stops before
pub data IsSorted : List Symbol → List Sort → Type 0 where
  widens : {s : List Symbol} (cs ds : List Sort) → are_of cs ds ≡ true → IsSorted s ds → IsSorted s cs
  ends : IsSorted (End ∷ []) (Root ∷ [])
  never : {s : List Symbol} {cs : List Sort} → IsSorted (Never ∷ s) cs
  makes : {b : Build} {s : List Symbol} {cs : List Sort} (ds : List Sort) → made b cs ≡ Some ds → IsSorted s ds → IsSorted (Makes b ∷ s) cs
  stopped : {x : Nonterminal} {s : List Symbol} {cs : List Sort} → stops x ≡ true → IsSorted (Part x ∷ s) cs
  part : {x : Nonterminal} {s : List Symbol} {cs : List Sort} (ds : List Sort) → without (takes x) cs ≡ Some ds → IsSorted s (gives x ∷ ds) → IsSorted (Part x ∷ s) cs
  word : {v : Word} {s : List Symbol} {cs : List Sort} → IsSorted s cs → IsSorted (T v ∷ s) cs
  semicolon : {s : List Symbol} {cs : List Sort} → IsSorted s cs → IsSorted (Semicolon ∷ s) cs
  free_semicolon : {s : List Symbol} {cs : List Sort} → IsSorted s cs → IsSorted (FreeSemicolon ∷ s) cs
  leaves : {o : Open} {s : List Symbol} {cs : List Sort} → IsSorted s cs → IsSorted (Leave o ∷ s) cs
