-- The productions of scripts (ECMA-262 edition 5.1, clauses 11 to 14, in a profile). For a part, what is to be read behind it,
-- what is seen, and the trees that were read, `produce` gives what is to be read in its place.
--
-- A part goes on for as long as what is seen can go on with it. So `else` belongs to the nearest `if` (12.5), and a semicolon
-- that is inserted goes on with nothing.
use Rattle.std.specs.Prelude.{ℕ, ◌+◌, Bool, true, false, ◌&&◌, not, nat_le, List, [], ◌∷◌, codes, Option, Some, None, if◌then◌else◌}
use Rattle.std.specs.Str.{bytes_eq}
use Rattle.js_tokens.specs.declared.word.Word.TheVariants as w
use Rattle.js_tree.specs.declared.production.Production.{Production}
use Rattle.js_tree.specs.declared.production.Production.TheVariants as p
use Rattle.js_tree.specs.declared.production.BinaryOperator.TheVariants as binary
use Rattle.js_tree.specs.declared.production.UnaryOperator.TheVariants as unary
use Rattle.js_tree.specs.declared.production.UnaryOperator.{UnaryOperator}
use Rattle.js_tree.specs.declared.production.UpdateOperator.TheVariants as update
use Rattle.js_tree.specs.declared.production.UpdateOperator.{UpdateOperator}
use Rattle.js_tree.specs.Trees.{Tree, Made}
use Rattle.js_grammar.specs.declared.sight.Seen.{Seen}
use Rattle.js_grammar.specs.declared.sight.Seen.TheVariants as seen
use Rattle.js_grammar.specs.declared.sight.Sight.{Sight}
use Rattle.js_grammar.specs.declared.symbol.Form.{Form}
use Rattle.js_grammar.specs.declared.symbol.Form.TheVariants.{Full, NoIn}
use Rattle.js_grammar.specs.declared.symbol.Nonterminal.{Nonterminal}
use Rattle.js_grammar.specs.declared.symbol.Nonterminal.TheVariants as n
use Rattle.js_grammar.specs.declared.symbol.Build.TheVariants as build
use Rattle.js_grammar.specs.declared.symbol.Open.TheVariants as open_part
use Rattle.js_grammar.specs.declared.symbol.Symbol.{Symbol}
use Rattle.js_grammar.specs.declared.symbol.Symbol.TheVariants.{Semicolon, FreeSemicolon, Never, Part, Build, Leave}
use Rattle.js_grammar.specs.declared.symbol.Symbol.TheVariants.{Word as T}
use Rattle.js_grammar.specs.Sights.{may_insert}
use Rattle.js_grammar.specs.Parts.{in_function, breaks, continues, breaks_to, continues_to}

-- a node of a production, from a place, of the last so many trees
abbrev pub node : Production → ℕ → ℕ → Symbol
node q from count = Build (build.Node q from count)

abbrev pub list : Symbol
list = Build (build.Group 0)

abbrev pub pair : Symbol
pair = Build (build.Group 2)

abbrev pub add : Symbol
add = Build build.Add

abbrev pub missing : Symbol
missing = Build build.Missing

abbrev pub text : List ℕ → Symbol
text t = Build (build.Text t)

-- an expression begins so, where no function and no object literal may (12.4)
abbrev pub begins : Seen → Bool
begins (seen.Word w.Name) = true
begins (seen.Word w.Number) = true
begins (seen.Word w.Text) = true
begins (seen.Word w.This) = true
begins (seen.Word w.Null) = true
begins (seen.Word w.True) = true
begins (seen.Word w.False) = true
begins (seen.Word w.OpenParen) = true
begins (seen.Word w.OpenBracket) = true
begins (seen.Word w.New) = true
begins (seen.Word w.Delete) = true
begins (seen.Word w.Void) = true
begins (seen.Word w.TypeOf) = true
begins (seen.Word w.PlusPlus) = true
begins (seen.Word w.MinusMinus) = true
begins (seen.Word w.Plus) = true
begins (seen.Word w.Minus) = true
begins (seen.Word w.BitNot) = true
begins (seen.Word w.Not) = true
begins _ = false

-- a statement begins so; `return` within a function alone (12.9)
abbrev pub starts : List Symbol → Seen → Bool
starts s (seen.Word w.OpenBrace) = true
starts s (seen.Word w.Var) = true
starts s (seen.Word w.Semicolon) = true
starts s (seen.Word w.If) = true
starts s (seen.Word w.Do) = true
starts s (seen.Word w.While) = true
starts s (seen.Word w.For) = true
starts s (seen.Word w.Continue) = true
starts s (seen.Word w.Break) = true
starts s (seen.Word w.Return) = in_function s
starts s (seen.Word w.Switch) = true
starts s (seen.Word w.Throw) = true
starts s (seen.Word w.Try) = true
starts s u = begins u

-- a reserved word (7.6.1) or a name
abbrev pub is_key : Seen → Bool
is_key (seen.Word w.Name) = true
is_key (seen.Word w.Break) = true
is_key (seen.Word w.Case) = true
is_key (seen.Word w.Catch) = true
is_key (seen.Word w.Continue) = true
is_key (seen.Word w.Debugger) = true
is_key (seen.Word w.Default) = true
is_key (seen.Word w.Delete) = true
is_key (seen.Word w.Do) = true
is_key (seen.Word w.Else) = true
is_key (seen.Word w.Finally) = true
is_key (seen.Word w.For) = true
is_key (seen.Word w.Function) = true
is_key (seen.Word w.If) = true
is_key (seen.Word w.In) = true
is_key (seen.Word w.InstanceOf) = true
is_key (seen.Word w.New) = true
is_key (seen.Word w.Return) = true
is_key (seen.Word w.Switch) = true
is_key (seen.Word w.This) = true
is_key (seen.Word w.Throw) = true
is_key (seen.Word w.Try) = true
is_key (seen.Word w.TypeOf) = true
is_key (seen.Word w.Var) = true
is_key (seen.Word w.Void) = true
is_key (seen.Word w.While) = true
is_key (seen.Word w.With) = true
is_key (seen.Word w.Class) = true
is_key (seen.Word w.Const) = true
is_key (seen.Word w.Enum) = true
is_key (seen.Word w.Export) = true
is_key (seen.Word w.Extends) = true
is_key (seen.Word w.Import) = true
is_key (seen.Word w.Super) = true
is_key (seen.Word w.Null) = true
is_key (seen.Word w.True) = true
is_key (seen.Word w.False) = true
is_key _ = false

-- what a property may be named by in an object literal (11.1.5): a string and a number too
abbrev pub is_property : Seen → Bool
is_property (seen.Word w.Text) = true
is_property (seen.Word w.Number) = true
is_property u = is_key u

-- the very word that is seen
abbrev pub this_word : Seen → Symbol
this_word (seen.Word v) = T v
this_word _ = Never

-- what may be assigned to stands before: a name or a member (11.13, 11.3, 11.4)
abbrev pub is_target : List Tree → Bool
is_target (Made p.Name _ _ _ ∷ vs) = true
is_target (Made p.Member _ _ _ ∷ vs) = true
is_target (Made p.Index _ _ _ ∷ vs) = true
is_target _ = false

abbrev pub is_bare : List Tree → Bool
is_bare (Made p.Name _ _ _ ∷ vs) = true
is_bare _ = false

-- the level and the production of an operator between operands, from `||` to `*` (11.5 to 11.11)
abbrev pub binary_operator : Form → Seen → Option (ℕ × Production)
binary_operator f (seen.Word w.Or) = Some (1, p.Or)
binary_operator f (seen.Word w.And) = Some (2, p.And)
binary_operator f (seen.Word w.BitOr) = Some (3, p.Binary binary.BitOr)
binary_operator f (seen.Word w.BitXor) = Some (4, p.Binary binary.BitXor)
binary_operator f (seen.Word w.BitAnd) = Some (5, p.Binary binary.BitAnd)
binary_operator f (seen.Word w.Equal) = Some (6, p.Binary binary.Equal)
binary_operator f (seen.Word w.NotEqual) = Some (6, p.Binary binary.NotEqual)
binary_operator f (seen.Word w.Identical) = Some (6, p.Binary binary.Identical)
binary_operator f (seen.Word w.NotIdentical) = Some (6, p.Binary binary.NotIdentical)
binary_operator f (seen.Word w.Less) = Some (7, p.Binary binary.Less)
binary_operator f (seen.Word w.Greater) = Some (7, p.Binary binary.Greater)
binary_operator f (seen.Word w.LessEqual) = Some (7, p.Binary binary.LessEqual)
binary_operator f (seen.Word w.GreaterEqual) = Some (7, p.Binary binary.GreaterEqual)
binary_operator f (seen.Word w.InstanceOf) = Some (7, p.Binary binary.InstanceOf)
binary_operator Full (seen.Word w.In) = Some (7, p.Binary binary.In)
binary_operator f (seen.Word w.ShiftLeft) = Some (8, p.Binary binary.ShiftLeft)
binary_operator f (seen.Word w.ShiftRight) = Some (8, p.Binary binary.ShiftRight)
binary_operator f (seen.Word w.ShiftZero) = Some (8, p.Binary binary.ShiftZero)
binary_operator f (seen.Word w.Plus) = Some (9, p.Binary binary.Add)
binary_operator f (seen.Word w.Minus) = Some (9, p.Binary binary.Subtract)
binary_operator f (seen.Word w.Star) = Some (10, p.Binary binary.Multiply)
binary_operator f (seen.Word w.Slash) = Some (10, p.Binary binary.Divide)
binary_operator f (seen.Word w.Percent) = Some (10, p.Binary binary.Remainder)
binary_operator f _ = None

-- the production of an assignment (11.13)
abbrev pub assignment_operator : Seen → Option Production
assignment_operator (seen.Word w.Assign) = Some (p.Assign None)
assignment_operator (seen.Word w.PlusAssign) = Some (p.Assign (Some binary.Add))
assignment_operator (seen.Word w.MinusAssign) = Some (p.Assign (Some binary.Subtract))
assignment_operator (seen.Word w.StarAssign) = Some (p.Assign (Some binary.Multiply))
assignment_operator (seen.Word w.SlashAssign) = Some (p.Assign (Some binary.Divide))
assignment_operator (seen.Word w.PercentAssign) = Some (p.Assign (Some binary.Remainder))
assignment_operator (seen.Word w.ShiftLeftAssign) = Some (p.Assign (Some binary.ShiftLeft))
assignment_operator (seen.Word w.ShiftRightAssign) = Some (p.Assign (Some binary.ShiftRight))
assignment_operator (seen.Word w.ShiftZeroAssign) = Some (p.Assign (Some binary.ShiftZero))
assignment_operator (seen.Word w.BitAndAssign) = Some (p.Assign (Some binary.BitAnd))
assignment_operator (seen.Word w.BitXorAssign) = Some (p.Assign (Some binary.BitXor))
assignment_operator (seen.Word w.BitOrAssign) = Some (p.Assign (Some binary.BitOr))
assignment_operator _ = None

abbrev pub unary_operator : Seen → Option UnaryOperator
unary_operator (seen.Word w.Delete) = Some unary.Delete
unary_operator (seen.Word w.Void) = Some unary.Void
unary_operator (seen.Word w.TypeOf) = Some unary.TypeOf
unary_operator (seen.Word w.Plus) = Some unary.Plus
unary_operator (seen.Word w.Minus) = Some unary.Minus
unary_operator (seen.Word w.BitNot) = Some unary.BitNot
unary_operator (seen.Word w.Not) = Some unary.Not
unary_operator _ = None

abbrev pub update_operator : Seen → Option UpdateOperator
update_operator (seen.Word w.PlusPlus) = Some update.Increment
update_operator (seen.Word w.MinusMinus) = Some update.Decrement
update_operator _ = None

-- Expressions -------------------------------------------------------------------------------------------------------------

abbrev pub commas : Form → ℕ → Seen → List Symbol
commas f from (seen.Word w.Comma) = T w.Comma ∷ Part (n.Assignment f) ∷ node p.Comma from 2 ∷ Part (n.Commas f from) ∷ []
commas f from _ = []

abbrev pub assigned_by : Form → ℕ → Seen → Option Production → List Symbol
assigned_by f from u None = []
assigned_by f from u (Some q) = this_word u ∷ Part (n.Assignment f) ∷ node q from 2 ∷ []

-- the target is judged at the operator
abbrev pub assigned : Form → ℕ → Seen → List Tree → List Symbol
assigned f from u vs = if is_target vs then assigned_by f from u (assignment_operator u) else []

-- between `?` and `:`, `in` is always an operator (11.12)
abbrev pub choice : Form → ℕ → Seen → List Symbol
choice f from (seen.Word w.Question) = T w.Question ∷ Part (n.Assignment Full) ∷ T w.Colon ∷ Part (n.Assignment f) ∷ node p.Conditional from 3 ∷ []
choice f from _ = []

-- the right operand has operators of a higher level alone, so that those of one level go from left to right
abbrev pub operators_by : ℕ → Form → ℕ → Seen → Option (ℕ × Production) → List Symbol
operators_by least f from u None = []
operators_by least f from u (Some (level, q)) =
    if nat_le least level then this_word u ∷ Part (n.Operation (level + 1) f) ∷ node q from 2 ∷ Part (n.Operators least f from) ∷ [] else []

-- the target of `++` and `--` before it is judged where the operand is finished, and so is that of `delete`
abbrev pub unary_by : Seen → ℕ → Option UpdateOperator → Option UnaryOperator → List Symbol
unary_by u from (Some o) _ = this_word u ∷ Part (n.Updated o from) ∷ []
unary_by u from None (Some o) = this_word u ∷ Part (n.Operand o from) ∷ []
unary_by u from None None = Part n.LeftHand ∷ Part (n.Postfix from) ∷ []

-- the operand of `++` or `--` has no such operator behind it: with one it would be finished there, and no target
abbrev pub target_by : Seen → ℕ → Option UpdateOperator → Option UnaryOperator → List Symbol
target_by u from (Some o) _ = this_word u ∷ Part (n.Updated o from) ∷ []
target_by u from None (Some o) = this_word u ∷ Part (n.TargetOperand o from) ∷ []
target_by u from None None = Part n.LeftHand ∷ []

abbrev pub operated : UnaryOperator → ℕ → List Tree → List Symbol
operated unary.Delete from vs = if is_bare vs then Never ∷ [] else node (p.Unary unary.Delete) from 1 ∷ []
operated o from vs = node (p.Unary o) from 1 ∷ []

-- no line terminator before it (7.9.1)
abbrev pub postfix_by : ℕ → Sight → Option UpdateOperator → List Tree → List Symbol
postfix_by from u None vs = []
postfix_by from u (Some o) vs = if not u.line_before && is_target vs then this_word u.seen ∷ node (p.Postfix o) from 1 ∷ [] else []

abbrev pub left_hand : ℕ → Seen → List Symbol
left_hand from (seen.Word w.New) = Part n.New ∷ Part (n.Tail from) ∷ []
left_hand from _ = Part n.Primary ∷ Part (n.Tail from) ∷ []

abbrev pub member_tail : Nonterminal → ℕ → Seen → List Symbol
member_tail more from (seen.Word w.Dot) = T w.Dot ∷ Part (n.Key from) ∷ Part more ∷ []
member_tail more from (seen.Word w.OpenBracket) = T w.OpenBracket ∷ Part (n.Expression Full) ∷ T w.CloseBracket ∷ node p.Index from 2 ∷ Part more ∷ []
member_tail more from _ = []

abbrev pub tail : ℕ → Seen → List Symbol
tail from (seen.Word w.OpenParen) = Part n.Arguments ∷ node p.Call from 2 ∷ Part (n.Tail from) ∷ []
tail from u = member_tail (n.Tail from) from u

abbrev pub key : ℕ → Sight → List Symbol
key from u = if is_key u.seen then this_word u.seen ∷ text u.text ∷ node p.Member from 2 ∷ [] else Never ∷ []

abbrev pub constructor : Seen → List Symbol
constructor (seen.Word w.New) = Part n.New ∷ []
constructor _ = Part n.Primary ∷ []

abbrev pub given : ℕ → Seen → List Symbol
given from (seen.Word w.OpenParen) = Part n.Arguments ∷ node p.New from 2 ∷ []
given from _ = list ∷ node p.New from 2 ∷ []

abbrev pub first_argument : Seen → List Symbol
first_argument (seen.Word w.CloseParen) = T w.CloseParen ∷ []
first_argument _ = Part (n.Assignment Full) ∷ add ∷ Part n.MoreArguments ∷ []

abbrev pub more_arguments : Seen → List Symbol
more_arguments (seen.Word w.Comma) = T w.Comma ∷ Part (n.Assignment Full) ∷ add ∷ Part n.MoreArguments ∷ []
more_arguments _ = T w.CloseParen ∷ []

abbrev pub primary : Sight → Seen → List Symbol
primary u (seen.Word w.This) = T w.This ∷ node p.This u.from 0 ∷ []
primary u (seen.Word w.Name) = T w.Name ∷ text u.text ∷ node p.Name u.from 1 ∷ []
primary u (seen.Word w.Null) = T w.Null ∷ node p.Null u.from 0 ∷ []
primary u (seen.Word w.True) = T w.True ∷ node (p.Bool true) u.from 0 ∷ []
primary u (seen.Word w.False) = T w.False ∷ node (p.Bool false) u.from 0 ∷ []
primary u (seen.Word w.Number) = T w.Number ∷ node (p.Number u.number) u.from 0 ∷ []
primary u (seen.Word w.Text) = T w.Text ∷ text u.text ∷ node p.Text u.from 1 ∷ []
primary u (seen.Word w.OpenParen) = T w.OpenParen ∷ Part (n.Expression Full) ∷ T w.CloseParen ∷ []
primary u (seen.Word w.OpenBracket) = T w.OpenBracket ∷ list ∷ Part n.Elements ∷ node p.Array u.from 1 ∷ []
primary u (seen.Word w.OpenBrace) = T w.OpenBrace ∷ list ∷ Part n.Entries ∷ node p.Object u.from 1 ∷ []
primary u (seen.Word w.Function) = Part n.Function ∷ []
primary u _ = Never ∷ []

-- a comma without an element before it leaves a hole (11.1.4)
abbrev pub elements : Seen → List Symbol
elements (seen.Word w.Comma) = T w.Comma ∷ missing ∷ add ∷ Part n.Elements ∷ []
elements (seen.Word w.CloseBracket) = T w.CloseBracket ∷ []
elements _ = Part (n.Assignment Full) ∷ add ∷ Part n.MoreElements ∷ []

abbrev pub more_elements : Seen → List Symbol
more_elements (seen.Word w.Comma) = T w.Comma ∷ Part n.Elements ∷ []
more_elements _ = T w.CloseBracket ∷ []

abbrev pub entries : Seen → List Symbol
entries (seen.Word w.CloseBrace) = T w.CloseBrace ∷ []
entries _ = Part n.Entry ∷ add ∷ Part n.MoreEntries ∷ []

abbrev pub more_entries : Seen → List Symbol
more_entries (seen.Word w.Comma) = T w.Comma ∷ Part n.Entries ∷ []
more_entries _ = T w.CloseBrace ∷ []

-- behind a key: `get` and `set` may begin an accessor (11.1.5)
abbrev pub behind_key : Sight → Seen → Nonterminal
behind_key u (seen.Word w.Name) = if bytes_eq u.text (codes "get") then n.Getter else (if bytes_eq u.text (codes "set") then n.Setter else n.Value)
behind_key u _ = n.Value

abbrev pub entry : Sight → List Symbol
entry u = if is_property u.seen then this_word u.seen ∷ text u.text ∷ Part (behind_key u u.seen) ∷ pair ∷ [] else Never ∷ []

-- an accessor is read, and refused at its last brace
abbrev pub getter : Seen → List Symbol
getter u = if is_property u then this_word u ∷ T w.OpenParen ∷ T w.CloseParen ∷ Part n.Accessed ∷ [] else Part n.Value ∷ []

abbrev pub setter : Seen → List Symbol
setter u = if is_property u then this_word u ∷ T w.OpenParen ∷ Part n.Name ∷ T w.CloseParen ∷ Part n.Accessed ∷ [] else Part n.Value ∷ []

abbrev pub own_name : Sight → Seen → List Symbol
own_name u (seen.Word w.Name) = T w.Name ∷ text u.text ∷ []
own_name u _ = missing ∷ []

abbrev pub name : Sight → Seen → List Symbol
name u (seen.Word w.Name) = T w.Name ∷ text u.text ∷ []
name u _ = Never ∷ []

abbrev pub parameters : Seen → List Symbol
parameters (seen.Word w.CloseParen) = T w.CloseParen ∷ []
parameters _ = Part n.Name ∷ add ∷ Part n.MoreParameters ∷ []

abbrev pub more_parameters : Seen → List Symbol
more_parameters (seen.Word w.Comma) = T w.Comma ∷ Part n.Name ∷ add ∷ Part n.MoreParameters ∷ []
more_parameters _ = T w.CloseParen ∷ []

-- Statements --------------------------------------------------------------------------------------------------------------

-- functions are declared here alone
abbrev pub sources : List Symbol → Seen → List Symbol
sources s (seen.Word w.Function) = Part n.Declaration ∷ add ∷ Part n.Sources ∷ []
sources s u = if starts s u then Part n.Statement ∷ add ∷ Part n.Sources ∷ [] else []

abbrev pub statements : List Symbol → Seen → List Symbol
statements s u = if starts s u then Part n.Statement ∷ add ∷ Part n.Statements ∷ [] else []

-- a name begins a label where a colon follows; one that is open already is refused at its colon (12.12)
abbrev pub named_statement : List Symbol → Sight → List Symbol
named_statement s u =
    if u.colon then (if breaks_to u.text s then T w.Name ∷ Never ∷ Leave open_part.Part ∷ []
    else T w.Name ∷ text u.text ∷ T w.Colon ∷ Part n.Statement ∷ node p.Labelled u.from 2 ∷ Leave (open_part.Labelled u.text) ∷ [])
    else Part (n.Expression Full) ∷ Semicolon ∷ node p.Expression u.from 1 ∷ Leave open_part.Part ∷ []

abbrev pub expression_statement : ℕ → Seen → List Symbol
expression_statement from v = if begins v then Part (n.Expression Full) ∷ Semicolon ∷ node p.Expression from 1 ∷ Leave open_part.Part ∷ [] else Never ∷ []

abbrev pub return_statement : ℕ → List Symbol
return_statement from = T w.Return ∷ Part (n.Returned from) ∷ Leave open_part.Part ∷ []

abbrev pub statement : List Symbol → Sight → Seen → List Symbol
statement s u (seen.Word w.OpenBrace) = Part n.Braced ∷ node p.Block u.from 1 ∷ Leave open_part.Part ∷ []
statement s u (seen.Word w.Var) = T w.Var ∷ Part (n.Declarations Full) ∷ Semicolon ∷ node p.Var u.from 1 ∷ Leave open_part.Part ∷ []
statement s u (seen.Word w.Semicolon) = T w.Semicolon ∷ node p.Empty u.from 0 ∷ Leave open_part.Part ∷ []
statement s u (seen.Word w.If) = T w.If ∷ T w.OpenParen ∷ Part (n.Expression Full) ∷ T w.CloseParen ∷ Part n.Statement ∷ Part (n.Else u.from) ∷ Leave open_part.Part ∷ []
statement s u (seen.Word w.Do) = T w.Do ∷ Part n.Statement ∷ T w.While ∷ T w.OpenParen ∷ Part (n.Expression Full) ∷ T w.CloseParen ∷ FreeSemicolon ∷ node p.DoWhile u.from 2 ∷ Leave open_part.Loop ∷ []
statement s u (seen.Word w.While) = T w.While ∷ T w.OpenParen ∷ Part (n.Expression Full) ∷ T w.CloseParen ∷ Part n.Statement ∷ node p.While u.from 2 ∷ Leave open_part.Loop ∷ []
statement s u (seen.Word w.For) = T w.For ∷ T w.OpenParen ∷ Part (n.ForHead u.from) ∷ Leave open_part.Loop ∷ []
statement s u (seen.Word w.Continue) = T w.Continue ∷ Part (n.ContinueTo u.from) ∷ Leave open_part.Part ∷ []
statement s u (seen.Word w.Break) = T w.Break ∷ Part (n.BreakTo u.from) ∷ Leave open_part.Part ∷ []
statement s u (seen.Word w.Return) = if in_function s then return_statement u.from else Never ∷ []
statement s u (seen.Word w.Switch) = T w.Switch ∷ T w.OpenParen ∷ Part (n.Expression Full) ∷ T w.CloseParen ∷ T w.OpenBrace ∷ list ∷ Part (n.Cases false) ∷ node p.Switch u.from 2 ∷ Leave open_part.Switch ∷ []
statement s u (seen.Word w.Throw) = T w.Throw ∷ Part (n.Thrown u.from) ∷ Leave open_part.Part ∷ []
statement s u (seen.Word w.Try) = T w.Try ∷ Part n.Braced ∷ Part (n.Handlers u.from) ∷ Leave open_part.Part ∷ []
statement s u (seen.Word w.Name) = named_statement s u
statement s u v = expression_statement u.from v

abbrev pub more_declarators : Form → Seen → List Symbol
more_declarators f (seen.Word w.Comma) = T w.Comma ∷ Part (n.Declarator f) ∷ Part (n.MoreDeclarators f) ∷ []
more_declarators f _ = []

abbrev pub initialiser : Form → Seen → List Symbol
initialiser f (seen.Word w.Assign) = T w.Assign ∷ Part (n.Assignment f) ∷ []
initialiser f _ = missing ∷ []

abbrev pub otherwise : ℕ → Seen → List Symbol
otherwise from (seen.Word w.Else) = T w.Else ∷ Part n.Statement ∷ node p.If from 3 ∷ []
otherwise from _ = missing ∷ node p.If from 3 ∷ []

-- with a target that is a name, also in parentheses, or with an expression
abbrev pub for_expression : ℕ → Bool → List Symbol
for_expression from is_in = if is_in then Part n.ForTarget ∷ Part (n.ForObject from) ∷ [] else Part (n.Expression NoIn) ∷ Part (n.ForStart from) ∷ []

-- the target of a for-in is a name, or a `var` of one name without a value
abbrev pub for_head : ℕ → Sight → Seen → List Symbol
for_head from u (seen.Word w.Var) = T w.Var ∷ Part (n.ForVar from u.from) ∷ []
for_head from u (seen.Word w.Semicolon) = missing ∷ Part (n.ForStart from) ∷ []
for_head from u (seen.Word w.Name) = for_expression from u.target
for_head from u (seen.Word w.OpenParen) = for_expression from u.target
for_head from u _ = for_expression from false

abbrev pub for_declared : ℕ → ℕ → Bool → List Symbol
for_declared from at is_in =
    if is_in then list ∷ Part n.Name ∷ missing ∷ pair ∷ add ∷ node p.Var at 1 ∷ Part (n.ForObject from) ∷ []
    else Part (n.Declarations NoIn) ∷ node p.Var at 1 ∷ Part (n.ForStart from) ∷ []

abbrev pub for_var : ℕ → ℕ → Sight → Seen → List Symbol
for_var from at u (seen.Word w.Name) = for_declared from at u.target
for_var from at u _ = for_declared from at false

-- a name in parentheses is an expression in them
abbrev pub for_target : Sight → Seen → List Symbol
for_target u (seen.Word w.Name) = T w.Name ∷ text u.text ∷ node p.Name u.from 1 ∷ []
for_target u _ = Part n.Primary ∷ []

-- no semicolon is inserted in the head
abbrev pub for_test : Seen → List Symbol
for_test (seen.Word w.Semicolon) = missing ∷ T w.Semicolon ∷ []
for_test _ = Part (n.Expression Full) ∷ T w.Semicolon ∷ []

abbrev pub for_update : Seen → List Symbol
for_update (seen.Word w.CloseParen) = missing ∷ T w.CloseParen ∷ []
for_update _ = Part (n.Expression Full) ∷ T w.CloseParen ∷ []

-- without a label, where there is something to lead out of
abbrev pub unlabelled : Bool → Production → ℕ → List Symbol
unlabelled there q from = if there then missing ∷ Semicolon ∷ node q from 1 ∷ [] else Never ∷ []

-- with one, where it leads out of something
abbrev pub labelled : Bool → Production → ℕ → Sight → List Symbol
labelled there q from u = if there then T w.Name ∷ text u.text ∷ Semicolon ∷ node q from 1 ∷ [] else Never ∷ []

-- a label stands on the same line (7.9.1)
abbrev pub jump : Bool → Bool → Production → ℕ → Sight → Seen → List Symbol
jump there labelled_there q from u (seen.Word w.Name) = if u.line_before then unlabelled there q from else labelled labelled_there q from u
jump there labelled_there q from u _ = unlabelled there q from

abbrev pub returned_by : ℕ → Sight → Seen → List Symbol
returned_by from u (seen.Word w.Semicolon) = missing ∷ Semicolon ∷ node p.Return from 1 ∷ []
returned_by from u v = if may_insert u then missing ∷ Semicolon ∷ node p.Return from 1 ∷ [] else Part (n.Expression Full) ∷ Semicolon ∷ node p.Return from 1 ∷ []

-- the value stands on the same line (7.9.1)
abbrev pub thrown : ℕ → Sight → List Symbol
thrown from u = if may_insert u then Never ∷ [] else Part (n.Expression Full) ∷ Semicolon ∷ node p.Throw from 1 ∷ []

-- one default at most (12.11)
abbrev pub cases : Bool → Seen → List Symbol
cases d (seen.Word w.Case) = T w.Case ∷ Part (n.Expression Full) ∷ T w.Colon ∷ list ∷ Part n.Statements ∷ pair ∷ add ∷ Part (n.Cases d) ∷ []
cases false (seen.Word w.Default) = T w.Default ∷ T w.Colon ∷ missing ∷ list ∷ Part n.Statements ∷ pair ∷ add ∷ Part (n.Cases true) ∷ []
cases d _ = T w.CloseBrace ∷ []

abbrev pub handlers : ℕ → Seen → List Symbol
handlers from (seen.Word w.Catch) = T w.Catch ∷ T w.OpenParen ∷ Part n.Name ∷ T w.CloseParen ∷ Part n.Braced ∷ pair ∷ Part (n.Finally from) ∷ []
handlers from (seen.Word w.Finally) = missing ∷ T w.Finally ∷ Part n.Braced ∷ node p.Try from 3 ∷ []
handlers from _ = Never ∷ []

abbrev pub finally : ℕ → Seen → List Symbol
finally from (seen.Word w.Finally) = T w.Finally ∷ Part n.Braced ∷ node p.Try from 3 ∷ []
finally from _ = missing ∷ node p.Try from 3 ∷ []

-- what is to be read in the place of a part
abbrev pub produce : Nonterminal → List Symbol → Sight → List Tree → List Symbol
produce (n.Expression f) s u vs = Part (n.Assignment f) ∷ Part (n.Commas f u.from) ∷ []
produce (n.Commas f from) s u vs = commas f from u.seen
produce (n.Assignment f) s u vs = Part (n.Conditional f) ∷ Part (n.Assigned f u.from) ∷ Leave open_part.Part ∷ []
produce (n.Assigned f from) s u vs = assigned f from u.seen vs
produce (n.Conditional f) s u vs = Part (n.Operation 1 f) ∷ Part (n.Choice f u.from) ∷ []
produce (n.Choice f from) s u vs = choice f from u.seen
produce (n.Operation least f) s u vs = Part n.Unary ∷ Part (n.Operators least f u.from) ∷ []
produce (n.Operators least f from) s u vs = operators_by least f from u.seen (binary_operator f u.seen)
produce n.Unary s u vs = unary_by u.seen u.from (update_operator u.seen) (unary_operator u.seen)
produce (n.Postfix from) s u vs = postfix_by from u (update_operator u.seen) vs
produce (n.Updated o from) s u vs = Part n.Target ∷ Leave open_part.Part ∷ Part (n.Prefixed o from) ∷ []
produce n.Target s u vs = target_by u.seen u.from (update_operator u.seen) (unary_operator u.seen)
produce (n.Prefixed o from) s u vs = if is_target vs then node (p.Prefix o) from 1 ∷ [] else Never ∷ []
produce (n.Operand o from) s u vs = Part n.Unary ∷ Leave open_part.Part ∷ Part (n.Operated o from) ∷ []
produce (n.TargetOperand o from) s u vs = Part n.Target ∷ Leave open_part.Part ∷ Part (n.Operated o from) ∷ []
produce (n.Operated o from) s u vs = operated o from vs
produce n.LeftHand s u vs = left_hand u.from u.seen
produce (n.Tail from) s u vs = tail from u.seen
produce (n.MemberTail from) s u vs = member_tail (n.MemberTail from) from u.seen
produce (n.Key from) s u vs = key from u
produce n.New s u vs = T w.New ∷ Part n.Callee ∷ Part (n.Given u.from) ∷ []
produce n.Callee s u vs = Part n.Constructor ∷ Part (n.MemberTail u.from) ∷ Leave open_part.Part ∷ []
produce n.Constructor s u vs = constructor u.seen
produce (n.Given from) s u vs = given from u.seen
produce n.Arguments s u vs = T w.OpenParen ∷ list ∷ Part n.FirstArgument ∷ []
produce n.FirstArgument s u vs = first_argument u.seen
produce n.MoreArguments s u vs = more_arguments u.seen
produce n.Primary s u vs = primary u u.seen
produce n.Elements s u vs = elements u.seen
produce n.MoreElements s u vs = more_elements u.seen
produce n.Entries s u vs = entries u.seen
produce n.MoreEntries s u vs = more_entries u.seen
produce n.Entry s u vs = entry u
produce n.Getter s u vs = getter u.seen
produce n.Setter s u vs = setter u.seen
produce n.Accessed s u vs = T w.OpenBrace ∷ list ∷ Part n.Sources ∷ Leave open_part.Function ∷ Never ∷ []
produce n.Value s u vs = T w.Colon ∷ Part (n.Assignment Full) ∷ []
produce n.Function s u vs = T w.Function ∷ Part n.OwnName ∷ T w.OpenParen ∷ list ∷ Part n.Parameters ∷ Part n.Body ∷ node p.Function u.from 3 ∷ []
produce n.OwnName s u vs = own_name u u.seen
produce n.Name s u vs = name u u.seen
produce n.Parameters s u vs = parameters u.seen
produce n.MoreParameters s u vs = more_parameters u.seen
produce n.Body s u vs = T w.OpenBrace ∷ list ∷ Part n.Sources ∷ Leave open_part.Function ∷ T w.CloseBrace ∷ node p.Body u.from 1 ∷ []
produce n.Sources s u vs = sources s u.seen
produce n.Declaration s u vs = T w.Function ∷ Part n.Name ∷ T w.OpenParen ∷ list ∷ Part n.Parameters ∷ Part n.Body ∷ node p.Declaration u.from 3 ∷ Leave open_part.Part ∷ []
produce n.Statements s u vs = statements s u.seen
produce n.Statement s u vs = statement s u u.seen
produce n.Braced s u vs = T w.OpenBrace ∷ list ∷ Part n.Statements ∷ T w.CloseBrace ∷ []
produce (n.Declarations f) s u vs = list ∷ Part (n.Declarator f) ∷ Part (n.MoreDeclarators f) ∷ []
produce (n.Declarator f) s u vs = Part n.Name ∷ Part (n.Initialiser f) ∷ pair ∷ add ∷ []
produce (n.MoreDeclarators f) s u vs = more_declarators f u.seen
produce (n.Initialiser f) s u vs = initialiser f u.seen
produce (n.Else from) s u vs = otherwise from u.seen
produce (n.ForHead from) s u vs = for_head from u u.seen
produce (n.ForVar from at) s u vs = for_var from at u u.seen
produce n.ForTarget s u vs = for_target u u.seen
produce (n.ForObject from) s u vs = T w.In ∷ Part (n.Expression Full) ∷ T w.CloseParen ∷ Part n.Statement ∷ node p.ForIn from 3 ∷ []
produce (n.ForStart from) s u vs = T w.Semicolon ∷ Part n.ForTest ∷ Part n.ForUpdate ∷ Part n.Statement ∷ node p.For from 4 ∷ []
produce n.ForTest s u vs = for_test u.seen
produce n.ForUpdate s u vs = for_update u.seen
produce (n.ContinueTo from) s u vs = jump (continues s) (continues_to u.text s) p.Continue from u u.seen
produce (n.BreakTo from) s u vs = jump (breaks s) (breaks_to u.text s) p.Break from u u.seen
produce (n.Returned from) s u vs = returned_by from u u.seen
produce (n.Thrown from) s u vs = thrown from u
produce (n.Cases d) s u vs = cases d u.seen
produce (n.Handlers from) s u vs = handlers from u.seen
produce (n.Finally from) s u vs = finally from u.seen
