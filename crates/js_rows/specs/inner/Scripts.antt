-- Scripts as trees. The spans have only the units that name functions.
use Rattle.std.specs.Prelude.{ℕ, List, [], ◌∷◌, Some, None, codes, pos, ◌==◌, if◌then◌else◌}
use Rattle.js_tree.specs.declared.production.BinaryOperator.{BinaryOperator}
use Rattle.js_tree.specs.declared.production.BinaryOperator.TheVariants as binary
use Rattle.js_tree.specs.declared.production.Production.{Production}
use Rattle.js_tree.specs.declared.production.Production.TheVariants as production
use Rattle.js_tree.specs.declared.production.UnaryOperator.TheVariants as unary
use Rattle.js_tree.specs.declared.production.UpdateOperator.TheVariants as update
use Rattle.js_tree.specs.Trees.{Tree}
use Rattle.js_tree.specs.Trees.Tree.{Made, Word, Missing}

abbrev pub parts : List Tree → Tree
parts [] = Tree.Nil
parts (t ∷ ts) = Tree.Cons t (parts ts)

abbrev pub made : Production → List Tree → Tree
made p ts = Made p 0 0 (parts ts)

abbrev pub name : List ℕ → Tree
name x = made production.Name (Word x ∷ [])

abbrev pub number : ℕ → Tree
number n = made (production.Number (pos n)) []

abbrev pub text : List ℕ → Tree
text x = made production.Text (Word x ∷ [])

abbrev pub operate : BinaryOperator → Tree → Tree → Tree
operate o a b = made (production.Binary o) (a ∷ b ∷ [])

abbrev pub member : Tree → List ℕ → Tree
member e k = made production.Member (e ∷ Word k ∷ [])

abbrev pub call : Tree → List Tree → Tree
call f xs = made production.Call (f ∷ parts xs ∷ [])

abbrev pub expression : Tree → Tree
expression e = made production.Expression (e ∷ [])

abbrev pub return : Tree → Tree
return e = made production.Return (e ∷ [])

abbrev words : List (List ℕ) → List Tree
words [] = []
words (x ∷ xs) = Word x ∷ words xs

abbrev pub function : (unit : ℕ) → List ℕ → List (List ℕ) → List Tree → Tree
function u x xs ss = Made production.Declaration u 0 (parts (Word x ∷ parts (words xs) ∷ made production.Body (parts ss ∷ []) ∷ []))

abbrev pub log : List Tree → Tree
log xs = expression (call (member (name (codes "console")) (codes "log")) xs)

-- function f(n){return n<1?0:1+f(n-1)}
abbrev pub recursive : Tree
recursive = function 7 (codes "f") (codes "n" ∷ [])
    (return (made production.Conditional
    (operate binary.Less (name (codes "n")) (number 1)
    ∷ number 0
    ∷ operate binary.Add (number 1) (call (name (codes "f")) (operate binary.Subtract (name (codes "n")) (number 1) ∷ [])) ∷ [])) ∷ [])

-- function a(){try{return 1}finally{return 2}}
abbrev pub returns_twice : Tree
returns_twice = function 1 (codes "a") []
    (made production.Try (parts (return (number 1) ∷ []) ∷ Missing ∷ parts (return (number 2) ∷ []) ∷ []) ∷ [])

-- function b(){L:for(;;){try{return 1}finally{break L}}return 3}
abbrev pub leaves_loop : Tree
leaves_loop = function 2 (codes "b") []
    (made production.Labelled (Word (codes "L")
    ∷ made production.For (Missing ∷ Missing ∷ Missing
    ∷ made production.Block (parts
    (made production.Try (parts (return (number 1) ∷ []) ∷ Missing ∷ parts (made production.Break (Word (codes "L") ∷ []) ∷ []) ∷ []) ∷ []) ∷ []) ∷ []) ∷ [])
    ∷ return (number 3) ∷ [])

abbrev pub var : List ℕ → Tree → Tree
var x e = made production.Var (parts (parts (Word x ∷ e ∷ []) ∷ []) ∷ [])

abbrev pub add_to : List ℕ → Tree → Tree
add_to x e = expression (made (production.Assign (Some binary.Add)) (name x ∷ e ∷ []))

abbrev pub clause : Tree → List Tree → Tree
clause t ss = parts (t ∷ parts ss ∷ [])

-- function c(x){var s="";switch(x){case 1:s+="1";default:s+="d";case 2:s+="2"}return s}
abbrev pub falls_through : Tree
falls_through = function 3 (codes "c") (codes "x" ∷ [])
    (var (codes "s") (text [])
    ∷ made production.Switch (name (codes "x") ∷ parts
    (clause (number 1) (add_to (codes "s") (text (codes "1")) ∷ [])
    ∷ clause Missing (add_to (codes "s") (text (codes "d")) ∷ [])
    ∷ clause (number 2) (add_to (codes "s") (text (codes "2")) ∷ []) ∷ []) ∷ [])
    ∷ return (name (codes "s")) ∷ [])

-- console.log(f(5))
abbrev pub recursion : Tree
recursion = log (call (name (codes "f")) (number 5 ∷ []) ∷ [])

-- console.log(a(),b(),c(1),c(2),c(9))
abbrev pub completions : Tree
completions = log
    (call (name (codes "a")) []
    ∷ call (name (codes "b")) []
    ∷ call (name (codes "c")) (number 1 ∷ [])
    ∷ call (name (codes "c")) (number 2 ∷ [])
    ∷ call (name (codes "c")) (number 9 ∷ []) ∷ [])

abbrev pub block : List Tree → Tree
block ss = made production.Block (parts ss ∷ [])

abbrev pub assign : Tree → Tree → Tree
assign t e = expression (made (production.Assign None) (t ∷ e ∷ []))

abbrev pub entry : List ℕ → Tree → Tree
entry k e = parts (Word k ∷ e ∷ [])

abbrev pub lambda : (unit : ℕ) → List Tree → Tree
lambda u ss = Made production.Function u 0 (parts (Missing ∷ parts [] ∷ made production.Body (parts ss ∷ []) ∷ []))

abbrev pub declare : List ℕ → Tree
declare x = made production.Var (parts (parts (Word x ∷ Missing ∷ []) ∷ []) ∷ [])

-- console.k=1+2
abbrev pub member_target : Tree
member_target = assign (member (name (codes "console")) (codes "k")) (operate binary.Add (number 1) (number 2))

-- null.k=f(5)
abbrev pub null_target : Tree
null_target = assign (member (made production.Null []) (codes "k")) (call (name (codes "f")) (number 5 ∷ []))

-- var o={b:1,a:2},s="";o.c=3;delete o.b;o.b=4;for(var k in o)s+=k;console.log(s)
abbrev pub property_order : Tree
property_order = block
    (made production.Var (parts
    (parts (Word (codes "o") ∷ made production.Object (parts (entry (codes "b") (number 1) ∷ entry (codes "a") (number 2) ∷ []) ∷ []) ∷ [])
    ∷ parts (Word (codes "s") ∷ text [] ∷ []) ∷ []) ∷ [])
    ∷ assign (member (name (codes "o")) (codes "c")) (number 3)
    ∷ expression (made (production.Unary unary.Delete) (member (name (codes "o")) (codes "b") ∷ []))
    ∷ assign (member (name (codes "o")) (codes "b")) (number 4)
    ∷ made production.ForIn (declare (codes "k") ∷ name (codes "o") ∷ add_to (codes "s") (name (codes "k")) ∷ [])
    ∷ log (name (codes "s") ∷ []) ∷ [])

-- var v={valueOf:function(){return {}},toString:function(){return "4"}};console.log(v*2)
abbrev pub empty_answer : Tree
empty_answer = lambda 4 (return (made production.Object (parts [] ∷ [])) ∷ [])

abbrev pub four_answer : Tree
four_answer = lambda 5 (return (text (codes "4")) ∷ [])

abbrev pub conversion : Tree
conversion = block
    (var (codes "v") (made production.Object (parts (entry (codes "valueOf") empty_answer ∷ entry (codes "toString") four_answer ∷ []) ∷ []))
    ∷ log (operate binary.Multiply (name (codes "v")) (number 2) ∷ []) ∷ [])

-- for(var i=0;i<3;i++)console.log(i)
abbrev pub counting : Tree
counting = made production.For
    (var (codes "i") (number 0)
    ∷ operate binary.Less (name (codes "i")) (number 3)
    ∷ made (production.Postfix update.Increment) (name (codes "i") ∷ [])
    ∷ log (name (codes "i") ∷ []) ∷ [])

-- try{x}catch(e){console.log(typeof e)}finally{console.log("f")}
abbrev pub caught : Tree
caught = made production.Try
    (parts (expression (name (codes "x")) ∷ [])
    ∷ parts (Word (codes "e") ∷ parts (log (made (production.Unary unary.TypeOf) (name (codes "e") ∷ []) ∷ []) ∷ []) ∷ [])
    ∷ parts (log (text (codes "f") ∷ []) ∷ []) ∷ [])

-- function f(){return;1}var a=1,b=2;a;++b;do;while(0);console.log(f(),a,b)
abbrev pub returns_nothing : Tree
returns_nothing = function 6 (codes "g") [] (made production.Return (Missing ∷ []) ∷ expression (number 1) ∷ [])

abbrev pub inserted_semicolons : Tree
inserted_semicolons = block
    (made production.Var (parts (parts (Word (codes "a") ∷ number 1 ∷ []) ∷ parts (Word (codes "b") ∷ number 2 ∷ []) ∷ []) ∷ [])
    ∷ expression (name (codes "a"))
    ∷ expression (made (production.Prefix update.Increment) (name (codes "b") ∷ []))
    ∷ made production.DoWhile (made production.Empty [] ∷ number 0 ∷ [])
    ∷ log (call (name (codes "g")) [] ∷ name (codes "a") ∷ name (codes "b") ∷ []) ∷ [])

-- the functions by their units
abbrev pub function_at : ℕ → Tree
function_at u =
    if u == 1 then returns_twice
    else (if u == 2 then leaves_loop
    else (if u == 3 then falls_through
    else (if u == 4 then empty_answer
    else (if u == 5 then four_answer
    else (if u == 6 then returns_nothing
    else recursive)))))

-- the statements that declare all of these
abbrev pub declarations : Tree
declarations = parts (returns_twice ∷ leaves_loop ∷ falls_through ∷ returns_nothing ∷ recursive ∷ [])
