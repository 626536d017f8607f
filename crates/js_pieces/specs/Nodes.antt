-- Nodes that are made of what was read last.
use Rattle.std.specs.Prelude.{◌≡◌, List, [], ◌∷◌}
use Rattle.js_tree.specs.declared.node.Node.{Node}
use Rattle.js_tree.specs.declared.node.Node.TheVariants as node
use Rattle.js_tree.specs.declared.production.Production.{Production}
use Rattle.js_tree.specs.declared.production.Production.TheVariants as production
use Rattle.js_tree.specs.Trees.{Part, at, perhaps, named, nodes, elements, entries, declarators}
use Rattle.js_tree.specs.Trees.{cases, caught, at_last, production_of}
use Rattle.js_pieces.specs.declared.pieces.Piece.{Piece}
use Rattle.js_pieces.specs.Pieces.{TakesAll}

-- the parts of a node, but for functions and whole texts, the last one first
abbrev pub parts_back : Node → List Part
parts_back (node.Name t) = Part.Word t ∷ []
parts_back (node.Text t) = Part.Word t ∷ []
parts_back (node.Array es) = elements es ∷ []
parts_back (node.Object es) = entries es ∷ []
parts_back (node.Member e k) = Part.Word k ∷ at e ∷ []
parts_back (node.Index e k) = at k ∷ at e ∷ []
parts_back (node.Call f xs) = nodes xs ∷ at f ∷ []
parts_back (node.New f xs) = nodes xs ∷ at f ∷ []
parts_back (node.Postfix _ e) = at e ∷ []
parts_back (node.Prefix _ e) = at e ∷ []
parts_back (node.Unary _ e) = at e ∷ []
parts_back (node.Binary _ a b) = at b ∷ at a ∷ []
parts_back (node.And a b) = at b ∷ at a ∷ []
parts_back (node.Or a b) = at b ∷ at a ∷ []
parts_back (node.Conditional a b c) = at c ∷ at b ∷ at a ∷ []
parts_back (node.Assign _ a b) = at b ∷ at a ∷ []
parts_back (node.Comma a b) = at b ∷ at a ∷ []
parts_back (node.Block ss) = nodes ss ∷ []
parts_back (node.Var ds) = declarators ds ∷ []
parts_back (node.Expression e) = at e ∷ []
parts_back (node.If e s t) = perhaps t ∷ at s ∷ at e ∷ []
parts_back (node.DoWhile s e) = at e ∷ at s ∷ []
parts_back (node.While e s) = at s ∷ at e ∷ []
parts_back (node.For a b c s) = at s ∷ perhaps c ∷ perhaps b ∷ perhaps a ∷ []
parts_back (node.ForIn x e s) = at s ∷ at e ∷ at x ∷ []
parts_back (node.Continue l) = named l ∷ []
parts_back (node.Break l) = named l ∷ []
parts_back (node.Return e) = perhaps e ∷ []
parts_back (node.Labelled l s) = at s ∷ Part.Word l ∷ []
parts_back (node.Switch e cs) = cases cs ∷ at e ∷ []
parts_back (node.Throw e) = at e ∷ []
parts_back (node.Try t) = at_last t.value.finally ∷ caught t.value.catch ∷ nodes t.value.block ∷ []
parts_back _ = []

-- the node is of the production, and its parts were taken off
pub record Makes (q : Production) (old : List Piece) (n : Node) (new : List Piece) : Type 0 where
  pub is : production_of n ≡ q
  pub taken : TakesAll old new (parts_back n)

-- no function, no body of one, and no whole text
abbrev pub IsPlain : Production → Type 0
IsPlain production.Function = ⊥
IsPlain production.Declaration = ⊥
IsPlain production.Program = ⊥
IsPlain production.Handler = ⊥
IsPlain production.Body = ⊥
IsPlain _ = Unit {0}
