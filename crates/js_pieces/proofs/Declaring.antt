-- Functions and whole texts, made of what was read last.
use Rattle.std.proofs.Common.{◌≡◌, ℕ, ◌+◌, List, [], ◌∷◌, length, Option, Result, Ok, Err, IfOk, OnOk, refl, sym, ◌∙◌, ap, subst}
use Rattle.std.specs.Global.{Box}
use Rattle.mug_text.specs.declared.memory.NoMemory.{NoMemory}
use Rattle.js_tree.specs.declared.node.NodeId.{NodeId}
use Rattle.js_tree.specs.declared.node.Scope.{Scope}
use Rattle.js_tree.specs.declared.node.ExpressionHead.{ExpressionHead}
use Rattle.js_tree.specs.declared.node.DeclarationHead.{DeclarationHead}
use Rattle.js_tree.specs.declared.production.Production.{Production}
use Rattle.js_tree.specs.declared.production.Production.TheVariants as production
use Rattle.js_tree.specs.declared.script.FunctionHead.{FunctionHead}
use Rattle.js_tree.specs.declared.script.Kept.{Kept}
use Rattle.js_tree.specs.Trees.{Tree, Part, Holds, nodes, words, named}
use Rattle.js_tree.specs.Names.{call_scope}
use Rattle.js_tree.specs.Arena.{Arena}
use Rattle.js_grammar.specs.declared.symbol.Start.{Start}
use Rattle.js_grammar.specs.declared.symbol.Start.TheVariants as start
use Rattle.js_grammar.specs.inner.Sorts as sort
use Rattle.js_pieces.specs.declared.pieces.Piece.{Piece}
use Rattle.js_pieces.specs.declared.pieces.Piece.TheVariants as piece
use Rattle.js_pieces.specs.declared.pieces.ReadBody.{ReadBody}
use Rattle.js_pieces.specs.declared.pieces.WholeText.{WholeText}
use Rattle.js_pieces.specs.Pieces.{LastIs, Takes, TakesAll}
use Rattle.js_pieces.specs.Functions.{AddsFunction, AddsText, HasNodes, HasStatements, LastIsText, TextAdded, declared_as, parameters_of, own_name_of, parts_before, declaring, whole_of}

pub if_more : {A : Type 0} (r : Result A NoMemory) (P Q : A → Type 0) → ((x : A) → P x → Q x) → IfOk r P → IfOk r Q
if_more (Ok x) P Q f h = f x h
if_more (Err e) P Q f h = tt

-- The statements that are there.
pub body_there : (arena : Arena) (ps rest : List Piece) (b : ReadBody) → HasStatements arena ps → ps ≡ piece.Body b ∷ rest → HasNodes arena b.statements
body_there arena ps rest b h e = subst (HasStatements arena) e h

pub text_there : (arena : Arena) (ps rest : List Piece) (w : WholeText) → HasStatements arena ps → ps ≡ piece.Whole w ∷ rest → HasNodes arena w.statements
text_there arena ps rest w h e = subst (HasStatements arena) e h

pub same_nodes : (arena : Arena) (ss ts : List NodeId) → ts ≡ ss → HasNodes arena ss → HasNodes arena ts
same_nodes arena ss ts e h = subst (HasNodes arena) (sym e) h

-- The scope by equations.
pub scoped_as : (scope : Scope) (kept : List Kept) (ps qs : List (List ℕ)) (o p : Option (List ℕ)) (ss ts : List NodeId) → ps ≡ qs → o ≡ p → ss ≡ ts →
    ((bodies : ℕ → Tree) (t : Tree) → Holds bodies kept (nodes ss) t → scope ≡ call_scope ps o t) →
    (bodies : ℕ → Tree) (t : Tree) → Holds bodies kept (nodes ts) t → scope ≡ call_scope qs p t
scoped_as scope kept ps qs o p ss ts a b c f bodies t h =
    f bodies t (subst (λ z. Holds bodies kept (nodes z) t) (sym c) h) ∙ ap (λ z. call_scope z o t) a ∙ ap (λ z. call_scope qs z t) b

pub expression_parts : (h g : ExpressionHead) (mid late rest : List Piece) → h ≡ g → Takes mid late (words g.parameters) → Takes late rest (named g.name) →
    TakesAll mid rest (words h.parameters ∷ named h.name ∷ [])
expression_parts h g mid late rest e a b = subst (λ (z : ExpressionHead). TakesAll mid rest (words z.parameters ∷ named z.name ∷ [])) (sym e) (late, a, (rest, b, refl))

pub declaration_parts : (h g : DeclarationHead) (mid late rest : List Piece) → h ≡ g → Takes mid late (words g.parameters) → Takes late rest (Part.Word g.name) →
    TakesAll mid rest (words h.parameters ∷ Part.Word h.name ∷ [])
declaration_parts h g mid late rest e a b = subst (λ (z : DeclarationHead). TakesAll mid rest (words z.parameters ∷ Part.Word z.name ∷ [])) (sym e) (late, a, (rest, b, refl))

-- what was added, of what was taken
pub record Declared (q : Production) (old : Arena) (ps rest : List Piece) (head : FunctionHead) (body : ReadBody) (scope : Scope) : Type 0 where
  pub mid : List Piece
  pub is : declared_as head ≡ q
  pub body_taken : ps ≡ piece.Body body ∷ mid
  pub taken : TakesAll mid rest (parts_before head)
  pub scoped : (bodies : ℕ → Tree) (t : Tree) → Holds bodies old.kept (nodes body.statements) t → scope ≡ call_scope (parameters_of head) (own_name_of head) t

pub adds_function : (r : Result NodeId NoMemory) (q : Production) (from to : ℕ) (old : Arena) (ps rest : List Piece) (new : Arena) (head : FunctionHead) (body : ReadBody) (scope : Scope) →
    Declared q old ps rest head body scope → OnOk r ((s : Box Scope) × (s.value ≡ scope) × (new ≡ declaring head s body from to old)) → IfOk r (λ id. id.number ≡ length old.kept + 1) →
    IfOk r (λ id. AddsFunction q from to old ps id new rest)
adds_function (Ok id) q from to old ps rest new head body scope d (s, value, is) n = record {
  head = head;
  body = body;
  scope = s;
  mid = d.mid;
  is = d.is;
  body_taken = d.body_taken;
  taken = d.taken;
  scoped = λ b t h. value ∙ d.scoped b t h;
  added = is;
  number = n;
}
adds_function (Err e) q from to old ps rest new head body scope d h n = tt

-- a whole text that is the last piece
pub last_is_whole : (ps rest : List Piece) (w : WholeText) → LastIsText ps → ps ≡ piece.Whole w ∷ rest → (start : Start) × (w.production ≡ whole_of start)
last_is_whole ps rest w (start, v, others, e, is) f = (start, ap whole_in (first_same (sym f ∙ e)) ∙ is)
  where
    whole_in : Piece → Production
    whole_in (piece.Whole w) = w.production
    whole_in _ = production.Empty

    first_same : {a b : Piece} {xs ys : List Piece} → a ∷ xs ≡ b ∷ ys → a ≡ b
    first_same e = cc

pub last_sort : (ps : List Piece) → LastIsText ps → LastIs sort.Root ps
last_sort ps (start, w, rest, e, is) = subst (LastIs sort.Root) (sym e) refl

pub no_other : (q : Production) (start : Start) → q ≡ whole_of start → (q ≡ production.Program → ⊥) → (q ≡ production.Handler → ⊥) → ⊥
no_other q start.Program e f g = f e
no_other q start.Handler e f g = g e

pub adds_text : (r : Result (Unit {0}) NoMemory) (start : Start) (w : WholeText) (old : Arena) (ps rest : List Piece) (new : Arena) → ps ≡ piece.Whole w ∷ rest → w.production ≡ whole_of start →
    OnOk r (TextAdded start w old new) → OnOk r (AddsText old ps new rest)
adds_text (Ok u) start w old ps rest new e is h = (start, w, e, is, h)
adds_text (Err x) start w old ps rest new e is h = tt
