-- What is read within a part depends on nothing around it: neither on what is to be read behind it nor on the trees before.
use Rattle.std.proofs.Common.{◌≡◌, ℕ, zero, suc, Bool, true, false, ◌||◌, ◌&&◌, List, [], ◌∷◌, ◌++◌, refl, ap, ap₂, Option, Some, None}
use Rattle.std.specs.Prelude.{if◌then◌else◌, not, codes, nat_le}
use Rattle.std.specs.Str.{bytes_eq}
use Rattle.js_tokens.specs.declared.word.Word.TheVariants as w
use Rattle.js_tree.specs.declared.production.Production.{Production}
use Rattle.js_tree.specs.declared.production.Production.TheVariants as production
use Rattle.js_tree.specs.declared.production.UnaryOperator.TheVariants as unary
use Rattle.js_tree.specs.declared.production.UnaryOperator.{UnaryOperator}
use Rattle.js_tree.specs.declared.production.UpdateOperator.{UpdateOperator}
use Rattle.js_tree.specs.Trees.{Tree, Made, Missing, Nil, Cons}
use Rattle.js_tree.specs.Trees.{Word as word_tree}
use Rattle.js_grammar.specs.declared.sight.Seen.{Seen}
use Rattle.js_grammar.specs.declared.sight.Seen.TheVariants as seen
use Rattle.js_grammar.specs.declared.sight.Sight.{Sight}
use Rattle.js_grammar.specs.declared.symbol.Build.{Build}
use Rattle.js_grammar.specs.declared.symbol.Build.TheVariants as build
use Rattle.js_grammar.specs.declared.symbol.Form.{Form}
use Rattle.js_grammar.specs.declared.symbol.Nonterminal.{Nonterminal}
use Rattle.js_grammar.specs.declared.symbol.Nonterminal.TheVariants as n
use Rattle.js_grammar.specs.declared.symbol.Open.TheVariants.{Loop, Switch, Labelled, Function}
use Rattle.js_grammar.specs.declared.symbol.Symbol.{Symbol}
use Rattle.js_grammar.specs.declared.symbol.Symbol.TheVariants.{Never, Part, Build as Makes, Leave}
use Rattle.js_grammar.specs.Sights.{may_insert}
use Rattle.js_grammar.specs.Parts.{in_function, breaks, continues, breaks_to, labels, continues_to}
use Rattle.js_grammar.specs.Grammar as g
use Rattle.js_grammar.specs.Grammar.{produce}
use Rattle.js_grammar.specs.Derivations.{grouped, built, behind}

-- how many of the trees before it a part goes on with; each gives one tree
abbrev pub takes : Nonterminal → ℕ
takes (n.Commas f from) = 1
takes (n.Assigned f from) = 1
takes (n.Choice f from) = 1
takes (n.Operators l f from) = 1
takes (n.Postfix from) = 1
takes (n.Prefixed o from) = 1
takes (n.Operated o from) = 1
takes (n.Tail from) = 1
takes (n.MemberTail from) = 1
takes (n.Key from) = 1
takes (n.Given from) = 1
takes n.FirstArgument = 1
takes n.MoreArguments = 1
takes n.Elements = 1
takes n.MoreElements = 1
takes n.Entries = 1
takes n.MoreEntries = 1
takes n.Parameters = 1
takes n.MoreParameters = 1
takes n.Sources = 1
takes n.Statements = 1
takes (n.Declarator f) = 1
takes (n.MoreDeclarators f) = 1
takes (n.Else from) = 2
takes (n.ForObject from) = 1
takes (n.ForStart from) = 1
takes (n.Cases d) = 1
takes (n.Handlers from) = 1
takes (n.Finally from) = 2
takes _ = 0

abbrev pub count : Build → ℕ
count (build.Node q from k) = k
count (build.Root q) = 1
count (build.Group k) = k
count build.Add = 2
count build.Missing = 0
count (build.Text t) = 0

-- a part stands alone; or only in a function, since it looks at what is around it; or it is never finished
pub data Sort : Type 0 where
  alone : Sort
  inside : Sort
  unfinished : Sort

abbrev pub sort : Nonterminal → Sort
sort n.Sources = inside
sort n.Statements = inside
sort n.Statement = inside
sort n.Braced = inside
sort (n.Else from) = inside
sort (n.ForHead from) = inside
sort (n.ForVar from at) = inside
sort (n.ForObject from) = inside
sort (n.ForStart from) = inside
sort (n.ContinueTo from) = inside
sort (n.BreakTo from) = inside
sort (n.Cases d) = inside
sort (n.Handlers from) = inside
sort (n.Finally from) = inside
sort n.Accessed = unfinished
sort _ = alone

-- a function's body ends here
abbrev pub closed : List Symbol → Bool
closed [] = false
closed (Leave Function ∷ s) = true
closed (_ ∷ s) = closed s

abbrev pub Owes : Sort → Type 0 → Type 0 → Type 0
Owes alone c r = r
Owes inside c r = c × r
Owes unfinished c r = Unit {0}

abbrev pub Takes : ℕ → ℕ → (ℕ → Type 0) → Type 0
Takes zero m P = P m
Takes (suc k) zero P = ⊥
Takes (suc k) (suc m) P = Takes k m P

-- what is to be read makes one tree of so many, and looks at nothing around it
abbrev pub Fit : List Symbol → ℕ → Type 0
Fit [] m = m ≡ 1
Fit (Never ∷ s) m = Unit {0}
Fit (Part x ∷ s) m = Owes (sort x) (closed s ≡ true) (Takes (takes x) m (λ k. Fit s (suc k)))
Fit (Makes b ∷ s) m = Takes (count b) m (λ k. Fit s (suc k))
Fit (_ ∷ s) m = Fit s m

abbrev pub size : List Tree → ℕ
size [] = 0
size (_ ∷ ts) = suc (size ts)

-- The same productions fit --------------------------------------------------------------------------------------------------

fit_if : (b : Bool) (x y s : List Symbol) (m : ℕ) → Fit (x ++ s) m → Fit (y ++ s) m → Fit ((if b then x else y) ++ s) m
fit_if true x y s m h k = h
fit_if false x y s m h k = k

fit_word : (v : Seen) (s : List Symbol) (m : ℕ) → Fit s m → Fit (g.this_word v ∷ s) m
fit_word (seen.Word v) s m h = h
fit_word _ s m h = tt

fit_commas : (f : Form) (from : ℕ) (v : Seen) (s : List Symbol) (m : ℕ) → Fit (Part (n.Commas f from) ∷ s) m → Fit (g.commas f from v ++ s) m
fit_commas f from v s zero h = absurd h
fit_commas f from (seen.Word w.Comma) s (suc m) h = h
fit_commas f from _ s (suc m) h = h

fit_assigned_by : (f : Form) (from : ℕ) (v : Seen) (q : Option Production) (s : List Symbol) (m : ℕ) → Fit s (suc m) → Fit (g.assigned_by f from v q ++ s) (suc m)
fit_assigned_by f from v None s m h = h
fit_assigned_by f from v (Some q) s m h = fit_word v _ _ h

fit_assigned : (f : Form) (from : ℕ) (v : Seen) (vs : List Tree) (s : List Symbol) (m : ℕ) → Fit (Part (n.Assigned f from) ∷ s) m → Fit (g.assigned f from v vs ++ s) m
fit_assigned f from v vs s zero h = absurd h
fit_assigned f from v vs s (suc m) h = fit_if (g.is_target vs) _ _ s (suc m) (fit_assigned_by f from v (g.assignment_operator v) s m h) h

fit_choice : (f : Form) (from : ℕ) (v : Seen) (s : List Symbol) (m : ℕ) → Fit (Part (n.Choice f from) ∷ s) m → Fit (g.choice f from v ++ s) m
fit_choice f from v s zero h = absurd h
fit_choice f from (seen.Word w.Question) s (suc m) h = h
fit_choice f from _ s (suc m) h = h

fit_operators : (least : ℕ) (f : Form) (from : ℕ) (v : Seen) (o : Option (ℕ × Production)) (s : List Symbol) (m : ℕ) → Fit (Part (n.Operators least f from) ∷ s) m → Fit (g.operators_by least f from v o ++ s) m
fit_operators least f from v o s zero h = absurd h
fit_operators least f from v None s (suc m) h = h
fit_operators least f from v (Some (level, q)) s (suc m) h = fit_if (nat_le least level) _ _ s (suc m) (fit_word v _ _ h) h

fit_unary : (v : Seen) (from : ℕ) (a : Option UpdateOperator) (b : Option UnaryOperator) (s : List Symbol) (m : ℕ) → Fit (Part n.Unary ∷ s) m → Fit (g.unary_by v from a b ++ s) m
fit_unary v from (Some o) b s m h = fit_word v _ _ h
fit_unary v from None (Some o) s m h = fit_word v _ _ h
fit_unary v from None None s m h = h

fit_target : (v : Seen) (from : ℕ) (a : Option UpdateOperator) (b : Option UnaryOperator) (s : List Symbol) (m : ℕ) → Fit (Part n.Target ∷ s) m → Fit (g.target_by v from a b ++ s) m
fit_target v from (Some o) b s m h = fit_word v _ _ h
fit_target v from None (Some o) s m h = fit_word v _ _ h
fit_target v from None None s m h = h

fit_operated : (o : UnaryOperator) (from : ℕ) (vs : List Tree) (s : List Symbol) (m : ℕ) → Fit (Part (n.Operated o from) ∷ s) m → Fit (g.operated o from vs ++ s) m
fit_operated o from vs s zero h = absurd h
fit_operated unary.Delete from vs s (suc m) h = fit_if (g.is_bare vs) _ _ s (suc m) tt h
fit_operated _ from vs s (suc m) h = h

fit_prefixed : (o : UpdateOperator) (from : ℕ) (vs : List Tree) (s : List Symbol) (m : ℕ) → Fit (Part (n.Prefixed o from) ∷ s) m → Fit ((if g.is_target vs then g.node (production.Prefix o) from 1 ∷ [] else Never ∷ []) ++ s) m
fit_prefixed o from vs s zero h = absurd h
fit_prefixed o from vs s (suc m) h = fit_if (g.is_target vs) _ _ s (suc m) h tt

fit_postfix : (from : ℕ) (u : Sight) (o : Option UpdateOperator) (vs : List Tree) (s : List Symbol) (m : ℕ) → Fit (Part (n.Postfix from) ∷ s) m → Fit (g.postfix_by from u o vs ++ s) m
fit_postfix from u o vs s zero h = absurd h
fit_postfix from u None vs s (suc m) h = h
fit_postfix from u (Some o) vs s (suc m) h = fit_if (not u.line_before && g.is_target vs) _ _ s (suc m) (fit_word u.seen _ _ h) h

fit_left_hand : (from : ℕ) (v : Seen) (s : List Symbol) (m : ℕ) → Fit (Part n.LeftHand ∷ s) m → Fit (g.left_hand from v ++ s) m
fit_left_hand from (seen.Word w.New) s m h = h
fit_left_hand from _ s m h = h

fit_tail : (from : ℕ) (v : Seen) (s : List Symbol) (m : ℕ) → Fit (Part (n.Tail from) ∷ s) m → Fit (g.tail from v ++ s) m
fit_tail from v s zero h = absurd h
fit_tail from (seen.Word w.OpenParen) s (suc m) h = h
fit_tail from (seen.Word w.Dot) s (suc m) h = h
fit_tail from (seen.Word w.OpenBracket) s (suc m) h = h
fit_tail from _ s (suc m) h = h

fit_member_tail : (from : ℕ) (v : Seen) (s : List Symbol) (m : ℕ) → Fit (Part (n.MemberTail from) ∷ s) m → Fit (g.member_tail (n.MemberTail from) from v ++ s) m
fit_member_tail from v s zero h = absurd h
fit_member_tail from (seen.Word w.Dot) s (suc m) h = h
fit_member_tail from (seen.Word w.OpenBracket) s (suc m) h = h
fit_member_tail from _ s (suc m) h = h

fit_key : (from : ℕ) (u : Sight) (s : List Symbol) (m : ℕ) → Fit (Part (n.Key from) ∷ s) m → Fit (g.key from u ++ s) m
fit_key from u s zero h = absurd h
fit_key from u s (suc m) h = fit_if (g.is_key u.seen) _ _ s (suc m) (fit_word u.seen _ _ h) tt

fit_constructor : (v : Seen) (s : List Symbol) (m : ℕ) → Fit (Part n.Constructor ∷ s) m → Fit (g.constructor v ++ s) m
fit_constructor (seen.Word w.New) s m h = h
fit_constructor _ s m h = h

fit_given : (from : ℕ) (v : Seen) (s : List Symbol) (m : ℕ) → Fit (Part (n.Given from) ∷ s) m → Fit (g.given from v ++ s) m
fit_given from v s zero h = absurd h
fit_given from (seen.Word w.OpenParen) s (suc m) h = h
fit_given from _ s (suc m) h = h

fit_first_argument : (v : Seen) (s : List Symbol) (m : ℕ) → Fit (Part n.FirstArgument ∷ s) m → Fit (g.first_argument v ++ s) m
fit_first_argument v s zero h = absurd h
fit_first_argument (seen.Word w.CloseParen) s (suc m) h = h
fit_first_argument _ s (suc m) h = h

fit_more_arguments : (v : Seen) (s : List Symbol) (m : ℕ) → Fit (Part n.MoreArguments ∷ s) m → Fit (g.more_arguments v ++ s) m
fit_more_arguments v s zero h = absurd h
fit_more_arguments (seen.Word w.Comma) s (suc m) h = h
fit_more_arguments _ s (suc m) h = h

fit_primary : (u : Sight) (v : Seen) (s : List Symbol) (m : ℕ) → Fit (Part n.Primary ∷ s) m → Fit (g.primary u v ++ s) m
fit_primary u (seen.Word w.This) s m h = h
fit_primary u (seen.Word w.Name) s m h = h
fit_primary u (seen.Word w.Null) s m h = h
fit_primary u (seen.Word w.True) s m h = h
fit_primary u (seen.Word w.False) s m h = h
fit_primary u (seen.Word w.Number) s m h = h
fit_primary u (seen.Word w.Text) s m h = h
fit_primary u (seen.Word w.OpenParen) s m h = h
fit_primary u (seen.Word w.OpenBracket) s m h = h
fit_primary u (seen.Word w.OpenBrace) s m h = h
fit_primary u (seen.Word w.Function) s m h = h
fit_primary u _ s m h = tt

fit_elements : (v : Seen) (s : List Symbol) (m : ℕ) → Fit (Part n.Elements ∷ s) m → Fit (g.elements v ++ s) m
fit_elements v s zero h = absurd h
fit_elements (seen.Word w.Comma) s (suc m) h = h
fit_elements _ s (suc m) h = h

fit_more_elements : (v : Seen) (s : List Symbol) (m : ℕ) → Fit (Part n.MoreElements ∷ s) m → Fit (g.more_elements v ++ s) m
fit_more_elements v s zero h = absurd h
fit_more_elements (seen.Word w.Comma) s (suc m) h = h
fit_more_elements _ s (suc m) h = h

fit_entries : (v : Seen) (s : List Symbol) (m : ℕ) → Fit (Part n.Entries ∷ s) m → Fit (g.entries v ++ s) m
fit_entries v s zero h = absurd h
fit_entries (seen.Word w.CloseBrace) s (suc m) h = h
fit_entries _ s (suc m) h = h

fit_more_entries : (v : Seen) (s : List Symbol) (m : ℕ) → Fit (Part n.MoreEntries ∷ s) m → Fit (g.more_entries v ++ s) m
fit_more_entries v s zero h = absurd h
fit_more_entries (seen.Word w.Comma) s (suc m) h = h
fit_more_entries _ s (suc m) h = h

fit_value : (b : Bool) (x y : Nonterminal) (s : List Symbol) (m : ℕ) → Fit (Part x ∷ s) m → Fit (Part y ∷ s) m → Fit (Part (if b then x else y) ∷ s) m
fit_value true x y s m h k = h
fit_value false x y s m h k = k

fit_behind_key : (u : Sight) (v : Seen) (s : List Symbol) (m : ℕ) → Fit s (suc m) → Fit (Part (g.behind_key u v) ∷ s) m
fit_behind_key u (seen.Word w.Name) s m h = fit_value (bytes_eq u.text (codes "get")) _ _ s m h (fit_value (bytes_eq u.text (codes "set")) _ _ s m h h)
fit_behind_key u _ s m h = h

fit_entry : (u : Sight) (s : List Symbol) (m : ℕ) → Fit (Part n.Entry ∷ s) m → Fit (g.entry u ++ s) m
fit_entry u s m h = fit_if (g.is_property u.seen) _ _ s m (fit_word u.seen _ _ (fit_behind_key u u.seen (g.pair ∷ s) (suc m) h)) tt

fit_getter : (v : Seen) (s : List Symbol) (m : ℕ) → Fit (Part n.Getter ∷ s) m → Fit (g.getter v ++ s) m
fit_getter v s m h = fit_if (g.is_property v) _ _ s m (fit_word v _ _ tt) h

fit_setter : (v : Seen) (s : List Symbol) (m : ℕ) → Fit (Part n.Setter ∷ s) m → Fit (g.setter v ++ s) m
fit_setter v s m h = fit_if (g.is_property v) _ _ s m (fit_word v _ _ tt) h

fit_own_name : (u : Sight) (v : Seen) (s : List Symbol) (m : ℕ) → Fit (Part n.OwnName ∷ s) m → Fit (g.own_name u v ++ s) m
fit_own_name u (seen.Word w.Name) s m h = h
fit_own_name u _ s m h = h

fit_name : (u : Sight) (v : Seen) (s : List Symbol) (m : ℕ) → Fit (Part n.Name ∷ s) m → Fit (g.name u v ++ s) m
fit_name u (seen.Word w.Name) s m h = h
fit_name u _ s m h = tt

fit_parameters : (v : Seen) (s : List Symbol) (m : ℕ) → Fit (Part n.Parameters ∷ s) m → Fit (g.parameters v ++ s) m
fit_parameters v s zero h = absurd h
fit_parameters (seen.Word w.CloseParen) s (suc m) h = h
fit_parameters _ s (suc m) h = h

fit_more_parameters : (v : Seen) (s : List Symbol) (m : ℕ) → Fit (Part n.MoreParameters ∷ s) m → Fit (g.more_parameters v ++ s) m
fit_more_parameters v s zero h = absurd h
fit_more_parameters (seen.Word w.Comma) s (suc m) h = h
fit_more_parameters _ s (suc m) h = h

fit_sources : (r : List Symbol) (v : Seen) (s : List Symbol) (m : ℕ) → Fit (Part n.Sources ∷ s) m → Fit (g.sources r v ++ s) m
fit_sources r v s zero (c, h) = absurd h
fit_sources r (seen.Word w.Function) s (suc m) (c, h) = (c, h)
fit_sources r v s (suc m) (c, h) = fit_if (g.starts r v) (Part n.Statement ∷ g.add ∷ Part n.Sources ∷ []) [] s (suc m) (c, (c, h)) h

fit_statements : (r : List Symbol) (v : Seen) (s : List Symbol) (m : ℕ) → Fit (Part n.Statements ∷ s) m → Fit (g.statements r v ++ s) m
fit_statements r v s zero (c, h) = absurd h
fit_statements r v s (suc m) (c, h) = fit_if (g.starts r v) _ _ s (suc m) (c, (c, h)) h

fit_named : (r : List Symbol) (u : Sight) (s : List Symbol) (m : ℕ) → Fit (Part n.Statement ∷ s) m → Fit (g.named_statement r u ++ s) m
fit_named r u s m (c, h) = fit_if u.colon _ _ s m (fit_if (breaks_to u.text r) _ _ s m tt (c, h)) h

fit_expression : (from : ℕ) (v : Seen) (s : List Symbol) (m : ℕ) → Fit s (suc m) → Fit (g.expression_statement from v ++ s) m
fit_expression from v s m h = fit_if (g.begins v) _ _ s m h tt

fit_statement : (r : List Symbol) (u : Sight) (v : Seen) (s : List Symbol) (m : ℕ) → Fit (Part n.Statement ∷ s) m → Fit (g.statement r u v ++ s) m
fit_statement r u (seen.Word w.OpenBrace) s m (c, h) = (c, h)
fit_statement r u (seen.Word w.Var) s m (c, h) = h
fit_statement r u (seen.Word w.Semicolon) s m (c, h) = h
fit_statement r u (seen.Word w.If) s m (c, h) = (c, (c, h))
fit_statement r u (seen.Word w.Do) s m (c, h) = (c, h)
fit_statement r u (seen.Word w.While) s m (c, h) = (c, h)
fit_statement r u (seen.Word w.For) s m (c, h) = (c, h)
fit_statement r u (seen.Word w.Continue) s m (c, h) = (c, h)
fit_statement r u (seen.Word w.Break) s m (c, h) = (c, h)
fit_statement r u (seen.Word w.Return) s m (c, h) = fit_if (in_function r) _ _ s m h tt
fit_statement r u (seen.Word w.Switch) s m (c, h) = (c, h)
fit_statement r u (seen.Word w.Throw) s m (c, h) = h
fit_statement r u (seen.Word w.Try) s m (c, h) = (c, (c, h))
fit_statement r u (seen.Word w.Name) s m h = fit_named r u s m h
fit_statement r u v s m (c, h) = fit_expression u.from v s m h

fit_more_declarators : (f : Form) (v : Seen) (s : List Symbol) (m : ℕ) → Fit (Part (n.MoreDeclarators f) ∷ s) m → Fit (g.more_declarators f v ++ s) m
fit_more_declarators f v s zero h = absurd h
fit_more_declarators f (seen.Word w.Comma) s (suc m) h = h
fit_more_declarators f _ s (suc m) h = h

fit_initialiser : (f : Form) (v : Seen) (s : List Symbol) (m : ℕ) → Fit (Part (n.Initialiser f) ∷ s) m → Fit (g.initialiser f v ++ s) m
fit_initialiser f (seen.Word w.Assign) s m h = h
fit_initialiser f _ s m h = h

fit_otherwise : (from : ℕ) (v : Seen) (s : List Symbol) (m : ℕ) → Fit (Part (n.Else from) ∷ s) m → Fit (g.otherwise from v ++ s) m
fit_otherwise from v s zero (c, h) = absurd h
fit_otherwise from v s (suc zero) (c, h) = absurd h
fit_otherwise from (seen.Word w.Else) s (suc (suc m)) (c, h) = (c, h)
fit_otherwise from _ s (suc (suc m)) (c, h) = h

fit_for_expression : (from : ℕ) (b : Bool) (s : List Symbol) (m : ℕ) → closed s ≡ true → Fit s (suc m) → Fit (g.for_expression from b ++ s) m
fit_for_expression from b s m c h = fit_if b _ _ s m (c, h) (c, h)

fit_for_head : (from : ℕ) (u : Sight) (v : Seen) (s : List Symbol) (m : ℕ) → Fit (Part (n.ForHead from) ∷ s) m → Fit (g.for_head from u v ++ s) m
fit_for_head from u (seen.Word w.Var) s m (c, h) = (c, h)
fit_for_head from u (seen.Word w.Semicolon) s m (c, h) = (c, h)
fit_for_head from u (seen.Word w.Name) s m (c, h) = fit_for_expression from u.target s m c h
fit_for_head from u (seen.Word w.OpenParen) s m (c, h) = fit_for_expression from u.target s m c h
fit_for_head from u _ s m (c, h) = (c, h)

fit_for_declared : (from at : ℕ) (b : Bool) (s : List Symbol) (m : ℕ) → closed s ≡ true → Fit s (suc m) → Fit (g.for_declared from at b ++ s) m
fit_for_declared from at b s m c h = fit_if b _ _ s m (c, h) (c, h)

fit_for_var : (from at : ℕ) (u : Sight) (v : Seen) (s : List Symbol) (m : ℕ) → Fit (Part (n.ForVar from at) ∷ s) m → Fit (g.for_var from at u v ++ s) m
fit_for_var from at u (seen.Word w.Name) s m (c, h) = fit_for_declared from at u.target s m c h
fit_for_var from at u _ s m (c, h) = (c, h)

fit_for_target : (u : Sight) (v : Seen) (s : List Symbol) (m : ℕ) → Fit (Part n.ForTarget ∷ s) m → Fit (g.for_target u v ++ s) m
fit_for_target u (seen.Word w.Name) s m h = h
fit_for_target u _ s m h = h

fit_for_object : (from : ℕ) (s : List Symbol) (m : ℕ) → Fit (Part (n.ForObject from) ∷ s) m → Fit (Part n.Statement ∷ g.node production.ForIn from 3 ∷ s) (suc m)
fit_for_object from s zero (c, h) = absurd h
fit_for_object from s (suc m) (c, h) = (c, h)

fit_for_start : (from : ℕ) (s : List Symbol) (m : ℕ) → Fit (Part (n.ForStart from) ∷ s) m → Fit (Part n.Statement ∷ g.node production.For from 4 ∷ s) (suc (suc m))
fit_for_start from s zero (c, h) = absurd h
fit_for_start from s (suc m) (c, h) = (c, h)

fit_for_test : (v : Seen) (s : List Symbol) (m : ℕ) → Fit (Part n.ForTest ∷ s) m → Fit (g.for_test v ++ s) m
fit_for_test (seen.Word w.Semicolon) s m h = h
fit_for_test _ s m h = h

fit_for_update : (v : Seen) (s : List Symbol) (m : ℕ) → Fit (Part n.ForUpdate ∷ s) m → Fit (g.for_update v ++ s) m
fit_for_update (seen.Word w.CloseParen) s m h = h
fit_for_update _ s m h = h

fit_jump : (a b : Bool) (q : Production) (from : ℕ) (u : Sight) (v : Seen) (s : List Symbol) (m : ℕ) → Fit s (suc m) → Fit (g.jump a b q from u v ++ s) m
fit_jump a b q from u (seen.Word w.Name) s m h = fit_if u.line_before _ _ s m (fit_if a _ _ s m h tt) (fit_if b _ _ s m h tt)
fit_jump a b q from u _ s m h = fit_if a _ _ s m h tt

fit_returned : (from : ℕ) (u : Sight) (v : Seen) (s : List Symbol) (m : ℕ) → Fit (Part (n.Returned from) ∷ s) m → Fit (g.returned_by from u v ++ s) m
fit_returned from u (seen.Word w.Semicolon) s m h = h
fit_returned from u _ s m h = fit_if (may_insert u) _ _ s m h h

fit_thrown : (from : ℕ) (u : Sight) (s : List Symbol) (m : ℕ) → Fit (Part (n.Thrown from) ∷ s) m → Fit (g.thrown from u ++ s) m
fit_thrown from u s m h = fit_if (may_insert u) _ _ s m tt h

fit_cases : (d : Bool) (v : Seen) (s : List Symbol) (m : ℕ) → Fit (Part (n.Cases d) ∷ s) m → Fit (g.cases d v ++ s) m
fit_cases d v s zero (c, h) = absurd h
fit_cases d (seen.Word w.Case) s (suc m) (c, h) = (c, (c, h))
fit_cases false (seen.Word w.Default) s (suc m) (c, h) = (c, (c, h))
fit_cases d _ s (suc m) (c, h) = h

fit_handlers : (from : ℕ) (v : Seen) (s : List Symbol) (m : ℕ) → Fit (Part (n.Handlers from) ∷ s) m → Fit (g.handlers from v ++ s) m
fit_handlers from v s zero (c, h) = absurd h
fit_handlers from (seen.Word w.Catch) s (suc m) (c, h) = (c, (c, h))
fit_handlers from (seen.Word w.Finally) s (suc m) (c, h) = (c, h)
fit_handlers from _ s (suc m) (c, h) = tt

fit_finally : (from : ℕ) (v : Seen) (s : List Symbol) (m : ℕ) → Fit (Part (n.Finally from) ∷ s) m → Fit (g.finally from v ++ s) m
fit_finally from v s zero (c, h) = absurd h
fit_finally from v s (suc zero) (c, h) = absurd h
fit_finally from (seen.Word w.Finally) s (suc (suc m)) (c, h) = (c, h)
fit_finally from _ s (suc (suc m)) (c, h) = h

pub fit_production : (x : Nonterminal) (r : List Symbol) (u : Sight) (vs : List Tree) (s : List Symbol) (m : ℕ) → Fit (Part x ∷ s) m → Fit (produce x r u vs ++ s) m
fit_production (n.Expression f) r u vs s m h = h
fit_production (n.Commas f from) r u vs s m h = fit_commas f from u.seen s m h
fit_production (n.Assignment f) r u vs s m h = h
fit_production (n.Assigned f from) r u vs s m h = fit_assigned f from u.seen vs s m h
fit_production (n.Conditional f) r u vs s m h = h
fit_production (n.Choice f from) r u vs s m h = fit_choice f from u.seen s m h
fit_production (n.Operation least f) r u vs s m h = h
fit_production (n.Operators least f from) r u vs s m h = fit_operators least f from u.seen (g.binary_operator f u.seen) s m h
fit_production n.Unary r u vs s m h = fit_unary u.seen u.from (g.update_operator u.seen) (g.unary_operator u.seen) s m h
fit_production (n.Postfix from) r u vs s m h = fit_postfix from u (g.update_operator u.seen) vs s m h
fit_production (n.Updated o from) r u vs s m h = h
fit_production n.Target r u vs s m h = fit_target u.seen u.from (g.update_operator u.seen) (g.unary_operator u.seen) s m h
fit_production (n.Prefixed o from) r u vs s m h = fit_prefixed o from vs s m h
fit_production (n.Operand o from) r u vs s m h = h
fit_production (n.TargetOperand o from) r u vs s m h = h
fit_production (n.Operated o from) r u vs s m h = fit_operated o from vs s m h
fit_production n.LeftHand r u vs s m h = fit_left_hand u.from u.seen s m h
fit_production (n.Tail from) r u vs s m h = fit_tail from u.seen s m h
fit_production (n.MemberTail from) r u vs s m h = fit_member_tail from u.seen s m h
fit_production (n.Key from) r u vs s m h = fit_key from u s m h
fit_production n.New r u vs s m h = h
fit_production n.Callee r u vs s m h = h
fit_production n.Constructor r u vs s m h = fit_constructor u.seen s m h
fit_production (n.Given from) r u vs s m h = fit_given from u.seen s m h
fit_production n.Arguments r u vs s m h = h
fit_production n.FirstArgument r u vs s m h = fit_first_argument u.seen s m h
fit_production n.MoreArguments r u vs s m h = fit_more_arguments u.seen s m h
fit_production n.Primary r u vs s m h = fit_primary u u.seen s m h
fit_production n.Elements r u vs s m h = fit_elements u.seen s m h
fit_production n.MoreElements r u vs s m h = fit_more_elements u.seen s m h
fit_production n.Entries r u vs s m h = fit_entries u.seen s m h
fit_production n.MoreEntries r u vs s m h = fit_more_entries u.seen s m h
fit_production n.Entry r u vs s m h = fit_entry u s m h
fit_production n.Getter r u vs s m h = fit_getter u.seen s m h
fit_production n.Setter r u vs s m h = fit_setter u.seen s m h
fit_production n.Accessed r u vs s m h = (refl, tt)
fit_production n.Value r u vs s m h = h
fit_production n.Function r u vs s m h = h
fit_production n.OwnName r u vs s m h = fit_own_name u u.seen s m h
fit_production n.Name r u vs s m h = fit_name u u.seen s m h
fit_production n.Parameters r u vs s m h = fit_parameters u.seen s m h
fit_production n.MoreParameters r u vs s m h = fit_more_parameters u.seen s m h
fit_production n.Body r u vs s m h = (refl, h)
fit_production n.Sources r u vs s m h = fit_sources r u.seen s m h
fit_production n.Declaration r u vs s m h = h
fit_production n.Statements r u vs s m h = fit_statements r u.seen s m h
fit_production n.Statement r u vs s m h = fit_statement r u u.seen s m h
fit_production n.Braced r u vs s m h = h
fit_production (n.Declarations f) r u vs s m h = h
fit_production (n.Declarator f) r u vs s zero h = absurd h
fit_production (n.Declarator f) r u vs s (suc m) h = h
fit_production (n.MoreDeclarators f) r u vs s m h = fit_more_declarators f u.seen s m h
fit_production (n.Initialiser f) r u vs s m h = fit_initialiser f u.seen s m h
fit_production (n.Else from) r u vs s m h = fit_otherwise from u.seen s m h
fit_production (n.ForHead from) r u vs s m h = fit_for_head from u u.seen s m h
fit_production (n.ForVar from at) r u vs s m h = fit_for_var from at u u.seen s m h
fit_production n.ForTarget r u vs s m h = fit_for_target u u.seen s m h
fit_production (n.ForObject from) r u vs s m h = fit_for_object from s m h
fit_production (n.ForStart from) r u vs s m h = fit_for_start from s m h
fit_production n.ForTest r u vs s m h = fit_for_test u.seen s m h
fit_production n.ForUpdate r u vs s m h = fit_for_update u.seen s m h
fit_production (n.ContinueTo from) r u vs s m (c, h) = fit_jump (continues r) (continues_to u.text r) production.Continue from u u.seen s m h
fit_production (n.BreakTo from) r u vs s m (c, h) = fit_jump (breaks r) (breaks_to u.text r) production.Break from u u.seen s m h
fit_production (n.Returned from) r u vs s m h = fit_returned from u u.seen s m h
fit_production (n.Thrown from) r u vs s m h = fit_thrown from u s m h
fit_production (n.Cases d) r u vs s m h = fit_cases d u.seen s m h
fit_production (n.Handlers from) r u vs s m h = fit_handlers from u.seen s m h
fit_production (n.Finally from) r u vs s m h = fit_finally from u.seen s m h

-- The productions are the same wherever the part stands ---------------------------------------------------------------------

same_in : (p s s' : List Symbol) → closed p ≡ true → in_function (p ++ s) ≡ in_function (p ++ s')
same_in [] s s' c = absurd (cc)
same_in (Leave Function ∷ p) s s' c = refl
same_in (_ ∷ p) s s' c = same_in p s s' c

same_breaks : (p s s' : List Symbol) → closed p ≡ true → breaks (p ++ s) ≡ breaks (p ++ s')
same_breaks [] s s' c = absurd (cc)
same_breaks (Leave Function ∷ p) s s' c = refl
same_breaks (Leave Loop ∷ p) s s' c = refl
same_breaks (Leave Switch ∷ p) s s' c = refl
same_breaks (_ ∷ p) s s' c = same_breaks p s s' c

same_continues : (p s s' : List Symbol) → closed p ≡ true → continues (p ++ s) ≡ continues (p ++ s')
same_continues [] s s' c = absurd (cc)
same_continues (Leave Function ∷ p) s s' c = refl
same_continues (Leave Loop ∷ p) s s' c = refl
same_continues (_ ∷ p) s s' c = same_continues p s s' c

same_breaks_to : (l : List ℕ) (p s s' : List Symbol) → closed p ≡ true → breaks_to l (p ++ s) ≡ breaks_to l (p ++ s')
same_breaks_to l [] s s' c = absurd (cc)
same_breaks_to l (Leave Function ∷ p) s s' c = refl
same_breaks_to l (Leave (Labelled m) ∷ p) s s' c = ap (λ b. bytes_eq l m || b) (same_breaks_to l p s s' c)
same_breaks_to l (_ ∷ p) s s' c = same_breaks_to l p s s' c

same_labels : (l : List ℕ) (p s s' : List Symbol) → closed p ≡ true → labels l (p ++ s) ≡ labels l (p ++ s')
same_labels l [] s s' c = absurd (cc)
same_labels l (Makes b ∷ p) s s' c = same_labels l p s s' c
same_labels l (Leave (Labelled m) ∷ p) s s' c = ap (λ b. bytes_eq l m || b) (same_labels l p s s' c)
same_labels l _ s s' c = refl

same_continues_to : (l : List ℕ) (p s s' : List Symbol) → closed p ≡ true → continues_to l (p ++ s) ≡ continues_to l (p ++ s')
same_continues_to l [] s s' c = absurd (cc)
same_continues_to l (Leave Function ∷ p) s s' c = refl
same_continues_to l (Leave Loop ∷ p) s s' c = ap₂ ◌||◌ (same_labels l p s s' c) (same_continues_to l p s s' c)
same_continues_to l (_ ∷ p) s s' c = same_continues_to l p s s' c

same_starts : (p s s' : List Symbol) (v : Seen) → closed p ≡ true → g.starts (p ++ s) v ≡ g.starts (p ++ s') v
same_starts p s s' (seen.Word w.Return) c = same_in p s s' c
same_starts p s s' _ c = refl

same_sources : (p s s' : List Symbol) (v : Seen) → closed p ≡ true → g.sources (p ++ s) v ≡ g.sources (p ++ s') v
same_sources p s s' (seen.Word w.Return) c = rw (same_in p s s' c)
same_sources p s s' _ c = refl

same_statement : (p s s' : List Symbol) (u : Sight) (v : Seen) → closed p ≡ true → g.statement (p ++ s) u v ≡ g.statement (p ++ s') u v
same_statement p s s' u (seen.Word w.Return) c = rw (same_in p s s' c)
same_statement p s s' u (seen.Word w.Name) c = rw (same_breaks_to u.text p s s' c)
same_statement p s s' u _ c = refl

same_target : (t : Tree) (vs vs' : List Tree) → g.is_target (t ∷ vs) ≡ g.is_target (t ∷ vs')
same_target (Made production.Name from to ts) vs vs' = refl
same_target _ vs vs' = refl

same_bare : (t : Tree) (vs vs' : List Tree) → g.is_bare (t ∷ vs) ≡ g.is_bare (t ∷ vs')
same_bare (Made production.Name from to ts) vs vs' = refl
same_bare _ vs vs' = refl

same_operated : (o : UnaryOperator) (from : ℕ) (t : Tree) (vs vs' : List Tree) → g.operated o from (t ∷ vs) ≡ g.operated o from (t ∷ vs')
same_operated unary.Delete from t vs vs' = rw (same_bare t vs vs')
same_operated _ from t vs vs' = refl

same_postfix : (from : ℕ) (u : Sight) (o : Option UpdateOperator) (t : Tree) (vs vs' : List Tree) → g.postfix_by from u o (t ∷ vs) ≡ g.postfix_by from u o (t ∷ vs')
same_postfix from u None t vs vs' = refl
same_postfix from u (Some o) t vs vs' = rw (same_target t vs vs')

pub same_production : (x : Nonterminal) (p s s' : List Symbol) (u : Sight) (ts vs vs' : List Tree) → Fit (Part x ∷ p) (size ts) → produce x (p ++ s) u (ts ++ vs) ≡ produce x (p ++ s') u (ts ++ vs')
same_production (n.Assigned f from) p s s' u [] vs vs' h = absurd h
same_production (n.Assigned f from) p s s' u (t ∷ ts) vs vs' h = rw (same_target t (ts ++ vs) (ts ++ vs'))
same_production (n.Postfix from) p s s' u [] vs vs' h = absurd h
same_production (n.Postfix from) p s s' u (t ∷ ts) vs vs' h = same_postfix from u (g.update_operator u.seen) t (ts ++ vs) (ts ++ vs')
same_production (n.Prefixed o from) p s s' u [] vs vs' h = absurd h
same_production (n.Prefixed o from) p s s' u (t ∷ ts) vs vs' h = rw (same_target t (ts ++ vs) (ts ++ vs'))
same_production (n.Operated o from) p s s' u [] vs vs' h = absurd h
same_production (n.Operated o from) p s s' u (t ∷ ts) vs vs' h = same_operated o from t (ts ++ vs) (ts ++ vs')
same_production n.Sources p s s' u ts vs vs' h = same_sources p s s' u.seen h.0
same_production n.Statements p s s' u ts vs vs' h = rw (same_starts p s s' u.seen h.0)
same_production n.Statement p s s' u ts vs vs' h = same_statement p s s' u u.seen h.0
same_production (n.ContinueTo from) p s s' u ts vs vs' h = rw (same_continues p s s' h.0, same_continues_to u.text p s s' h.0)
same_production (n.BreakTo from) p s s' u ts vs vs' h = rw (same_breaks p s s' h.0, same_breaks_to u.text p s s' h.0)
same_production _ p s s' u ts vs vs' h = refl

-- Trees are made of what the part has -----------------------------------------------------------------------------------------

-- of the trees in the part, and of no others
abbrev pub Within : Build → Sight → List Tree → (ℕ → Type 0) → Type 0
Within b u ts P = (ts' : List Tree) × P (size ts') × ((vs : List Tree) → built b u (ts ++ vs) ≡ ts' ++ vs)

grouped_within : (k : ℕ) (t : Tree) (ts : List Tree) (P : ℕ → Type 0) → Takes k (size ts) P →
    (t' : Tree) × (ts' : List Tree) × P (size ts') × ((vs : List Tree) → grouped k t (ts ++ vs) ≡ (t', ts' ++ vs))
grouped_within zero t ts P h = (t, ts, h, λ vs. refl)
grouped_within (suc k) t [] P h = absurd h
grouped_within (suc k) t (v ∷ ts) P h = grouped_within k (Cons v t) ts P h

pub built_within : (b : Build) (u : Sight) (ts : List Tree) (P : ℕ → Type 0) → Takes (count b) (size ts) (λ k. P (suc k)) → Within b u ts P
built_within (build.Node q from k) u ts P h =
    let (t', ts', h', e) = grouped_within k Nil ts (λ k. P (suc k)) h in
    (Made q from u.before t' ∷ ts', h', λ vs. ap (λ z. Made q from u.before z.0 ∷ z.1) (e vs))
built_within (build.Root q) u [] P h = absurd h
built_within (build.Root q) u (v ∷ ts) P h = (Made q 0 u.from (Cons v Nil) ∷ ts, h, λ vs. refl)
built_within (build.Group k) u ts P h =
    let (t', ts', h', e) = grouped_within k Nil ts (λ k. P (suc k)) h in
    (t' ∷ ts', h', λ vs. ap (λ z. z.0 ∷ z.1) (e vs))
built_within build.Add u [] P h = absurd h
built_within build.Add u (v ∷ []) P h = absurd h
built_within build.Add u (v ∷ t ∷ ts) P h = (behind t v ∷ ts, h, λ vs. refl)
built_within build.Missing u ts P h = (Missing ∷ ts, h, λ vs. refl)
built_within (build.Text l) u ts P h = (word_tree l ∷ ts, h, λ vs. refl)
