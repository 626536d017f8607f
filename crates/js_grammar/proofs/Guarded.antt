-- A semicolon that may be inserted without a line terminator stands behind a closing parenthesis alone.
use Rattle.std.proofs.Common.{◌≡◌, ℕ, Bool, true, false, List, [], ◌∷◌, ◌++◌, ◌||◌, ◌&&◌, refl, subst}
use Rattle.std.specs.Prelude.{ℤ, Option, Some, None, nat_le, not, if◌then◌else◌}
use Rattle.js_tokens.specs.declared.word.Word.{Word}
use Rattle.js_tokens.specs.declared.word.Word.TheVariants as w
use Rattle.js_tree.specs.declared.production.Production.{Production}
use Rattle.js_tree.specs.declared.production.Production.TheVariants as p
use Rattle.js_tree.specs.declared.production.UnaryOperator.{UnaryOperator}
use Rattle.js_tree.specs.declared.production.UnaryOperator.TheVariants as unary
use Rattle.js_tree.specs.declared.production.UpdateOperator.{UpdateOperator}
use Rattle.js_tree.specs.Trees.{Tree}
use Rattle.js_grammar.specs.declared.sight.Seen.{Seen}
use Rattle.js_grammar.specs.declared.sight.Seen.TheVariants as seen
use Rattle.js_grammar.specs.declared.sight.Sight.{Sight}
use Rattle.js_grammar.specs.declared.symbol.Form.{Form}
use Rattle.js_grammar.specs.declared.symbol.Nonterminal.{Nonterminal}
use Rattle.js_grammar.specs.declared.symbol.Nonterminal.TheVariants as n
use Rattle.js_grammar.specs.declared.symbol.Symbol.{Symbol}
use Rattle.js_grammar.specs.declared.symbol.Symbol.TheVariants.{Word as T, End, Semicolon, FreeSemicolon, Never, Part, Build as Makes, Leave}
use Rattle.js_grammar.specs.Sights.{may_follow}
use Rattle.js_grammar.specs.Parts.{in_function, continues, breaks, continues_to, breaks_to}
use Rattle.js_grammar.specs.Grammar.{produce, starts, is_key, is_property, is_target, is_bare, commas, assigned_by, assignment_operator, choice, operators_by, binary_operator, unary_by, target_by, update_operator, unary_operator, operated, postfix_by, left_hand, member_tail, tail, key, constructor, given, first_argument, more_arguments, primary, elements, more_elements, entries, more_entries, entry, getter, setter, own_name, name, parameters, more_parameters, sources, named_statement, return_statement, add, statement, more_declarators, initialiser, otherwise, for_expression, for_head, for_var, for_target, for_test, for_update, unlabelled, jump, returned_by, cases, handlers, finally}
use Rattle.js_grammar.proofs.Agree.{sees}

-- what is to be read, where a closing parenthesis stands before it or doesn't
abbrev pub Guarded : Bool → List Symbol → Type 0
Guarded b [] = Unit {0}
Guarded true (FreeSemicolon ∷ s) = Guarded false s
Guarded false (FreeSemicolon ∷ s) = ⊥
Guarded b (T w.CloseParen ∷ s) = Guarded true s
Guarded b (_ ∷ s) = Guarded false s

pub loosen : (s : List Symbol) → Guarded false s → Guarded true s
loosen [] g = g
loosen (FreeSemicolon ∷ s) g = absurd g
loosen (T w.CloseParen ∷ s) g = g
loosen (_ ∷ s) g = g

-- behind any word
pub behind : (v : Word) (b : Bool) (s : List Symbol) → Guarded b (T v ∷ s) → Guarded true s
behind w.CloseParen true s g = g
behind w.CloseParen false s g = g
behind _ true s g = loosen s g
behind _ false s g = loosen s g

pub before_word : (v : Word) (b : Bool) (s : List Symbol) → Guarded false s → Guarded b (T v ∷ s)
before_word w.CloseParen true s g = loosen s g
before_word w.CloseParen false s g = loosen s g
before_word _ true s g = g
before_word _ false s g = g

pub not_free : (s z : List Symbol) → Guarded false s → s ≡ FreeSemicolon ∷ z → ⊥
not_free s z g e = subst (Guarded false) e g

-- none of these is such a semicolon
abbrev pub free_of : List Symbol → Bool
free_of [] = true
free_of (FreeSemicolon ∷ s) = false
free_of (_ ∷ s) = free_of s

free_append : (q s : List Symbol) → free_of q ≡ true → Guarded false s → Guarded false (q ++ s)
free_append [] s e g = g
free_append (FreeSemicolon ∷ q) s e g = absurd (cc)
free_append (T v ∷ q) s e g = before_word v false (q ++ s) (free_append q s e g)
free_append (End ∷ q) s e g = free_append q s e g
free_append (Semicolon ∷ q) s e g = free_append q s e g
free_append (Never ∷ q) s e g = free_append q s e g
free_append (Part x ∷ q) s e g = free_append q s e g
free_append (Makes b ∷ q) s e g = free_append q s e g
free_append (Leave o ∷ q) s e g = free_append q s e g

free_if : (b : Bool) (here there : List Symbol) → free_of here ≡ true → free_of there ≡ true → free_of (if b then here else there) ≡ true
free_if true here there e f = e
free_if false here there e f = f

free_commas : (h : Form) (from : ℕ) (v : Seen) → free_of (commas h from v) ≡ true
free_commas h from (seen.Word w.Comma) = refl
free_commas h from _ = refl

free_choice : (h : Form) (from : ℕ) (v : Seen) → free_of (choice h from v) ≡ true
free_choice h from (seen.Word w.Question) = refl
free_choice h from _ = refl

free_left_hand : (from : ℕ) (v : Seen) → free_of (left_hand from v) ≡ true
free_left_hand from (seen.Word w.New) = refl
free_left_hand from _ = refl

free_member_tail : (more : Nonterminal) (from : ℕ) (v : Seen) → free_of (member_tail more from v) ≡ true
free_member_tail more from (seen.Word w.Dot) = refl
free_member_tail more from _ = refl

free_tail : (from : ℕ) (v : Seen) → free_of (tail from v) ≡ true
free_tail from (seen.Word w.Dot) = refl
free_tail from _ = refl

free_constructor : (v : Seen) → free_of (constructor v) ≡ true
free_constructor (seen.Word w.New) = refl
free_constructor _ = refl

free_given : (from : ℕ) (v : Seen) → free_of (given from v) ≡ true
free_given from (seen.Word w.OpenParen) = refl
free_given from _ = refl

free_first_argument : (v : Seen) → free_of (first_argument v) ≡ true
free_first_argument (seen.Word w.CloseParen) = refl
free_first_argument _ = refl

free_more_arguments : (v : Seen) → free_of (more_arguments v) ≡ true
free_more_arguments (seen.Word w.Comma) = refl
free_more_arguments _ = refl

free_elements : (v : Seen) → free_of (elements v) ≡ true
free_elements (seen.Word w.Comma) = refl
free_elements _ = refl

free_more_elements : (v : Seen) → free_of (more_elements v) ≡ true
free_more_elements (seen.Word w.Comma) = refl
free_more_elements _ = refl

free_entries : (v : Seen) → free_of (entries v) ≡ true
free_entries (seen.Word w.CloseBrace) = refl
free_entries _ = refl

free_more_entries : (v : Seen) → free_of (more_entries v) ≡ true
free_more_entries (seen.Word w.Comma) = refl
free_more_entries _ = refl

free_parameters : (v : Seen) → free_of (parameters v) ≡ true
free_parameters (seen.Word w.CloseParen) = refl
free_parameters _ = refl

free_more_parameters : (v : Seen) → free_of (more_parameters v) ≡ true
free_more_parameters (seen.Word w.Comma) = refl
free_more_parameters _ = refl

free_for_test : (v : Seen) → free_of (for_test v) ≡ true
free_for_test (seen.Word w.Semicolon) = refl
free_for_test _ = refl

free_for_update : (v : Seen) → free_of (for_update v) ≡ true
free_for_update (seen.Word w.CloseParen) = refl
free_for_update _ = refl

free_more_declarators : (h : Form) (v : Seen) → free_of (more_declarators h v) ≡ true
free_more_declarators h (seen.Word w.Comma) = refl
free_more_declarators h _ = refl

free_initialiser : (h : Form) (v : Seen) → free_of (initialiser h v) ≡ true
free_initialiser h (seen.Word w.Assign) = refl
free_initialiser h _ = refl

free_otherwise : (from : ℕ) (v : Seen) → free_of (otherwise from v) ≡ true
free_otherwise from (seen.Word w.Else) = refl
free_otherwise from _ = refl

free_handlers : (from : ℕ) (v : Seen) → free_of (handlers from v) ≡ true
free_handlers from (seen.Word w.Catch) = refl
free_handlers from _ = refl

free_finally : (from : ℕ) (v : Seen) → free_of (finally from v) ≡ true
free_finally from (seen.Word w.Finally) = refl
free_finally from _ = refl

free_assigned_by : (h : Form) (from : ℕ) (v : Seen) (o : Option Production) → free_of (assigned_by h from v o) ≡ true
free_assigned_by h from v None = refl
free_assigned_by h from (seen.Word k) (Some q) = refl
free_assigned_by h from seen.Forbidden (Some q) = refl
free_assigned_by h from seen.End (Some q) = refl

free_operators : (least : ℕ) (h : Form) (from : ℕ) (v : Seen) (o : Option (ℕ × Production)) → free_of (operators_by least h from v o) ≡ true
free_operators least h from v None = refl
free_operators least h from (seen.Word k) (Some (level, q)) = free_if (nat_le least level) _ _ refl refl
free_operators least h from seen.Forbidden (Some (level, q)) = free_if (nat_le least level) _ _ refl refl
free_operators least h from seen.End (Some (level, q)) = free_if (nat_le least level) _ _ refl refl

free_unary : (v : Seen) (from : ℕ) (o : Option UpdateOperator) (q : Option UnaryOperator) → free_of (unary_by v from o q) ≡ true
free_unary (seen.Word k) from (Some o) q = refl
free_unary (seen.Word k) from None (Some o) = refl
free_unary seen.Forbidden from (Some o) q = refl
free_unary seen.Forbidden from None (Some o) = refl
free_unary seen.End from (Some o) q = refl
free_unary seen.End from None (Some o) = refl
free_unary v from None None = refl

free_target : (v : Seen) (from : ℕ) (o : Option UpdateOperator) (q : Option UnaryOperator) → free_of (target_by v from o q) ≡ true
free_target (seen.Word k) from (Some o) q = refl
free_target (seen.Word k) from None (Some o) = refl
free_target seen.Forbidden from (Some o) q = refl
free_target seen.Forbidden from None (Some o) = refl
free_target seen.End from (Some o) q = refl
free_target seen.End from None (Some o) = refl
free_target v from None None = refl

free_postfix : (from : ℕ) (v : Seen) (t : List ℕ) (z : ℤ) (l c g : Bool) (b f : ℕ) (o : Option UpdateOperator) (vs : List Tree) → free_of (postfix_by from (sees v t z l c g b f) o vs) ≡ true
free_postfix from v t z l c g b f None vs = refl
free_postfix from (seen.Word k) t z l c g b f (Some o) vs = free_if (not l && is_target vs) _ _ refl refl
free_postfix from seen.Forbidden t z l c g b f (Some o) vs = free_if (not l && is_target vs) _ _ refl refl
free_postfix from seen.End t z l c g b f (Some o) vs = free_if (not l && is_target vs) _ _ refl refl

free_operated : (o : UnaryOperator) (from : ℕ) (vs : List Tree) → free_of (operated o from vs) ≡ true
free_operated unary.Delete from vs = free_if (is_bare vs) _ _ refl refl
free_operated _ from vs = refl

free_key : (from : ℕ) (v : Seen) (t : List ℕ) (z : ℤ) (l c g : Bool) (b f : ℕ) → free_of (key from (sees v t z l c g b f)) ≡ true
free_key from (seen.Word k) t z l c g b f = free_if (is_key (seen.Word k)) _ _ refl refl
free_key from seen.Forbidden t z l c g b f = refl
free_key from seen.End t z l c g b f = refl

free_entry : (v : Seen) (t : List ℕ) (z : ℤ) (l c g : Bool) (b f : ℕ) → free_of (entry (sees v t z l c g b f)) ≡ true
free_entry (seen.Word k) t z l c g b f = free_if (is_property (seen.Word k)) _ _ refl refl
free_entry seen.Forbidden t z l c g b f = refl
free_entry seen.End t z l c g b f = refl

free_getter : (v : Seen) → free_of (getter v) ≡ true
free_getter (seen.Word k) = free_if (is_property (seen.Word k)) _ _ refl refl
free_getter seen.Forbidden = refl
free_getter seen.End = refl

free_setter : (v : Seen) → free_of (setter v) ≡ true
free_setter (seen.Word k) = free_if (is_property (seen.Word k)) _ _ refl refl
free_setter seen.Forbidden = refl
free_setter seen.End = refl

free_primary : (v : Seen) (t : List ℕ) (z : ℤ) (l c g : Bool) (b f : ℕ) → free_of (primary (sees v t z l c g b f) v) ≡ true
free_primary (seen.Word w.This) t z l c g b f = refl
free_primary _ t z l c g b f = refl

free_own_name : (v : Seen) (t : List ℕ) (z : ℤ) (l c g : Bool) (b f : ℕ) → free_of (own_name (sees v t z l c g b f) v) ≡ true
free_own_name (seen.Word w.Name) t z l c g b f = refl
free_own_name _ t z l c g b f = refl

free_name : (v : Seen) (t : List ℕ) (z : ℤ) (l c g : Bool) (b f : ℕ) → free_of (name (sees v t z l c g b f) v) ≡ true
free_name (seen.Word w.Name) t z l c g b f = refl
free_name _ t z l c g b f = refl

free_for_target : (v : Seen) (t : List ℕ) (z : ℤ) (l c g : Bool) (b f : ℕ) → free_of (for_target (sees v t z l c g b f) v) ≡ true
free_for_target (seen.Word w.Name) t z l c g b f = refl
free_for_target _ t z l c g b f = refl

free_listed : (b : Bool) (x : Nonterminal) → free_of (if b then Part n.Statement ∷ add ∷ Part x ∷ [] else []) ≡ true
free_listed true x = refl
free_listed false x = refl

free_return : (b : Bool) (from : ℕ) → free_of (if b then return_statement from else Never ∷ []) ≡ true
free_return true from = refl
free_return false from = refl

free_sources : (s : List Symbol) (v : Seen) → free_of (sources s v) ≡ true
free_sources s (seen.Word w.Function) = refl
free_sources s v = free_listed (starts s v) n.Sources

free_named : (s : List Symbol) (c : Bool) (t : List ℕ) (z : ℤ) (l g : Bool) (b f : ℕ) → free_of (named_statement s (sees (seen.Word w.Name) t z l c g b f)) ≡ true
free_named s true t z l g b f = free_if (breaks_to t s) _ _ refl refl
free_named s false t z l g b f = refl

guarded_statement : (s : List Symbol) (v : Seen) (t : List ℕ) (z : ℤ) (l c g : Bool) (b f : ℕ) → Guarded false s → Guarded false (statement s (sees v t z l c g b f) v ++ s)
guarded_statement s (seen.Word w.Do) t z l c g b f h = h
guarded_statement s (seen.Word w.Return) t z l c g b f h = free_append (if in_function s then return_statement f else Never ∷ []) s (free_return (in_function s) f) h
guarded_statement s (seen.Word w.Name) t z l c g b f h = free_append (named_statement s (sees (seen.Word w.Name) t z l c g b f)) s (free_named s c t z l g b f) h
guarded_statement s _ t z l c g b f h = h

free_for : (from : ℕ) (g : Bool) → free_of (for_expression from g) ≡ true
free_for from g = free_if g _ _ refl refl

free_for_head : (from : ℕ) (v : Seen) (t : List ℕ) (z : ℤ) (l c g : Bool) (b f : ℕ) → free_of (for_head from (sees v t z l c g b f) v) ≡ true
free_for_head from (seen.Word w.Name) t z l c g b f = free_for from g
free_for_head from (seen.Word w.OpenParen) t z l c g b f = free_for from g
free_for_head from _ t z l c g b f = refl

free_for_var : (from at : ℕ) (v : Seen) (t : List ℕ) (z : ℤ) (l c g : Bool) (b f : ℕ) → free_of (for_var from at (sees v t z l c g b f) v) ≡ true
free_for_var from at (seen.Word w.Name) t z l c g b f = free_if g _ _ refl refl
free_for_var from at _ t z l c g b f = refl

free_unlabelled : (there : Bool) (q : Production) (from : ℕ) → free_of (unlabelled there q from) ≡ true
free_unlabelled there q from = free_if there _ _ refl refl

free_jump : (there labelled_there : Bool) (q : Production) (from : ℕ) (v : Seen) (t : List ℕ) (z : ℤ) (l c g : Bool) (b f : ℕ) → free_of (jump there labelled_there q from (sees v t z l c g b f) v) ≡ true
free_jump there labelled_there q from (seen.Word w.Name) t z true c g b f = free_unlabelled there q from
free_jump there labelled_there q from (seen.Word w.Name) t z false c g b f = free_if labelled_there _ _ refl refl
free_jump there labelled_there q from _ t z l c g b f = free_unlabelled there q from

free_returned : (from : ℕ) (v : Seen) (t : List ℕ) (z : ℤ) (l c g : Bool) (b f : ℕ) → free_of (returned_by from (sees v t z l c g b f) v) ≡ true
free_returned from (seen.Word w.Semicolon) t z l c g b f = refl
free_returned from v t z l c g b f = free_if (l || may_follow v) _ _ refl refl

free_cases : (d : Bool) (v : Seen) → free_of (cases d v) ≡ true
free_cases d (seen.Word w.Case) = refl
free_cases false (seen.Word w.Default) = refl
free_cases true _ = refl
free_cases false _ = refl

guarded_at : (x : Nonterminal) (s : List Symbol) (v : Seen) (t : List ℕ) (z : ℤ) (l c g : Bool) (b f : ℕ) (vs : List Tree) → Guarded false s → Guarded false (produce x s (sees v t z l c g b f) vs ++ s)
guarded_at (n.Expression i) s v t z l c g b f vs h = free_append (produce (n.Expression i) s (sees v t z l c g b f) vs) s (refl) h
guarded_at (n.Commas i from) s v t z l c g b f vs h = free_append (produce (n.Commas i from) s (sees v t z l c g b f) vs) s (free_commas i from v) h
guarded_at (n.Assignment i) s v t z l c g b f vs h = free_append (produce (n.Assignment i) s (sees v t z l c g b f) vs) s (refl) h
guarded_at (n.Assigned i from) s v t z l c g b f vs h = free_append (produce (n.Assigned i from) s (sees v t z l c g b f) vs) s (free_if (is_target vs) _ _ (free_assigned_by i from v (assignment_operator v)) refl) h
guarded_at (n.Conditional i) s v t z l c g b f vs h = free_append (produce (n.Conditional i) s (sees v t z l c g b f) vs) s (refl) h
guarded_at (n.Choice i from) s v t z l c g b f vs h = free_append (produce (n.Choice i from) s (sees v t z l c g b f) vs) s (free_choice i from v) h
guarded_at (n.Operation least i) s v t z l c g b f vs h = free_append (produce (n.Operation least i) s (sees v t z l c g b f) vs) s (refl) h
guarded_at (n.Operators least i from) s v t z l c g b f vs h = free_append (produce (n.Operators least i from) s (sees v t z l c g b f) vs) s (free_operators least i from v (binary_operator i v)) h
guarded_at n.Unary s v t z l c g b f vs h = free_append (produce n.Unary s (sees v t z l c g b f) vs) s (free_unary v f (update_operator v) (unary_operator v)) h
guarded_at (n.Postfix from) s v t z l c g b f vs h = free_append (produce (n.Postfix from) s (sees v t z l c g b f) vs) s (free_postfix from v t z l c g b f (update_operator v) vs) h
guarded_at (n.Updated o from) s v t z l c g b f vs h = free_append (produce (n.Updated o from) s (sees v t z l c g b f) vs) s (refl) h
guarded_at n.Target s v t z l c g b f vs h = free_append (produce n.Target s (sees v t z l c g b f) vs) s (free_target v f (update_operator v) (unary_operator v)) h
guarded_at (n.Prefixed o from) s v t z l c g b f vs h = free_append (produce (n.Prefixed o from) s (sees v t z l c g b f) vs) s (free_if (is_target vs) _ _ refl refl) h
guarded_at (n.Operand o from) s v t z l c g b f vs h = free_append (produce (n.Operand o from) s (sees v t z l c g b f) vs) s (refl) h
guarded_at (n.TargetOperand o from) s v t z l c g b f vs h = free_append (produce (n.TargetOperand o from) s (sees v t z l c g b f) vs) s (refl) h
guarded_at (n.Operated o from) s v t z l c g b f vs h = free_append (produce (n.Operated o from) s (sees v t z l c g b f) vs) s (free_operated o from vs) h
guarded_at n.LeftHand s v t z l c g b f vs h = free_append (produce n.LeftHand s (sees v t z l c g b f) vs) s (free_left_hand f v) h
guarded_at (n.Tail from) s v t z l c g b f vs h = free_append (produce (n.Tail from) s (sees v t z l c g b f) vs) s (free_tail from v) h
guarded_at (n.MemberTail from) s v t z l c g b f vs h = free_append (produce (n.MemberTail from) s (sees v t z l c g b f) vs) s (free_member_tail (n.MemberTail from) from v) h
guarded_at (n.Key from) s v t z l c g b f vs h = free_append (produce (n.Key from) s (sees v t z l c g b f) vs) s (free_key from v t z l c g b f) h
guarded_at n.New s v t z l c g b f vs h = free_append (produce n.New s (sees v t z l c g b f) vs) s (refl) h
guarded_at n.Callee s v t z l c g b f vs h = free_append (produce n.Callee s (sees v t z l c g b f) vs) s (refl) h
guarded_at n.Constructor s v t z l c g b f vs h = free_append (produce n.Constructor s (sees v t z l c g b f) vs) s (free_constructor v) h
guarded_at (n.Given from) s v t z l c g b f vs h = free_append (produce (n.Given from) s (sees v t z l c g b f) vs) s (free_given from v) h
guarded_at n.Arguments s v t z l c g b f vs h = free_append (produce n.Arguments s (sees v t z l c g b f) vs) s (refl) h
guarded_at n.FirstArgument s v t z l c g b f vs h = free_append (produce n.FirstArgument s (sees v t z l c g b f) vs) s (free_first_argument v) h
guarded_at n.MoreArguments s v t z l c g b f vs h = free_append (produce n.MoreArguments s (sees v t z l c g b f) vs) s (free_more_arguments v) h
guarded_at n.Primary s v t z l c g b f vs h = free_append (produce n.Primary s (sees v t z l c g b f) vs) s (free_primary v t z l c g b f) h
guarded_at n.Elements s v t z l c g b f vs h = free_append (produce n.Elements s (sees v t z l c g b f) vs) s (free_elements v) h
guarded_at n.MoreElements s v t z l c g b f vs h = free_append (produce n.MoreElements s (sees v t z l c g b f) vs) s (free_more_elements v) h
guarded_at n.Entries s v t z l c g b f vs h = free_append (produce n.Entries s (sees v t z l c g b f) vs) s (free_entries v) h
guarded_at n.MoreEntries s v t z l c g b f vs h = free_append (produce n.MoreEntries s (sees v t z l c g b f) vs) s (free_more_entries v) h
guarded_at n.Entry s v t z l c g b f vs h = free_append (produce n.Entry s (sees v t z l c g b f) vs) s (free_entry v t z l c g b f) h
guarded_at n.Getter s v t z l c g b f vs h = free_append (produce n.Getter s (sees v t z l c g b f) vs) s (free_getter v) h
guarded_at n.Setter s v t z l c g b f vs h = free_append (produce n.Setter s (sees v t z l c g b f) vs) s (free_setter v) h
guarded_at n.Accessed s v t z l c g b f vs h = free_append (produce n.Accessed s (sees v t z l c g b f) vs) s (refl) h
guarded_at n.Value s v t z l c g b f vs h = free_append (produce n.Value s (sees v t z l c g b f) vs) s (refl) h
guarded_at n.Function s v t z l c g b f vs h = free_append (produce n.Function s (sees v t z l c g b f) vs) s (refl) h
guarded_at n.OwnName s v t z l c g b f vs h = free_append (produce n.OwnName s (sees v t z l c g b f) vs) s (free_own_name v t z l c g b f) h
guarded_at n.Name s v t z l c g b f vs h = free_append (produce n.Name s (sees v t z l c g b f) vs) s (free_name v t z l c g b f) h
guarded_at n.Parameters s v t z l c g b f vs h = free_append (produce n.Parameters s (sees v t z l c g b f) vs) s (free_parameters v) h
guarded_at n.MoreParameters s v t z l c g b f vs h = free_append (produce n.MoreParameters s (sees v t z l c g b f) vs) s (free_more_parameters v) h
guarded_at n.Body s v t z l c g b f vs h = free_append (produce n.Body s (sees v t z l c g b f) vs) s (refl) h
guarded_at n.Sources s v t z l c g b f vs h = free_append (produce n.Sources s (sees v t z l c g b f) vs) s (free_sources s v) h
guarded_at n.Declaration s v t z l c g b f vs h = free_append (produce n.Declaration s (sees v t z l c g b f) vs) s (refl) h
guarded_at n.Statements s v t z l c g b f vs h = free_append (produce n.Statements s (sees v t z l c g b f) vs) s (free_listed (starts s v) n.Statements) h
guarded_at n.Statement s v t z l c g b f vs h = guarded_statement s v t z l c g b f h
guarded_at n.Braced s v t z l c g b f vs h = free_append (produce n.Braced s (sees v t z l c g b f) vs) s (refl) h
guarded_at (n.Declarations i) s v t z l c g b f vs h = free_append (produce (n.Declarations i) s (sees v t z l c g b f) vs) s (refl) h
guarded_at (n.Declarator i) s v t z l c g b f vs h = free_append (produce (n.Declarator i) s (sees v t z l c g b f) vs) s (refl) h
guarded_at (n.MoreDeclarators i) s v t z l c g b f vs h = free_append (produce (n.MoreDeclarators i) s (sees v t z l c g b f) vs) s (free_more_declarators i v) h
guarded_at (n.Initialiser i) s v t z l c g b f vs h = free_append (produce (n.Initialiser i) s (sees v t z l c g b f) vs) s (free_initialiser i v) h
guarded_at (n.Else from) s v t z l c g b f vs h = free_append (produce (n.Else from) s (sees v t z l c g b f) vs) s (free_otherwise from v) h
guarded_at (n.ForHead from) s v t z l c g b f vs h = free_append (produce (n.ForHead from) s (sees v t z l c g b f) vs) s (free_for_head from v t z l c g b f) h
guarded_at (n.ForVar from at) s v t z l c g b f vs h = free_append (produce (n.ForVar from at) s (sees v t z l c g b f) vs) s (free_for_var from at v t z l c g b f) h
guarded_at n.ForTarget s v t z l c g b f vs h = free_append (produce n.ForTarget s (sees v t z l c g b f) vs) s (free_for_target v t z l c g b f) h
guarded_at (n.ForObject from) s v t z l c g b f vs h = free_append (produce (n.ForObject from) s (sees v t z l c g b f) vs) s (refl) h
guarded_at (n.ForStart from) s v t z l c g b f vs h = free_append (produce (n.ForStart from) s (sees v t z l c g b f) vs) s (refl) h
guarded_at n.ForTest s v t z l c g b f vs h = free_append (produce n.ForTest s (sees v t z l c g b f) vs) s (free_for_test v) h
guarded_at n.ForUpdate s v t z l c g b f vs h = free_append (produce n.ForUpdate s (sees v t z l c g b f) vs) s (free_for_update v) h
guarded_at (n.ContinueTo from) s v t z l c g b f vs h = free_append (produce (n.ContinueTo from) s (sees v t z l c g b f) vs) s (free_jump (continues s) (continues_to t s) p.Continue from v t z l c g b f) h
guarded_at (n.BreakTo from) s v t z l c g b f vs h = free_append (produce (n.BreakTo from) s (sees v t z l c g b f) vs) s (free_jump (breaks s) (breaks_to t s) p.Break from v t z l c g b f) h
guarded_at (n.Returned from) s v t z l c g b f vs h = free_append (produce (n.Returned from) s (sees v t z l c g b f) vs) s (free_returned from v t z l c g b f) h
guarded_at (n.Thrown from) s v t z l c g b f vs h = free_append (produce (n.Thrown from) s (sees v t z l c g b f) vs) s (free_if (l || may_follow v) _ _ refl refl) h
guarded_at (n.Cases d) s v t z l c g b f vs h = free_append (produce (n.Cases d) s (sees v t z l c g b f) vs) s (free_cases d v) h
guarded_at (n.Handlers from) s v t z l c g b f vs h = free_append (produce (n.Handlers from) s (sees v t z l c g b f) vs) s (free_handlers from v) h
guarded_at (n.Finally from) s v t z l c g b f vs h = free_append (produce (n.Finally from) s (sees v t z l c g b f) vs) s (free_finally from v) h

pub guarded : (x : Nonterminal) (s : List Symbol) (u : Sight) (vs : List Tree) → Guarded false s → Guarded false (produce x s u vs ++ s)
guarded x s u vs h = guarded_at x s u.seen u.text u.number u.line_before u.colon u.target u.before u.from vs h
