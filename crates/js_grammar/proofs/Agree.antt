-- Before a token, a semicolon that is inserted sees the same productions, or the token is read before any semicolon could be.
use Rattle.std.proofs.Common.{◌≡◌, ℕ, Bool, true, false, List, [], ◌∷◌, ◌++◌, ◌||◌, ◌⊎◌, refl, sym, ◌∙◌, ap, subst, inl, inr}
use Rattle.std.specs.Prelude.{nat_le, ℤ, pos, Option, Some, None, if◌then◌else◌}
use Rattle.js_tokens.specs.declared.word.Word.{Word}
use Rattle.js_tokens.specs.declared.word.Word.TheVariants as w
use Rattle.js_tree.specs.declared.production.Production.{Production}
use Rattle.js_tree.specs.declared.production.Production.TheVariants as p
use Rattle.js_tree.specs.declared.production.UnaryOperator.{UnaryOperator}
use Rattle.js_tree.specs.declared.production.UpdateOperator.{UpdateOperator}
use Rattle.js_tree.specs.Trees.{Tree}
use Rattle.js_grammar.specs.declared.sight.Seen.{Seen}
use Rattle.js_grammar.specs.declared.sight.Seen.TheVariants as seen
use Rattle.js_grammar.specs.declared.sight.Sight.{Sight}
use Rattle.js_grammar.specs.declared.symbol.Form.{Form}
use Rattle.js_grammar.specs.declared.symbol.Form.TheVariants.{Full, NoIn}
use Rattle.js_grammar.specs.declared.symbol.Nonterminal.{Nonterminal}
use Rattle.js_grammar.specs.declared.symbol.Nonterminal.TheVariants as n
use Rattle.js_grammar.specs.declared.symbol.Open.TheVariants as open_part
use Rattle.js_grammar.specs.declared.symbol.Symbol.{Symbol}
use Rattle.js_grammar.specs.declared.symbol.Symbol.TheVariants.{Word as T, Semicolon, Never, Part, Build as Makes, Leave}
use Rattle.js_grammar.specs.Sights.{may_insert, may_follow}
use Rattle.js_grammar.specs.Parts.{in_function, continues, breaks, continues_to, breaks_to}
use Rattle.js_grammar.specs.Grammar.{produce, begins, starts, is_key, is_property, is_target, commas, assigned_by, assigned, assignment_operator, choice, operators_by, binary_operator, unary_by, target_by, update_operator, unary_operator, postfix_by, left_hand, member_tail, tail, key, constructor, given, first_argument, more_arguments, primary, elements, more_elements, entries, more_entries, entry, getter, setter, own_name, name, parameters, more_parameters, sources, statements, named_statement, return_statement, statement, more_declarators, initialiser, otherwise, for_head, for_var, for_target, for_test, for_update, unlabelled, jump, returned_by, cases, handlers, finally, node, missing, add, text}

-- what is seen, part by part
abbrev pub sees : Seen → List ℕ → ℤ → Bool → Bool → Bool → ℕ → ℕ → Sight
sees v t z l c g b f = record { seen = v; text = t; number = z; line_before = l; colon = c; target = g; before = b; from = f }

-- what a semicolon sees that is inserted at that place
abbrev pub blank : ℕ → ℕ → Sight
blank b f = sees seen.End [] (pos 0) false false false b f

-- no operator before it
abbrev pub plain : Seen → Bool
plain (seen.Word w.Name) = true
plain (seen.Word w.Number) = true
plain (seen.Word w.Text) = true
plain (seen.Word w.This) = true
plain (seen.Word w.Null) = true
plain (seen.Word w.True) = true
plain (seen.Word w.False) = true
plain (seen.Word w.OpenParen) = true
plain (seen.Word w.OpenBracket) = true
plain _ = false

abbrev pub operand : Seen → Bool
operand (seen.Word w.New) = true
operand v = plain v

abbrev pub is_new : Seen → Bool
is_new (seen.Word w.New) = true
is_new _ = false

abbrev pub is_open : Seen → Bool
is_open (seen.Word w.OpenParen) = true
is_open _ = false

abbrev pub is_function : Seen → Bool
is_function (seen.Word w.Function) = true
is_function _ = false

abbrev pub is_brace : Seen → Bool
is_brace (seen.Word w.OpenBrace) = true
is_brace _ = false

abbrev pub is_end : Seen → Bool
is_end (seen.Word w.Semicolon) = true
is_end _ = false

abbrev pub is_aim : Seen → Bool
is_aim (seen.Word w.Name) = true
is_aim (seen.Word w.OpenParen) = true
is_aim _ = false

abbrev pub is_name : Seen → Bool
is_name (seen.Word w.Name) = true
is_name _ = false

-- the part reads this token first
abbrev pub commits : Nonterminal → List Symbol → Seen → Bool
commits (n.Expression f) s v = begins v
commits (n.Assignment f) s v = begins v
commits (n.Conditional f) s v = begins v
commits (n.Operation least f) s v = begins v
commits n.Unary s v = begins v
commits n.LeftHand s v = operand v
commits n.Primary s v = plain v
commits n.New s v = is_new v
commits n.Arguments s v = is_open v
commits n.Function s v = is_function v
commits n.Declaration s v = is_function v
commits n.Braced s v = is_brace v
commits (n.ForStart from) s v = is_end v
commits n.ForTarget s v = is_aim v
commits n.Name s v = is_name v
commits n.Statement s v = starts s v
commits _ s v = false

-- the token is read before any semicolon could be
abbrev pub Committed : Seen → List Symbol → Type 0
Committed v (T k ∷ s) = v ≡ seen.Word k
Committed v (Makes b ∷ s) = Committed v s
Committed v (Part x ∷ s) = commits x s v ≡ true
Committed v _ = ⊥

-- the same is to be read in the place of the part, or the token comes first
abbrev pub Agrees : Seen → List Symbol → List Symbol → List Symbol → Type 0
Agrees v s here blank_here = (here ≡ blank_here) ⊎ Committed v (here ++ s)

picked : (b : Bool) (k : Word) (here there s : List Symbol) → Agrees (seen.Word k) s (if b then T k ∷ here else there) there
picked true k here there s = inr refl
picked false k here there s = inl refl

if_true : (b : Bool) (here there : List Symbol) → b ≡ true → (if b then here else there) ≡ here
if_true b here there e = ap (λ x. if x then here else there) e

agree_commas : (f : Form) (from : ℕ) (v : Seen) (s : List Symbol) → Agrees v s (commas f from v) []
agree_commas f from (seen.Word w.Comma) s = inr refl
agree_commas f from _ s = inl refl

assigned_rest : (b : Bool) (f : Form) (from : ℕ) (k : Word) (o : Option Production) (s : List Symbol) → Agrees (seen.Word k) s (if b then assigned_by f from (seen.Word k) o else []) (if b then [] else [])
assigned_rest false f from k o s = inl refl
assigned_rest true f from k None s = inl refl
assigned_rest true f from k (Some q) s = inr refl

agree_assigned : (f : Form) (from : ℕ) (v : Seen) (vs : List Tree) (s : List Symbol) → Agrees v s (assigned f from v vs) (assigned f from seen.End vs)
agree_assigned f from (seen.Word k) vs s = assigned_rest (is_target vs) f from k (assignment_operator (seen.Word k)) s
agree_assigned f from seen.Forbidden vs s = inl refl
agree_assigned f from seen.End vs s = inl refl

agree_choice : (f : Form) (from : ℕ) (v : Seen) (s : List Symbol) → Agrees v s (choice f from v) []
agree_choice f from (seen.Word w.Question) s = inr refl
agree_choice f from _ s = inl refl

operators_rest : (least : ℕ) (f : Form) (from : ℕ) (k : Word) (o : Option (ℕ × Production)) (s : List Symbol) → Agrees (seen.Word k) s (operators_by least f from (seen.Word k) o) []
operators_rest least f from k None s = inl refl
operators_rest least f from k (Some (l, q)) s = picked (nat_le least l) k _ [] s

agree_operators : (least : ℕ) (f : Form) (from : ℕ) (v : Seen) (s : List Symbol) → Agrees v s (operators_by least f from v (binary_operator f v)) (operators_by least f from seen.End (binary_operator f seen.End))
agree_operators least Full from (seen.Word k) s = operators_rest least Full from k (binary_operator Full (seen.Word k)) s
agree_operators least NoIn from (seen.Word k) s = operators_rest least NoIn from k (binary_operator NoIn (seen.Word k)) s
agree_operators least Full from seen.Forbidden s = inl refl
agree_operators least NoIn from seen.Forbidden s = inl refl
agree_operators least Full from seen.End s = inl refl
agree_operators least NoIn from seen.End s = inl refl

unary_rest : (k : Word) (from : ℕ) (o : Option UpdateOperator) (q : Option UnaryOperator) (s : List Symbol) → Agrees (seen.Word k) s (unary_by (seen.Word k) from o q) (unary_by seen.End from None None)
unary_rest k from (Some o) q s = inr refl
unary_rest k from None (Some o) s = inr refl
unary_rest k from None None s = inl refl

agree_unary : (v : Seen) (from : ℕ) (s : List Symbol) → Agrees v s (unary_by v from (update_operator v) (unary_operator v)) (unary_by seen.End from None None)
agree_unary (seen.Word k) from s = unary_rest k from (update_operator (seen.Word k)) (unary_operator (seen.Word k)) s
agree_unary seen.Forbidden from s = inl refl
agree_unary seen.End from s = inl refl

target_rest : (k : Word) (from : ℕ) (o : Option UpdateOperator) (q : Option UnaryOperator) (s : List Symbol) → Agrees (seen.Word k) s (target_by (seen.Word k) from o q) (target_by seen.End from None None)
target_rest k from (Some o) q s = inr refl
target_rest k from None (Some o) s = inr refl
target_rest k from None None s = inl refl

agree_target : (v : Seen) (from : ℕ) (s : List Symbol) → Agrees v s (target_by v from (update_operator v) (unary_operator v)) (target_by seen.End from None None)
agree_target (seen.Word k) from s = target_rest k from (update_operator (seen.Word k)) (unary_operator (seen.Word k)) s
agree_target seen.Forbidden from s = inl refl
agree_target seen.End from s = inl refl

agree_postfix : (v : Seen) (t : List ℕ) (z : ℤ) (l c g : Bool) (b f from : ℕ) (vs : List Tree) (s : List Symbol) → (l || may_follow v) ≡ true → Agrees v s (postfix_by from (sees v t z l c g b f) (update_operator v) vs) []
agree_postfix (seen.Word w.PlusPlus) t z true c g b f from vs s m = inl refl
agree_postfix (seen.Word w.PlusPlus) t z false c g b f from vs s m = absurd (cc)
agree_postfix (seen.Word w.MinusMinus) t z true c g b f from vs s m = inl refl
agree_postfix (seen.Word w.MinusMinus) t z false c g b f from vs s m = absurd (cc)
agree_postfix _ t z l c g b f from vs s m = inl refl

agree_left_hand : (from : ℕ) (v : Seen) (s : List Symbol) → Agrees v s (left_hand from v) (left_hand from seen.End)
agree_left_hand from (seen.Word w.New) s = inr refl
agree_left_hand from _ s = inl refl

agree_member_tail : (more : Nonterminal) (from : ℕ) (v : Seen) (s : List Symbol) → Agrees v s (member_tail more from v) (member_tail more from seen.End)
agree_member_tail more from (seen.Word w.Dot) s = inr refl
agree_member_tail more from (seen.Word w.OpenBracket) s = inr refl
agree_member_tail more from _ s = inl refl

agree_tail : (from : ℕ) (v : Seen) (s : List Symbol) → Agrees v s (tail from v) (tail from seen.End)
agree_tail from (seen.Word w.OpenParen) s = inr refl
agree_tail from (seen.Word w.Dot) s = inr refl
agree_tail from (seen.Word w.OpenBracket) s = inr refl
agree_tail from _ s = inl refl

agree_constructor : (v : Seen) (s : List Symbol) → Agrees v s (constructor v) (constructor seen.End)
agree_constructor (seen.Word w.New) s = inr refl
agree_constructor _ s = inl refl

agree_given : (from : ℕ) (v : Seen) (s : List Symbol) → Agrees v s (given from v) (given from seen.End)
agree_given from (seen.Word w.OpenParen) s = inr refl
agree_given from _ s = inl refl

agree_first_argument : (v : Seen) (s : List Symbol) → Agrees v s (first_argument v) (first_argument seen.End)
agree_first_argument (seen.Word w.CloseParen) s = inr refl
agree_first_argument _ s = inl refl

agree_more_arguments : (v : Seen) (s : List Symbol) → Agrees v s (more_arguments v) (more_arguments seen.End)
agree_more_arguments (seen.Word w.Comma) s = inr refl
agree_more_arguments _ s = inl refl

agree_elements : (v : Seen) (s : List Symbol) → Agrees v s (elements v) (elements seen.End)
agree_elements (seen.Word w.Comma) s = inr refl
agree_elements (seen.Word w.CloseBracket) s = inr refl
agree_elements _ s = inl refl

agree_more_elements : (v : Seen) (s : List Symbol) → Agrees v s (more_elements v) (more_elements seen.End)
agree_more_elements (seen.Word w.Comma) s = inr refl
agree_more_elements _ s = inl refl

agree_entries : (v : Seen) (s : List Symbol) → Agrees v s (entries v) (entries seen.End)
agree_entries (seen.Word w.CloseBrace) s = inr refl
agree_entries _ s = inl refl

agree_more_entries : (v : Seen) (s : List Symbol) → Agrees v s (more_entries v) (more_entries seen.End)
agree_more_entries (seen.Word w.Comma) s = inr refl
agree_more_entries _ s = inl refl

agree_parameters : (v : Seen) (s : List Symbol) → Agrees v s (parameters v) (parameters seen.End)
agree_parameters (seen.Word w.CloseParen) s = inr refl
agree_parameters _ s = inl refl

agree_more_parameters : (v : Seen) (s : List Symbol) → Agrees v s (more_parameters v) (more_parameters seen.End)
agree_more_parameters (seen.Word w.Comma) s = inr refl
agree_more_parameters _ s = inl refl

agree_more_declarators : (f : Form) (v : Seen) (s : List Symbol) → Agrees v s (more_declarators f v) (more_declarators f seen.End)
agree_more_declarators f (seen.Word w.Comma) s = inr refl
agree_more_declarators f _ s = inl refl

agree_initialiser : (f : Form) (v : Seen) (s : List Symbol) → Agrees v s (initialiser f v) (initialiser f seen.End)
agree_initialiser f (seen.Word w.Assign) s = inr refl
agree_initialiser f _ s = inl refl

agree_otherwise : (from : ℕ) (v : Seen) (s : List Symbol) → Agrees v s (otherwise from v) (otherwise from seen.End)
agree_otherwise from (seen.Word w.Else) s = inr refl
agree_otherwise from _ s = inl refl

agree_for_test : (v : Seen) (s : List Symbol) → Agrees v s (for_test v) (for_test seen.End)
agree_for_test (seen.Word w.Semicolon) s = inr refl
agree_for_test _ s = inl refl

agree_for_update : (v : Seen) (s : List Symbol) → Agrees v s (for_update v) (for_update seen.End)
agree_for_update (seen.Word w.CloseParen) s = inr refl
agree_for_update _ s = inl refl

agree_handlers : (from : ℕ) (v : Seen) (s : List Symbol) → Agrees v s (handlers from v) (handlers from seen.End)
agree_handlers from (seen.Word w.Catch) s = inr refl
agree_handlers from (seen.Word w.Finally) s = inr refl
agree_handlers from _ s = inl refl

agree_finally : (from : ℕ) (v : Seen) (s : List Symbol) → Agrees v s (finally from v) (finally from seen.End)
agree_finally from (seen.Word w.Finally) s = inr refl
agree_finally from _ s = inl refl

agree_key : (from : ℕ) (v : Seen) (t : List ℕ) (z : ℤ) (l c g : Bool) (b f : ℕ) (s : List Symbol) → Agrees v s (key from (sees v t z l c g b f)) (key from (blank b f))
agree_key from (seen.Word k) t z l c g b f s = picked (is_key (seen.Word k)) k _ _ s
agree_key from seen.Forbidden t z l c g b f s = inl refl
agree_key from seen.End t z l c g b f s = inl refl

agree_entry : (v : Seen) (t : List ℕ) (z : ℤ) (l c g : Bool) (b f : ℕ) (s : List Symbol) → Agrees v s (entry (sees v t z l c g b f)) (entry (blank b f))
agree_entry (seen.Word k) t z l c g b f s = picked (is_property (seen.Word k)) k _ _ s
agree_entry seen.Forbidden t z l c g b f s = inl refl
agree_entry seen.End t z l c g b f s = inl refl

agree_getter : (v : Seen) (s : List Symbol) → Agrees v s (getter v) (getter seen.End)
agree_getter (seen.Word k) s = picked (is_property (seen.Word k)) k _ _ s
agree_getter seen.Forbidden s = inl refl
agree_getter seen.End s = inl refl

agree_setter : (v : Seen) (s : List Symbol) → Agrees v s (setter v) (setter seen.End)
agree_setter (seen.Word k) s = picked (is_property (seen.Word k)) k _ _ s
agree_setter seen.Forbidden s = inl refl
agree_setter seen.End s = inl refl

agree_primary : (v : Seen) (t : List ℕ) (z : ℤ) (l c g : Bool) (b f : ℕ) (s : List Symbol) → Agrees v s (primary (sees v t z l c g b f) v) (primary (blank b f) seen.End)
agree_primary (seen.Word w.This) t z l c g b f s = inr refl
agree_primary (seen.Word w.Name) t z l c g b f s = inr refl
agree_primary (seen.Word w.Null) t z l c g b f s = inr refl
agree_primary (seen.Word w.True) t z l c g b f s = inr refl
agree_primary (seen.Word w.False) t z l c g b f s = inr refl
agree_primary (seen.Word w.Number) t z l c g b f s = inr refl
agree_primary (seen.Word w.Text) t z l c g b f s = inr refl
agree_primary (seen.Word w.OpenParen) t z l c g b f s = inr refl
agree_primary (seen.Word w.OpenBracket) t z l c g b f s = inr refl
agree_primary (seen.Word w.OpenBrace) t z l c g b f s = inr refl
agree_primary (seen.Word w.Function) t z l c g b f s = inr refl
agree_primary _ t z l c g b f s = inl refl

agree_own_name : (v : Seen) (t : List ℕ) (z : ℤ) (l c g : Bool) (b f : ℕ) (s : List Symbol) → Agrees v s (own_name (sees v t z l c g b f) v) (own_name (blank b f) seen.End)
agree_own_name (seen.Word w.Name) t z l c g b f s = inr refl
agree_own_name _ t z l c g b f s = inl refl

agree_name : (v : Seen) (t : List ℕ) (z : ℤ) (l c g : Bool) (b f : ℕ) (s : List Symbol) → Agrees v s (name (sees v t z l c g b f) v) (name (blank b f) seen.End)
agree_name (seen.Word w.Name) t z l c g b f s = inr refl
agree_name _ t z l c g b f s = inl refl

agree_for_target : (v : Seen) (t : List ℕ) (z : ℤ) (l c g : Bool) (b f : ℕ) (s : List Symbol) → Agrees v s (for_target (sees v t z l c g b f) v) (for_target (blank b f) seen.End)
agree_for_target (seen.Word w.Name) t z l c g b f s = inr refl
agree_for_target _ t z l c g b f s = inl refl

starts_behind : (x : Nonterminal) (s : List Symbol) (v : Seen) → starts (add ∷ Part x ∷ s) v ≡ starts s v
starts_behind x s _ = refl

listed : (x : Nonterminal) (s : List Symbol) (v : Seen) (b : Bool) → starts s v ≡ b → Agrees v s (if b then Part n.Statement ∷ add ∷ Part x ∷ [] else []) []
listed x s v true e = inr (starts_behind x s v ∙ e)
listed x s v false e = inl refl

agree_sources : (s : List Symbol) (v : Seen) → Agrees v s (sources s v) []
agree_sources s (seen.Word w.Function) = inr refl
agree_sources s v = listed n.Sources s v (starts s v) refl

agree_statements : (s : List Symbol) (v : Seen) → Agrees v s (statements s v) []
agree_statements s v = listed n.Statements s v (starts s v) refl

agree_named : (s : List Symbol) (c : Bool) (t : List ℕ) (z : ℤ) (l g : Bool) (b f : ℕ) (there : Bool) → breaks_to t s ≡ there → Agrees (seen.Word w.Name) s (named_statement s (sees (seen.Word w.Name) t z l c g b f)) (Never ∷ [])
agree_named s false t z l g b f there e = inr refl
agree_named s true t z l g b f true e = inr (subst (λ x. Committed (seen.Word w.Name) ((if x then T w.Name ∷ Never ∷ Leave open_part.Part ∷ [] else T w.Name ∷ text t ∷ T w.Colon ∷ Part n.Statement ∷ node p.Labelled f 2 ∷ Leave (open_part.Labelled t) ∷ []) ++ s)) (sym e) refl)
agree_named s true t z l g b f false e = inr (subst (λ x. Committed (seen.Word w.Name) ((if x then T w.Name ∷ Never ∷ Leave open_part.Part ∷ [] else T w.Name ∷ text t ∷ T w.Colon ∷ Part n.Statement ∷ node p.Labelled f 2 ∷ Leave (open_part.Labelled t) ∷ []) ++ s)) (sym e) refl)

agree_statement : (s : List Symbol) (v : Seen) (t : List ℕ) (z : ℤ) (l c g : Bool) (b f : ℕ) → Agrees v s (statement s (sees v t z l c g b f) v) (Never ∷ [])
agree_statement s (seen.Word w.OpenBrace) t z l c g b f = inr refl
agree_statement s (seen.Word w.Var) t z l c g b f = inr refl
agree_statement s (seen.Word w.Semicolon) t z l c g b f = inr refl
agree_statement s (seen.Word w.If) t z l c g b f = inr refl
agree_statement s (seen.Word w.Do) t z l c g b f = inr refl
agree_statement s (seen.Word w.While) t z l c g b f = inr refl
agree_statement s (seen.Word w.For) t z l c g b f = inr refl
agree_statement s (seen.Word w.Continue) t z l c g b f = inr refl
agree_statement s (seen.Word w.Break) t z l c g b f = inr refl
agree_statement s (seen.Word w.Switch) t z l c g b f = inr refl
agree_statement s (seen.Word w.Throw) t z l c g b f = inr refl
agree_statement s (seen.Word w.Try) t z l c g b f = inr refl
agree_statement s (seen.Word w.Return) t z l c g b f = picked (in_function s) w.Return _ (Never ∷ []) s
agree_statement s (seen.Word w.Name) t z l c g b f = agree_named s c t z l g b f (breaks_to t s) refl
agree_statement s (seen.Word w.Number) t z l c g b f = inr refl
agree_statement s (seen.Word w.Text) t z l c g b f = inr refl
agree_statement s (seen.Word w.This) t z l c g b f = inr refl
agree_statement s (seen.Word w.Null) t z l c g b f = inr refl
agree_statement s (seen.Word w.True) t z l c g b f = inr refl
agree_statement s (seen.Word w.False) t z l c g b f = inr refl
agree_statement s (seen.Word w.OpenParen) t z l c g b f = inr refl
agree_statement s (seen.Word w.OpenBracket) t z l c g b f = inr refl
agree_statement s (seen.Word w.New) t z l c g b f = inr refl
agree_statement s (seen.Word w.Delete) t z l c g b f = inr refl
agree_statement s (seen.Word w.Void) t z l c g b f = inr refl
agree_statement s (seen.Word w.TypeOf) t z l c g b f = inr refl
agree_statement s (seen.Word w.PlusPlus) t z l c g b f = inr refl
agree_statement s (seen.Word w.MinusMinus) t z l c g b f = inr refl
agree_statement s (seen.Word w.Plus) t z l c g b f = inr refl
agree_statement s (seen.Word w.Minus) t z l c g b f = inr refl
agree_statement s (seen.Word w.BitNot) t z l c g b f = inr refl
agree_statement s (seen.Word w.Not) t z l c g b f = inr refl
agree_statement s _ t z l c g b f = inl refl

agree_for_head : (from : ℕ) (v : Seen) (t : List ℕ) (z : ℤ) (l c g : Bool) (b f : ℕ) (s : List Symbol) → Agrees v s (for_head from (sees v t z l c g b f) v) (for_head from (blank b f) seen.End)
agree_for_head from (seen.Word w.Var) t z l c g b f s = inr refl
agree_for_head from (seen.Word w.Semicolon) t z l c g b f s = inr refl
agree_for_head from (seen.Word w.Name) t z l c true b f s = inr refl
agree_for_head from (seen.Word w.Name) t z l c false b f s = inl refl
agree_for_head from (seen.Word w.OpenParen) t z l c true b f s = inr refl
agree_for_head from (seen.Word w.OpenParen) t z l c false b f s = inl refl
agree_for_head from _ t z l c g b f s = inl refl

agree_for_var : (from at : ℕ) (v : Seen) (t : List ℕ) (z : ℤ) (l c g : Bool) (b f : ℕ) (s : List Symbol) → Agrees v s (for_var from at (sees v t z l c g b f) v) (for_var from at (blank b f) seen.End)
agree_for_var from at (seen.Word w.Name) t z l c true b f s = inr refl
agree_for_var from at (seen.Word w.Name) t z l c false b f s = inl refl
agree_for_var from at _ t z l c g b f s = inl refl

agree_jump : (there labelled_there : Bool) (q : Production) (from : ℕ) (v : Seen) (t : List ℕ) (z : ℤ) (l c g : Bool) (b f : ℕ) (s : List Symbol) → (l || may_follow v) ≡ true → Agrees v s (jump there labelled_there q from (sees v t z l c g b f) v) (unlabelled there q from)
agree_jump there labelled_there q from (seen.Word w.Name) t z true c g b f s m = inl refl
agree_jump there labelled_there q from (seen.Word w.Name) t z false c g b f s m = absurd (cc)
agree_jump there labelled_there q from _ t z l c g b f s m = inl refl

agree_returned : (from : ℕ) (v : Seen) (t : List ℕ) (z : ℤ) (l c g : Bool) (b f : ℕ) (s : List Symbol) → (l || may_follow v) ≡ true → Agrees v s (returned_by from (sees v t z l c g b f) v) (missing ∷ Semicolon ∷ node p.Return from 1 ∷ [])
agree_returned from (seen.Word w.Semicolon) t z l c g b f s m = inl refl
agree_returned from _ t z l c g b f s m = inl (if_true _ _ _ m)

agree_cases : (d : Bool) (v : Seen) (s : List Symbol) → Agrees v s (cases d v) (T w.CloseBrace ∷ [])
agree_cases true (seen.Word w.Case) s = inr refl
agree_cases false (seen.Word w.Case) s = inr refl
agree_cases false (seen.Word w.Default) s = inr refl
agree_cases true _ s = inl refl
agree_cases false _ s = inl refl

-- where a semicolon may be inserted
agree_at : (x : Nonterminal) (s : List Symbol) (v : Seen) (t : List ℕ) (z : ℤ) (l c g : Bool) (b f : ℕ) (vs : List Tree) → (l || may_follow v) ≡ true → Agrees v s (produce x s (sees v t z l c g b f) vs) (produce x s (blank b f) vs)
agree_at (n.Expression h) s v t z l c g b f vs m = inl refl
agree_at (n.Commas h from) s v t z l c g b f vs m = agree_commas h from v s
agree_at (n.Assignment h) s v t z l c g b f vs m = inl refl
agree_at (n.Assigned h from) s v t z l c g b f vs m = agree_assigned h from v vs s
agree_at (n.Conditional h) s v t z l c g b f vs m = inl refl
agree_at (n.Choice h from) s v t z l c g b f vs m = agree_choice h from v s
agree_at (n.Operation least h) s v t z l c g b f vs m = inl refl
agree_at (n.Operators least h from) s v t z l c g b f vs m = agree_operators least h from v s
agree_at n.Unary s v t z l c g b f vs m = agree_unary v f s
agree_at (n.Postfix from) s v t z l c g b f vs m = agree_postfix v t z l c g b f from vs s m
agree_at (n.Updated o from) s v t z l c g b f vs m = inl refl
agree_at n.Target s v t z l c g b f vs m = agree_target v f s
agree_at (n.Prefixed o from) s v t z l c g b f vs m = inl refl
agree_at (n.Operand o from) s v t z l c g b f vs m = inl refl
agree_at (n.TargetOperand o from) s v t z l c g b f vs m = inl refl
agree_at (n.Operated o from) s v t z l c g b f vs m = inl refl
agree_at n.LeftHand s v t z l c g b f vs m = agree_left_hand f v s
agree_at (n.Tail from) s v t z l c g b f vs m = agree_tail from v s
agree_at (n.MemberTail from) s v t z l c g b f vs m = agree_member_tail (n.MemberTail from) from v s
agree_at (n.Key from) s v t z l c g b f vs m = agree_key from v t z l c g b f s
agree_at n.New s v t z l c g b f vs m = inl refl
agree_at n.Callee s v t z l c g b f vs m = inl refl
agree_at n.Constructor s v t z l c g b f vs m = agree_constructor v s
agree_at (n.Given from) s v t z l c g b f vs m = agree_given from v s
agree_at n.Arguments s v t z l c g b f vs m = inl refl
agree_at n.FirstArgument s v t z l c g b f vs m = agree_first_argument v s
agree_at n.MoreArguments s v t z l c g b f vs m = agree_more_arguments v s
agree_at n.Primary s v t z l c g b f vs m = agree_primary v t z l c g b f s
agree_at n.Elements s v t z l c g b f vs m = agree_elements v s
agree_at n.MoreElements s v t z l c g b f vs m = agree_more_elements v s
agree_at n.Entries s v t z l c g b f vs m = agree_entries v s
agree_at n.MoreEntries s v t z l c g b f vs m = agree_more_entries v s
agree_at n.Entry s v t z l c g b f vs m = agree_entry v t z l c g b f s
agree_at n.Getter s v t z l c g b f vs m = agree_getter v s
agree_at n.Setter s v t z l c g b f vs m = agree_setter v s
agree_at n.Accessed s v t z l c g b f vs m = inl refl
agree_at n.Value s v t z l c g b f vs m = inl refl
agree_at n.Function s v t z l c g b f vs m = inl refl
agree_at n.OwnName s v t z l c g b f vs m = agree_own_name v t z l c g b f s
agree_at n.Name s v t z l c g b f vs m = agree_name v t z l c g b f s
agree_at n.Parameters s v t z l c g b f vs m = agree_parameters v s
agree_at n.MoreParameters s v t z l c g b f vs m = agree_more_parameters v s
agree_at n.Body s v t z l c g b f vs m = inl refl
agree_at n.Sources s v t z l c g b f vs m = agree_sources s v
agree_at n.Declaration s v t z l c g b f vs m = inl refl
agree_at n.Statements s v t z l c g b f vs m = agree_statements s v
agree_at n.Statement s v t z l c g b f vs m = agree_statement s v t z l c g b f
agree_at n.Braced s v t z l c g b f vs m = inl refl
agree_at (n.Declarations h) s v t z l c g b f vs m = inl refl
agree_at (n.Declarator h) s v t z l c g b f vs m = inl refl
agree_at (n.MoreDeclarators h) s v t z l c g b f vs m = agree_more_declarators h v s
agree_at (n.Initialiser h) s v t z l c g b f vs m = agree_initialiser h v s
agree_at (n.Else from) s v t z l c g b f vs m = agree_otherwise from v s
agree_at (n.ForHead from) s v t z l c g b f vs m = agree_for_head from v t z l c g b f s
agree_at (n.ForVar from at) s v t z l c g b f vs m = agree_for_var from at v t z l c g b f s
agree_at n.ForTarget s v t z l c g b f vs m = agree_for_target v t z l c g b f s
agree_at (n.ForObject from) s v t z l c g b f vs m = inl refl
agree_at (n.ForStart from) s v t z l c g b f vs m = inl refl
agree_at n.ForTest s v t z l c g b f vs m = agree_for_test v s
agree_at n.ForUpdate s v t z l c g b f vs m = agree_for_update v s
agree_at (n.ContinueTo from) s v t z l c g b f vs m = agree_jump (continues s) (continues_to t s) p.Continue from v t z l c g b f s m
agree_at (n.BreakTo from) s v t z l c g b f vs m = agree_jump (breaks s) (breaks_to t s) p.Break from v t z l c g b f s m
agree_at (n.Returned from) s v t z l c g b f vs m = agree_returned from v t z l c g b f s m
agree_at (n.Thrown from) s v t z l c g b f vs m = inl (if_true _ _ _ m)
agree_at (n.Cases d) s v t z l c g b f vs m = agree_cases d v s
agree_at (n.Handlers from) s v t z l c g b f vs m = agree_handlers from v s
agree_at (n.Finally from) s v t z l c g b f vs m = agree_finally from v s

pub agree : (x : Nonterminal) (s : List Symbol) (u : Sight) (vs : List Tree) → may_insert u ≡ true → Agrees u.seen s (produce x s u vs) (produce x s (blank u.before u.from) vs)
agree x s u vs m = agree_at x s u.seen u.text u.number u.line_before u.colon u.target u.before u.from vs m

stays_unary : (v : Seen) (from : ℕ) (s : List Symbol) → begins v ≡ true → Committed v (unary_by v from (update_operator v) (unary_operator v) ++ s)
stays_unary (seen.Word w.Name) from s h = refl
stays_unary (seen.Word w.Number) from s h = refl
stays_unary (seen.Word w.Text) from s h = refl
stays_unary (seen.Word w.This) from s h = refl
stays_unary (seen.Word w.Null) from s h = refl
stays_unary (seen.Word w.True) from s h = refl
stays_unary (seen.Word w.False) from s h = refl
stays_unary (seen.Word w.OpenParen) from s h = refl
stays_unary (seen.Word w.OpenBracket) from s h = refl
stays_unary (seen.Word w.New) from s h = refl
stays_unary (seen.Word w.Delete) from s h = refl
stays_unary (seen.Word w.Void) from s h = refl
stays_unary (seen.Word w.TypeOf) from s h = refl
stays_unary (seen.Word w.PlusPlus) from s h = refl
stays_unary (seen.Word w.MinusMinus) from s h = refl
stays_unary (seen.Word w.Plus) from s h = refl
stays_unary (seen.Word w.Minus) from s h = refl
stays_unary (seen.Word w.BitNot) from s h = refl
stays_unary (seen.Word w.Not) from s h = refl
stays_unary _ from s h = absurd (cc)

stays_left_hand : (from : ℕ) (v : Seen) (s : List Symbol) → operand v ≡ true → Committed v (left_hand from v ++ s)
stays_left_hand from (seen.Word w.New) s h = refl
stays_left_hand from (seen.Word w.Name) s h = refl
stays_left_hand from (seen.Word w.Number) s h = refl
stays_left_hand from (seen.Word w.Text) s h = refl
stays_left_hand from (seen.Word w.This) s h = refl
stays_left_hand from (seen.Word w.Null) s h = refl
stays_left_hand from (seen.Word w.True) s h = refl
stays_left_hand from (seen.Word w.False) s h = refl
stays_left_hand from (seen.Word w.OpenParen) s h = refl
stays_left_hand from (seen.Word w.OpenBracket) s h = refl
stays_left_hand from _ s h = absurd (cc)

stays_primary : (v : Seen) (t : List ℕ) (z : ℤ) (l c g : Bool) (b f : ℕ) (s : List Symbol) → plain v ≡ true → Committed v (primary (sees v t z l c g b f) v ++ s)
stays_primary (seen.Word w.Name) t z l c g b f s h = refl
stays_primary (seen.Word w.Number) t z l c g b f s h = refl
stays_primary (seen.Word w.Text) t z l c g b f s h = refl
stays_primary (seen.Word w.This) t z l c g b f s h = refl
stays_primary (seen.Word w.Null) t z l c g b f s h = refl
stays_primary (seen.Word w.True) t z l c g b f s h = refl
stays_primary (seen.Word w.False) t z l c g b f s h = refl
stays_primary (seen.Word w.OpenParen) t z l c g b f s h = refl
stays_primary (seen.Word w.OpenBracket) t z l c g b f s h = refl
stays_primary _ t z l c g b f s h = absurd (cc)

only_is_new : (v : Seen) → is_new v ≡ true → v ≡ seen.Word w.New
only_is_new (seen.Word w.New) h = refl
only_is_new _ h = absurd (cc)

only_is_open : (v : Seen) → is_open v ≡ true → v ≡ seen.Word w.OpenParen
only_is_open (seen.Word w.OpenParen) h = refl
only_is_open _ h = absurd (cc)

only_is_function : (v : Seen) → is_function v ≡ true → v ≡ seen.Word w.Function
only_is_function (seen.Word w.Function) h = refl
only_is_function _ h = absurd (cc)

only_is_brace : (v : Seen) → is_brace v ≡ true → v ≡ seen.Word w.OpenBrace
only_is_brace (seen.Word w.OpenBrace) h = refl
only_is_brace _ h = absurd (cc)

only_is_end : (v : Seen) → is_end v ≡ true → v ≡ seen.Word w.Semicolon
only_is_end (seen.Word w.Semicolon) h = refl
only_is_end _ h = absurd (cc)

stays_name : (v : Seen) (t : List ℕ) (z : ℤ) (l c g : Bool) (b f : ℕ) (s : List Symbol) → is_name v ≡ true → Committed v (name (sees v t z l c g b f) v ++ s)
stays_name (seen.Word w.Name) t z l c g b f s h = refl
stays_name _ t z l c g b f s h = absurd (cc)

stays_aim : (v : Seen) (t : List ℕ) (z : ℤ) (l c g : Bool) (b f : ℕ) (s : List Symbol) → is_aim v ≡ true → Committed v (for_target (sees v t z l c g b f) v ++ s)
stays_aim (seen.Word w.Name) t z l c g b f s h = refl
stays_aim (seen.Word w.OpenParen) t z l c g b f s h = refl
stays_aim _ t z l c g b f s h = absurd (cc)

stays_return : (b : Bool) (from : ℕ) (s : List Symbol) → b ≡ true → Committed (seen.Word w.Return) ((if b then return_statement from else Never ∷ []) ++ s)
stays_return true from s h = refl
stays_return false from s h = absurd (cc)

named_rest : (there : Bool) (t : List ℕ) (f : ℕ) (s : List Symbol) → Committed (seen.Word w.Name) ((if there then T w.Name ∷ Never ∷ Leave open_part.Part ∷ [] else T w.Name ∷ text t ∷ T w.Colon ∷ Part n.Statement ∷ node p.Labelled f 2 ∷ Leave (open_part.Labelled t) ∷ []) ++ s)
named_rest true t f s = refl
named_rest false t f s = refl

stays_named : (s : List Symbol) (c : Bool) (t : List ℕ) (z : ℤ) (l g : Bool) (b f : ℕ) → Committed (seen.Word w.Name) (named_statement s (sees (seen.Word w.Name) t z l c g b f) ++ s)
stays_named s false t z l g b f = refl
stays_named s true t z l g b f = named_rest (breaks_to t s) t f s

stays_statement : (s : List Symbol) (v : Seen) (t : List ℕ) (z : ℤ) (l c g : Bool) (b f : ℕ) → starts s v ≡ true → Committed v (statement s (sees v t z l c g b f) v ++ s)
stays_statement s (seen.Word w.OpenBrace) t z l c g b f h = refl
stays_statement s (seen.Word w.Var) t z l c g b f h = refl
stays_statement s (seen.Word w.Semicolon) t z l c g b f h = refl
stays_statement s (seen.Word w.If) t z l c g b f h = refl
stays_statement s (seen.Word w.Do) t z l c g b f h = refl
stays_statement s (seen.Word w.While) t z l c g b f h = refl
stays_statement s (seen.Word w.For) t z l c g b f h = refl
stays_statement s (seen.Word w.Continue) t z l c g b f h = refl
stays_statement s (seen.Word w.Break) t z l c g b f h = refl
stays_statement s (seen.Word w.Switch) t z l c g b f h = refl
stays_statement s (seen.Word w.Throw) t z l c g b f h = refl
stays_statement s (seen.Word w.Try) t z l c g b f h = refl
stays_statement s (seen.Word w.Return) t z l c g b f h = stays_return (in_function s) f s h
stays_statement s (seen.Word w.Name) t z l c g b f h = stays_named s c t z l g b f
stays_statement s (seen.Word w.Number) t z l c g b f h = refl
stays_statement s (seen.Word w.Text) t z l c g b f h = refl
stays_statement s (seen.Word w.This) t z l c g b f h = refl
stays_statement s (seen.Word w.Null) t z l c g b f h = refl
stays_statement s (seen.Word w.True) t z l c g b f h = refl
stays_statement s (seen.Word w.False) t z l c g b f h = refl
stays_statement s (seen.Word w.OpenParen) t z l c g b f h = refl
stays_statement s (seen.Word w.OpenBracket) t z l c g b f h = refl
stays_statement s (seen.Word w.New) t z l c g b f h = refl
stays_statement s (seen.Word w.Delete) t z l c g b f h = refl
stays_statement s (seen.Word w.Void) t z l c g b f h = refl
stays_statement s (seen.Word w.TypeOf) t z l c g b f h = refl
stays_statement s (seen.Word w.PlusPlus) t z l c g b f h = refl
stays_statement s (seen.Word w.MinusMinus) t z l c g b f h = refl
stays_statement s (seen.Word w.Plus) t z l c g b f h = refl
stays_statement s (seen.Word w.Minus) t z l c g b f h = refl
stays_statement s (seen.Word w.BitNot) t z l c g b f h = refl
stays_statement s (seen.Word w.Not) t z l c g b f h = refl
stays_statement s _ t z l c g b f h = absurd (cc)

stays_at : (x : Nonterminal) (s : List Symbol) (v : Seen) (t : List ℕ) (z : ℤ) (l c g : Bool) (b f : ℕ) (vs : List Tree) → commits x s v ≡ true → Committed v (produce x s (sees v t z l c g b f) vs ++ s)
stays_at (n.Expression i) s v t z l c g b f vs h = h
stays_at (n.Assignment i) s v t z l c g b f vs h = h
stays_at (n.Conditional i) s v t z l c g b f vs h = h
stays_at (n.Operation least i) s v t z l c g b f vs h = h
stays_at n.Unary s v t z l c g b f vs h = stays_unary v f s h
stays_at n.LeftHand s v t z l c g b f vs h = stays_left_hand f v s h
stays_at n.Primary s v t z l c g b f vs h = stays_primary v t z l c g b f s h
stays_at n.New s v t z l c g b f vs h = only_is_new v h
stays_at n.Arguments s v t z l c g b f vs h = only_is_open v h
stays_at n.Function s v t z l c g b f vs h = only_is_function v h
stays_at n.Declaration s v t z l c g b f vs h = only_is_function v h
stays_at n.Braced s v t z l c g b f vs h = only_is_brace v h
stays_at (n.ForStart from) s v t z l c g b f vs h = only_is_end v h
stays_at n.ForTarget s v t z l c g b f vs h = stays_aim v t z l c g b f s h
stays_at n.Name s v t z l c g b f vs h = stays_name v t z l c g b f s h
stays_at n.Statement s v t z l c g b f vs h = stays_statement s v t z l c g b f h
stays_at _ s v t z l c g b f vs h = absurd (cc)

pub stays : (x : Nonterminal) (s : List Symbol) (u : Sight) (vs : List Tree) → Committed u.seen (Part x ∷ s) → Committed u.seen (produce x s u vs ++ s)
stays x s u vs h = stays_at x s u.seen u.text u.number u.line_before u.colon u.target u.before u.from vs h
