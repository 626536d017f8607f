-- Each production takes and leaves as many trees as its part says, and doesn't begin with that part again before a word is read.
use Rattle.std.proofs.Common.{◌≡◌, ℕ, ◌+◌, ◌-◌, ◌<◌, Bool, true, false, List, [], ◌∷◌, ◌||◌, ◌&&◌, refl}
use Rattle.std.specs.Prelude.{ℤ, Option, Some, None, nat_le, nat_lt, nat_eq, not, codes, if◌then◌else◌}
use Rattle.std.specs.Str.{bytes_eq}
use Rattle.std.proofs.lemmas.Bool.{ltb-true, and_parts}
use Rattle.js_tokens.specs.declared.word.Word.{Word}
use Rattle.js_tokens.specs.declared.word.Word.TheVariants as w
use Rattle.js_tree.specs.declared.production.Production.{Production}
use Rattle.js_tree.specs.declared.production.Production.TheVariants as p
use Rattle.js_tree.specs.declared.production.UnaryOperator.{UnaryOperator}
use Rattle.js_tree.specs.declared.production.UnaryOperator.TheVariants as unary
use Rattle.js_tree.specs.declared.production.UpdateOperator.{UpdateOperator}
use Rattle.js_tree.specs.Trees.{Tree}
use Rattle.js_grammar.specs.declared.sight.Seen.{Seen}
use Rattle.js_grammar.specs.declared.sight.Seen.TheVariants as seen
use Rattle.js_grammar.specs.declared.sight.Sight.{Sight}
use Rattle.js_grammar.specs.declared.symbol.Form.{Form}
use Rattle.js_grammar.specs.declared.symbol.Form.TheVariants.{Full, NoIn}
use Rattle.js_grammar.specs.declared.symbol.Build.{Build}
use Rattle.js_grammar.specs.declared.symbol.Build.TheVariants as build
use Rattle.js_grammar.specs.declared.symbol.Nonterminal.{Nonterminal}
use Rattle.js_grammar.specs.declared.symbol.Nonterminal.TheVariants as n
use Rattle.js_grammar.specs.declared.symbol.Symbol.{Symbol}
use Rattle.js_grammar.specs.declared.symbol.Symbol.TheVariants.{Word as T, End, Semicolon, FreeSemicolon, Never, Part, Build as Makes, Leave}
use Rattle.js_grammar.specs.Sights.{may_follow}
use Rattle.js_grammar.specs.Parts.{in_function, continues, breaks, continues_to, breaks_to}
use Rattle.js_grammar.specs.Grammar.{produce, begins, starts, is_key, is_property, is_target, is_bare, behind_key, commas, assigned_by, assignment_operator, choice, operators_by, binary_operator, unary_by, target_by, update_operator, unary_operator, operated, postfix_by, left_hand, member_tail, tail, key, constructor, given, first_argument, more_arguments, primary, elements, more_elements, entries, more_entries, entry, getter, setter, own_name, name, parameters, more_parameters, sources, named_statement, expression_statement, return_statement, statement, more_declarators, initialiser, otherwise, for_expression, for_head, for_var, for_target, for_test, for_update, unlabelled, labelled, jump, returned_by, cases, handlers, finally, add, text, pair}
use Rattle.js_grammar.specs.inner.Ranks.{taken, left, needs, stops, reads_a_word, rank, has_word, front}
use Rattle.js_grammar.specs.inner.Sorts.{takes, gives, leads}
use Rattle.js_grammar.proofs.Agree.{sees}

-- from so many trees these symbols lead to so many, or nothing goes on
abbrev pub balances : List Symbol → ℕ → ℕ → Bool
balances [] c d = nat_eq c d
balances (Makes b ∷ s) c d = nat_le (taken b) c && balances s (left b c) d
balances (Part x ∷ s) c d = stops x || (nat_le (needs x) c && balances s (c - needs x + 1) d)
balances (Never ∷ s) c d = true
balances (End ∷ s) c d = false
balances (T v ∷ s) c d = balances s c d
balances (Semicolon ∷ s) c d = balances s c d
balances (FreeSemicolon ∷ s) c d = balances s c d
balances (Leave o ∷ s) c d = balances s c d

-- what may stand in the place of a part
abbrev pub is_sound : Nonterminal → List Symbol → Bool
is_sound x s = nat_lt (front s) (rank x) && ((not (reads_a_word x) || has_word s) && (balances s (needs x) 1 && leads s (Some (takes x)) (gives x)))

sound_if : (x : Nonterminal) (b : Bool) (here there : List Symbol) → is_sound x here ≡ true → is_sound x there ≡ true → is_sound x (if b then here else there) ≡ true
sound_if x true here there e f = e
sound_if x false here there e f = f

abbrev is_value : Nonterminal → Bool
is_value n.Getter = true
is_value n.Setter = true
is_value n.Value = true
is_value _ = false

sound_commas : (h : Form) (from : ℕ) (v : Seen) → is_sound (n.Commas h from) (commas h from v) ≡ true
sound_commas h from (seen.Word w.Comma) = refl
sound_commas h from _ = refl

sound_choice : (h : Form) (from : ℕ) (v : Seen) → is_sound (n.Choice h from) (choice h from v) ≡ true
sound_choice h from (seen.Word w.Question) = refl
sound_choice h from _ = refl

sound_left_hand : (from : ℕ) (v : Seen) → is_sound n.LeftHand (left_hand from v) ≡ true
sound_left_hand from (seen.Word w.New) = refl
sound_left_hand from _ = refl

sound_member_tail : (from : ℕ) (v : Seen) → is_sound (n.MemberTail from) (member_tail (n.MemberTail from) from v) ≡ true
sound_member_tail from (seen.Word w.Dot) = refl
sound_member_tail from _ = refl

sound_tail : (from : ℕ) (v : Seen) → is_sound (n.Tail from) (tail from v) ≡ true
sound_tail from (seen.Word w.Dot) = refl
sound_tail from _ = refl

sound_constructor : (v : Seen) → is_sound n.Constructor (constructor v) ≡ true
sound_constructor (seen.Word w.New) = refl
sound_constructor _ = refl

sound_given : (from : ℕ) (v : Seen) → is_sound (n.Given from) (given from v) ≡ true
sound_given from (seen.Word w.OpenParen) = refl
sound_given from _ = refl

sound_first_argument : (v : Seen) → is_sound n.FirstArgument (first_argument v) ≡ true
sound_first_argument (seen.Word w.CloseParen) = refl
sound_first_argument _ = refl

sound_more_arguments : (v : Seen) → is_sound n.MoreArguments (more_arguments v) ≡ true
sound_more_arguments (seen.Word w.Comma) = refl
sound_more_arguments _ = refl

sound_elements : (v : Seen) → is_sound n.Elements (elements v) ≡ true
sound_elements (seen.Word w.Comma) = refl
sound_elements _ = refl

sound_more_elements : (v : Seen) → is_sound n.MoreElements (more_elements v) ≡ true
sound_more_elements (seen.Word w.Comma) = refl
sound_more_elements _ = refl

sound_entries : (v : Seen) → is_sound n.Entries (entries v) ≡ true
sound_entries (seen.Word w.CloseBrace) = refl
sound_entries _ = refl

sound_more_entries : (v : Seen) → is_sound n.MoreEntries (more_entries v) ≡ true
sound_more_entries (seen.Word w.Comma) = refl
sound_more_entries _ = refl

sound_parameters : (v : Seen) → is_sound n.Parameters (parameters v) ≡ true
sound_parameters (seen.Word w.CloseParen) = refl
sound_parameters _ = refl

sound_more_parameters : (v : Seen) → is_sound n.MoreParameters (more_parameters v) ≡ true
sound_more_parameters (seen.Word w.Comma) = refl
sound_more_parameters _ = refl

sound_for_test : (v : Seen) → is_sound n.ForTest (for_test v) ≡ true
sound_for_test (seen.Word w.Semicolon) = refl
sound_for_test _ = refl

sound_for_update : (v : Seen) → is_sound n.ForUpdate (for_update v) ≡ true
sound_for_update (seen.Word w.CloseParen) = refl
sound_for_update _ = refl

sound_more_declarators : (h : Form) (v : Seen) → is_sound (n.MoreDeclarators h) (more_declarators h v) ≡ true
sound_more_declarators h (seen.Word w.Comma) = refl
sound_more_declarators h _ = refl

sound_initialiser : (h : Form) (v : Seen) → is_sound (n.Initialiser h) (initialiser h v) ≡ true
sound_initialiser h (seen.Word w.Assign) = refl
sound_initialiser h _ = refl

sound_otherwise : (from : ℕ) (v : Seen) → is_sound (n.Else from) (otherwise from v) ≡ true
sound_otherwise from (seen.Word w.Else) = refl
sound_otherwise from _ = refl

sound_handlers : (from : ℕ) (v : Seen) → is_sound (n.Handlers from) (handlers from v) ≡ true
sound_handlers from (seen.Word w.Catch) = refl
sound_handlers from _ = refl

sound_finally : (from : ℕ) (v : Seen) → is_sound (n.Finally from) (finally from v) ≡ true
sound_finally from (seen.Word w.Finally) = refl
sound_finally from _ = refl

sound_assigned_by : (h : Form) (from : ℕ) (v : Seen) → is_sound (n.Assigned h from) (assigned_by h from v (assignment_operator v)) ≡ true
sound_assigned_by h from (seen.Word w.Assign) = refl
sound_assigned_by h from _ = refl

abbrev is_two : Option (ℕ × Production) → Bool
is_two (Some (level, p.And)) = true
is_two (Some (level, p.Or)) = true
is_two (Some (level, p.Binary o)) = true
is_two (Some _) = false
is_two None = true

two_operands : (h : Form) (v : Seen) → is_two (binary_operator h v) ≡ true
two_operands Full (seen.Word w.In) = refl
two_operands NoIn (seen.Word w.In) = refl
two_operands h _ = refl

sound_operator : (least level : ℕ) (h : Form) (from : ℕ) (k : Word) (q : Production) → is_two (Some (level, q)) ≡ true → is_sound (n.Operators least h from) (operators_by least h from (seen.Word k) (Some (level, q))) ≡ true
sound_operator least level h from k p.And e = sound_if (n.Operators least h from) (nat_le least level) _ _ refl refl
sound_operator least level h from k p.Or e = sound_if (n.Operators least h from) (nat_le least level) _ _ refl refl
sound_operator least level h from k (p.Binary o) e = sound_if (n.Operators least h from) (nat_le least level) _ _ refl refl
sound_operator least level h from k q e = cc

sound_operators : (least : ℕ) (h : Form) (from : ℕ) (v : Seen) (o : Option (ℕ × Production)) → is_two o ≡ true → is_sound (n.Operators least h from) (operators_by least h from v o) ≡ true
sound_operators least h from v None e = refl
sound_operators least h from (seen.Word k) (Some (level, q)) e = sound_operator least level h from k q e
sound_operators least h from seen.Forbidden (Some (level, q)) e = sound_if (n.Operators least h from) (nat_le least level) _ _ refl refl
sound_operators least h from seen.End (Some (level, q)) e = sound_if (n.Operators least h from) (nat_le least level) _ _ refl refl

sound_unary : (v : Seen) (from : ℕ) (o : Option UpdateOperator) (q : Option UnaryOperator) → is_sound n.Unary (unary_by v from o q) ≡ true
sound_unary (seen.Word k) from (Some o) q = refl
sound_unary (seen.Word k) from None (Some o) = refl
sound_unary seen.Forbidden from (Some o) q = refl
sound_unary seen.Forbidden from None (Some o) = refl
sound_unary seen.End from (Some o) q = refl
sound_unary seen.End from None (Some o) = refl
sound_unary v from None None = refl

sound_target : (v : Seen) (from : ℕ) (o : Option UpdateOperator) (q : Option UnaryOperator) → is_sound n.Target (target_by v from o q) ≡ true
sound_target (seen.Word k) from (Some o) q = refl
sound_target (seen.Word k) from None (Some o) = refl
sound_target seen.Forbidden from (Some o) q = refl
sound_target seen.Forbidden from None (Some o) = refl
sound_target seen.End from (Some o) q = refl
sound_target seen.End from None (Some o) = refl
sound_target v from None None = refl

sound_postfix : (from : ℕ) (v : Seen) (t : List ℕ) (z : ℤ) (l c g : Bool) (b f : ℕ) (o : Option UpdateOperator) (vs : List Tree) → is_sound (n.Postfix from) (postfix_by from (sees v t z l c g b f) o vs) ≡ true
sound_postfix from v t z l c g b f None vs = refl
sound_postfix from (seen.Word k) t z l c g b f (Some o) vs = sound_if (n.Postfix from) (not l && is_target vs) _ _ refl refl
sound_postfix from seen.Forbidden t z l c g b f (Some o) vs = sound_if (n.Postfix from) (not l && is_target vs) _ _ refl refl
sound_postfix from seen.End t z l c g b f (Some o) vs = sound_if (n.Postfix from) (not l && is_target vs) _ _ refl refl

sound_operated : (o : UnaryOperator) (from : ℕ) (vs : List Tree) → is_sound (n.Operated o from) (operated o from vs) ≡ true
sound_operated unary.Delete from vs = sound_if (n.Operated unary.Delete from) (is_bare vs) _ _ refl refl
sound_operated _ from vs = refl

sound_key : (from : ℕ) (v : Seen) (t : List ℕ) (z : ℤ) (l c g : Bool) (b f : ℕ) → is_sound (n.Key from) (key from (sees v t z l c g b f)) ≡ true
sound_key from (seen.Word k) t z l c g b f = sound_if (n.Key from) (is_key (seen.Word k)) _ _ refl refl
sound_key from seen.Forbidden t z l c g b f = refl
sound_key from seen.End t z l c g b f = refl

sound_key_of : (k : Word) (x : Nonterminal) (t : List ℕ) → is_value x ≡ true → is_sound n.Entry (T k ∷ text t ∷ Part x ∷ pair ∷ []) ≡ true
sound_key_of k n.Getter t e = refl
sound_key_of k n.Setter t e = refl
sound_key_of k n.Value t e = refl
sound_key_of k x t e = cc

value_if : (b c : Bool) → is_value (if b then n.Getter else (if c then n.Setter else n.Value)) ≡ true
value_if true c = refl
value_if false true = refl
value_if false false = refl

is_value_behind : (k : Word) (t : List ℕ) (z : ℤ) (l c g : Bool) (b f : ℕ) → is_value (behind_key (sees (seen.Word k) t z l c g b f) (seen.Word k)) ≡ true
is_value_behind w.Name t z l c g b f = value_if (bytes_eq t (codes "get")) (bytes_eq t (codes "set"))
is_value_behind _ t z l c g b f = refl

sound_entry : (v : Seen) (t : List ℕ) (z : ℤ) (l c g : Bool) (b f : ℕ) → is_sound n.Entry (entry (sees v t z l c g b f)) ≡ true
sound_entry (seen.Word k) t z l c g b f = sound_if n.Entry (is_property (seen.Word k)) _ _ (sound_key_of k (behind_key (sees (seen.Word k) t z l c g b f) (seen.Word k)) t (is_value_behind k t z l c g b f)) refl
sound_entry seen.Forbidden t z l c g b f = refl
sound_entry seen.End t z l c g b f = refl

sound_getter : (v : Seen) → is_sound n.Getter (getter v) ≡ true
sound_getter (seen.Word k) = sound_if n.Getter (is_property (seen.Word k)) _ _ refl refl
sound_getter seen.Forbidden = refl
sound_getter seen.End = refl

sound_setter : (v : Seen) → is_sound n.Setter (setter v) ≡ true
sound_setter (seen.Word k) = sound_if n.Setter (is_property (seen.Word k)) _ _ refl refl
sound_setter seen.Forbidden = refl
sound_setter seen.End = refl

sound_primary : (v : Seen) (t : List ℕ) (z : ℤ) (l c g : Bool) (b f : ℕ) → is_sound n.Primary (primary (sees v t z l c g b f) v) ≡ true
sound_primary (seen.Word w.This) t z l c g b f = refl
sound_primary _ t z l c g b f = refl

sound_own_name : (v : Seen) (t : List ℕ) (z : ℤ) (l c g : Bool) (b f : ℕ) → is_sound n.OwnName (own_name (sees v t z l c g b f) v) ≡ true
sound_own_name (seen.Word w.Name) t z l c g b f = refl
sound_own_name _ t z l c g b f = refl

sound_name : (v : Seen) (t : List ℕ) (z : ℤ) (l c g : Bool) (b f : ℕ) → is_sound n.Name (name (sees v t z l c g b f) v) ≡ true
sound_name (seen.Word w.Name) t z l c g b f = refl
sound_name _ t z l c g b f = refl

sound_for_target : (v : Seen) (t : List ℕ) (z : ℤ) (l c g : Bool) (b f : ℕ) → is_sound n.ForTarget (for_target (sees v t z l c g b f) v) ≡ true
sound_for_target (seen.Word w.Name) t z l c g b f = refl
sound_for_target _ t z l c g b f = refl

sound_return : (b : Bool) (from : ℕ) → is_sound n.Statement (if b then return_statement from else Never ∷ []) ≡ true
sound_return true from = refl
sound_return false from = refl

sound_listed : (b : Bool) → is_sound n.Sources (if b then Part n.Statement ∷ add ∷ Part n.Sources ∷ [] else []) ≡ true
sound_listed true = refl
sound_listed false = refl

sound_block : (b : Bool) → is_sound n.Statements (if b then Part n.Statement ∷ add ∷ Part n.Statements ∷ [] else []) ≡ true
sound_block true = refl
sound_block false = refl

sound_sources : (s : List Symbol) (v : Seen) → is_sound n.Sources (sources s v) ≡ true
sound_sources s (seen.Word w.Function) = refl
sound_sources s v = sound_listed (starts s v)

sound_named : (s : List Symbol) (c : Bool) (t : List ℕ) (z : ℤ) (l g : Bool) (b f : ℕ) → is_sound n.Statement (named_statement s (sees (seen.Word w.Name) t z l c g b f)) ≡ true
sound_named s true t z l g b f = sound_if n.Statement (breaks_to t s) _ _ refl refl
sound_named s false t z l g b f = refl

sound_expression : (from : ℕ) (v : Seen) → is_sound n.Statement (expression_statement from v) ≡ true
sound_expression from v = sound_if n.Statement (begins v) _ _ refl refl

sound_statement : (s : List Symbol) (v : Seen) (t : List ℕ) (z : ℤ) (l c g : Bool) (b f : ℕ) → is_sound n.Statement (statement s (sees v t z l c g b f) v) ≡ true
sound_statement s (seen.Word w.Return) t z l c g b f = sound_return (in_function s) f
sound_statement s (seen.Word w.Name) t z l c g b f = sound_named s c t z l g b f
sound_statement s _ t z l c g b f = refl

sound_for : (from : ℕ) (g : Bool) → is_sound (n.ForHead from) (for_expression from g) ≡ true
sound_for from g = sound_if (n.ForHead from) g _ _ refl refl

sound_for_head : (from : ℕ) (v : Seen) (t : List ℕ) (z : ℤ) (l c g : Bool) (b f : ℕ) → is_sound (n.ForHead from) (for_head from (sees v t z l c g b f) v) ≡ true
sound_for_head from (seen.Word w.Name) t z l c g b f = sound_for from g
sound_for_head from (seen.Word w.OpenParen) t z l c g b f = sound_for from g
sound_for_head from _ t z l c g b f = refl

sound_for_var : (from at : ℕ) (v : Seen) (t : List ℕ) (z : ℤ) (l c g : Bool) (b f : ℕ) → is_sound (n.ForVar from at) (for_var from at (sees v t z l c g b f) v) ≡ true
sound_for_var from at (seen.Word w.Name) t z l c g b f = sound_if (n.ForVar from at) g _ _ refl refl
sound_for_var from at _ t z l c g b f = refl

abbrev is_jump : Production → Bool
is_jump p.Continue = true
is_jump p.Break = true
is_jump _ = false

sound_unlabelled : (there : Bool) (q : Production) (from : ℕ) → is_jump q ≡ true → is_sound (n.BreakTo from) (unlabelled there q from) ≡ true
sound_unlabelled there p.Continue from e = sound_if (n.BreakTo from) there _ _ refl refl
sound_unlabelled there p.Break from e = sound_if (n.BreakTo from) there _ _ refl refl
sound_unlabelled there q from e = cc

sound_labelled : (there : Bool) (q : Production) (from : ℕ) (u : Sight) → is_jump q ≡ true → is_sound (n.BreakTo from) (labelled there q from u) ≡ true
sound_labelled there p.Continue from u e = sound_if (n.BreakTo from) there _ _ refl refl
sound_labelled there p.Break from u e = sound_if (n.BreakTo from) there _ _ refl refl
sound_labelled there q from u e = cc

sound_jump : (there labelled_there : Bool) (q : Production) (from : ℕ) (v : Seen) (t : List ℕ) (z : ℤ) (l c g : Bool) (b f : ℕ) → is_jump q ≡ true → is_sound (n.BreakTo from) (jump there labelled_there q from (sees v t z l c g b f) v) ≡ true
sound_jump there labelled_there q from (seen.Word w.Name) t z true c g b f e = sound_unlabelled there q from e
sound_jump there labelled_there q from (seen.Word w.Name) t z false c g b f e = sound_labelled labelled_there q from (sees (seen.Word w.Name) t z false c g b f) e
sound_jump there labelled_there q from _ t z l c g b f e = sound_unlabelled there q from e

sound_returned : (from : ℕ) (v : Seen) (t : List ℕ) (z : ℤ) (l c g : Bool) (b f : ℕ) → is_sound (n.Returned from) (returned_by from (sees v t z l c g b f) v) ≡ true
sound_returned from (seen.Word w.Semicolon) t z l c g b f = refl
sound_returned from v t z l c g b f = sound_if (n.Returned from) (l || may_follow v) _ _ refl refl

sound_cases : (d : Bool) (v : Seen) → is_sound (n.Cases d) (cases d v) ≡ true
sound_cases d (seen.Word w.Case) = refl
sound_cases false (seen.Word w.Default) = refl
sound_cases true _ = refl
sound_cases false _ = refl

sound_at : (x : Nonterminal) (s : List Symbol) (v : Seen) (t : List ℕ) (z : ℤ) (l c g : Bool) (b f : ℕ) (vs : List Tree) → is_sound x (produce x s (sees v t z l c g b f) vs) ≡ true
sound_at (n.Expression i) s v t z l c g b f vs = refl
sound_at (n.Commas i from) s v t z l c g b f vs = sound_commas i from v
sound_at (n.Assignment i) s v t z l c g b f vs = refl
sound_at (n.Assigned i from) s v t z l c g b f vs = sound_if (n.Assigned i from) (is_target vs) _ _ (sound_assigned_by i from v) refl
sound_at (n.Conditional i) s v t z l c g b f vs = refl
sound_at (n.Choice i from) s v t z l c g b f vs = sound_choice i from v
sound_at (n.Operation least i) s v t z l c g b f vs = refl
sound_at (n.Operators least i from) s v t z l c g b f vs = sound_operators least i from v (binary_operator i v) (two_operands i v)
sound_at n.Unary s v t z l c g b f vs = sound_unary v f (update_operator v) (unary_operator v)
sound_at (n.Postfix from) s v t z l c g b f vs = sound_postfix from v t z l c g b f (update_operator v) vs
sound_at (n.Updated o from) s v t z l c g b f vs = refl
sound_at n.Target s v t z l c g b f vs = sound_target v f (update_operator v) (unary_operator v)
sound_at (n.Prefixed o from) s v t z l c g b f vs = sound_if (n.Prefixed o from) (is_target vs) _ _ refl refl
sound_at (n.Operand o from) s v t z l c g b f vs = refl
sound_at (n.TargetOperand o from) s v t z l c g b f vs = refl
sound_at (n.Operated o from) s v t z l c g b f vs = sound_operated o from vs
sound_at n.LeftHand s v t z l c g b f vs = sound_left_hand f v
sound_at (n.Tail from) s v t z l c g b f vs = sound_tail from v
sound_at (n.MemberTail from) s v t z l c g b f vs = sound_member_tail from v
sound_at (n.Key from) s v t z l c g b f vs = sound_key from v t z l c g b f
sound_at n.New s v t z l c g b f vs = refl
sound_at n.Callee s v t z l c g b f vs = refl
sound_at n.Constructor s v t z l c g b f vs = sound_constructor v
sound_at (n.Given from) s v t z l c g b f vs = sound_given from v
sound_at n.Arguments s v t z l c g b f vs = refl
sound_at n.FirstArgument s v t z l c g b f vs = sound_first_argument v
sound_at n.MoreArguments s v t z l c g b f vs = sound_more_arguments v
sound_at n.Primary s v t z l c g b f vs = sound_primary v t z l c g b f
sound_at n.Elements s v t z l c g b f vs = sound_elements v
sound_at n.MoreElements s v t z l c g b f vs = sound_more_elements v
sound_at n.Entries s v t z l c g b f vs = sound_entries v
sound_at n.MoreEntries s v t z l c g b f vs = sound_more_entries v
sound_at n.Entry s v t z l c g b f vs = sound_entry v t z l c g b f
sound_at n.Getter s v t z l c g b f vs = sound_getter v
sound_at n.Setter s v t z l c g b f vs = sound_setter v
sound_at n.Accessed s v t z l c g b f vs = refl
sound_at n.Value s v t z l c g b f vs = refl
sound_at n.Function s v t z l c g b f vs = refl
sound_at n.OwnName s v t z l c g b f vs = sound_own_name v t z l c g b f
sound_at n.Name s v t z l c g b f vs = sound_name v t z l c g b f
sound_at n.Parameters s v t z l c g b f vs = sound_parameters v
sound_at n.MoreParameters s v t z l c g b f vs = sound_more_parameters v
sound_at n.Body s v t z l c g b f vs = refl
sound_at n.Sources s v t z l c g b f vs = sound_sources s v
sound_at n.Declaration s v t z l c g b f vs = refl
sound_at n.Statements s v t z l c g b f vs = sound_block (starts s v)
sound_at n.Statement s v t z l c g b f vs = sound_statement s v t z l c g b f
sound_at n.Braced s v t z l c g b f vs = refl
sound_at (n.Declarations i) s v t z l c g b f vs = refl
sound_at (n.Declarator i) s v t z l c g b f vs = refl
sound_at (n.MoreDeclarators i) s v t z l c g b f vs = sound_more_declarators i v
sound_at (n.Initialiser i) s v t z l c g b f vs = sound_initialiser i v
sound_at (n.Else from) s v t z l c g b f vs = sound_otherwise from v
sound_at (n.ForHead from) s v t z l c g b f vs = sound_for_head from v t z l c g b f
sound_at (n.ForVar from at) s v t z l c g b f vs = sound_for_var from at v t z l c g b f
sound_at n.ForTarget s v t z l c g b f vs = sound_for_target v t z l c g b f
sound_at (n.ForObject from) s v t z l c g b f vs = refl
sound_at (n.ForStart from) s v t z l c g b f vs = refl
sound_at n.ForTest s v t z l c g b f vs = sound_for_test v
sound_at n.ForUpdate s v t z l c g b f vs = sound_for_update v
sound_at (n.ContinueTo from) s v t z l c g b f vs = sound_jump (continues s) (continues_to t s) p.Continue from v t z l c g b f refl
sound_at (n.BreakTo from) s v t z l c g b f vs = sound_jump (breaks s) (breaks_to t s) p.Break from v t z l c g b f refl
sound_at (n.Returned from) s v t z l c g b f vs = sound_returned from v t z l c g b f
sound_at (n.Thrown from) s v t z l c g b f vs = sound_if (n.Thrown from) (l || may_follow v) _ _ refl refl
sound_at (n.Cases d) s v t z l c g b f vs = sound_cases d v
sound_at (n.Handlers from) s v t z l c g b f vs = sound_handlers from v
sound_at (n.Finally from) s v t z l c g b f vs = sound_finally from v

-- what may stand in the place of a part leads on
pub record IsSound (x : Nonterminal) (s : List Symbol) : Type 0 where
  pub lower : front s < rank x
  pub word : (not (reads_a_word x) || has_word s) ≡ true
  pub balanced : balances s (needs x) 1 ≡ true
  pub sorted : leads s (Some (takes x)) (gives x) ≡ true

parted : (x : Nonterminal) (s : List Symbol) → is_sound x s ≡ true → IsSound x s
parted x s e =
    let all = and_parts (nat_lt (front s) (rank x)) ((not (reads_a_word x) || has_word s) && (balances s (needs x) 1 && leads s (Some (takes x)) (gives x))) e in
    let rest = and_parts (not (reads_a_word x) || has_word s) (balances s (needs x) 1 && leads s (Some (takes x)) (gives x)) all.1 in
    let last = and_parts (balances s (needs x) 1) (leads s (Some (takes x)) (gives x)) rest.1 in
    record { lower = ltb-true (front s) (rank x) all.0; word = rest.0; balanced = last.0; sorted = last.1 }

pub sound : (x : Nonterminal) (s : List Symbol) (u : Sight) (vs : List Tree) → IsSound x (produce x s u vs)
sound x s u vs = parted x (produce x s u vs) (sound_at x s u.seen u.text u.number u.line_before u.colon u.target u.before u.from vs)
