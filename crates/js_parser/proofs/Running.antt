-- A text that is accepted fits where it stands.
use Rattle.std.proofs.Common.{◌≡◌, ◌≢◌, ◌⊎◌, inl, inr, ℕ, zero, suc, ◌+◌, ◌<◌, ◌≤◌, Bool, true, false, List, [], ◌∷◌, ◌++◌, ◌&&◌, length, drop, refl, sym, ◌∙◌, ap, subst, arith, add-one}
use Rattle.std.specs.Prelude.{if◌then◌else◌}
use Rattle.std.proofs.lemmas.Bool.{and_parts}
use Rattle.std.proofs.lemmas.List.{drop_more, drop_all}
use Rattle.js_tokens.specs.declared.token.Token.{Token}
use Rattle.js_tokens.specs.declared.word.Word.{Word as WordOfText}
use Rattle.js_tokens.specs.declared.word.Word.TheVariants as w
use Rattle.js_tree.specs.declared.production.Production.TheVariants as p
use Rattle.js_tree.specs.Trees.{Tree, Made, Word, Nil, Cons}
use Rattle.js_tree.specs.Runs.{is_in_profile, is_runnable, nothing, in_function}
use Rattle.js_grammar.specs.declared.sight.Seen.{Seen}
use Rattle.js_grammar.specs.declared.sight.Seen.TheVariants as seen
use Rattle.js_grammar.specs.declared.sight.Sight.{Sight}
use Rattle.js_grammar.specs.declared.symbol.Build.{Build}
use Rattle.js_grammar.specs.declared.symbol.Form.TheVariants.{Full}
use Rattle.js_grammar.specs.declared.symbol.Nonterminal.{Nonterminal}
use Rattle.js_grammar.specs.declared.symbol.Nonterminal.TheVariants as n
use Rattle.js_grammar.specs.declared.symbol.Open.{Open}
use Rattle.js_grammar.specs.declared.symbol.Open.TheVariants as open_part
use Rattle.js_grammar.specs.declared.symbol.Start.{Start}
use Rattle.js_grammar.specs.declared.symbol.Start.TheVariants.{Program, Handler}
use Rattle.js_grammar.specs.declared.symbol.Symbol.{Symbol}
use Rattle.js_grammar.specs.declared.symbol.Symbol.TheVariants.{Word as T, Never, Part, Build as Makes, Leave}
use Rattle.js_grammar.specs.inner.Ranks.{front}
use Rattle.js_grammar.specs.Answers.{Text, Outcome, Accepted}
use Rattle.js_grammar.specs.Derivations.{built, beginning}
use Rattle.js_grammar.specs.Ends.{Ends, at}
use Rattle.js_grammar.specs.Ends as ends
use Rattle.js_grammar.specs.Grammar.{produce, primary, tail, left_hand, unary_by, unary_operator, update_operator, postfix_by, operators_by, binary_operator, choice, assigned, commas, is_target, for_head, for_expression, for_target}
use Rattle.js_grammar.specs.Sights.{seen_at, seen_of, is_forbidden, is_name, is_open, is_close, opens_target, closes_target, end_before}
use Rattle.js_grammar.proofs.Total.{lighter, end_seen}
use Rattle.js_parser.proofs.Fitting.{Leads, free_made, free_one, free_word, fits_one}
use Rattle.js_parser.proofs.Opening.{commas_open, assigned_open, choice_open, any_operators_open, unary_open, target_open, postfix_open, prefixed_open, operated_open, left_hand_open, member_tail_open, tail_open, key_open, constructor_open, given_open, first_argument_open, more_arguments_open, elements_open, more_elements_open, entries_open, more_entries_open, parameters_open, more_parameters_open, entry_open, getter_open, setter_open, primary_open, own_name_open, name_open}
use Rattle.js_parser.proofs.Stating.{function_open, declaration_open, body_open, sources_open, statements_open, statement_open, declarator_open, more_declarators_open, initialiser_open, otherwise_open, for_head_open, reads_in, for_var_open, for_object_open, for_start_open, for_test_open, for_update_open, continue_open, break_open, returned_open, thrown_open, cases_open, handlers_open, finally_open}
use Rattle.js_grammar.specs.Grammar.{starts}

-- a part whose place matters: a head of a for, and its target
abbrev is_head : Nonterminal → Bool
is_head (n.ForHead _) = true
is_head n.ForTarget = true
is_head _ = false

-- what is read in the place of any other part
opens : (x : Nonterminal) → is_head x ≡ false → (u : Sight) → is_in_profile u.number ≡ true →
    (s : List Symbol) (vs : List Tree) → Leads (Part x ∷ s) vs → Leads (produce x s u vs ++ s) vs
opens (n.Expression f) e u i s vs k = λ t g. (g, k)
opens (n.Commas f from) e u i s vs h = commas_open f from u.seen s vs h
opens (n.Assignment f) e u i s vs k = λ t g. (g, k)
opens (n.Assigned f from) e u i s vs h = assigned_open f from u.seen s vs h
opens (n.Conditional f) e u i s vs k = λ t g. (g, k)
opens (n.Choice f from) e u i s vs h = choice_open f from u.seen s vs h
opens (n.Operation least f) e u i s vs k = λ t g. (g, k)
opens (n.Operators least f from) e u i s vs h = any_operators_open least f from u.seen s vs h
opens n.Unary e u i s vs h =
    unary_open u.seen u.from (update_operator u.seen) (unary_operator u.seen) s vs h
opens (n.Postfix from) e u i s vs h = postfix_open from u (update_operator u.seen) s vs h
opens (n.Updated o from) e u i s vs k = λ t g. (g, k)
opens n.Target e u i s vs h =
    target_open u.seen u.from (update_operator u.seen) (unary_operator u.seen) s vs h
opens (n.Prefixed o from) e u i s vs h = prefixed_open o from s vs h
opens (n.Operand o from) e u i s vs k = λ t g. (g, k)
opens (n.TargetOperand o from) e u i s vs k = λ t g. (g, k)
opens (n.Operated o from) e u i s vs h = operated_open o from s vs h
opens n.LeftHand e u i s vs h = left_hand_open u.from u.seen s vs h
opens (n.Tail from) e u i s vs h = tail_open from u.seen s vs h
opens (n.MemberTail from) e u i s vs h = member_tail_open from u.seen s vs h
opens (n.Key from) e u i s vs h = key_open from u s vs h
opens n.New e u i s vs k = λ t g. (g, k)
opens n.Callee e u i s vs k = λ t g. (g, k)
opens n.Constructor e u i s vs h = constructor_open u.seen s vs h
opens (n.Given from) e u i s vs h = given_open from u.seen s vs h
opens n.Arguments e u i s vs k = λ z. (λ a f. refl, k)
opens n.FirstArgument e u i s vs h = first_argument_open u.seen s vs h
opens n.MoreArguments e u i s vs h = more_arguments_open u.seen s vs h
opens n.Primary e u i s vs h = primary_open u u.seen i s vs h
opens n.Elements e u i s vs h = elements_open u.seen s vs h
opens n.MoreElements e u i s vs h = more_elements_open u.seen s vs h
opens n.Entries e u i s vs h = entries_open u.seen s vs h
opens n.MoreEntries e u i s vs h = more_entries_open u.seen s vs h
opens n.Entry e u i s vs h = entry_open u s vs h
opens n.Getter e u i s vs h = getter_open u.seen s vs h
opens n.Setter e u i s vs h = setter_open u.seen s vs h
opens n.Accessed e u i s vs h = λ z. (refl, λ t g. tt)
opens n.Value e u i s vs k = k
opens n.Function e u i s vs h = function_open u.from s vs h
opens n.OwnName e u i s vs h = own_name_open u u.seen s vs h
opens n.Name e u i s vs h = name_open u u.seen s vs h
opens n.Parameters e u i s vs h = parameters_open u.seen s vs h
opens n.MoreParameters e u i s vs h = more_parameters_open u.seen s vs h
opens n.Body e u i s vs h = body_open u.from s vs h
opens n.Sources e u i s vs h = sources_open u.seen s vs h
opens n.Declaration e u i s vs h = declaration_open u.from s vs h
opens n.Statements e u i s vs h = statements_open (starts s u.seen) s vs h
opens n.Statement e u i s vs h = statement_open u u.seen s vs h
opens n.Braced e u i s vs k = λ z. (refl, k)
opens (n.Declarations f) e u i s vs k = λ z. (λ a b. refl, λ t g. (g, k))
opens (n.Declarator f) e u i s vs h = declarator_open f s vs h
opens (n.MoreDeclarators f) e u i s vs h = more_declarators_open f u.seen s vs h
opens (n.Initialiser f) e u i s vs h = initialiser_open f u.seen s vs h
opens (n.Else from) e u i s vs h = otherwise_open from u.seen s vs h
opens (n.ForHead from) e u i s vs h = cc
opens (n.ForVar from place) e u i s vs h = for_var_open from place u u.seen s vs h
opens n.ForTarget e u i s vs h = cc
opens (n.ForObject from) e u i s vs h = for_object_open from s vs h
opens (n.ForStart from) e u i s vs h = for_start_open from s vs h
opens n.ForTest e u i s vs h = for_test_open u.seen s vs h
opens n.ForUpdate e u i s vs h = for_update_open u.seen s vs h
opens (n.ContinueTo from) e u i s vs h = continue_open from u u.seen s vs h
opens (n.BreakTo from) e u i s vs h = break_open from u u.seen s vs h
opens (n.Returned from) e u i s vs h = returned_open from u u.seen s vs h
opens (n.Thrown from) e u i s vs h = thrown_open from u s vs h
opens (n.Cases d) e u i s vs h = cases_open d u.seen s vs h
opens (n.Handlers from) e u i s vs h = handlers_open from u.seen s vs h
opens (n.Finally from) e u i s vs h = finally_open from u.seen s vs h

-- One step back -----------------------------------------------------------------------------------

abbrev Claim : Outcome → Type 0
Claim o = (t : Tree) → o ≡ Accepted t → is_runnable t ≡ true

no_claim : (o : Outcome) → ((t : Tree) → o ≢ Accepted t) → Claim o
no_claim o f t e = absurd (f t e)

expanded : {text : Text} {x : Nonterminal} {s : List Symbol} {vs : List Tree} {i : ℕ} {o : Outcome} → Ends text (Part x ∷ s) vs i o → Ends text (produce x s (at text i) vs ++ s) vs i o
expanded (ends.expands d) = d

made_there : {text : Text} {b : Build} {s : List Symbol} {vs : List Tree} {i : ℕ} {o : Outcome} → Ends text (Makes b ∷ s) vs i o → Ends text s (built b (at text i) vs) i o
made_there (ends.makes d) = d

left_there : {text : Text} {x : Open} {s : List Symbol} {vs : List Tree} {i : ℕ} {o : Outcome} → Ends text (Leave x ∷ s) vs i o → Ends text s vs i o
left_there (ends.leaves d) = d

word_read : {text : Text} {v : WordOfText} {s : List Symbol} {vs : List Tree} {i : ℕ} {o : Outcome} → Ends text (T v ∷ s) vs i o → ((at text i).seen ≡ seen.Word v → Ends text s vs (i + 1) o → Claim o) → Claim o
word_read (ends.reads e room d) f = f e d
word_read (ends.deep e l) f = λ t e. cc
word_read (ends.refused e) f = λ t e. cc

never_read : {text : Text} {s : List Symbol} {vs : List Tree} {i : ℕ} {o : Outcome} → Ends text (Never ∷ s) vs i o → Claim o
never_read ends.never = λ t e. cc

-- The target of a for-in: a name, also in parentheses ---------------------------------------------

-- a name or `(` is seen, or a name that is forbidden
abbrev is_plain : Seen → Bool
is_plain (seen.Word w.Name) = true
is_plain (seen.Word w.OpenParen) = true
is_plain seen.Forbidden = true
is_plain _ = false

abbrev is_shut : Seen → Bool
is_shut (seen.Word w.CloseParen) = true
is_shut seen.Forbidden = true
is_shut _ = false

plain_unary : (v : Seen) (from : ℕ) → is_plain v ≡ true →
    unary_by v from (update_operator v) (unary_operator v) ≡ Part n.LeftHand ∷ Part (n.Postfix from) ∷ []
plain_unary (seen.Word w.Name) from e = refl
plain_unary (seen.Word w.OpenParen) from e = refl
plain_unary seen.Forbidden from e = refl
plain_unary _ from e = cc

plain_left : (v : Seen) (from : ℕ) → is_plain v ≡ true →
    left_hand from v ≡ Part n.Primary ∷ Part (n.Tail from) ∷ []
plain_left (seen.Word w.Name) from e = refl
plain_left (seen.Word w.OpenParen) from e = refl
plain_left seen.Forbidden from e = refl
plain_left _ from e = cc

shut_tail : (v : Seen) (from : ℕ) → is_shut v ≡ true → tail from v ≡ []
shut_tail (seen.Word w.CloseParen) from e = refl
shut_tail seen.Forbidden from e = refl
shut_tail _ from e = cc

shut_postfix : (v : Seen) (from : ℕ) (u : Sight) (vs : List Tree) → is_shut v ≡ true →
    postfix_by from u (update_operator v) vs ≡ []
shut_postfix (seen.Word w.CloseParen) from u vs e = refl
shut_postfix seen.Forbidden from u vs e = refl
shut_postfix _ from u vs e = cc

shut_operators : (v : Seen) (least : ℕ) (from : ℕ) → is_shut v ≡ true →
    operators_by least Full from v (binary_operator Full v) ≡ []
shut_operators (seen.Word w.CloseParen) least from e = refl
shut_operators seen.Forbidden least from e = refl
shut_operators _ least from e = cc

shut_choice : (v : Seen) (from : ℕ) → is_shut v ≡ true → choice Full from v ≡ []
shut_choice (seen.Word w.CloseParen) from e = refl
shut_choice seen.Forbidden from e = refl
shut_choice _ from e = cc

if_same : (b : Bool) (s : List Symbol) → (if b then s else s) ≡ s
if_same true s = refl
if_same false s = refl

shut_assigned : (v : Seen) (from : ℕ) (vs : List Tree) → is_shut v ≡ true →
    assigned Full from v vs ≡ []
shut_assigned (seen.Word w.CloseParen) from vs e = if_same (is_target vs) []
shut_assigned seen.Forbidden from vs e = if_same (is_target vs) []
shut_assigned _ from vs e = cc

shut_commas : (v : Seen) (from : ℕ) → is_shut v ≡ true → commas Full from v ≡ []
shut_commas (seen.Word w.CloseParen) from e = refl
shut_commas seen.Forbidden from e = refl
shut_commas _ from e = cc

le_or_lt : (a b : ℕ) → (a ≤ b) ⊎ (b < a)
le_or_lt zero b = inl (omega arith)
le_or_lt (suc a) zero = inr (omega arith)
le_or_lt (suc a) (suc b) = elim (le_or_lt a b) [ inl l ↦ inl (omega arith) | inr l ↦ inr (omega arith) ]

-- the tokens from a place on
next_there : (xs : List Token) (i : ℕ) (t : Token) (ts : List Token) → drop i xs ≡ t ∷ ts →
    drop (i + 1) xs ≡ ts
next_there xs i t ts e = by (le_or_lt (length xs) i)
  where
    by : (length xs ≤ i) ⊎ (i < length xs) → drop (i + 1) xs ≡ ts
    by (inl l) = (let none = drop_all i xs l in cc)
    by (inr l) = (let more = drop_more xs i t l in cc)

-- what is seen of the token there
abbrev seen_there : Text → ℕ → Token → Seen
seen_there text i t = seen_of text.names t

at_token : (text : Text) (i : ℕ) (t : Token) (ts : List Token) → drop i text.tokens.items ≡ t ∷ ts →
    (at text i).seen ≡ seen_of text.names t
at_token text i t ts e =
    ap (λ z. (seen_at text.names (end_before text.tokens.items i) text.tokens.end z).seen) e

either_seen : (b : Bool) (k : WordOfText) →
    ((if b then seen.Forbidden else seen.Word k) ≡ seen.Forbidden) ⊎
    ((if b then seen.Forbidden else seen.Word k) ≡ seen.Word k)
either_seen true k = inl refl
either_seen false k = inr refl

-- the token there is this word, or a name that is forbidden
seen_word : (text : Text) (i : ℕ) (t : Token) (ts : List Token) (k : WordOfText) →
    drop i text.tokens.items ≡ t ∷ ts → t.word ≡ k →
    ((at text i).seen ≡ seen.Forbidden) ⊎ ((at text i).seen ≡ seen.Word k)
seen_word text i t ts k e f = elim (either_seen (is_forbidden text.names t.kind) t.word) [
  | inl g ↦ inl (at_token text i t ts e ∙ g)
  | inr g ↦ inr (at_token text i t ts e ∙ g ∙ ap seen.Word f)
]

-- what stands first in a target
abbrev Opening : ℕ → WordOfText → List Token → Type 0
Opening deep k ts = ((k ≡ w.Name) × (closes_target deep ts ≡ true)) ⊎
    ((k ≡ w.OpenParen) × (opens_target (deep + 1) ts ≡ true))

opening : (deep : ℕ) (k : WordOfText) (ts : List Token) →
    (if is_name k then closes_target deep ts else (is_open k && opens_target (deep + 1) ts)) ≡ true →
    Opening deep k ts
opening deep w.Name ts e = inl (refl, e)
opening deep w.OpenParen ts e = inr (refl, e)
opening deep _ ts e = cc

shut_word : (k : WordOfText) → is_close k ≡ true → k ≡ w.CloseParen
shut_word w.CloseParen e = refl
shut_word _ e = cc

plain_seen : (text : Text) (i : ℕ) (deep : ℕ) (ts : List Token) → drop i text.tokens.items ≡ ts →
    opens_target deep ts ≡ true → is_plain (at text i).seen ≡ true
plain_seen text i deep [] e o = cc
plain_seen text i deep (t ∷ ts) e o = elim (opening deep t.word ts o) [
  | inl (k, more) ↦ by (seen_word text i t ts w.Name e k)
  | inr (k, more) ↦ by_open (seen_word text i t ts w.OpenParen e k)
]
  where
    by : ((at text i).seen ≡ seen.Forbidden) ⊎ ((at text i).seen ≡ seen.Word w.Name) → is_plain (at text i).seen ≡ true
    by (inl f) = ap is_plain f
    by (inr f) = ap is_plain f

    by_open : ((at text i).seen ≡ seen.Forbidden) ⊎ ((at text i).seen ≡ seen.Word w.OpenParen) → is_plain (at text i).seen ≡ true
    by_open (inl f) = ap is_plain f
    by_open (inr f) = ap is_plain f

shut_seen : (text : Text) (i : ℕ) (deep : ℕ) (ts : List Token) → drop i text.tokens.items ≡ ts →
    closes_target (suc deep) ts ≡ true →
    (is_shut (at text i).seen ≡ true) × (closes_target deep (drop (i + 1) text.tokens.items) ≡ true)
shut_seen text i deep [] e o = cc
shut_seen text i deep (t ∷ ts) e o =
    let both = and_parts (is_close t.word) (closes_target deep ts) o in (
      by (seen_word text i t ts w.CloseParen e (shut_word t.word both.0)),
      subst (λ z. closes_target deep z ≡ true) (sym (next_there text.tokens.items i t ts e)) both.1,
    )
  where
    by : ((at text i).seen ≡ seen.Forbidden) ⊎ ((at text i).seen ≡ seen.Word w.CloseParen) → is_shut (at text i).seen ≡ true
    by (inl f) = ap is_shut f
    by (inr f) = ap is_shut f

-- a name was read at a place behind, and what closes a target stands there
abbrev GoesOn : Text → Outcome → List Symbol → List Tree → ℕ → ℕ → Type 0
GoesOn text o s vs i deep =
    (a b : ℕ) (u : List ℕ) (j : ℕ) → i < j → closes_target deep (drop j text.tokens.items) ≡ true →
    Ends text s (Made p.Name a b (Cons (Word u) Nil) ∷ vs) j o → Claim o

module _ (text : Text) (o : Outcome) where
  -- behind the operand in parentheses, up to the closing one
  closing : (deep i j : ℕ) (f1 f2 f3 f4 f5 f6 : ℕ) (s : List Symbol) (vs : List Tree) (a b : ℕ)
      (u : List ℕ) → i < j → closes_target (suc deep) (drop j text.tokens.items) ≡ true →
      GoesOn text o s vs i deep →
      Ends text (Part (n.Tail f1) ∷ Part (n.Postfix f2) ∷ Part (n.Operators 1 Full f3) ∷
      Part (n.Choice Full f4) ∷ Part (n.Assigned Full f5) ∷ Leave open_part.Part ∷
      Part (n.Commas Full f6) ∷ T w.CloseParen ∷ s) (Made p.Name a b (Cons (Word u) Nil) ∷ vs) j o →
      Claim o
  closing deep i j f1 f2 f3 f4 f5 f6 s vs a b u l c k d0 =
      let t = Made p.Name a b (Cons (Word u) Nil) in
      let (shut, more) = shut_seen text j deep (drop j text.tokens.items) refl c in
      let v = (at text j).seen in
      let s5 = T w.CloseParen ∷ s in
      let s4 = Part (n.Assigned Full f5) ∷ Leave open_part.Part ∷ Part (n.Commas Full f6) ∷ s5 in
      let s3 = Part (n.Choice Full f4) ∷ s4 in
      let s2 = Part (n.Operators 1 Full f3) ∷ s3 in
      let s1 = Part (n.Postfix f2) ∷ s2 in
      let d1 = subst (λ z. Ends text (z ++ s1) (t ∷ vs) j o) (shut_tail v f1 shut) (expanded d0) in
      let d2 = subst (λ z. Ends text (z ++ s2) (t ∷ vs) j o) (shut_postfix v f2 (at text j) (t ∷ vs) shut) (expanded d1) in
      let d3 = subst (λ z. Ends text (z ++ s3) (t ∷ vs) j o) (shut_operators v 1 f3 shut) (expanded d2) in
      let d4 = subst (λ z. Ends text (z ++ s4) (t ∷ vs) j o) (shut_choice v f4 shut) (expanded d3) in
      let d5 = subst (λ z. Ends text (z ++ Leave open_part.Part ∷ Part (n.Commas Full f6) ∷ s5) (t ∷ vs) j o) (shut_assigned v f5 (t ∷ vs) shut) (expanded d4) in
      let d6 = subst (λ z. Ends text (z ++ s5) (t ∷ vs) j o) (shut_commas v f6 shut) (expanded (left_there d5)) in
      word_read d6 (λ e d7. k a b u (j + 1) (omega arith) more d7)

  name_read : (deep i : ℕ) (s : List Symbol) (vs : List Tree) →
      closes_target deep (drop (i + 1) text.tokens.items) ≡ true → GoesOn text o s vs i deep →
      (u : Sight) → Ends text (primary u (seen.Word w.Name) ++ s) vs i o → Claim o
  name_read deep i s vs c k u d =
      word_read d (λ e d1. k u.from (at text (i + 1)).before u.text (i + 1) (omega arith) c (made_there (made_there d1)))

  forbidden_read : {i : ℕ} (s : List Symbol) (vs : List Tree) (u : Sight) → Ends text (primary u seen.Forbidden ++ s) vs i o → Claim o
  forbidden_read s vs u d = never_read d

  abbrev Operand : List Token → Type 0
  Operand ts =
      (deep i : ℕ) (s : List Symbol) (vs : List Tree) → drop i text.tokens.items ≡ ts →
      opens_target deep ts ≡ true → GoesOn text o s vs i deep →
      Ends text (primary (at text i) (at text i).seen ++ s) vs i o → Claim o

  in_parentheses : (ts : List Token) → Operand ts → (deep i : ℕ) (s : List Symbol) (vs : List Tree) →
      GoesOn text o s vs i deep → drop (i + 1) text.tokens.items ≡ ts →
      opens_target (deep + 1) ts ≡ true →
      Ends text (Part (n.Expression Full) ∷ T w.CloseParen ∷ s) vs (i + 1) o → Claim o
  in_parentheses ts operand deep i s vs k there more d1 =
      let u = at text (i + 1) in
      let plain = plain_seen text (i + 1) (deep + 1) ts there more in
      let s3 = Part (n.Operators 1 Full u.from) ∷ Part (n.Choice Full u.from) ∷ Part (n.Assigned Full u.from) ∷ Leave open_part.Part ∷ Part (n.Commas Full u.from) ∷ T w.CloseParen ∷ s in
      let s2 = Part (n.Postfix u.from) ∷ s3 in
      let s1 = Part (n.Tail u.from) ∷ s2 in
      let d2 = expanded (expanded (expanded (expanded d1))) in
      let d3 = subst (λ z. Ends text (z ++ s3) vs (i + 1) o) (plain_unary u.seen u.from plain) (expanded d2) in
      let d4 = subst (λ z. Ends text (z ++ s2) vs (i + 1) o) (plain_left u.seen u.from plain) (expanded d3) in
      operand (deep + 1) (i + 1) s1 vs there more
      (λ a b v j l c d5. closing deep i j u.from u.from u.from u.from u.from u.from s vs a b v (omega arith)
      (subst (λ z. closes_target z (drop j text.tokens.items) ≡ true) (add-one deep) c) k d5)
      (expanded d4)

  operand : (ts : List Token) → Operand ts
  operand [] deep i s vs e c k d = cc
  operand (t ∷ ts) deep i s vs e c k d = elim (opening deep t.word ts c) [
    | inl (word, more) ↦ elim (seen_word text i t ts w.Name e word) [
      | inl f ↦ forbidden_read s vs (at text i) (subst (λ z. Ends text (primary (at text i) z ++ s) vs i o) f d)
      | inr f ↦ name_read deep i s vs (subst (λ z. closes_target deep z ≡ true) (sym (next_there text.tokens.items i t ts e)) more) k (at text i)
          (subst (λ z. Ends text (primary (at text i) z ++ s) vs i o) f d)
    ]
    | inr (word, more) ↦ elim (seen_word text i t ts w.OpenParen e word) [
      | inl f ↦ forbidden_read s vs (at text i) (subst (λ z. Ends text (primary (at text i) z ++ s) vs i o) f d)
      | inr f ↦ word_read (subst (λ z. Ends text (primary (at text i) z ++ s) vs i o) f d)
          (λ seen_it d1. in_parentheses ts (operand ts) deep i s vs k (next_there text.tokens.items i t ts e) more d1)
    ]
  ]

-- A whole text ------------------------------------------------------------------------------------

-- each number is in the profile
abbrev pub HasNumbers : Text → Type 0
HasNumbers text = (i : ℕ) → is_in_profile (at text i).number ≡ true

target_there : (text : Text) (i : ℕ) → (at text i).target ≡ true →
    opens_target 0 (drop i text.tokens.items) ≡ true
target_there text i = by (drop i text.tokens.items)
  where
    by : (ts : List Token) → (seen_at text.names (end_before text.tokens.items i) text.tokens.end ts).target ≡ true → opens_target 0 ts ≡ true
    by [] e = cc
    by (t ∷ ts) e = e

-- the head of a for-in
head_is : (from : ℕ) (u : Sight) (v : Seen) → reads_in v u.target ≡ true →
    for_head from u v ≡ Part n.ForTarget ∷ Part (n.ForObject from) ∷ []
head_is from u (seen.Word w.Name) e = ap (for_expression from) e
head_is from u (seen.Word w.OpenParen) e = ap (for_expression from) e
head_is from u _ e = cc

head_target : (v : Seen) (b : Bool) → reads_in v b ≡ true → b ≡ true
head_target (seen.Word w.Name) b e = e
head_target (seen.Word w.OpenParen) b e = e
head_target _ b e = cc

target_operand : {text : Text} {i : ℕ} {o : Outcome} (u : Sight) (v : Seen) (b : Bool) (s : List Symbol)
    (vs : List Tree) → reads_in v b ≡ true → v ≡ (at text i).seen → u ≡ at text i →
    Ends text (for_target u v ++ s) vs i o → Ends text (primary u v ++ s) vs i o
target_operand u (seen.Word w.Name) b s vs e f g d = d
target_operand {text = text} {i = i} {o = o} u (seen.Word w.OpenParen) b s vs e f g d =
    subst (λ z. Ends text (primary u z ++ s) vs i o) (sym f)
    (subst (λ z. Ends text (primary z (at text i).seen ++ s) vs i o) (sym g) (expanded d))
target_operand u _ b s vs e f g d = cc

for_in : (text : Text) (o : Outcome) (i from : ℕ) (s : List Symbol) (vs : List Tree) →
    ((j : ℕ) → i < j → (r : List Symbol) (ts : List Tree) → Leads r ts → Ends text r ts j o → Claim o) →
    Leads (Part (n.ForHead from) ∷ s) vs → reads_in (at text i).seen (at text i).target ≡ true →
    Ends text (for_head from (at text i) (at text i).seen ++ s) vs i o → Claim o
for_in text o i from s vs later k e d =
    let u = at text i in
    let rest = Part (n.ForObject from) ∷ s in
    let d1 = subst (λ z. Ends text (z ++ s) vs i o) (head_is from u u.seen e) d in
    let d2 = target_operand u u.seen u.target rest vs e refl refl (expanded d1) in
    operand text o (drop i text.tokens.items) 0 i rest vs refl
    (target_there text i (head_target u.seen u.target e))
    (λ a b v j l c d3. later j l rest (Made p.Name a b (Cons (Word v) Nil) ∷ vs)
    ((free_made p.Name a b (Cons (Word v) Nil) (λ z. refl) (free_one (Word v) (free_word v)), refl), k) d3)
    d2

-- what is seen is a token
inside : (text : Text) (i : ℕ) → ((at text i).seen ≢ seen.End) → i < length text.tokens.items
inside text i f = elim (le_or_lt (length text.tokens.items) i) [
  | inl l ↦ absurd (f (end_seen text i l))
  | inr l ↦ l
]

head_inside : (v : Seen) (b : Bool) → reads_in v b ≡ true → v ≢ seen.End
head_inside (seen.Word k) b e f = cc
head_inside seen.Forbidden b e f = cc
head_inside seen.End b e f = cc

same_tree : {t v : Tree} → Accepted v ≡ Accepted t → v ≡ t
same_tree e = cc

module _ (text : Text) (o : Outcome) (numbers : HasNumbers text) (i : ℕ)
    (later : i < length text.tokens.items → (j : ℕ) → i < j → (s : List Symbol) (vs : List Tree) → Leads s vs → Ends text s vs j o → Claim o) where
  head_step : (from room : ℕ) (s : List Symbol) (vs : List Tree) →
      front (Part (n.ForHead from) ∷ s) < suc room →
      ((r : List Symbol) → front r < room → Leads r vs → Ends text r vs i o → Claim o) →
      (b : Bool) → reads_in (at text i).seen (at text i).target ≡ b →
      Leads (Part (n.ForHead from) ∷ s) vs →
      Ends text (for_head from (at text i) (at text i).seen ++ s) vs i o → Claim o
  head_step from room s vs l go true e h d = for_in text o i from s vs (later (inside text i (head_inside (at text i).seen (at text i).target e))) h e d
  head_step from room s vs l go false e h d =
      let less : front (produce (n.ForHead from) s (at text i) vs ++ s) < front (Part (n.ForHead from) ∷ s) = lighter (n.ForHead from) s (at text i) vs in
      go (for_head from (at text i) (at text i).seen ++ s) (omega arith)
      (for_head_open from (at text i) (at text i).seen s vs e h) d

  part_step : (x : Nonterminal) (room : ℕ) (s : List Symbol) (vs : List Tree) →
      front (Part x ∷ s) < suc room →
      ((r : List Symbol) → front r < room → Leads r vs → Ends text r vs i o → Claim o) →
      Leads (Part x ∷ s) vs → Ends text (produce x s (at text i) vs ++ s) vs i o → Claim o
  part_step (n.ForHead from) room s vs l go h d =
      head_step from room s vs l go (reads_in (at text i).seen (at text i).target) refl h d
  part_step n.ForTarget room s vs l go h d = absurd h
  part_step x room s vs l go h d =
      let less : front (produce x s (at text i) vs ++ s) < front (Part x ∷ s) = lighter x s (at text i) vs in
      go (produce x s (at text i) vs ++ s) (omega arith) (opens x refl (at text i) (numbers i) s vs h) d

  -- the steps that there is room for
  steps : (room : ℕ) (s : List Symbol) (vs : List Tree) → front s < room → Leads s vs →
      (q : Outcome) → q ≡ o → Ends text s vs i q → Claim o
  steps zero s vs l h q same d = absurd (omega arith)
  steps (suc room) _ _ l h _ same (ends.accepts {v = v} e) = λ t is. subst (λ z. is_runnable z ≡ true) (same_tree (same ∙ is)) h
  steps (suc room) _ _ l h _ same (ends.reads {s = s} {vs = vs} {o = q} e r d) = later (inside text i (λ f. cc)) (i + 1) (omega arith) s vs h (subst (Ends text s vs (i + 1)) same d)
  steps (suc room) _ _ l h _ same (ends.deep e r) = λ t is. cc
  steps (suc room) _ _ l h _ same (ends.refused e) = λ t is. cc
  steps (suc room) _ _ l h _ same (ends.goes_on e) = λ t is. cc
  steps (suc room) _ _ l h _ same ends.never = λ t is. cc
  steps (suc room) _ _ l h _ same (ends.semicolon {s = s} {vs = vs} e r d) = later (inside text i (λ f. cc)) (i + 1) (omega arith) s vs h (subst (Ends text s vs (i + 1)) same d)
  steps (suc room) _ _ l h _ same (ends.deep_semicolon e r) = λ t is. cc
  steps (suc room) _ _ l h _ same (ends.inserted {s = s} {vs = vs} {o = q} e m d) = steps room s vs (omega arith) h q same d
  steps (suc room) _ _ l h _ same (ends.missing e m) = λ t is. cc
  steps (suc room) _ _ l h _ same (ends.free_semicolon {s = s} {vs = vs} e r d) = later (inside text i (λ f. cc)) (i + 1) (omega arith) s vs h (subst (Ends text s vs (i + 1)) same d)
  steps (suc room) _ _ l h _ same (ends.deep_free_semicolon e r) = λ t is. cc
  steps (suc room) _ _ l h _ same (ends.free_inserted {s = s} {vs = vs} {o = q} e d) = steps room s vs (omega arith) h q same d
  steps (suc room) _ _ l h _ same (ends.expands {x = x} {s = s} {vs = vs} d) =
      part_step x room s vs l (λ r m g e. steps room r vs m g o refl e) h
      (subst (Ends text (produce x s (at text i) vs ++ s) vs i) same d)
  steps (suc room) _ _ l h _ same (ends.makes {b = b} {s = s} {vs = vs} {o = q} d) = steps room s (built b (at text i) vs) (omega arith) (h (at text i)) q same d
  steps (suc room) _ _ l h _ same (ends.leaves {s = s} {vs = vs} {o = q} d) = steps room s vs (omega arith) h q same d

-- with so many tokens left
from_place : (text : Text) (o : Outcome) → HasNumbers text → (more i : ℕ) → length text.tokens.items ≤ i + more →
    (s : List Symbol) (vs : List Tree) → Leads s vs → Ends text s vs i o → Claim o
from_place text o numbers zero i l s vs h d =
    steps text o numbers i (λ m j k r ts g e. absurd (omega arith)) (suc (front s)) s vs (omega arith) h o refl d
from_place text o numbers (suc more) i l s vs h d =
    steps text o numbers i (λ m j k r ts g e. from_place text o numbers more j (omega arith) r ts g e) (suc (front s)) s vs (omega arith) h o refl d

begins : (start : Start) → Leads (beginning start) []
begins Program = λ u. (refl, λ t g z. fits_one nothing [] t g)
begins Handler = λ u. (refl, λ t g z. fits_one in_function [] t g)

pub runs : (text : Text) (t : Tree) → HasNumbers text → Ends text (beginning text.start) [] 0 (Accepted t) → is_runnable t ≡ true
runs text t numbers d =
    from_place text (Accepted t) numbers (length text.tokens.items) 0 (omega arith) (beginning text.start) [] (begins text.start) d t refl
