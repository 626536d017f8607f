-- What is read in the place of a part leads on as the part does.
use Rattle.std.proofs.Common.{◌≡◌, ℕ, Bool, true, false, List, [], ◌∷◌, ◌++◌, ◌&&◌, refl}
use Rattle.std.specs.Prelude.{Option, Some, None, nat_le, not, codes, if◌then◌else◌}
use Rattle.std.specs.Str.{bytes_eq}
use Rattle.std.proofs.lemmas.Bool.{and_parts}
use Rattle.js_tokens.specs.declared.word.Word.TheVariants as w
use Rattle.js_tree.specs.declared.production.Production.{Production}
use Rattle.js_tree.specs.declared.production.Production.TheVariants as p
use Rattle.js_tree.specs.declared.production.UnaryOperator.{UnaryOperator}
use Rattle.js_tree.specs.declared.production.UnaryOperator.TheVariants as unary
use Rattle.js_tree.specs.declared.production.UpdateOperator.{UpdateOperator}
use Rattle.js_tree.specs.Trees.{Tree, Made, Word, Missing, Nil, Cons}
use Rattle.js_tree.specs.Runs.{Around, fits, is_deleted, is_in_profile, is_for_target, is_body}
use Rattle.js_tree.specs.Runs as runs
use Rattle.js_grammar.specs.declared.sight.Seen.{Seen}
use Rattle.js_grammar.specs.declared.sight.Seen.TheVariants as seen
use Rattle.js_grammar.specs.declared.sight.Sight.{Sight}
use Rattle.js_grammar.specs.declared.symbol.Form.{Form}
use Rattle.js_grammar.specs.declared.symbol.Form.TheVariants.{Full, NoIn}
use Rattle.js_grammar.specs.declared.symbol.Nonterminal.{Nonterminal}
use Rattle.js_grammar.specs.declared.symbol.Nonterminal.TheVariants as n
use Rattle.js_grammar.specs.declared.symbol.Symbol.{Symbol}
use Rattle.js_grammar.specs.declared.symbol.Symbol.TheVariants.{Never, Part}
use Rattle.js_grammar.specs.Grammar.{commas, assigned, assigned_by, assignment_operator, choice, operators_by, binary_operator, unary_by, target_by, operated, postfix_by, left_hand, member_tail, tail, key, constructor, given, first_argument, more_arguments, primary, elements, more_elements, entries, more_entries, entry, getter, setter, own_name, name, parameters, more_parameters, this_word, is_target, is_bare, is_key, is_property, behind_key, pair, node}
use Rattle.js_parser.proofs.Fitting.{IsFree, Leads, free_made, free_one, free_two, free_three, free_behind, free_word, free_of_word, free_missing, free_nil}

-- symbols in the place of a part
abbrev pub Opens : Nonterminal → List Symbol → List Symbol → List Tree → Type 0
Opens x here s vs = Leads (Part x ∷ s) vs → Leads (here ++ s) vs

pub by_if : (b : Bool) (here there s : List Symbol) (vs : List Tree) →
    (b ≡ true → Leads (here ++ s) vs) → (b ≡ false → Leads (there ++ s) vs) →
    Leads ((if b then here else there) ++ s) vs
by_if true here there s vs f g = f refl
by_if false here there s vs f g = g refl

pub word_first : (v : Seen) (s : List Symbol) (vs : List Tree) → Leads s vs →
    Leads (this_word v ∷ s) vs
word_first (seen.Word k) s vs h = h
word_first seen.Forbidden s vs h = tt
word_first seen.End s vs h = tt

-- what may be assigned to
pub target_is : (t : Tree) (vs : List Tree) → is_target (t ∷ vs) ≡ true → runs.is_target t ≡ true
target_is (Made p.Name _ _ _) vs e = refl
target_is (Made p.Member _ _ _) vs e = refl
target_is (Made p.Index _ _ _) vs e = refl
target_is _ vs e = e

deleted_is : (t : Tree) (vs : List Tree) → is_bare (t ∷ vs) ≡ false → is_deleted t ≡ true
deleted_is (Made p.Name _ _ _) vs e = cc
deleted_is _ vs e = refl

-- Operators ---------------------------------------------------------------------------------------

pub commas_open : (f : Form) (from : ℕ) (v : Seen) (s : List Symbol) (vs : List Tree) →
    Opens (n.Commas f from) (commas f from v) s vs
commas_open f from v s [] h = absurd h
commas_open f from (seen.Word w.Comma) s (x ∷ vs) (g, k) = λ t gt u.
    (free_made p.Comma from u.before (Cons x (Cons t Nil)) (λ a. refl) (free_two x t g gt), k)
commas_open f from _ s (x ∷ vs) (g, k) = k x g

abbrev is_assignment : Option Production → Bool
is_assignment (Some (p.Assign o)) = true
is_assignment (Some _) = false
is_assignment None = true

are_assignments : (v : Seen) → is_assignment (assignment_operator v) ≡ true
are_assignments (seen.Word w.Assign) = refl
are_assignments _ = refl

assigned_by_open : (f : Form) (from : ℕ) (v : Seen) (o : Option Production) (s : List Symbol)
    (x : Tree) (vs : List Tree) → is_assignment o ≡ true → is_target (x ∷ vs) ≡ true →
    Opens (n.Assigned f from) (assigned_by f from v o) s (x ∷ vs)
assigned_by_open f from v None s x vs i e (g, k) = k x g
assigned_by_open f from v (Some (p.Assign o)) s x vs i e (g, k) =
    word_first v _ (x ∷ vs)
    (λ t gt u. k (Made (p.Assign o) from u.before (Cons x (Cons t Nil)))
    (free_made (p.Assign o) from u.before (Cons x (Cons t Nil)) (λ a. target_is x vs e)
    (free_two x t g gt)))
assigned_by_open f from v (Some q) s x vs i e h = cc

pub assigned_open : (f : Form) (from : ℕ) (v : Seen) (s : List Symbol) (vs : List Tree) →
    Opens (n.Assigned f from) (assigned f from v vs) s vs
assigned_open f from v s [] h = absurd h
assigned_open f from v s (x ∷ vs) h =
    by_if (is_target (x ∷ vs)) (assigned_by f from v (assignment_operator v)) [] s (x ∷ vs)
    (λ e. assigned_by_open f from v (assignment_operator v) s x vs (are_assignments v) e h)
    (λ e. h.1 x h.0)

pub choice_open : (f : Form) (from : ℕ) (v : Seen) (s : List Symbol) (vs : List Tree) →
    Opens (n.Choice f from) (choice f from v) s vs
choice_open f from v s [] h = absurd h
choice_open f from (seen.Word w.Question) s (x ∷ vs) (g, k) = λ t gt r gr u.
    k (Made p.Conditional from u.before (Cons x (Cons t (Cons r Nil))))
    (free_made p.Conditional from u.before (Cons x (Cons t (Cons r Nil))) (λ a. refl)
    (free_three x t r g gt gr))
choice_open f from _ s (x ∷ vs) (g, k) = k x g

abbrev joins : Option (ℕ × Production) → Bool
joins (Some (level, p.And)) = true
joins (Some (level, p.Or)) = true
joins (Some (level, p.Binary o)) = true
joins (Some _) = false
joins None = true

all_join : (f : Form) (v : Seen) → joins (binary_operator f v) ≡ true
all_join Full (seen.Word w.In) = refl
all_join NoIn (seen.Word w.In) = refl
all_join f _ = refl

joined_fits : (level : ℕ) (q : Production) (a : Around) (ts : Tree) →
    joins (Some (level, q)) ≡ true → fits a q ts ≡ true
joined_fits level p.And a ts e = refl
joined_fits level p.Or a ts e = refl
joined_fits level (p.Binary o) a ts e = refl
joined_fits level q a ts e = cc

pub operators_open : (least : ℕ) (f : Form) (from : ℕ) (v : Seen) (o : Option (ℕ × Production))
    (s : List Symbol) (vs : List Tree) → joins o ≡ true →
    Opens (n.Operators least f from) (operators_by least f from v o) s vs
operators_open least f from v o s [] i h = absurd h
operators_open least f from v None s (x ∷ vs) i (g, k) = k x g
operators_open least f from v (Some (level, q)) s (x ∷ vs) i (g, k) =
    by_if (nat_le least level) _ [] s (x ∷ vs)
    (λ e. word_first v _ (x ∷ vs)
    (λ t gt u. (
      free_made q from u.before (Cons x (Cons t Nil))
          (λ a. joined_fits level q a (Cons x (Cons t Nil)) i) (free_two x t g gt),
      k,
    )))
    (λ e. k x g)

pub any_operators_open : (least : ℕ) (f : Form) (from : ℕ) (v : Seen) (s : List Symbol)
    (vs : List Tree) →
    Opens (n.Operators least f from) (operators_by least f from v (binary_operator f v)) s vs
any_operators_open least f from v s vs h =
    operators_open least f from v (binary_operator f v) s vs (all_join f v) h

pub unary_open : (v : Seen) (from : ℕ) (o : Option UpdateOperator) (q : Option UnaryOperator)
    (s : List Symbol) (vs : List Tree) → Opens n.Unary (unary_by v from o q) s vs
unary_open v from (Some o) q s vs k = word_first v _ vs k
unary_open v from None (Some o) s vs k = word_first v _ vs k
unary_open v from None None s vs k = λ t g. (g, k)

pub target_open : (v : Seen) (from : ℕ) (o : Option UpdateOperator) (q : Option UnaryOperator)
    (s : List Symbol) (vs : List Tree) → Opens n.Target (target_by v from o q) s vs
target_open v from (Some o) q s vs k = word_first v _ vs k
target_open v from None (Some o) s vs k = word_first v _ vs k
target_open v from None None s vs k = k

pub postfix_open : (from : ℕ) (u : Sight) (o : Option UpdateOperator) (s : List Symbol)
    (vs : List Tree) → Opens (n.Postfix from) (postfix_by from u o vs) s vs
postfix_open from u o s [] h = absurd h
postfix_open from u None s (x ∷ vs) (g, k) = k x g
postfix_open from u (Some o) s (x ∷ vs) (g, k) =
    by_if (not u.line_before && is_target (x ∷ vs)) _ [] s (x ∷ vs)
    (λ e. word_first u.seen _ (x ∷ vs)
    (λ z. k (Made (p.Postfix o) from z.before (Cons x Nil))
    (free_made (p.Postfix o) from z.before (Cons x Nil)
    (λ a. target_is x vs (and_parts (not u.line_before) (is_target (x ∷ vs)) e).1)
    (free_one x g))))
    (λ e. k x g)

pub prefixed_open : (o : UpdateOperator) (from : ℕ) (s : List Symbol) (vs : List Tree) →
    Opens (n.Prefixed o from)
    (if is_target vs then node (p.Prefix o) from 1 ∷ [] else Never ∷ []) s vs
prefixed_open o from s [] h = absurd h
prefixed_open o from s (x ∷ vs) (g, k) =
    by_if (is_target (x ∷ vs)) _ (Never ∷ []) s (x ∷ vs)
    (λ e z. k (Made (p.Prefix o) from z.before (Cons x Nil))
    (free_made (p.Prefix o) from z.before (Cons x Nil) (λ a. target_is x vs e) (free_one x g)))
    (λ e. tt)

pub operated_open : (o : UnaryOperator) (from : ℕ) (s : List Symbol) (vs : List Tree) →
    Opens (n.Operated o from) (operated o from vs) s vs
operated_open o from s [] h = absurd h
operated_open unary.Delete from s (x ∷ vs) (g, k) =
    by_if (is_bare (x ∷ vs)) (Never ∷ []) _ s (x ∷ vs) (λ e. tt)
    (λ e z. k (Made (p.Unary unary.Delete) from z.before (Cons x Nil))
    (free_made (p.Unary unary.Delete) from z.before (Cons x Nil) (λ a. deleted_is x vs e)
    (free_one x g)))
operated_open o from s (x ∷ vs) (g, k) = λ z.
    k (Made (p.Unary o) from z.before (Cons x Nil))
    (free_made (p.Unary o) from z.before (Cons x Nil) (λ a. refl) (free_one x g))

-- Members and calls -------------------------------------------------------------------------------

pub left_hand_open : (from : ℕ) (v : Seen) (s : List Symbol) (vs : List Tree) →
    Opens n.LeftHand (left_hand from v) s vs
left_hand_open from (seen.Word w.New) s vs k = λ t g. (g, k)
left_hand_open from _ s vs k = λ t g. (g, k)

member_open : (more : Nonterminal) (from : ℕ) (v : Seen) (s : List Symbol) (x : Tree)
    (vs : List Tree) → IsFree x → ((t : Tree) → IsFree t → Leads (Part more ∷ s) (t ∷ vs)) →
    Leads s (x ∷ vs) → Leads (member_tail more from v ++ s) (x ∷ vs)
member_open more from (seen.Word w.Dot) s x vs g on stop = (g, on)
member_open more from (seen.Word w.OpenBracket) s x vs g on stop = λ t gt u.
    on (Made p.Index from u.before (Cons x (Cons t Nil)))
    (free_made p.Index from u.before (Cons x (Cons t Nil)) (λ a. refl) (free_two x t g gt))
member_open more from _ s x vs g on stop = stop

pub member_tail_open : (from : ℕ) (v : Seen) (s : List Symbol) (vs : List Tree) →
    Opens (n.MemberTail from) (member_tail (n.MemberTail from) from v) s vs
member_tail_open from v s [] h = absurd h
member_tail_open from v s (x ∷ vs) (g, k) =
    member_open (n.MemberTail from) from v s x vs g (λ t gt. (gt, k)) (k x g)

pub tail_open : (from : ℕ) (v : Seen) (s : List Symbol) (vs : List Tree) →
    Opens (n.Tail from) (tail from v) s vs
tail_open from v s [] h = absurd h
tail_open from (seen.Word w.OpenParen) s (x ∷ vs) (g, k) = λ l gl u.
    (free_made p.Call from u.before (Cons x (Cons l Nil)) (λ a. refl) (free_two x l g gl), k)
tail_open from v s (x ∷ vs) (g, k) =
    member_open (n.Tail from) from v s x vs g (λ t gt. (gt, k)) (k x g)

pub key_open : (from : ℕ) (u : Sight) (s : List Symbol) (vs : List Tree) →
    Opens (n.Key from) (key from u) s vs
key_open from u s [] h = absurd h
key_open from u s (x ∷ vs) (g, k) =
    by_if (is_key u.seen) _ (Never ∷ []) s (x ∷ vs)
    (λ e. word_first u.seen _ (x ∷ vs)
    (λ y z. k (Made p.Member from z.before (Cons x (Cons (Word u.text) Nil)))
    (free_made p.Member from z.before (Cons x (Cons (Word u.text) Nil)) (λ a. refl)
    (free_two x (Word u.text) g (free_word u.text)))))
    (λ e. tt)

pub constructor_open : (v : Seen) (s : List Symbol) (vs : List Tree) →
    Opens n.Constructor (constructor v) s vs
constructor_open (seen.Word w.New) s vs k = k
constructor_open _ s vs k = k

pub given_open : (from : ℕ) (v : Seen) (s : List Symbol) (vs : List Tree) →
    Opens (n.Given from) (given from v) s vs
given_open from v s [] h = absurd h
given_open from (seen.Word w.OpenParen) s (x ∷ vs) (g, k) = λ l gl u.
    k (Made p.New from u.before (Cons x (Cons l Nil)))
    (free_made p.New from u.before (Cons x (Cons l Nil)) (λ a. refl) (free_two x l g gl))
given_open from _ s (x ∷ vs) (g, k) = λ y u.
    k (Made p.New from u.before (Cons x (Cons Nil Nil)))
    (free_made p.New from u.before (Cons x (Cons Nil Nil)) (λ a. refl) (free_two x Nil g free_nil))

-- Lists -------------------------------------------------------------------------------------------

pub first_argument_open : (v : Seen) (s : List Symbol) (vs : List Tree) →
    Opens n.FirstArgument (first_argument v) s vs
first_argument_open v s [] h = absurd h
first_argument_open (seen.Word w.CloseParen) s (l ∷ vs) (g, k) = k l g
first_argument_open _ s (l ∷ vs) (g, k) = λ t gt u. (free_behind l t g gt, k)

pub more_arguments_open : (v : Seen) (s : List Symbol) (vs : List Tree) →
    Opens n.MoreArguments (more_arguments v) s vs
more_arguments_open v s [] h = absurd h
more_arguments_open (seen.Word w.Comma) s (l ∷ vs) (g, k) = λ t gt u. (free_behind l t g gt, k)
more_arguments_open _ s (l ∷ vs) (g, k) = k l g

pub elements_open : (v : Seen) (s : List Symbol) (vs : List Tree) →
    Opens n.Elements (elements v) s vs
elements_open v s [] h = absurd h
elements_open (seen.Word w.Comma) s (l ∷ vs) (g, k) = λ y u.
    (free_behind l Missing g free_missing, k)
elements_open (seen.Word w.CloseBracket) s (l ∷ vs) (g, k) = k l g
elements_open _ s (l ∷ vs) (g, k) = λ t gt u. (free_behind l t g gt, k)

pub more_elements_open : (v : Seen) (s : List Symbol) (vs : List Tree) →
    Opens n.MoreElements (more_elements v) s vs
more_elements_open v s [] h = absurd h
more_elements_open (seen.Word w.Comma) s (l ∷ vs) (g, k) = (g, k)
more_elements_open _ s (l ∷ vs) (g, k) = k l g

pub entries_open : (v : Seen) (s : List Symbol) (vs : List Tree) → Opens n.Entries (entries v) s vs
entries_open v s [] h = absurd h
entries_open (seen.Word w.CloseBrace) s (l ∷ vs) (g, k) = k l g
entries_open _ s (l ∷ vs) (g, k) = λ t gt u. (free_behind l t g gt, k)

pub more_entries_open : (v : Seen) (s : List Symbol) (vs : List Tree) →
    Opens n.MoreEntries (more_entries v) s vs
more_entries_open v s [] h = absurd h
more_entries_open (seen.Word w.Comma) s (l ∷ vs) (g, k) = (g, k)
more_entries_open _ s (l ∷ vs) (g, k) = k l g

pub parameters_open : (v : Seen) (s : List Symbol) (vs : List Tree) →
    Opens n.Parameters (parameters v) s vs
parameters_open v s [] h = absurd h
parameters_open (seen.Word w.CloseParen) s (l ∷ vs) (g, k) = k l g
parameters_open _ s (l ∷ vs) (g, k) = λ t gt u. (free_behind l t g (free_of_word t gt), k)

pub more_parameters_open : (v : Seen) (s : List Symbol) (vs : List Tree) →
    Opens n.MoreParameters (more_parameters v) s vs
more_parameters_open v s [] h = absurd h
more_parameters_open (seen.Word w.Comma) s (l ∷ vs) (g, k) = λ t gt u.
    (free_behind l t g (free_of_word t gt), k)
more_parameters_open _ s (l ∷ vs) (g, k) = k l g

-- Properties --------------------------------------------------------------------------------------

abbrev is_value : Nonterminal → Bool
is_value n.Getter = true
is_value n.Setter = true
is_value n.Value = true
is_value _ = false

value_if : (b c : Bool) →
    is_value (if b then n.Getter else (if c then n.Setter else n.Value)) ≡ true
value_if true c = refl
value_if false true = refl
value_if false false = refl

value_behind : (u : Sight) (v : Seen) → is_value (behind_key u v) ≡ true
value_behind u (seen.Word w.Name) =
    value_if (bytes_eq u.text (codes "get")) (bytes_eq u.text (codes "set"))
value_behind u _ = refl

value_reads : (x : Nonterminal) (s : List Symbol) (vs : List Tree) → is_value x ≡ true →
    ((t : Tree) → IsFree t → Leads s (t ∷ vs)) → Leads (Part x ∷ s) vs
value_reads n.Getter s vs e k = k
value_reads n.Setter s vs e k = k
value_reads n.Value s vs e k = k
value_reads x s vs e k = cc

pub entry_open : (u : Sight) (s : List Symbol) (vs : List Tree) → Opens n.Entry (entry u) s vs
entry_open u s vs k =
    by_if (is_property u.seen) _ (Never ∷ []) s vs
    (λ e. word_first u.seen _ vs
    (λ y. value_reads (behind_key u u.seen) (pair ∷ s) (Word u.text ∷ vs) (value_behind u u.seen)
    (λ t gt z. k (Cons (Word u.text) (Cons t Nil))
    (free_two (Word u.text) t (free_word u.text) gt))))
    (λ e. tt)

pub getter_open : (v : Seen) (s : List Symbol) (vs : List Tree) → Opens n.Getter (getter v) s vs
getter_open v s vs k = by_if (is_property v) _ _ s vs (λ e. word_first v _ vs tt) (λ e. k)

pub setter_open : (v : Seen) (s : List Symbol) (vs : List Tree) → Opens n.Setter (setter v) s vs
setter_open v s vs k =
    by_if (is_property v) _ _ s vs (λ e. word_first v _ vs (λ t gt. tt)) (λ e. k)

-- Operands ----------------------------------------------------------------------------------------

pub primary_open : (u : Sight) (v : Seen) → is_in_profile u.number ≡ true → (s : List Symbol)
    (vs : List Tree) → Opens n.Primary (primary u v) s vs
primary_open u (seen.Word w.This) i s vs k = λ z.
    k (Made p.This u.from z.before Nil) (free_made p.This u.from z.before Nil (λ a. refl) free_nil)
primary_open u (seen.Word w.Name) i s vs k = λ y z.
    k (Made p.Name u.from z.before (Cons (Word u.text) Nil))
    (free_made p.Name u.from z.before (Cons (Word u.text) Nil) (λ a. refl)
    (free_one (Word u.text) (free_word u.text)))
primary_open u (seen.Word w.Null) i s vs k = λ z.
    k (Made p.Null u.from z.before Nil) (free_made p.Null u.from z.before Nil (λ a. refl) free_nil)
primary_open u (seen.Word w.True) i s vs k = λ z.
    k (Made (p.Bool true) u.from z.before Nil)
    (free_made (p.Bool true) u.from z.before Nil (λ a. refl) free_nil)
primary_open u (seen.Word w.False) i s vs k = λ z.
    k (Made (p.Bool false) u.from z.before Nil)
    (free_made (p.Bool false) u.from z.before Nil (λ a. refl) free_nil)
primary_open u (seen.Word w.Number) i s vs k = λ z.
    k (Made (p.Number u.number) u.from z.before Nil)
    (free_made (p.Number u.number) u.from z.before Nil (λ a. i) free_nil)
primary_open u (seen.Word w.Text) i s vs k = λ y z.
    k (Made p.Text u.from z.before (Cons (Word u.text) Nil))
    (free_made p.Text u.from z.before (Cons (Word u.text) Nil) (λ a. refl)
    (free_one (Word u.text) (free_word u.text)))
primary_open u (seen.Word w.OpenParen) i s vs k = k
primary_open u (seen.Word w.OpenBracket) i s vs k = λ y. (
  free_nil,
  λ l gl z.
      k (Made p.Array u.from z.before (Cons l Nil))
      (free_made p.Array u.from z.before (Cons l Nil) (λ a. refl) (free_one l gl)),
)
primary_open u (seen.Word w.OpenBrace) i s vs k = λ y. (
  free_nil,
  λ l gl z.
      k (Made p.Object u.from z.before (Cons l Nil))
      (free_made p.Object u.from z.before (Cons l Nil) (λ a. refl) (free_one l gl)),
)
primary_open u (seen.Word w.Function) i s vs k = k
primary_open u _ i s vs k = tt

pub own_name_open : (u : Sight) (v : Seen) (s : List Symbol) (vs : List Tree) →
    Opens n.OwnName (own_name u v) s vs
own_name_open u (seen.Word w.Name) s vs k = λ z. k (Word u.text) (free_word u.text)
own_name_open u _ s vs k = λ z. k Missing free_missing

pub name_open : (u : Sight) (v : Seen) (s : List Symbol) (vs : List Tree) →
    Opens n.Name (name u v) s vs
name_open u (seen.Word w.Name) s vs k = λ z. k (Word u.text) (u.text, refl)
name_open u _ s vs k = tt
