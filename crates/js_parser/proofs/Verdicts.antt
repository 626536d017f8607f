-- What the reading of a text's tokens says of the text.
use Rattle.std.proofs.Common.{◌≡◌, inl, inr, ℕ, ◌<◌, ◌≤◌, true, List, [], length, get_or, refl, sym, ◌∙◌, ap, subst}
use Rattle.std.proofs.lemmas.List.{drop_more, drop_all}
use Rattle.js_tokens.specs.declared.token.LexFault.{LexFault}
use Rattle.js_tokens.specs.declared.token.LexFault.TheVariants as lex
use Rattle.js_tokens.specs.declared.token.Token.{Token}
use Rattle.js_tokens.specs.declared.token.Tokens.{Tokens}
use Rattle.js_tokens.specs.Faults.{Refuses}
use Rattle.js_tokens.specs.Tokens.{TokensFrom}
use Rattle.js_tree.specs.Arena.{Arena}
use Rattle.js_tree.specs.Runs.{IsRunnableText, is_runnable}
use Rattle.js_grammar.specs.declared.sight.Names.{Names}
use Rattle.js_grammar.specs.declared.symbol.Start.{Start}
use Rattle.js_grammar.specs.Answers.{Answer, Outcome, Accepted, Unexpected, TooDeep, place}
use Rattle.js_grammar.specs.Derivations.{beginning}
use Rattle.js_grammar.specs.Ends.{Ends}
use Rattle.js_grammar.specs.Programs.{IsVerdict, Reads, UnexpectedAt, TooDeepAt}
use Rattle.js_grammar.specs.Sights.{end_before, seen_at}
use Rattle.js_expr.specs.declared.reading.Ending.{Ending}
use Rattle.js_expr.specs.declared.reading.Ending.TheVariants as ending
use Rattle.js_expr.specs.Reading.{Shows, text_of}
use Rattle.js_parser.proofs.Numbers.{numbers_in}
use Rattle.js_parser.proofs.Running.{runs}
use Rattle.js_parser.specs.Readings.{IsProgramOf, IsRefused, fault_of}

-- what was read, and how it ends
pub record Read (names : Names) (start : Start) (units : List ℕ) (tokens : Tokens) (e : Ending) : Type 0 where
  pub are : TokensFrom units 0 tokens.items
  pub units_end : tokens.end ≡ length units
  pub answer : (o : Outcome) × Shows e o × Answer (text_of tokens names start) o
  pub ended : (o : Outcome) × Shows e o × Ends (text_of tokens names start) (beginning start) [] 0 o

pub program : (names : Names) (start : Start) (units : List ℕ) (tokens : Tokens) (e : Ending) (script : Arena) → e ≡ ending.Accepted script → Read names start units tokens e → IsProgramOf names start units script
program names start units tokens e script is r = by (subst (λ z. (o : Outcome) × Shows z o × Answer (text_of tokens names start) o) is r.answer) where
  by : (o : Outcome) × Shows (ending.Accepted script) o × Answer (text_of tokens names start) o → IsProgramOf names start units script
  by (Accepted t, shows, answer) = inr (record { tokens = tokens; outcome = Accepted t; are = r.are; units_end = r.units_end; answer = answer; is = ap Reads shows.tree })
  by (Unexpected j, shows, answer) = absurd shows
  by (TooDeep j, shows, answer) = absurd shows

runnable : (names : Names) (start : Start) (units : List ℕ) (tokens : Tokens) (script : Arena) → TokensFrom units 0 tokens.items →
    (o : Outcome) × Shows (ending.Accepted script) o × Ends (text_of tokens names start) (beginning start) [] 0 o → IsRunnableText script
runnable names start units tokens script are (Accepted t, shows, ended) = record {
  filled = shows.filled;
  root = shows.root;
  runnable = subst (λ z. is_runnable z ≡ true) (sym shows.tree)
      (runs (text_of tokens names start) t (numbers_in names start units tokens are) ended);
  functions = shows.functions;
}
runnable names start units tokens script are (Unexpected j, shows, ended) = absurd shows
runnable names start units tokens script are (TooDeep j, shows, ended) = absurd shows

pub whole : (names : Names) (start : Start) (units : List ℕ) (tokens : Tokens) (e : Ending) (script : Arena) → e ≡ ending.Accepted script → Read names start units tokens e → IsRunnableText script
whole names start units tokens e script is r =
    runnable names start units tokens script r.are
    (subst (λ z. (o : Outcome) × Shows z o × Ends (text_of tokens names start) (beginning start) [] 0 o) is r.ended)

pub unexpected : (names : Names) (start : Start) (units : List ℕ) (tokens : Tokens) (e : Ending) (i unit : ℕ) → e ≡ ending.Unexpected i → unit ≡ place (text_of tokens names start) i → Read names start units tokens e → IsVerdict names start units (UnexpectedAt unit)
unexpected names start units tokens e i unit is at r = by (subst (λ z. (o : Outcome) × Shows z o × Answer (text_of tokens names start) o) is r.answer) where
  by : (o : Outcome) × Shows (ending.Unexpected i) o × Answer (text_of tokens names start) o → IsVerdict names start units (UnexpectedAt unit)
  by (Accepted t, shows, answer) = absurd shows
  by (Unexpected j, shows, answer) = inr (record { tokens = tokens; outcome = Unexpected j; are = r.are; units_end = r.units_end; answer = answer; is = ap UnexpectedAt (at ∙ ap (place (text_of tokens names start)) shows) })
  by (TooDeep j, shows, answer) = absurd shows

pub too_deep : (names : Names) (start : Start) (units : List ℕ) (tokens : Tokens) (e : Ending) (i unit : ℕ) → e ≡ ending.TooDeep i → unit ≡ place (text_of tokens names start) i → Read names start units tokens e → IsVerdict names start units (TooDeepAt unit)
too_deep names start units tokens e i unit is at r = by (subst (λ z. (o : Outcome) × Shows z o × Answer (text_of tokens names start) o) is r.answer) where
  by : (o : Outcome) × Shows (ending.TooDeep i) o × Answer (text_of tokens names start) o → IsVerdict names start units (TooDeepAt unit)
  by (Accepted t, shows, answer) = absurd shows
  by (Unexpected j, shows, answer) = absurd shows
  by (TooDeep j, shows, answer) = inr (record { tokens = tokens; outcome = TooDeep j; are = r.are; units_end = r.units_end; answer = answer; is = ap TooDeepAt (at ∙ ap (place (text_of tokens names start)) shows) })

pub no_token : (names : Names) (start : Start) (units : List ℕ) (f : LexFault) → Refuses f units → IsRefused names start units (fault_of f)
no_token names start units (lex.NoToken i) h = inl (i, h, refl)
no_token names start units lex.NoMemory h = tt

-- the first unit of a token
pub unit_at : (names : Names) (start : Start) (tokens : Tokens) (i : ℕ) (d : Token) → i < length tokens.items → (get_or tokens.items i d).from ≡ place (text_of tokens names start) i
unit_at names start tokens i d l = sym (ap (λ z. (seen_at names (end_before tokens.items i) tokens.end z).from) (drop_more tokens.items i d l))

pub unit_behind : (names : Names) (start : Start) (tokens : Tokens) (i : ℕ) → length tokens.items ≤ i → tokens.end ≡ place (text_of tokens names start) i
unit_behind names start tokens i l = sym (ap (λ z. (seen_at names (end_before tokens.items i) tokens.end z).from) (drop_all i tokens.items l))
