-- The numbers of a text's tokens are in the profile.
use Rattle.std.proofs.Common.{◌≡◌, ℕ, zero, suc, true, List, [], ◌∷◌, drop, take, refl, sym, subst}
use Rattle.std.proofs.lemmas.Bool.Decides.{Decides-ltb}
use Rattle.mug_text.specs.declared.limits.TheConstants.{SAFE_END}
use Rattle.js_tokens.specs.declared.token.Token.{Token}
use Rattle.js_tokens.specs.declared.token.TokenKind.{TokenKind}
use Rattle.js_tokens.specs.declared.token.TokenKind.TheVariants as kind
use Rattle.js_tokens.specs.declared.token.Tokens.{Tokens}
use Rattle.js_tokens.specs.declared.word.Word.{Word}
use Rattle.js_tokens.specs.Numbers.{numeral_value}
use Rattle.js_tokens.specs.Tokens.{Spells, TokensFrom}
use Rattle.js_tokens.specs.Tokens as tokens_from
use Rattle.js_tree.specs.Runs.{is_in_profile}
use Rattle.js_grammar.specs.declared.sight.Names.{Names}
use Rattle.js_grammar.specs.declared.symbol.Start.{Start}
use Rattle.js_grammar.specs.Sights.{seen_at, number_of, end_before}
use Rattle.js_expr.specs.Reading.{text_of}
use Rattle.js_parser.proofs.Running.{HasNumbers}

of_kind : (k : TokenKind) (v : Word) (us : List ℕ) (n : ℕ) → Spells k v us n → is_in_profile (number_of k) ≡ true
of_kind (kind.Number z) v us n (numeral, below, on, word, is) =
    subst (λ y. is_in_profile y ≡ true) (sym is) ((Decides-ltb (numeral_value (take n us)) SAFE_END).1 below)
of_kind _ v us n h = refl

all_in : (names : Names) (before end : ℕ) (units : List ℕ) (i : ℕ) (ts : List Token) → TokensFrom units i ts →
    (k : ℕ) → is_in_profile (seen_at names before end (drop k ts)).number ≡ true
all_in names before end units i [] h zero = refl
all_in names before end units i [] h (suc k) = refl
all_in names before end units i (t ∷ ts) (tokens_from.next is h) zero = of_kind t.kind t.word _ _ is.4.0.1
all_in names before end units i (t ∷ ts) (tokens_from.next is h) (suc k) = all_in names before end units t.to ts h k

pub numbers_in : (names : Names) (start : Start) (units : List ℕ) (tokens : Tokens) → TokensFrom units 0 tokens.items → HasNumbers (text_of tokens names start)
numbers_in names start units tokens h i = all_in names (end_before tokens.items i) tokens.end units 0 tokens.items h i
