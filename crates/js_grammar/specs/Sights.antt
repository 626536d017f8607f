-- What is seen at a place of a text, and where a semicolon may be inserted (ECMA-262 edition 5.1, 7.9.1).
use Rattle.std.specs.Prelude.{ℕ, zero, suc, ℤ, pos, ◌+◌, Bool, true, false, ◌||◌, ◌&&◌, List, [], ◌∷◌, drop, codes, Option, Some, None, if◌then◌else◌}
use Rattle.mug_text.specs.Number.{spelling}
use Rattle.js_tokens.specs.Units.{opens}
use Rattle.js_tokens.specs.declared.word.Word.{Word as Word_of_text}
use Rattle.js_tokens.specs.declared.word.Word.TheVariants as word
use Rattle.js_tokens.specs.declared.token.TokenKind.{TokenKind}
use Rattle.js_tokens.specs.declared.token.TokenKind.TheVariants as kind
use Rattle.js_tokens.specs.declared.token.Token.{Token}
use Rattle.js_tokens.specs.declared.token.Tokens.{Tokens}
use Rattle.js_grammar.specs.declared.sight.Names.{Names}
use Rattle.js_grammar.specs.declared.sight.Names.TheVariants.{Page}
use Rattle.js_grammar.specs.declared.sight.Seen.{Seen}
use Rattle.js_grammar.specs.declared.sight.Seen.TheVariants.{Word, Forbidden, End}
use Rattle.js_grammar.specs.declared.sight.Sight.{Sight}

abbrev pub text_of : TokenKind → List ℕ
text_of (kind.Name t) = t
text_of (kind.Reserved t) = t
text_of (kind.Punctuator t) = t
text_of (kind.Number z) = spelling z
text_of (kind.Text t) = t

abbrev pub number_of : TokenKind → ℤ
number_of (kind.Number z) = z
number_of _ = pos 0

-- a page's names don't begin with `$mug`
abbrev pub is_forbidden : Names → TokenKind → Bool
is_forbidden Page (kind.Name t) = opens t (codes "$mug")
is_forbidden _ _ = false

abbrev pub seen_of : Names → Token → Seen
seen_of names t = if is_forbidden names t.kind then Forbidden else Word t.word

-- the tokens begin with this word
abbrev pub first : List Token → Option Word_of_text
first [] = None
first (t ∷ _) = Some t.word

abbrev pub is_colon : Option Word_of_text → Bool
is_colon (Some word.Colon) = true
is_colon _ = false

abbrev pub is_in : Option Word_of_text → Bool
is_in (Some word.In) = true
is_in _ = false

abbrev pub is_open : Word_of_text → Bool
is_open word.OpenParen = true
is_open _ = false

abbrev pub is_close : Word_of_text → Bool
is_close word.CloseParen = true
is_close _ = false

abbrev pub is_name : Word_of_text → Bool
is_name word.Name = true
is_name _ = false

-- so many closing parentheses, and then `in`
abbrev pub closes_target : ℕ → List Token → Bool
closes_target zero ts = is_in (first ts)
closes_target (suc n) [] = false
closes_target (suc n) (t ∷ ts) = is_close t.word && closes_target n ts

-- behind so many opening parentheses: a name, or more of them, and then what closes them, and `in`
abbrev pub opens_target : ℕ → List Token → Bool
opens_target n [] = false
opens_target n (t ∷ ts) = if is_name t.word then closes_target n ts else (is_open t.word && opens_target (n + 1) ts)

-- where the token before the place ends
abbrev pub end_before : List Token → ℕ → ℕ
end_before ts zero = 0
end_before [] (suc i) = 0
end_before (t ∷ ts) (suc zero) = t.to
end_before (t ∷ ts) (suc (suc i)) = end_before ts (suc i)

-- what is seen where these tokens are left, in a text of so many units
abbrev pub seen_at : Names → ℕ → ℕ → List Token → Sight
seen_at names before units [] = record { seen = End; text = []; number = pos 0; line_before = false; colon = false; target = false; before = before; from = units }
seen_at names before units (t ∷ ts) = record { seen = seen_of names t; text = text_of t.kind; number = number_of t.kind; line_before = t.line_before; colon = is_colon (first ts); target = opens_target 0 (t ∷ ts); before = before; from = t.from }

-- what is seen at the token of this number; behind the last one it is the end
abbrev pub sight : Names → Tokens → ℕ → Sight
sight names tokens i = seen_at names (end_before tokens.items i) tokens.end (drop i tokens.items)

abbrev pub may_follow : Seen → Bool
may_follow (Word word.CloseBrace) = true
may_follow End = true
may_follow _ = false

-- A semicolon may be inserted here: behind a line terminator, before `}`, and at the end.
abbrev pub may_insert : Sight → Bool
may_insert u = u.line_before || may_follow u.seen
