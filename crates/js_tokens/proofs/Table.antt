-- The table of words: what each row says of the others. A case of its own at the front makes the checker compute the rest word by word.
use Rattle.std.proofs.Common.{◌≡◌, ◌≢◌, ℕ, ◌<◌, Bool, true, false, ◌&&◌, List, [], ◌∷◌, ◌++◌, length, refl, sym, ◌∙◌, ap, subst, arith, if◌then◌else◌}
use Rattle.std.specs.Prelude.{not}
use Rattle.std.specs.List.{list_all}
use Rattle.mug_text.specs.Characters.{is_digit}
use Rattle.js_tokens.specs.Units.{is_start, is_quote, begins}
use Rattle.js_tokens.specs.Words.{spelling, is_word}
use Rattle.js_tokens.specs.Tokens.{is_name}
use Rattle.js_tokens.specs.declared.word.TheConstants.{RESERVED, PUNCTUATORS}
use Rattle.js_tokens.specs.declared.word.Word.{Word}
use Rattle.js_tokens.specs.declared.word.Word.TheVariants.{Name, Number, Text}
use Rattle.js_tokens.proofs.Runs.{and_both}

-- a word that is a name is among the reserved ones
reserved_row : (v : Word) → (is_name (spelling v) && list_all (λ w. not (is_word (spelling v) (spelling w))) RESERVED) ≡ false
reserved_row Name = refl
reserved_row v = refl

false_true : (b : Bool) → b ≡ false → b ≡ true → ⊥
false_true b h g = cc (sym h ∙ g)

pub no_reserved : (us : List ℕ) → is_name us ≡ true → list_all (λ w. not (is_word us (spelling w))) RESERVED ≡ true → (v : Word) → us ≢ spelling v
no_reserved us a h v e =
    false_true _ (reserved_row v) (and_both _ _ (ap is_name (sym e) ∙ a) (ap (λ z. list_all (λ w. not (is_word z (spelling w))) RESERVED) (sym e) ∙ h))

-- a punctuator begins with no letter, digit or quote
pub name_row : (v : Word) → is_name (spelling v) ≡ begins is_start (spelling v)
name_row Name = refl
name_row v = refl

pub digit_row : (v : Word) → begins is_digit (spelling v) ≡ false
digit_row Name = refl
digit_row v = refl

pub quote_row : (v : Word) → begins is_quote (spelling v) ≡ false
quote_row Name = refl
quote_row v = refl

-- the first word with this text
abbrev word_of : List ℕ → List Word → Word
word_of us [] = Name
word_of us (w ∷ ws) = if is_word us (spelling w) then w else word_of us ws

-- a word with a text is the first with it
word_row : (v : Word) → 0 < length (spelling v) → word_of (spelling v) (RESERVED ++ PUNCTUATORS) ≡ v
word_row Name h = absurd (omega (arith, h))
word_row Number h = absurd (omega (arith, h))
word_row Text h = absurd (omega (arith, h))
word_row v h = refl

-- a text is of one word
pub spelling_one : (us : List ℕ) (v w : Word) → 0 < length us → us ≡ spelling v → us ≡ spelling w → v ≡ w
spelling_one us v w h e f =
    sym (word_row v (subst (λ z. 0 < length z) e h)) ∙ ap (λ z. word_of z (RESERVED ++ PUNCTUATORS)) (sym e ∙ f) ∙ word_row w (subst (λ z. 0 < length z) f h)
