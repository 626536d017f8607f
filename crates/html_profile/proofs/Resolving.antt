-- References, one after another.
use Rattle.std.proofs.Common.{◌≡◌, ℕ, zero, suc, ◌-◌, ◌<◌, List, [], ◌∷◌, ◌++◌, length, take, drop, Some, refl, sym, ap, ◌∙◌, append_assoc, arith}
use Rattle.std.proofs.lemmas.List.{take_rest}
use Rattle.std.specs.Char.{encode_utf8}
use Rattle.html_profile.specs.Plain.{reference, written, taken, resolved}

pub skipped : (n : ℕ) (text : List ℕ) → resolved n text ≡ resolved 0 (drop n text)
skipped zero text = refl
skipped (suc n) [] = refl
skipped (suc n) (c ∷ rest) = skipped n rest

found : (text : List ℕ) (ch len : ℕ) → reference text ≡ Some (ch, len) → 0 < len → resolved 0 text ≡ encode_utf8 ch ++ resolved 0 (drop len text)
found [] ch len is some = cc
found (c ∷ rest) ch zero is some = absurd (omega arith)
found (c ∷ rest) ch (suc m) is some =
    let less : suc m - 1 ≡ m = omega arith in
    ap (λ f. written c f ++ resolved (taken f) rest) is ∙ ap (λ k. encode_utf8 ch ++ resolved k rest) less ∙ ap (λ l. encode_utf8 ch ++ l) (skipped m rest)

-- one more reference
pub resolved_step : (bytes out text : List ℕ) (ch len : ℕ) → resolved 0 bytes ≡ out ++ resolved 0 text → reference text ≡ Some (ch, len) → 0 < len
    → resolved 0 bytes ≡ (out ++ encode_utf8 ch) ++ resolved 0 (take (length text - len) (drop len text))
resolved_step bytes out text ch len so_far is some =
    so_far ∙ ap (λ l. out ++ l) (found text ch len is some) ∙ sym (append_assoc out (encode_utf8 ch) (resolved 0 (drop len text))) ∙ ap (λ l. (out ++ encode_utf8 ch) ++ resolved 0 l) (sym (take_rest text len))
