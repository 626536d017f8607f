use Rattle.std.proofs.Common.{◌≡◌, ℕ, ◌<◌, false, List, [], ◌∷◌, length, drop, drop-cons, sym, ◌∙◌, refl, arith}
use Rattle.js_tokens.specs.Units.{opens}
use Rattle.js_tokens.proofs.units.opens.Goals as goal

-- nothing opens with a byte
empty : (text bytes : List ℕ) (i : ℕ) → length text ≡ 0 → i < length bytes → opens text (drop i bytes) ≡ false
empty [] bytes i none inside = rw (drop-cons bytes i 0) refl
empty (c ∷ text) bytes i none inside = absurd (omega arith)

pub returns-in_default-clause-is : goal.returns-in_default-clause-is
returns-in_default-clause-is c = sym (c.loop-byte.invariant.same ∙ empty _ _ _ c.in_default.ensures.cases c.loop-byte-test.true)
