-- What is written stands for bytes, piece by piece.
use Rattle.std.proofs.Common.{◌≡◌, ℕ, List, [], ◌∷◌, ◌++◌, drop, length, refl, sym, subst, append-nil}
use Rattle.written_text.specs.Escapes.{Spells, behind_backslash, escape, nothing}

pub escape-then : (b : ℕ) (written : List ℕ) (r : ℕ × ℕ) → b ≡ 0x5C → r ≡ escape written → (bytes : List ℕ) → Spells (drop r.1 written) bytes → Spells (b ∷ written) (r.0 ∷ bytes)
escape-then b written r e f bytes s =
    let P : ℕ → Type 0 = λ x. Spells (x ∷ written) (r.0 ∷ bytes) in
    let Q : ℕ × ℕ → Type 0 = λ q. Spells (drop q.1 written) bytes → Spells (0x5C ∷ written) (q.0 ∷ bytes) in
    subst P (sym e) (subst Q (sym f) (λ t. behind_backslash t) s)

no_more : (xs : List ℕ) → length xs ≡ 0 → xs ≡ []
no_more [] e = refl
no_more (x ∷ xs) e = cc

pub all-read : (written rest bytes : List ℕ) → ((more : List ℕ) → Spells rest more → Spells written (bytes ++ more)) → length rest ≡ 0 → Spells written bytes
all-read written rest bytes read e =
    let P : List ℕ → Type 0 = λ r. Spells r [] in
    subst (Spells written) (append-nil bytes) (read [] (subst P (sym (no_more rest e)) nothing))
