-- Texts without arenas change no text's arena.
use Rattle.std.proofs.Common.{◌≡◌, ℕ, zero, suc, ◌+◌, [], ◌∷◌, ◌++◌, Some}
use Rattle.std.proofs.Common.{None, replicate, refl, ap, sym, ◌∙◌, append_assoc}
use Rattle.std.proofs.lemmas.List.{append-nil, replicate_more}
use Rattle.js_tree.specs.Arena.{Arena}
use Rattle.js_frames.specs.Arenas.{Arenas, arena_of}

pub arena-none : (ts : Arenas) (x : ℕ) → arena_of (ts ++ None ∷ []) x ≡ arena_of ts x
arena-none [] zero = refl
arena-none [] (suc x) = refl
arena-none (t ∷ ts) zero = refl
arena-none (t ∷ ts) (suc x) = arena-none ts x

-- with one more text, what each has
pub all-with : (P : Arena → Type 0) (ts : Arenas) (a : Arena) → ((x : ℕ) → P (arena_of ts x))
    → P a → (x : ℕ) → P (arena_of (ts ++ Some a ∷ []) x)
all-with P [] a o is zero = is
all-with P [] a o is (suc x) = o zero
all-with P (t ∷ ts) a o is zero = o zero
all-with P (t ∷ ts) a o is (suc x) = all-with P ts a (λ y. o (suc y)) is x

pub skipped-none : (ts : Arenas) (n : ℕ) → n ≡ 0 → ts ≡ ts ++ replicate n None
skipped-none ts n e = sym (ap (λ k. ts ++ replicate k None) e ∙ append-nil ts)

pub skipped-more : (ts us : Arenas) (n m : ℕ) → m ≡ n + 1 → us ≡ ts ++ replicate n None
    → us ++ None ∷ [] ≡ ts ++ replicate m None
skipped-more ts us n m k e =
    ap (λ xs. xs ++ None ∷ []) e
    ∙ (append_assoc ts (replicate n None) (None ∷ []) ∙ ap (λ xs. ts ++ xs)
    (replicate_more n None ∙ ap (λ j. replicate j None) (sym k)))
